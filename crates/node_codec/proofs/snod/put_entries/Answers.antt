use Rattle.std.proofs.Common.{◌≡◌, ◌+◌, ◌*◌, ◌<◌, length, take, arith, length-take}
use Rattle.std.specs.List.{flat_map}
use Rattle.std.proofs.lemmas.List.Elements.{All-more}
use Rattle.h5_base.proofs.FieldLemmas.{puts_more}
use Rattle.node_codec.specs.declared.snod.SnodEntry.{SnodEntry}
use Rattle.node_codec.specs.Snod.{EntryInRange, entry_bytes}
use Rattle.node_codec.proofs.SnodLemmas.{length-entries, entries-take}
use Rattle.node_codec.proofs.snod.put_entries.Goals as goal

pub loop-i-preserved : goal.loop-i-preserved
loop-i-preserved c =
    let es = c.args.entries.now in
    let i = c.loop-i.i in
    let lt : i < length es = c.loop-i-test.true in
    let d : SnodEntry = record { name_at = 0; header_at = 0; cache = 0; tree_at = 0; heap_at = 0 } in
    let e : c.args.at + 40 * i ≡ c.args.at + length (flat_map entry_bytes (take i es)) = omega (arith, length-entries (take i es), length-take i es) in
    record {
      put = rw (entries-take es i d lt) (puts_more _ _ _ _ _ _ _ e c.loop-i.invariant.put c.put_entry.ensures.put);
      range = All-more EntryInRange es i d lt c.loop-i.invariant.range c.put_entry.ensures.range;
    }
