use Rattle.std.proofs.Common.{◌≡◌, get_or, arith, sym, refl, subst, ◌∙◌}
use Rattle.std.proofs.lemmas.List.Elements.{All-push}
use Rattle.node_codec.specs.Snod.{IsCache, entries_of}
use Rattle.node_codec.proofs.SnodLemmas.{entries_of-more, entries_of-at, length-entries_of}
use Rattle.node_codec.proofs.snod.read_entries.Goals as goal

pub returns-then-entry-gt2-clause-only : goal.returns-then-entry-gt2-clause-only
returns-then-entry-gt2-clause-only c = λ _ all.
    let b = c.args.bytes.now in
    let i = c.loop-i.i in
    let entry = c.read_entry-entry.result in
    let is : get_or (entries_of b c.args.count) i entry ≡ entry =
    entries_of-at b c.args.count i entry c.loop-i-test.true ∙ sym c.read_entry-entry.ensures in
    let small : IsCache entry = subst IsCache is (all i entry (omega (arith, length-entries_of b c.args.count))) in
    omega arith

pub loop-i-preserved : goal.loop-i-preserved
loop-i-preserved c =
    let more = entries_of-more c.args.bytes.now c.loop-i.i in
    record {
      read = rw (c.in-Ok.ensures.items, c.loop-i.invariant.read, c.read_entry-entry.ensures, more) refl;
      caches = rw c.in-Ok.ensures.items (All-push IsCache c.loop-i.entries.items c.read_entry-entry.result c.loop-i.invariant.caches c.if-entry-gt2.false);
    }
