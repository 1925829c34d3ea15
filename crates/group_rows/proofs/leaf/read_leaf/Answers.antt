use Rattle.std.proofs.Common.{List, Err, ◌∙◌, ap, sym, subst, arith}
use Rattle.std.specs.List.{flat_map}
use Rattle.outside.specs.Array.{bytes_of}
use Rattle.node_codec.specs.Snod.{SpellsSnod}
use Rattle.node_codec.specs.declared.snod.SnodEntry.{SnodEntry}
use Rattle.block_space.specs.Blocks.{array_of}
use Rattle.file_model.specs.Groups.{entry_offsets}
use Rattle.group_rows.specs.Rows.{entries_at}
use Rattle.group_heap.specs.Greatest.{IsGreatest}
use Rattle.group_rows.proofs.NodeLemmas.{entries_are, adds_leaf}
use Rattle.group_rows.proofs.leaf.read_leaf.Goals as goal

pub returns-in-Ok-clause-found : goal.returns-in-Ok-clause-found
returns-in-Ok-clause-found g c = λ told.
    let b = array_of g.V.Space.view c.args.blocks.now in
    entries_are b c.args.k c.args.at c.in-Ok.entries.items c.deref.result.now
    (c.deref.ensures.value ∙ c.in_ok-bytes.ensures.bytes told ∙ ap (bytes_of b c.args.at) c.snod_size.ensures)
    c.in-Ok.ensures.found

pub returns-in-Ok-clause-adds : goal.returns-in-Ok-clause-adds
returns-in-Ok-clause-adds g c = λ told.
    let b = array_of g.V.Space.view c.args.blocks.now in
    let read = c.in_ok-bytes.ensures.bytes told ∙ ap (bytes_of b c.args.at) c.snod_size.ensures in
    adds_leaf b c.args.k c.args.at c.in-Ok.entries.items c.from_vec-bytes.result c.args.gathered.now _
    (entries_are b c.args.k c.args.at c.in-Ok.entries.items c.deref.result.now (c.deref.ensures.value ∙ read)
    c.in-Ok.ensures.found)
    (c.from_vec-bytes.ensures ∙ read) (record {
      images = c.in_ok-keep-in-Ok.ensures.kept;
      mine = c.greatest.result;
      greatest = subst (λ (l : List SnodEntry). IsGreatest (flat_map entry_offsets l) c.greatest.result)
          c.deref-in-Ok.ensures.value c.greatest.ensures;
      last = c.greater-gathered.ensures;
      left = omega arith;
    })

pub returns-clause-whole : goal.returns-clause-whole
returns-clause-whole g c = λ told there malformed.
    let b = array_of g.V.Space.view c.args.blocks.now in
    c.read_snod.ensures.only (c.in-Err-NotThis.is ∙ ap Err c.in-Err-NotThis.field-0-is)
    (entries_at b c.args.k c.args.at) (subst (SpellsSnod c.args.k (entries_at b c.args.k c.args.at))
    (sym (c.deref.ensures.value ∙ c.in_ok-bytes.ensures.bytes told ∙ ap (bytes_of b c.args.at) c.snod_size.ensures))
    there.spelled)
