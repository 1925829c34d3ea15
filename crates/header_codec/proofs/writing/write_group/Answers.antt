use Rattle.std.proofs.Common.{◌<◌, ◌^◌, ℕ, refl, sym, arith}
use Rattle.std.proofs.lemmas.Nat.{from_le_bytes-to_le_bytes_8}
use Rattle.std.proofs.lemmas.Result.{IfOk-weaker}
use Rattle.h5_base.specs.Fields.{u64_at}
use Rattle.header_codec.specs.declared.types.NewHeader.TheVariants.{Group}
use Rattle.header_codec.specs.Written.{SpellsTable, SpellsHeader, parts_of, header_bytes, filled, table_bytes}
use Rattle.header_codec.proofs.MessageLaws.{AreFit, part_fits, header_spelled}
use Rattle.header_codec.proofs.writing.write_group.Goals as goal

table_spelled : (tree heap : ℕ) → tree < 2 ^ 64 → heap < 2 ^ 64 → SpellsTable tree heap (filled (table_bytes tree heap))
unfolding u64_at
table_spelled tree heap t h = record {
  whole = omega arith;
  tree_at = sym (from_le_bytes-to_le_bytes_8 tree t);
  heap_at = sym (from_le_bytes-to_le_bytes_8 heap h);
}

group_spelled : (tree heap : ℕ) → tree < 2 ^ 64 → heap < 2 ^ 64 → SpellsHeader (Group tree heap) (parts_of (Group tree heap)) (header_bytes (Group tree heap))
group_spelled tree heap t h =
    let fit : AreFit (parts_of (Group tree heap)) = (part_fits 0x11 (table_bytes tree heap) (omega arith) (omega arith), tt) in
    header_spelled (Group tree heap) (parts_of (Group tree heap)) fit (omega arith) (omega arith) (refl, table_spelled tree heap t h)

pub returns-clause-spelled : goal.returns-clause-spelled
returns-clause-spelled c =
    let t : c.args.tree_at < 2 ^ 64 = omega arith in
    let h : c.args.heap_at < 2 ^ 64 = omega arith in
    let spelled = group_spelled c.args.tree_at c.args.heap_at t h in
    IfOk-weaker c.write_table.result _ _ (λ b e. rw e spelled) c.write_table.ensures
