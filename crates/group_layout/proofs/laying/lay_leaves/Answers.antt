use Rattle.std.proofs.Common.{ℕ, ◌*◌, List, length, arith, subst, ap, map, ◌∙◌}
use Rattle.h5_base.specs.declared.kinds.BlockKind.TheVariants as kind
use Rattle.node_codec.specs.Snod.{snod_len}
use Rattle.file_model.specs.Groups.{leaf_block}
use Rattle.group_layout.specs.Leaves.{AreLeavesSpelled}
use Rattle.group_layout.specs.Placing.{IsPlaced}
use Rattle.group_layout.proofs.PlaceLemmas.{placed_adds, placed_stand}
use Rattle.group_layout.proofs.Parts.{count_leaf_keys}
use Rattle.group_layout.proofs.laying.lay_leaves.Goals as goal

pub invariant_of-result : goal.invariant_of-result
invariant_of-result c = record {
  one_more =
      ap length c.in_ok-keys.ensures
      ∙ count_leaf_keys (2 * c.args.ks.leaf) c.args.base c.as_slice-2.result.now c.args.entries.now
      ∙ omega arith;
}

pub returns-clause-adds : goal.returns-clause-adds
returns-clause-adds c =
    let row = c.args.row.now in
    let images = c.in_ok-images.images.items in
    let placed = subst (λ (n : ℕ). IsPlaced kind.Snod n images c.args.laid.now c.place.new.laid) c.len.ensures
    c.in_ok-place.ensures in
    let blocks = c.in_ok-images.ensures.blocks
    ∙ ap (map (leaf_block c.args.ks)) (c.as_slice.ensures.value ∙ c.in_ok-ats.ensures) in
    placed_adds kind.Snod (snod_len c.args.ks.leaf) row images c.args.laid.now c.place.new.laid blocks placed

pub returns-clause-spelled : goal.returns-clause-spelled
returns-clause-spelled c = λ b h.
    let images = c.in_ok-images.images.items in
    let here = placed_stand b kind.Snod c.len.result images c.args.laid.now c.place.new.laid c.in_ok-place.ensures h in
    subst (λ (l : List ℕ). AreLeavesSpelled b c.args.ks l c.args.entries.now)
    (c.as_slice.ensures.value ∙ c.in_ok-ats.ensures) (c.in_ok-images.ensures.spelled b here)
