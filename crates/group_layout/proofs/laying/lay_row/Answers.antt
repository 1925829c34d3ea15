use Rattle.std.proofs.Common.{◌≡◌, ℕ, ◌+◌, ◌*◌, List, length, arith, subst, ap, map, ◌∙◌}
use Rattle.h5_base.specs.Fields.{undefined}
use Rattle.h5_base.specs.declared.kinds.BlockKind.TheVariants as kind
use Rattle.node_codec.specs.GroupNodes.{group_node_len}
use Rattle.file_model.specs.Groups.{node_block}
use Rattle.group_layout.specs.Nodes.{nodes_above, AreNodesSpelled}
use Rattle.group_layout.specs.Placing.{IsPlaced}
use Rattle.group_layout.proofs.PlaceLemmas.{placed_adds, placed_stand}
use Rattle.group_layout.proofs.Parts.{count_keys_above}
use Rattle.group_layout.proofs.laying.lay_row.Goals as goal

pub invariant_of-result : goal.invariant_of-result
invariant_of-result c =
    let below = c.args.below.now in
    let keys = c.as_slice-3.result.now in
    let under = c.as_slice-4.result.now in
    let more : length keys ≡ length under + 1 =
    omega (arith, ap length c.as_slice-3.ensures.value, ap length c.as_slice-4.ensures.value, below.one_more) in
    let count = count_keys_above (2 * c.args.ks.internal) c.as_slice-2.result.now keys under more in
    record {
      one_more = ap length c.in_ok-keys.ensures ∙ count ∙ ap (λ (l : List ℕ). length l + 1) c.as_slice-2.ensures.value;
    }

pub returns-clause-adds : goal.returns-clause-adds
returns-clause-adds c =
    let row = c.args.row.now in
    let images = c.in_ok-images.images.items in
    let placed = subst (λ (n : ℕ). IsPlaced kind.Tree n images c.args.laid.now c.place.new.laid) c.len.ensures
    c.in_ok-place.ensures in
    let blocks = c.in_ok-images.ensures.blocks
    ∙ ap (map (node_block c.args.ks)) (c.as_slice.ensures.value ∙ c.in_ok-ats.ensures) in
    placed_adds kind.Tree (group_node_len c.args.ks.internal) row images c.args.laid.now c.place.new.laid blocks placed

pub returns-clause-spelled : goal.returns-clause-spelled
returns-clause-spelled c = λ b h.
    let below = c.args.below.now in
    let room : ℕ = 2 * c.args.ks.internal in
    let images = c.in_ok-images.images.items in
    let here = placed_stand b kind.Tree c.len.result images c.args.laid.now c.place.new.laid c.in_ok-place.ensures h in
    subst (λ (l : List ℕ). AreNodesSpelled b c.args.ks l
    (nodes_above c.args.level room undefined l below.keys.items below.ats.items))
    (c.as_slice.ensures.value ∙ c.in_ok-ats.ensures) (c.in_ok-images.ensures.spelled b here)
