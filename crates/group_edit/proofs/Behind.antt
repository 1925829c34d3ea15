-- What is ahead of the nodes, behind a new segment.
use Rattle.std.proofs.Common.{◌≡◌, inl, inr, ℕ, ◌^◌, ◌<◌, None, Some, Option, ap, subst, sym, arith}
use Rattle.h5_base.specs.declared.extent.MemClass.TheVariants as class
use Rattle.block_space.specs.Plans.{all_needed, needed, number_of}
use Rattle.block_space.specs.declared.plan.Needs.{Needs}
use Rattle.object_model.specs.Tree.{Name}
use Rattle.plan_pieces.specs.declared.image.NewBlock.{NewBlock}
use Rattle.group_edit.specs.Inserting.{IsBehind}
use Rattle.group_edit.proofs.PlacedSegment.{IsFor}

pub tree_behind : (at used len : ℕ) (name : Name) (ahead behind : Needs) (segment : Option NewBlock)
    → IsFor at used len name segment → IsBehind ahead segment behind → all_needed ahead < 2 ^ 63
    → needed behind class.Tree < 2 ^ 63
tree_behind at used len name ahead behind None is same small =
    subst (λ (n : Needs). needed n class.Tree < 2 ^ 63) (sym same) (omega (arith, small))
tree_behind at used len name ahead behind (Some n) (inl (fits, none)) one small = absurd cc
tree_behind at used len name ahead behind (Some n) (inr (lt, is)) one small =
    let class_is : number_of n.class ≡ 4 = ap number_of is.class_is in
    let same = one.others class.Tree (λ e. omega (arith, e, class_is)) in
    omega (arith, same, small)
