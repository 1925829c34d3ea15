-- What the plan of a draft takes: the new segment, and the new nodes.
use Rattle.std.proofs.Common.{◌≡◌, ℕ, zero, suc, ◌%◌, ◌<◌, List, [], ◌∷◌, ◌++◌, length, replicate, sym, ◌∙◌, ap, subst}
use Rattle.std.specs.List.{AllByRecursion}
use Rattle.std.proofs.lemmas.List.{append-nil, map-append}
use Rattle.outside.specs.Blocks.{Block}
use Rattle.block_space.specs.declared.plan.EditPlan.{EditPlan}
use Rattle.block_space.specs.declared.plan.Take.{Take}
use Rattle.file_model.specs.Groups.{Ks}
use Rattle.plan_pieces.specs.declared.image.Image.{Image}
use Rattle.plan_pieces.specs.declared.image.NewBlock.{NewBlock}
use Rattle.plan_pieces.specs.Images.{image_block, image_blocks, images_of, take_of, takes_of}
use Rattle.plan_pieces.specs.Plan.{IsWhole}
use Rattle.group_room.specs.Room.{leaf_take, node_take}
use Rattle.group_layout.specs.Laying.{new_blocks, new_takes}
use Rattle.group_layout.specs.declared.row.IndexRows.{IndexRows}
use Rattle.group_edit.specs.declared.draft.Draft.{Draft}
use Rattle.group_edit.specs.Drafts.{IsPlanFor, segment_fills}
use Rattle.group_edit.proofs.PlacedTakes.{leaf_eights, leaf_some, new_taken, news_of, node_eights, node_some}

module _ (ks : Ks) (old : List Image) (draft : Draft) (plan : EditPlan) (pl : IsPlanFor ks old draft plan) where
  pub all_taken : plan.takes ≡ takes_of (segment_fills draft.heap) ++ new_takes ks draft.index
  all_taken = pl.plan_is.takes ∙ map-append take_of (segment_fills draft.heap) pl.fills
      ∙ ap (λ (ts : List Take). takes_of (segment_fills draft.heap) ++ ts) pl.takes

  pub all_filled : image_blocks (images_of (segment_fills draft.heap ++ pl.fills))
      ≡ image_blocks (images_of (segment_fills draft.heap)) ++ new_blocks ks draft.index
  all_filled = ap image_blocks (map-append (λ (n : NewBlock). n.image) (segment_fills draft.heap) pl.fills)
      ∙ map-append image_block (images_of (segment_fills draft.heap)) (images_of pl.fills)
      ∙ ap (λ (bs : List Block). image_blocks (images_of (segment_fills draft.heap)) ++ bs) pl.new_are

-- ---- whole blocks

-- it takes bytes, and their number is a multiple of 8
record IsEven (t : Take) : Type 0 where
  some : 0 < t.len
  eights : t.len % 8 ≡ 0

even_all : (n : ℕ) (t : Take) (ts : List Take) → IsEven t → AllByRecursion IsEven ts
    → AllByRecursion IsEven (replicate n t ++ ts)
even_all zero t ts one more = more
even_all (suc n) t ts one more = (one, even_all n t ts one more)

even_whole : (fills : List NewBlock) → AllByRecursion IsEven (takes_of fills) → AllByRecursion IsWhole fills
even_whole [] all = tt
even_whole (n ∷ ns) all = (record { some = all.0.some; eights = all.0.eights }, even_whole ns all.1)

pub index_whole : (ks : Ks) (index : IndexRows) (fills : List NewBlock) → takes_of fills ≡ new_takes ks index
    → AllByRecursion IsWhole fills
index_whole ks index fills are =
    let leaf : IsEven (leaf_take ks) = record { some = leaf_some ks.leaf; eights = leaf_eights ks.leaf } in
    let node : IsEven (node_take ks) = record { some = node_some ks.internal; eights = node_eights ks.internal } in
    let nodes : AllByRecursion IsEven (replicate (length (news_of index.rows)) (node_take ks)) =
    subst (AllByRecursion IsEven) (append-nil _) (even_all (length (news_of index.rows)) (node_take ks) [] node tt) in
    let all = even_all (length index.leaves.new) (leaf_take ks) _ leaf nodes in
    even_whole fills (subst (AllByRecursion IsEven) (sym (are ∙ new_taken ks index)) all)
