-- The blocks of a group with one link more.
use Rattle.std.proofs.Common.{◌≡◌, ℕ, suc, ◌<◌, ◌==◌, false, List, [], ◌∷◌, ◌++◌, refl, sym, ◌∙◌, ap, subst}
use Rattle.std.proofs.Common.{subst₂, arith, None, Some, Option}
use Rattle.std.specs.List.Sorted.{IsPermutation}
use Rattle.std.proofs.lemmas.Bool.{ne_eqb}
use Rattle.std.proofs.lemmas.List.{append_assoc}
use Rattle.std.proofs.lemmas.List.Sorted.{IsPermutation-sym, IsPermutation-trans}
use Rattle.std.proofs.lemmas.List.Sorted.{IsPermutation-append_comm, IsPermutation-append_left}
use Rattle.std.proofs.lemmas.List.Sorted.{IsPermutation-append_right, IsPermutation-cons}
use Rattle.outside.specs.Array.{Array}
use Rattle.outside.specs.Blocks.{Block, placed}
use Rattle.file_model.specs.Index.{Bottom, Node}
use Rattle.file_model.specs.Groups.{Ks, GroupIndex, IsIndex, address_of, index_blocks}
use Rattle.plan_pieces.specs.Images.{image_blocks, images_of}
use Rattle.plan_pieces.specs.declared.image.NewBlock.{NewBlock}
use Rattle.group_room.specs.Index.{leaf_ats, level_of, rows_below}
use Rattle.group_facts.specs.Rows.{blocks_by_rows}
use Rattle.group_facts.proofs.RowBlocks.{rows_are_blocks}
use Rattle.group_heap.specs.Edits.{MovesTo}
use Rattle.group_edit.specs.Drafts.{new_fills}
use Rattle.group_edit.proofs.Relaid.{turned}

pub level_is : (b : Array) (ks : Ks) (s : List ℕ) (level : ℕ) (x : GroupIndex) → IsIndex b ks s (suc level) x
    → level_of x ≡ level
level_is b ks s level (Bottom l) h = absurd h
level_is b ks s level (Node n xs) h = h.0.level_is

-- the blocks of an index by what was read of it
pub read_blocks : (b : Array) (ks : Ks) (s : List ℕ) (level : ℕ) (x : GroupIndex) (leaves : List ℕ)
    (rows : List (List ℕ)) (tree : ℕ) → IsIndex b ks s (suc level) x → leaves ≡ leaf_ats x
    → rows ≡ rows_below x (level_of x) → address_of x ≡ tree
    → IsPermutation (blocks_by_rows ks leaves rows tree) (index_blocks ks x)
read_blocks b ks s level x leaves rows tree h leafs are root =
    let all = rows_are_blocks b ks s level x h in
    let same : blocks_by_rows ks (leaf_ats x) (rows_below x level) (address_of x)
    ≡ blocks_by_rows ks leaves rows tree =
    ap (λ (n : ℕ). blocks_by_rows ks (leaf_ats x) (rows_below x n) (address_of x)) (sym (level_is b ks s level x h))
    ∙ (λ i. blocks_by_rows ks (sym leafs i) (sym are i) (root i)) in
    IsPermutation-sym _ _ (subst (IsPermutation (index_blocks ks x)) same all)

-- the block of the new segment
pub segment_taken : (at len : ℕ) (n : Option NewBlock) → MovesTo at len n → 0 < len
    → image_blocks (images_of (new_fills n)) ≡ placed at len
segment_taken at len None h some = absurd h
segment_taken at len (Some n) h some =
    let test : (len == 0) ≡ false = ne_eqb len 0 (λ z. omega (arith, z, some)) in
    rw test (λ i. record { start = h.at_is i; len = h.len_is i } ∷ [])

-- Of a group's blocks, where the segment's place stays: the header's, the segment's, the index's.
pub in_place : (t : Block) (ps index new taken : List Block) → IsPermutation new (index ++ taken)
    → IsPermutation ((t ∷ ps) ++ new) (((t ∷ ps) ++ index) ++ taken)
in_place t ps index new taken h = subst (IsPermutation ((t ∷ ps) ++ new))
    (sym (append_assoc (t ∷ ps) index taken)) (IsPermutation-append_right (t ∷ ps) _ _ h)

-- and where it gets another
pub moved_to : (t : Block) (ps qs index new taken : List Block) → IsPermutation new (index ++ taken)
    → IsPermutation (((t ∷ qs) ++ new) ++ ps) (((t ∷ ps) ++ index) ++ (qs ++ taken))
moved_to t ps qs index new taken h =
    let all = IsPermutation-append_left ps _ _ (IsPermutation-append_right qs _ _ h) in
    IsPermutation-cons t _ _ (IsPermutation-trans _ _ _ all (moves ps qs index taken))
  where
    moves : (ps qs index taken : List Block)
        → IsPermutation ((qs ++ (index ++ taken)) ++ ps) ((ps ++ index) ++ (qs ++ taken))
    moves ps qs index taken = IsPermutation-trans _ _ _ (IsPermutation-append_comm (qs ++ (index ++ taken)) ps)
        (subst₂ (λ (xs ys : List Block). IsPermutation xs ys) refl (sym (append_assoc ps index (qs ++ taken)))
        (IsPermutation-append_right ps _ _ (turned qs index taken)))
