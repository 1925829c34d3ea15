-- The blocks of an index are those of its rows.
use Rattle.std.proofs.Common.{◌≡◌, ℕ, zero, suc, List, [], ◌∷◌, ◌++◌, map, refl, sym, ◌∙◌, ap, subst}
use Rattle.std.specs.List.{flat_map}
use Rattle.std.specs.List.Sorted.{IsPermutation}
use Rattle.std.proofs.lemmas.List.{append_assoc, append-nil}
use Rattle.std.proofs.lemmas.List.Sorted.{IsPermutation-refl, IsPermutation-trans, IsPermutation-cons}
use Rattle.std.proofs.lemmas.List.Sorted.{IsPermutation-append_left, IsPermutation-append_right}
use Rattle.std.proofs.lemmas.List.Sorted.{IsPermutation-append_comm}
use Rattle.std.proofs.lemmas.Grind.{flat_map-append}
use Rattle.outside.specs.Array.{Array}
use Rattle.outside.specs.Blocks.{Block}
use Rattle.file_model.specs.Index.{Bottom, Node, NoMore, Next, each}
use Rattle.file_model.specs.Groups.{Ks, AreIndexes, GroupIndexes, address_of, blocks_within, leaf_block, node_block}
use Rattle.group_facts.specs.Rows.{RowsAreBlocks}
use Rattle.group_facts.proofs.IndexRows.{below, gather_joined, leafs, leafs_below, rows_above_below, rows_in}
use Rattle.group_facts.proofs.IndexRows.{rows_root, stand_below}

-- the blocks of the nodes of rows
abbrev of_rows : Ks → List (List ℕ) → List Block
of_rows ks = flat_map (λ (row : List ℕ). map (node_block ks) row)

-- behind two lists, the middle one comes first as well
turned : (ps ms ds : List Block) → IsPermutation (ps ++ (ms ++ ds)) (ms ++ (ps ++ ds))
turned ps ms ds =
    let both : IsPermutation ((ps ++ ms) ++ ds) ((ms ++ ps) ++ ds) =
    IsPermutation-append_left ds (ps ++ ms) (ms ++ ps) (IsPermutation-append_comm ps ms) in
    rw (append_assoc ps ms ds, append_assoc ms ps ds) at both

module _ (b : Array) (ks : Ks) (s : List ℕ) where
  bottom_blocks : (xs : GroupIndexes) → AreIndexes b ks s zero xs
      → blocks_within ks xs ≡ map (leaf_block ks) (leafs xs)
  bottom_blocks NoMore h = refl
  bottom_blocks (Next (Bottom l) xs) h = ap (λ (bs : List Block). leaf_block ks l.at ∷ bs) (bottom_blocks xs h.1)
  bottom_blocks (Next (Node n ys) xs) h = absurd h.0

  -- its own blocks, and those below
  own_blocks : (level : ℕ) (xs : GroupIndexes) → AreIndexes b ks s (suc level) xs
      → IsPermutation (blocks_within ks xs) (map (node_block ks) (each address_of xs) ++ blocks_within ks (below xs))
  own_blocks level NoMore h = IsPermutation-refl []
  own_blocks level (Next (Bottom l) xs) h = absurd h.0
  own_blocks level (Next (Node n ys) xs) h =
      let ps = blocks_within ks ys in
      let ds = blocks_within ks (below xs) in
      let ms = map (node_block ks) (each address_of xs) in
      let later = IsPermutation-append_right ps _ _ (own_blocks level xs h.1) in
      let moved = IsPermutation-trans _ _ _ later (turned ps ms ds) in
      let all = sym (gather_joined (λ n. node_block ks n.at ∷ []) (λ s. leaf_block ks s.at ∷ []) ys (below xs)) in
      let whole = subst (λ (bs : List Block). IsPermutation (ps ++ blocks_within ks xs) (ms ++ bs)) all moved in
      IsPermutation-cons (node_block ks n.at) _ _ whole

  forest_blocks : (level : ℕ) (xs : GroupIndexes) → AreIndexes b ks s level xs
      → IsPermutation (blocks_within ks xs) (map (leaf_block ks) (leafs xs) ++ of_rows ks (rows_in xs level))
  forest_blocks zero xs h =
      subst (IsPermutation (blocks_within ks xs))
      (bottom_blocks xs h ∙ sym (append-nil (map (leaf_block ks) (leafs xs))))
      (IsPermutation-refl (blocks_within ks xs))
  forest_blocks (suc level) xs h =
      let ms = map (node_block ks) (each address_of xs) in
      let ls = map (leaf_block ks) (leafs (below xs)) in
      let rs = of_rows ks (rows_in (below xs) level) in
      let under = forest_blocks level (below xs) (stand_below b ks s level xs h) in
      let first = IsPermutation-trans _ _ _ (own_blocks level xs h) (IsPermutation-append_right ms _ _ under) in
      let moved = IsPermutation-trans _ _ _ first (IsPermutation-append_comm ms (ls ++ rs)) in
      let rows : rs ++ ms ≡ of_rows ks (rows_in xs (suc level)) =
      ap (λ (bs : List Block). rs ++ bs) (sym (append-nil ms))
      ∙ sym (flat_map-append (λ (row : List ℕ). map (node_block ks) row) (rows_in (below xs) level)
      (each address_of xs ∷ []))
      ∙ ap (of_rows ks) (sym (rows_above_below b ks s level xs h)) in
      let leaves = ap (map (leaf_block ks)) (sym (leafs_below b ks s (λ s. s.at ∷ []) level xs h)) in
      subst (IsPermutation (blocks_within ks xs))
      (append_assoc ls rs ms ∙ (λ i. leaves i ++ rows i)) moved

pub rows_are_blocks : RowsAreBlocks
rows_are_blocks b ks s level (Bottom l) h = absurd h
rows_are_blocks b ks s level (Node n xs) h =
    let ls = map (leaf_block ks) (leafs xs) in
    let rs = of_rows ks (rows_in xs level) in
    let root = node_block ks n.at in
    let own = IsPermutation-cons root _ _ (forest_blocks b ks s level xs h.1) in
    let moved = IsPermutation-trans _ _ _ own (IsPermutation-append_comm (root ∷ []) (ls ++ rs)) in
    subst (IsPermutation (root ∷ blocks_within ks xs))
    (ap (λ (rows : List (List ℕ)). ls ++ of_rows ks rows ++ root ∷ []) (sym (rows_root n xs level))) moved
