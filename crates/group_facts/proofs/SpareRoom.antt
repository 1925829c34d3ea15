-- Where no node is full or empty, there is room for one more in each row.
use Rattle.std.proofs.Common.{◌≡◌, ℕ, zero, suc, ◌+◌, ◌*◌, ◌<◌, ◌≤◌, List, [], ◌∷◌, ◌++◌, length, sym}
use Rattle.std.proofs.Common.{ap, subst, arith}
use Rattle.std.specs.List.{AllByRecursion}
use Rattle.std.proofs.lemmas.List.{length-append}
use Rattle.std.proofs.lemmas.List.Elements.{recursion_from_All}
use Rattle.outside.specs.Array.{Array}
use Rattle.file_model.specs.Index.{Bottom, Node, NoMore, Next, each, gather_in}
use Rattle.file_model.specs.Groups.{Ks, AreIndexes, GroupIndexes, LeafNode, TreeNode, address_of}
use Rattle.group_room.specs.Room.{HasRoom, LeafHasRoom, leaf_nodes, tree_nodes}
use Rattle.group_layout.specs.Growth.{HaveSpare}
use Rattle.group_facts.specs.Rows.{LeavesHaveSpare, RowsHaveSpare}
use Rattle.group_facts.proofs.IndexRows.{below, bottoms, each_joined, entries, gather_joined, leafs, leafs_below}
use Rattle.group_facts.proofs.IndexRows.{rows_above_below, rows_in, rows_root, stand_below}

-- ---- lists

all_parts : {X : Type 0} (P : X → Type 0) (xs ys : List X) → AllByRecursion P (xs ++ ys)
    → AllByRecursion P xs × AllByRecursion P ys
all_parts P [] ys h = (tt, h)
all_parts P (x ∷ xs) ys h = let parts = all_parts P xs ys h.1 in ((h.0, parts.0), parts.1)

all_both : {X : Type 0} (P : X → Type 0) (xs ys : List X) → AllByRecursion P xs → AllByRecursion P ys
    → AllByRecursion P (xs ++ ys)
all_both P [] ys h k = k
all_both P (x ∷ xs) ys h k = (h.0, all_both P xs ys h.1 k)

-- each row has room for one more than stand below it
abbrev Spared : (room below : ℕ) → List (List ℕ) → Type 0
Spared room below [] = Unit {0}
Spared room below (row ∷ rows) = (below < room * length row) × Spared room (length row) rows

spared_push : (room n : ℕ) (rows : List (List ℕ)) (row upper : List ℕ) → Spared room n (rows ++ row ∷ [])
    → length row < room * length upper → Spared room n ((rows ++ row ∷ []) ++ upper ∷ [])
spared_push room n [] row upper fits lt = (fits.0, (lt, tt))
spared_push room n (r ∷ rows) row upper fits lt = (fits.0, spared_push room (length r) rows row upper fits.1 lt)

under_root : (room n tree : ℕ) (rows : List (List ℕ)) → Spared room n (rows ++ (tree ∷ []) ∷ [])
    → HaveSpare room n rows
under_root room n tree [] fits = let own : n < room * 1 = fits.0 in omega arith
under_root room n tree (row ∷ rows) fits = (fits.0, under_root room (length row) tree rows fits.1)

-- ---- nodes that are neither full nor empty

abbrev nodes : GroupIndexes → List TreeNode
nodes = gather_in (λ n. n ∷ []) (λ s. [])

abbrev leaves : GroupIndexes → List LeafNode
leaves = gather_in (λ n. []) (λ s. s ∷ [])

module _ (b : Array) (ks : Ks) (s : List ℕ) where
  loose_below : (xs : GroupIndexes) → AllByRecursion (HasRoom ks) (nodes xs)
      → AllByRecursion (HasRoom ks) (nodes (below xs))
  loose_below NoMore h = tt
  loose_below (Next (Bottom l) xs) h = loose_below xs h
  loose_below (Next (Node n ys) xs) h =
      let parts = all_parts (HasRoom ks) (nodes ys) (nodes xs) h.1 in
      subst (AllByRecursion (HasRoom ks)) (sym (gather_joined (λ n. n ∷ []) (λ s. []) ys (below xs)))
      (all_both (HasRoom ks) (nodes ys) (nodes (below xs)) parts.0 (loose_below xs parts.1))

  -- each has a child, and room for one more
  some_below : (level : ℕ) (xs : GroupIndexes) → AreIndexes b ks s (suc level) xs
      → AllByRecursion (HasRoom ks) (nodes xs) → length (each address_of xs) ≤ length (each address_of (below xs))
  some_below level NoMore h loose = omega arith
  some_below level (Next (Bottom l) xs) h loose = absurd h.0
  some_below level (Next (Node n ys) xs) h loose = omega (
    arith,
    loose.0.some,
    ap length h.0.0.children_are,
    some_below level xs h.1 (all_parts (HasRoom ks) (nodes ys) (nodes xs) loose.1).1,
    ap length (each_joined ys (below xs)),
    length-append (each address_of ys) (each address_of (below xs)),
  )

  few_below : (level : ℕ) (xs : GroupIndexes) → AreIndexes b ks s (suc level) xs
      → AllByRecursion (HasRoom ks) (nodes xs)
      → length (each address_of (below xs)) + length (each address_of xs)
      ≤ 2 * ks.internal * length (each address_of xs)
  few_below level NoMore h loose = omega arith
  few_below level (Next (Bottom l) xs) h loose = absurd h.0
  few_below level (Next (Node n ys) xs) h loose = omega (
    arith,
    loose.0.room,
    ap length h.0.0.children_are,
    few_below level xs h.1 (all_parts (HasRoom ks) (nodes ys) (nodes xs) loose.1).1,
    ap length (each_joined ys (below xs)),
    length-append (each address_of ys) (each address_of (below xs)),
  )

  -- with a row above that has room for one more
  spared : (level : ℕ) (xs : GroupIndexes) (upper : List ℕ) → AreIndexes b ks s level xs
      → AllByRecursion (HasRoom ks) (nodes xs) → 0 < length (each address_of xs)
      → length (each address_of xs) < 2 * ks.internal * length upper
      → Spared (2 * ks.internal) (length (leafs xs)) (rows_in xs level ++ upper ∷ [])
  spared zero xs upper h loose some lt = (rw (bottoms b ks s xs h) lt, tt)
  spared (suc level) xs upper h loose some lt =
      let c : ℕ = 2 * ks.internal in
      let own = each address_of xs in
      let ats : length (leafs (below xs)) ≡ length (leafs xs) =
      ap length (sym (leafs_below b ks s (λ s. s.at ∷ []) level xs h)) in
      let more = some_below level xs h loose in
      let fewer = few_below level xs h loose in
      let under = spared level (below xs) own (stand_below b ks s level xs h) (loose_below xs loose)
      (omega (arith, some, more)) (omega (arith, some, fewer)) in
      let all = spared_push c _ (rows_in (below xs) level) own upper under lt in
      subst (λ (rows : List (List ℕ)). Spared c (length (leafs xs)) (rows ++ upper ∷ []))
      (sym (rows_above_below b ks s level xs h))
      (subst (λ (n : ℕ). Spared c n ((rows_in (below xs) level ++ own ∷ []) ++ upper ∷ [])) ats all)

  -- ---- entries

  some_leafs : (level : ℕ) (xs : GroupIndexes) → AreIndexes b ks s level xs → AllByRecursion (HasRoom ks) (nodes xs)
      → 0 < length (each address_of xs) → 0 < length (leafs xs)
  some_leafs zero xs h loose some = rw (bottoms b ks s xs h) some
  some_leafs (suc level) xs h loose some =
      let more = some_below level xs h loose in
      rw (leafs_below b ks s (λ s. s.at ∷ []) level xs h)
      (some_leafs level (below xs) (stand_below b ks s level xs h) (loose_below xs loose) (omega (arith, some, more)))

  few_entries : (level : ℕ) (xs : GroupIndexes) → AreIndexes b ks s level xs
      → AllByRecursion (LeafHasRoom ks) (leaves xs)
      → length (entries xs) + length (leafs xs) ≤ 2 * ks.leaf * length (leafs xs)
  few_entries zero NoMore h room = omega arith
  few_entries zero (Next (Bottom l) xs) h room = omega (
    arith,
    room.0,
    few_entries zero xs h.1 room.1,
    length-append l.entries (entries xs),
  )
  few_entries zero (Next (Node n ys) xs) h room = absurd h.0
  few_entries (suc level) xs h room =
      let all = leafs_below b ks s (λ s. s.entries) level xs h in
      let ats = leafs_below b ks s (λ s. s.at ∷ []) level xs h in
      let own = subst (AllByRecursion (LeafHasRoom ks)) (leafs_below b ks s (λ s. s ∷ []) level xs h) room in
      rw (all, ats) (few_entries level (below xs) (stand_below b ks s level xs h) own)

pub rows_have_spare : RowsHaveSpare
rows_have_spare b ks s level (Bottom l) h loose = absurd h
rows_have_spare b ks s level (Node n xs) h loose =
    let all = recursion_from_All (HasRoom ks) (tree_nodes (Node n xs)) loose in
    let some : 0 < length (each address_of xs) = omega (arith, all.0.some, ap length h.0.children_are) in
    let room : length (each address_of xs) < 2 * ks.internal * 1 =
    omega (arith, all.0.room, ap length h.0.children_are) in
    subst (HaveSpare (2 * ks.internal) (length (leafs xs))) (sym (rows_root n xs level))
    (under_root (2 * ks.internal) (length (leafs xs)) n.at (rows_in xs level)
    (spared b ks s level xs (n.at ∷ []) h.1 all.1 some room))

pub leaves_have_spare : LeavesHaveSpare
leaves_have_spare b ks s level (Bottom l) h loose room = absurd h
leaves_have_spare b ks s level (Node n xs) h loose room =
    let all = recursion_from_All (HasRoom ks) (tree_nodes (Node n xs)) loose in
    let some : 0 < length (each address_of xs) = omega (arith, all.0.some, ap length h.0.children_are) in
    omega (
      arith,
      some_leafs b ks s level xs h.1 all.1 some,
      few_entries b ks s level xs h.1 (recursion_from_All (LeafHasRoom ks) (leaf_nodes (Node n xs)) room),
    )
