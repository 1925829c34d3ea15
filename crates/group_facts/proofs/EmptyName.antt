-- No link under a node of the B-tree has the empty name.
use Rattle.std.proofs.Common.{◌≡◌, ℕ, true, List, [], ◌∷◌, ◌++◌, refl}
use Rattle.object_model.specs.Tree.{Name, name_lt, ComesFirst}
use Rattle.file_model.specs.Index.{Bottom, Node, NoMore, Next}
use Rattle.file_model.specs.Groups.{Found, GroupIndexes, AreBetween, AreKeyed, links_under, links_within}
use Rattle.group_facts.specs.Heap.{names_of, NonemptyNames}

after_empty : (low n : Name) → name_lt low n ≡ true → name_lt [] n ≡ true
after_empty [] [] lt = lt
after_empty (c ∷ low) [] lt = absurd cc
after_empty low (c ∷ n) lt = refl

first_named : (low high : Name) (fs gs : List Found) → AreBetween low high fs → ComesFirst [] (names_of gs)
    → ComesFirst [] (names_of (fs ++ gs))
first_named low high [] gs h later = later
first_named low high (f ∷ fs) gs h later = after_empty low f.name h.0.0

keyed_named : (s keys : List ℕ) (xs : GroupIndexes) → AreKeyed s keys xs → ComesFirst [] (names_of (links_within xs))
keyed_named s keys NoMore h = tt
keyed_named s [] (Next x xs) h = absurd h
keyed_named s (k ∷ []) (Next x xs) h = absurd h
keyed_named s (k ∷ l ∷ keys) (Next x xs) (low, high, at_low, at_high, between, rest) =
    first_named low high (links_under x) (links_within xs) between (keyed_named s (l ∷ keys) xs rest)

pub nonempty_names : NonemptyNames
nonempty_names b ks s level (Bottom leaf) h ordered = absurd h
nonempty_names b ks s level (Node n xs) h ordered = (keyed_named s n.node.keys xs h.2, ordered)
