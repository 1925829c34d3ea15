-- An index as a value: a tree of nodes with what stands under them, from left to right. A node carries N, and what
-- stands under level 0 is L. Cited by what a file's bytes hold of groups and of chunks.
use Rattle.std.specs.Prelude.{◌≡◌, ℕ, zero, suc, List, [], ◌∷◌, ◌++◌}
use Rattle.h5_base.specs.Fields.{undefined}

mutual
  pub data Index (N L : Type 0) : Type 0 where
    Bottom : L → Index N L
    Node : N → Indexes N L → Index N L

  pub data Indexes (N L : Type 0) : Type 0 where
    NoMore : Indexes N L
    Next : Index N L → Indexes N L → Indexes N L

-- what each node and all under level 0 gives, a node before what is below it
abbrev mutual
  pub gather : {N L A : Type 0} → (N → List A) → (L → List A) → Index N L → List A
  gather f g (Bottom l) = g l
  gather f g (Node n xs) = f n ++ gather_in f g xs

  pub gather_in : {N L A : Type 0} → (N → List A) → (L → List A) → Indexes N L → List A
  gather_in f g NoMore = []
  gather_in f g (Next x xs) = gather f g x ++ gather_in f g xs

-- a number of each child
abbrev pub each : {N L : Type 0} → (Index N L → ℕ) → Indexes N L → List ℕ
each f NoMore = []
each f (Next x xs) = f x ∷ each f xs

-- the nodes so many levels below the root, from left to right
abbrev mutual
  pub row : {N L : Type 0} → ℕ → Index N L → List N
  row depth (Bottom l) = []
  row zero (Node n xs) = n ∷ []
  row (suc depth) (Node n xs) = row_in depth xs

  pub row_in : {N L : Type 0} → ℕ → Indexes N L → List N
  row_in depth NoMore = []
  row_in depth (Next x xs) = row depth x ++ row_in depth xs

-- ---- well kept

-- the address behind a node on its level
abbrev pub next_of : {N : Type 0} → (N → ℕ) → List N → ℕ
next_of at [] = undefined
next_of at (n ∷ ns) = at n

-- Each node of a level, from left to right, names the node before it and the one behind it, none at the ends.
abbrev pub AreSiblings : {N : Type 0} → (at left right : N → ℕ) → (before : ℕ) → List N → Type 0
AreSiblings at left right before [] = Unit {0}
AreSiblings at left right before (n ∷ ns) = (left n ≡ before) × (right n ≡ next_of at ns)
    × AreSiblings at left right (at n) ns
