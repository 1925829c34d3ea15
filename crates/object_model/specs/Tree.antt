-- The object tree: groups, each with its links in the order of their names, and leaves. G and L are what a group and
-- a leaf carry: the data alone in the tree of HDF5's objects, and addresses or keys besides in the program's trees.
-- Cited by `step`, by what a file's bytes hold, and by the tree that the program keeps.
use Rattle.std.specs.Prelude.{ℕ, Bool, List, [], ◌∷◌, Option, Some, None, Result, Ok, Err, if◌then◌else◌, ok_or, IsTrue}
use Rattle.std.specs.Ordering.{is_lt, nat_cmp}
use Rattle.std.specs.Cmp.Lexicographic.{slice_cmp}
use Rattle.std.specs.Str.{bytes_eq}
use Rattle.object_model.specs.declared.answer.Code.{Code}
use Rattle.object_model.specs.declared.answer.Code.TheVariants.{Absent, NotGroup}

mutual
  pub data Tree (G L : Type 0) : Type 0 where
    Group : G → Links G L → Tree G L
    Leaf : L → Tree G L

  pub data Links (G L : Type 0) : Type 0 where
    Empty : Links G L
    Link : List ℕ → Tree G L → Links G L → Links G L

abbrev pub Name : Type 0
Name = List ℕ

-- a comes before b, by unsigned bytes
abbrev pub name_lt : Name → Name → Bool
name_lt a b = is_lt (slice_cmp nat_cmp a b)

abbrev pub same_name : Name → Name → Bool
same_name a b = bytes_eq a b

abbrev pub names : {G L : Type 0} → Links G L → List Name
names Empty = []
names (Link n t rest) = n ∷ names rest

-- each later name comes after this one
abbrev pub ComesFirst : Name → List Name → Type 0
ComesFirst n [] = Unit {0}
ComesFirst n (m ∷ ms) = IsTrue (name_lt n m)

-- strictly ascending names
abbrev pub AreOrdered : List Name → Type 0
AreOrdered [] = Unit {0}
AreOrdered (n ∷ ns) = ComesFirst n ns × AreOrdered ns

-- the names of each group ascend
abbrev mutual
  pub IsOrdered : {G L : Type 0} → Tree G L → Type 0
  IsOrdered (Group g ls) = AreOrdered (names ls) × AreOrderedBelow ls
  IsOrdered (Leaf l) = Unit {0}

  pub AreOrderedBelow : {G L : Type 0} → Links G L → Type 0
  AreOrderedBelow Empty = Unit {0}
  AreOrderedBelow (Link n t rest) = IsOrdered t × AreOrderedBelow rest

-- what a name leads to
abbrev pub find : {G L : Type 0} → Links G L → Name → Option (Tree G L)
find Empty n = None
find (Link m t rest) n = if same_name m n then Some t else find rest n

infixl 10 ◌>>=◌
-- the step after one that gave a value; a refusal stays
abbrev pub ◌>>=◌ : {X Y : Type 0} → Result X Code → (X → Result Y Code) → Result Y Code
(Ok x) >>= f = f x
(Err e) >>= f = Err e

-- what a name of a group's links leads to
abbrev pub child : {G L : Type 0} → Tree G L → Name → Result (Tree G L) Code
child (Group g ls) n = ok_or (find ls n) Absent
child (Leaf l) n = Err NotGroup

-- what a path leads to
abbrev pub walk : {G L : Type 0} → Tree G L → List Name → Result (Tree G L) Code
walk t [] = Ok t
walk t (n ∷ ns) = child t n >>= λ u. walk u ns

-- the links with f done to what a name leads to
abbrev pub replace : {G L : Type 0} → Links G L → Name → (Tree G L → Tree G L) → Links G L
replace Empty n f = Empty
replace (Link m t rest) n f = if same_name m n then Link m (f t) rest else Link m t (replace rest n f)

-- the links with one more, at its place in the order
abbrev pub insert : {G L : Type 0} → Links G L → Name → Tree G L → Links G L
insert Empty n u = Link n u Empty
insert (Link m t rest) n u = if name_lt n m then Link n u (Link m t rest) else Link m t (insert rest n u)

-- the links without one
abbrev pub remove : {G L : Type 0} → Links G L → Name → Links G L
remove Empty n = Empty
remove (Link m t rest) n = if same_name m n then rest else Link m t (remove rest n)

-- the tree with f done to the group's links, and to nothing else
abbrev pub relink : {G L : Type 0} → (Links G L → Links G L) → Tree G L → Tree G L
relink f (Group g ls) = Group g (f ls)
relink f (Leaf l) = Leaf l

-- the tree with f done to what the path leads to
abbrev pub edit : {G L : Type 0} → List Name → (Tree G L → Tree G L) → Tree G L → Tree G L
edit [] f t = f t
edit (n ∷ ns) f t = relink (λ ls. replace ls n (edit ns f)) t

-- the same tree with other things at its nodes
abbrev mutual
  pub map_tree : {G L G' L' : Type 0} → (G → G') → (L → L') → Tree G L → Tree G' L'
  map_tree fg fl (Group g ls) = Group (fg g) (map_links fg fl ls)
  map_tree fg fl (Leaf l) = Leaf (fl l)

  pub map_links : {G L G' L' : Type 0} → (G → G') → (L → L') → Links G L → Links G' L'
  map_links fg fl Empty = Empty
  map_links fg fl (Link n t rest) = Link n (map_tree fg fl t) (map_links fg fl rest)

-- the names before the last, and the last
abbrev pub dir_of : List Name → List Name
dir_of [] = []
dir_of (n ∷ []) = []
dir_of (n ∷ m ∷ ns) = n ∷ dir_of (m ∷ ns)

abbrev pub last_of : List Name → Name
last_of [] = []
last_of (n ∷ []) = n
last_of (n ∷ m ∷ ns) = last_of (m ∷ ns)
