-- What stands side by side, and what stands below it, level by level.
use Rattle.std.proofs.Common.{◌≡◌, ℕ, zero, suc, List, [], ◌∷◌, ◌++◌, map, refl, sym, ◌∙◌, ap}
use Rattle.std.proofs.lemmas.List.{append_assoc}
use Rattle.outside.specs.Array.{Array}
use Rattle.node_codec.specs.declared.snod.SnodEntry.{SnodEntry}
use Rattle.file_model.specs.Index.{Bottom, Node, NoMore, Next, each, gather, gather_in, row, row_in}
use Rattle.file_model.specs.Groups.{Ks, AreIndexes, GroupIndexes, LeafNode, TreeNode, address_of}
use Rattle.group_room.specs.Index.{rows_below}

-- those of one list, and behind them those of another
abbrev pub joined : GroupIndexes → GroupIndexes → GroupIndexes
joined NoMore ys = ys
joined (Next x xs) ys = Next x (joined xs ys)

-- the addresses of the symbol table nodes, and all entries
abbrev pub leafs : GroupIndexes → List ℕ
leafs = gather_in (λ n. []) (λ s. s.at ∷ [])

abbrev pub entries : GroupIndexes → List SnodEntry
entries = gather_in (λ n. []) (λ s. s.entries)

-- the children of all
abbrev pub below : GroupIndexes → GroupIndexes
below NoMore = NoMore
below (Next (Bottom s) xs) = below xs
below (Next (Node n ys) xs) = joined ys (below xs)

pub gather_joined : {A : Type 0} (f : TreeNode → List A) (g : LeafNode → List A) (xs ys : GroupIndexes)
    → gather_in f g (joined xs ys) ≡ gather_in f g xs ++ gather_in f g ys
gather_joined f g NoMore ys = refl
gather_joined f g (Next x xs) ys =
    ap (λ l. gather f g x ++ l) (gather_joined f g xs ys)
    ∙ sym (append_assoc (gather f g x) (gather_in f g xs) (gather_in f g ys))

row_joined : (depth : ℕ) (xs ys : GroupIndexes) → row_in depth (joined xs ys) ≡ row_in depth xs ++ row_in depth ys
row_joined depth NoMore ys = refl
row_joined depth (Next x xs) ys =
    ap (λ (l : List TreeNode). row depth x ++ l) (row_joined depth xs ys)
    ∙ sym (append_assoc (row depth x) (row_in depth xs) (row_in depth ys))

pub each_joined : (xs ys : GroupIndexes) → each address_of (joined xs ys) ≡ each address_of xs ++ each address_of ys
each_joined NoMore ys = refl
each_joined (Next x xs) ys = ap (λ (l : List ℕ). address_of x ∷ l) (each_joined xs ys)

-- the nodes one level deeper are the children's
row_below : (depth : ℕ) (xs : GroupIndexes) → row_in (suc depth) xs ≡ row_in depth (below xs)
row_below depth NoMore = refl
row_below depth (Next (Bottom s) xs) = row_below depth xs
row_below depth (Next (Node n ys) xs) =
    ap (λ (l : List TreeNode). row_in depth ys ++ l) (row_below depth xs) ∙ sym (row_joined depth ys (below xs))

-- ---- in a file

module _ (b : Array) (ks : Ks) (s : List ℕ) where
  stand_joined : (height : ℕ) (xs ys : GroupIndexes) → AreIndexes b ks s height xs → AreIndexes b ks s height ys
      → AreIndexes b ks s height (joined xs ys)
  stand_joined height NoMore ys h k = k
  stand_joined height (Next x xs) ys h k = (h.0, stand_joined height xs ys h.1 k)

  pub stand_below : (level : ℕ) (xs : GroupIndexes) → AreIndexes b ks s (suc level) xs
      → AreIndexes b ks s level (below xs)
  stand_below level NoMore h = tt
  stand_below level (Next (Bottom l) xs) h = absurd h.0
  stand_below level (Next (Node n ys) xs) h = stand_joined level ys (below xs) h.0.1 (stand_below level xs h.1)

  -- where symbol table nodes stand side by side, these are their addresses
  pub bottoms : (xs : GroupIndexes) → AreIndexes b ks s zero xs
      → gather_in (λ n. []) (λ l. l.at ∷ []) xs ≡ each address_of xs
  bottoms NoMore h = refl
  bottoms (Next (Bottom l) xs) h = ap (λ (ats : List ℕ). l.at ∷ ats) (bottoms xs h.1)
  bottoms (Next (Node n ys) xs) h = absurd h.0

  -- and where nodes of the B-tree do, these
  pub heads : (level : ℕ) (xs : GroupIndexes) → AreIndexes b ks s (suc level) xs
      → each address_of xs ≡ map (λ n. n.at) (row_in zero xs)
  heads level NoMore h = refl
  heads level (Next (Bottom l) xs) h = absurd h.0
  heads level (Next (Node n ys) xs) h = ap (λ (ats : List ℕ). n.at ∷ ats) (heads level xs h.1)

  -- the symbol table nodes are those below the children
  pub leafs_below : {A : Type 0} (g : LeafNode → List A) (level : ℕ) (xs : GroupIndexes)
      → AreIndexes b ks s (suc level) xs → gather_in (λ n. []) g xs ≡ gather_in (λ n. []) g (below xs)
  leafs_below g level NoMore h = refl
  leafs_below g level (Next (Bottom l) xs) h = absurd h.0
  leafs_below g level (Next (Node n ys) xs) h =
      ap (λ l. gather_in (λ n. []) g ys ++ l) (leafs_below g level xs h.1)
      ∙ sym (gather_joined (λ n. []) g ys (below xs))

-- ---- the rows

-- The addresses of the nodes of each level, so many of them, the lowest first.
abbrev pub rows_in : GroupIndexes → (depth : ℕ) → List (List ℕ)
rows_in xs zero = []
rows_in xs (suc depth) = map (λ n. n.at) (row_in depth xs) ∷ rows_in xs depth

pub rows_root : (n : TreeNode) (xs : GroupIndexes) (level : ℕ) → rows_below (Node n xs) level ≡ rows_in xs level
rows_root n xs zero = refl
rows_root n xs (suc level) = ap (λ (rows : List (List ℕ)). map (λ n. n.at) (row_in level xs) ∷ rows)
    (rows_root n xs level)

rows_down : (xs : GroupIndexes) (level : ℕ)
    → rows_in xs (suc level) ≡ rows_in (below xs) level ++ map (λ n. n.at) (row_in zero xs) ∷ []
rows_down xs zero = refl
rows_down xs (suc level) =
    ap (λ (ns : List TreeNode). map (λ n. n.at) ns ∷ rows_in xs (suc level)) (row_below level xs)
    ∙ ap (λ (rows : List (List ℕ)). map (λ n. n.at) (row_in level (below xs)) ∷ rows) (rows_down xs level)

-- The rows are those below the children, and above them the addresses themselves.
pub rows_above_below : (b : Array) (ks : Ks) (s : List ℕ) (level : ℕ) (xs : GroupIndexes)
    → AreIndexes b ks s (suc level) xs → rows_in xs (suc level) ≡ rows_in (below xs) level ++ each address_of xs ∷ []
rows_above_below b ks s level xs h =
    rows_down xs level
    ∙ ap (λ (row : List ℕ). rows_in (below xs) level ++ row ∷ []) (sym (heads b ks s level xs h))
