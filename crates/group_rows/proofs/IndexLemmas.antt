-- The rows of an index: each is told by the bytes of the one above it.
use Rattle.std.proofs.Common.{◌≡◌, ℕ, zero, suc, ◌+◌, ◌^◌, ◌<◌, List, [], ◌∷◌, ◌++◌, length, map, All, refl, sym, ◌∙◌}
use Rattle.std.proofs.Common.{ap, subst, arith}
use Rattle.std.specs.List.{flat_map}
use Rattle.std.specs.List.Sorted.{IsPermutation}
use Rattle.std.proofs.lemmas.List.{append_assoc, append-nil, length-append}
use Rattle.std.proofs.lemmas.List.Concat.{flat_map-append}
use Rattle.std.proofs.lemmas.List.Elements.{All-nil, All-cons, All-head, All-tail}
use Rattle.std.proofs.lemmas.List.Sorted.{IsPermutation-refl, IsPermutation-trans, IsPermutation-append_left}
use Rattle.std.proofs.lemmas.List.Sorted.{IsPermutation-append_right, IsPermutation-append_comm, All-permutation}
use Rattle.outside.specs.Array.{Array, bytes_of}
use Rattle.outside.specs.Blocks.{Block}
use Rattle.node_codec.specs.GroupNodes.{SpellsGroupNode, group_node_len}
use Rattle.node_codec.specs.Snod.{SpellsSnod, snod_len}
use Rattle.node_codec.specs.declared.group_node.GroupNode.{GroupNode}
use Rattle.node_codec.specs.declared.snod.SnodEntry.{SnodEntry}
use Rattle.file_model.specs.Index.{Bottom, Node, NoMore, Next, gather, gather_in, each, row, row_in}
use Rattle.file_model.specs.Groups.{Ks, GroupIndex, GroupIndexes, TreeNode, LeafNode, IsIndex, AreIndexes, IsNode, IsLeaf}
use Rattle.file_model.specs.Groups.{address_of, index_blocks, node_block, leaf_block}
use Rattle.group_rows.specs.Rows.{node_at, entries_at, row_children, row_down, nodes_down, rows_down, IsNodeThere}
use Rattle.group_rows.specs.Rows.{IsLeafThere, IsRow, AreRows}
use Rattle.group_room.specs.Index.{rows_below}
use Rattle.group_rows.proofs.ListLemmas.{map-append}
use Rattle.group_rows.proofs.NodeLemmas.{node_is, entries_are}

-- ---- a row, as a list of what stands there

abbrev list_of : GroupIndexes → List GroupIndex
list_of NoMore = []
list_of (Next x xs) = x ∷ list_of xs

abbrev kids : GroupIndex → List GroupIndex
kids (Bottom l) = []
kids (Node n ys) = list_of ys

-- the row below a row
abbrev pub below : List GroupIndex → List GroupIndex
below = flat_map kids

abbrev own : GroupIndex → List TreeNode
own (Bottom l) = []
own (Node n ys) = n ∷ []

abbrev nodes_of : List GroupIndex → List TreeNode
nodes_of = flat_map own

-- each lies in the file, with this height
abbrev pub AreAt : Array → Ks → List ℕ → (height : ℕ) → List GroupIndex → Type 0
AreAt b ks s height [] = Unit {0}
AreAt b ks s height (x ∷ xs) = IsIndex b ks s height x × AreAt b ks s height xs

at_append : (b : Array) (ks : Ks) (s : List ℕ) (height : ℕ) (xs ys : List GroupIndex) → AreAt b ks s height xs
    → AreAt b ks s height ys → AreAt b ks s height (xs ++ ys)
at_append b ks s height [] ys h k = k
at_append b ks s height (x ∷ xs) ys h k = (h.0, at_append b ks s height xs ys h.1 k)

at_list : (b : Array) (ks : Ks) (s : List ℕ) (height : ℕ) (xs : GroupIndexes) → AreIndexes b ks s height xs
    → AreAt b ks s height (list_of xs)
at_list b ks s height NoMore h = tt
at_list b ks s height (Next x xs) h = (h.0, at_list b ks s height xs h.1)

pub at_below : (b : Array) (ks : Ks) (s : List ℕ) (level : ℕ) (xs : List GroupIndex) → AreAt b ks s (suc level) xs
    → AreAt b ks s level (below xs)
at_below b ks s level [] h = tt
at_below b ks s level (Bottom l ∷ xs) h = absurd h.0
at_below b ks s level (Node n ys ∷ xs) h =
    at_append b ks s level (list_of ys) (below xs) (at_list b ks s level ys h.0.1) (at_below b ks s level xs h.1)

each_list : (ys : GroupIndexes) → each address_of ys ≡ map address_of (list_of ys)
each_list NoMore = refl
each_list (Next y ys) = ap (λ (l : List ℕ). address_of y ∷ l) (each_list ys)

gather_list : {A : Type 0} (f : TreeNode → List A) (g : LeafNode → List A) (ys : GroupIndexes)
    → gather_in f g ys ≡ flat_map (gather f g) (list_of ys)
gather_list f g NoMore = refl
gather_list f g (Next y ys) = ap (λ l. gather f g y ++ l) (gather_list f g ys)

row_list : (depth : ℕ) (ys : GroupIndexes) → row_in depth ys ≡ flat_map (row depth) (list_of ys)
row_list depth NoMore = refl
row_list depth (Next y ys) = ap (λ (l : List TreeNode). row depth y ++ l) (row_list depth ys)

pub node_there : (b : Array) (ks : Ks) (level : ℕ) (n : TreeNode) (cs : List ℕ) → IsNode b ks level n cs
    → n.node ≡ node_at b ks.internal n.at
node_there b ks level n cs h =
    node_is b ks.internal n.at n.node (bytes_of b n.at (group_node_len ks.internal)) refl h.spelled

pub leaf_there : (b : Array) (ks : Ks) (s : List ℕ) (l : LeafNode) → IsLeaf b ks s l
    → l.entries ≡ entries_at b ks.leaf l.at
leaf_there b ks s l h = entries_are b ks.leaf l.at l.entries (bytes_of b l.at (snod_len ks.leaf)) refl h.spelled

-- the children of a row's nodes are the row below
pub at_children : (b : Array) (ks : Ks) (s : List ℕ) (level : ℕ) (xs : List GroupIndex) → AreAt b ks s (suc level) xs
    → row_children b ks.internal (map address_of xs) ≡ map address_of (below xs)
at_children b ks s level [] h = refl
at_children b ks s level (Bottom l ∷ xs) h = absurd h.0
at_children b ks s level (Node n ys ∷ xs) h =
    let first : (node_at b ks.internal n.at).children ≡ map address_of (list_of ys) =
    ap (λ (m : GroupNode). m.children) (sym (node_there b ks level n (each address_of ys) h.0.0))
    ∙ h.0.0.children_are ∙ each_list ys in
    (λ j. first j ++ at_children b ks s level xs h.1 j) ∙ sym (map-append address_of (list_of ys) (below xs))

-- ---- what a row and all below it gives

turned : {A : Type 0} (ys ns bs : List A) → IsPermutation (ys ++ (ns ++ bs)) (ns ++ (ys ++ bs))
turned {A} ys ns bs =
    let both = IsPermutation-append_left bs (ys ++ ns) (ns ++ ys) (IsPermutation-append_comm ys ns) in
    subst (λ (l : List A). IsPermutation l (ns ++ (ys ++ bs))) (append_assoc ys ns bs)
    (subst (λ (l : List A). IsPermutation ((ys ++ ns) ++ bs) l) (append_assoc ns ys bs) both)

-- what is put before both, and exchanged
moved : {A : Type 0} (ps ys xs ns bs : List A) → IsPermutation xs (ns ++ bs)
    → IsPermutation ((ps ++ ys) ++ xs) ((ps ++ ns) ++ (ys ++ bs))
moved {A} ps ys xs ns bs h =
    let inner = IsPermutation-trans (ys ++ xs) (ys ++ (ns ++ bs)) (ns ++ (ys ++ bs))
    (IsPermutation-append_right ys xs (ns ++ bs) h) (turned ys ns bs) in
    let whole = IsPermutation-append_right ps (ys ++ xs) (ns ++ (ys ++ bs)) inner in
    subst (λ (l : List A). IsPermutation l ((ps ++ ns) ++ (ys ++ bs))) (sym (append_assoc ps ys xs))
    (subst (λ (l : List A). IsPermutation (ps ++ (ys ++ xs)) l) (sym (append_assoc ps ns (ys ++ bs))) whole)

module _ (b : Array) (ks : Ks) (s : List ℕ) where
  module _ {A : Type 0} (f : TreeNode → List A) (g : LeafNode → List A) where
    -- its own nodes, and what is below
    pub row_apart : (level : ℕ) (xs : List GroupIndex) → AreAt b ks s (suc level) xs
        → IsPermutation (flat_map (gather f g) xs) (flat_map f (nodes_of xs) ++ flat_map (gather f g) (below xs))
    row_apart level [] h = IsPermutation-refl []
    row_apart level (Bottom l ∷ xs) h = absurd h.0
    row_apart level (Node n ys ∷ xs) h =
        let bs = flat_map (gather f g) (below xs) in
        let one = moved (f n) (gather_in f g ys) (flat_map (gather f g) xs) (flat_map f (nodes_of xs)) bs
        (row_apart level xs h.1) in
        let joined : gather_in f g ys ++ bs ≡ flat_map (gather f g) (list_of ys ++ below xs) =
        ap (λ (l : List A). l ++ bs) (gather_list f g ys) ∙ sym (flat_map-append (gather f g) (list_of ys) (below xs)) in
        subst (λ (l : List A). IsPermutation ((f n ++ gather_in f g ys) ++ flat_map (gather f g) xs)
        ((f n ++ flat_map f (nodes_of xs)) ++ l)) joined one

    module _ (F G : ℕ → List A) (node_tells : (level : ℕ) (n : TreeNode) (cs : List ℕ) → IsNode b ks level n cs
        → f n ≡ F n.at) (leaf_tells : (l : LeafNode) → IsLeaf b ks s l → g l ≡ G l.at) where
      nodes_tell : (level : ℕ) (xs : List GroupIndex) → AreAt b ks s (suc level) xs
          → flat_map f (nodes_of xs) ≡ flat_map F (map address_of xs)
      nodes_tell level [] h = refl
      nodes_tell level (Bottom l ∷ xs) h = absurd h.0
      nodes_tell level (Node n ys ∷ xs) h =
          λ j. node_tells level n (each address_of ys) h.0.0 j ++ nodes_tell level xs h.1 j

      leaves_tell : (xs : List GroupIndex) → AreAt b ks s 0 xs
          → flat_map (gather f g) xs ≡ flat_map G (map address_of xs)
      leaves_tell [] h = refl
      leaves_tell (Bottom l ∷ xs) h = λ j. leaf_tells l h.0 j ++ leaves_tell xs h.1 j
      leaves_tell (Node n ys ∷ xs) h = absurd h.0

      -- by the rows that are read, in another order
      pub all_down : (height : ℕ) (xs : List GroupIndex) → AreAt b ks s height xs
          → IsPermutation (flat_map (gather f g) xs)
          (flat_map F (nodes_down b ks.internal height (map address_of xs))
          ++ flat_map G (row_down b ks.internal height (map address_of xs)))
      all_down zero xs h =
          subst (λ (l : List A). IsPermutation (flat_map (gather f g) xs) l) (leaves_tell xs h)
          (IsPermutation-refl (flat_map (gather f g) xs))
      all_down (suc level) xs h =
          let k = ks.internal in
          let ats = map address_of xs in
          let children = at_children b ks s level xs h in
          let later = all_down level (below xs) (at_below b ks s level xs h) in
          let down = λ (cs : List ℕ). flat_map F (nodes_down b k level cs) ++ flat_map G (row_down b k level cs) in
          let rest = subst (λ (l : List ℕ). IsPermutation (flat_map (gather f g) (below xs)) (down l)) (sym children)
          later in
          let cs = row_children b k ats in
          let ns = flat_map f (nodes_of xs) in
          let whole = IsPermutation-trans (flat_map (gather f g) xs) (ns ++ flat_map (gather f g) (below xs))
          (ns ++ down cs) (row_apart level xs h)
          (IsPermutation-append_right ns (flat_map (gather f g) (below xs)) (down cs) rest) in
          let joined : ns ++ down cs
          ≡ flat_map F (ats ++ nodes_down b k level cs) ++ flat_map G (row_down b k level cs) =
          ap (λ (l : List A). l ++ down cs) (nodes_tell level xs h)
          ∙ sym (append_assoc (flat_map F ats) (flat_map F (nodes_down b k level cs))
          (flat_map G (row_down b k level cs)))
          ∙ ap (λ (l : List A). l ++ flat_map G (row_down b k level cs))
          (sym (flat_map-append F ats (nodes_down b k level cs))) in
          subst (λ (l : List A). IsPermutation (flat_map (gather f g) xs) l) joined whole

  -- what only symbol table nodes give, in order
  module _ {A : Type 0} (g : LeafNode → List A) (G : ℕ → List A)
      (leaf_tells : (l : LeafNode) → IsLeaf b ks s l → g l ≡ G l.at) where
    below_same : (level : ℕ) (xs : List GroupIndex) → AreAt b ks s (suc level) xs
        → flat_map (gather (λ n. []) g) xs ≡ flat_map (gather (λ n. []) g) (below xs)
    below_same level [] h = refl
    below_same level (Bottom l ∷ xs) h = absurd h.0
    below_same level (Node n ys ∷ xs) h =
        (λ j. gather_list (λ n. []) g ys j ++ below_same level xs h.1 j)
        ∙ sym (flat_map-append (gather (λ n. []) g) (list_of ys) (below xs))

    leaves_give : (xs : List GroupIndex) → AreAt b ks s 0 xs
        → flat_map (gather (λ n. []) g) xs ≡ flat_map G (map address_of xs)
    leaves_give [] h = refl
    leaves_give (Bottom l ∷ xs) h = λ j. leaf_tells l h.0 j ++ leaves_give xs h.1 j
    leaves_give (Node n ys ∷ xs) h = absurd h.0

    pub in_order : (height : ℕ) (xs : List GroupIndex) → AreAt b ks s height xs
        → flat_map (gather (λ n. []) g) xs ≡ flat_map G (row_down b ks.internal height (map address_of xs))
    in_order zero xs h = leaves_give xs h
    in_order (suc level) xs h =
        below_same level xs h ∙ in_order level (below xs) (at_below b ks s level xs h)
        ∙ ap (λ (l : List ℕ). flat_map G (row_down b ks.internal level l)) (sym (at_children b ks s level xs h))

  -- ---- the rows themselves

  below_rows : (depth : ℕ) (xs : List GroupIndex)
      → flat_map (row (suc depth)) xs ≡ flat_map (row depth) (below xs)
  below_rows depth [] = refl
  below_rows depth (Bottom l ∷ xs) = below_rows depth xs
  below_rows depth (Node n ys ∷ xs) =
      (λ j. row_list depth ys j ++ below_rows depth xs j) ∙ sym (flat_map-append (row depth) (list_of ys) (below xs))

  own_row : (level : ℕ) (xs : List GroupIndex) → AreAt b ks s (suc level) xs
      → map (λ (n : TreeNode). n.at) (flat_map (row 0) xs) ≡ map address_of xs
  own_row level [] h = refl
  own_row level (Bottom l ∷ xs) h = absurd h.0
  own_row level (Node n ys ∷ xs) h = ap (λ (l : List ℕ). n.at ∷ l) (own_row level xs h.1)

  -- the addresses of so many rows from this one down, the lowest first
  abbrev rows_from : (depth : ℕ) → List GroupIndex → List (List ℕ)
  rows_from zero xs = []
  rows_from (suc depth) xs = map (λ (n : TreeNode). n.at) (flat_map (row depth) xs) ∷ rows_from depth xs

  one_lower : (depth : ℕ) (xs : List GroupIndex) → rows_from (suc depth) xs
      ≡ rows_from depth (below xs) ++ map (λ (n : TreeNode). n.at) (flat_map (row 0) xs) ∷ []
  one_lower zero xs = refl
  one_lower (suc depth) xs =
      λ j. map (λ (n : TreeNode). n.at) (below_rows depth xs j) ∷ one_lower depth xs j

  rows_are : (height : ℕ) (xs : List GroupIndex) → AreAt b ks s height xs
      → rows_down b ks.internal height (map address_of xs) ≡ rows_from height xs
  rows_are zero xs h = refl
  rows_are (suc level) xs h =
      let lower = ap (λ (l : List ℕ). rows_down b ks.internal level l) (at_children b ks s level xs h)
      ∙ rows_are level (below xs) (at_below b ks s level xs h) in
      let mine = sym (own_row level xs h) in
      (λ j. lower j ++ mine j ∷ []) ∙ sym (one_lower level xs)

  root_rows : (depth : ℕ) (x : GroupIndex) → rows_from depth (below (x ∷ [])) ≡ rows_below x depth
  root_rows zero x = refl
  root_rows (suc depth) x =
      let here : flat_map (row depth) (below (x ∷ [])) ≡ row (suc depth) x =
      sym (below_rows depth (x ∷ [])) ∙ append-nil (row (suc depth) x) in
      λ j. map (λ (n : TreeNode). n.at) (here j) ∷ root_rows depth x j

  -- those below the root
  pub rows_under : (level : ℕ) (x : GroupIndex) → IsIndex b ks s (suc level) x
      → rows_down b ks.internal level (row_children b ks.internal (address_of x ∷ [])) ≡ rows_below x level
  rows_under level x h =
      ap (λ (l : List ℕ). rows_down b ks.internal level l) (at_children b ks s level (x ∷ []) (h, tt))
      ∙ rows_are level (below (x ∷ [])) (at_below b ks s level (x ∷ []) (h, tt)) ∙ root_rows level x

-- ---- that the bytes spell each of them

abbrev pub Fits : Block → Type 0
Fits x = x.start + x.len < 2 ^ 64

pub all_left : {A : Type 0} (P : A → Type 0) (xs ys : List A) → All P (xs ++ ys) → All P xs
all_left P [] ys h = All-nil P
all_left P (x ∷ xs) ys h =
    All-cons P x xs (All-head P x (xs ++ ys) h) (all_left P xs ys (All-tail P x (xs ++ ys) h))

pub all_right : {A : Type 0} (P : A → Type 0) (xs ys : List A) → All P (xs ++ ys) → All P ys
all_right P [] ys h = h
all_right P (x ∷ xs) ys h = all_right P xs ys (All-tail P x (xs ++ ys) h)

module _ (b : Array) (ks : Ks) (s : List ℕ) where
  abbrev nodes_blocks : List GroupIndex → List Block
  nodes_blocks xs = flat_map (λ (n : TreeNode). node_block ks n.at ∷ []) (nodes_of xs)

  abbrev IsThere : (level at : ℕ) → Type 0
  IsThere level at = IsNodeThere b ks.internal at × ((node_at b ks.internal at).level ≡ level)

  one_there : (level : ℕ) (n : TreeNode) (cs : List ℕ) → IsNode b ks level n cs → Fits (node_block ks n.at)
      → IsThere level n.at
  one_there level n cs h fits =
      let is = node_there b ks level n cs h in (
        record {
          inside = fits;
          spelled = subst (λ (m : GroupNode). SpellsGroupNode ks.internal m
              (bytes_of b n.at (group_node_len ks.internal))) is h.spelled;
        },
        ap (λ (m : GroupNode). m.level) (sym is) ∙ h.level_is,
      )

  row_there : (level : ℕ) (xs : List GroupIndex) → AreAt b ks s (suc level) xs → All Fits (nodes_blocks xs)
      → IsRow b ks.internal level (map address_of xs)
  row_there level [] h fits = All-nil (IsThere level)
  row_there level (Bottom l ∷ xs) h fits = absurd h.0
  row_there level (Node n ys ∷ xs) h fits =
      All-cons (IsThere level) n.at (map address_of xs)
      (one_there level n (each address_of ys) h.0.0 (All-head Fits (node_block ks n.at) (nodes_blocks xs) fits))
      (row_there level xs h.1 (All-tail Fits (node_block ks n.at) (nodes_blocks xs) fits))

  apart : (level : ℕ) (xs : List GroupIndex) → AreAt b ks s (suc level) xs
      → All Fits (flat_map (index_blocks ks) xs)
      → All Fits (nodes_blocks xs ++ flat_map (index_blocks ks) (below xs))
  apart level xs h fits =
      All-permutation Fits (flat_map (index_blocks ks) xs)
      (nodes_blocks xs ++ flat_map (index_blocks ks) (below xs))
      (row_apart b ks s (λ n. node_block ks n.at ∷ []) (λ l. leaf_block ks l.at ∷ []) level xs h) fits

  pub rows_there : (height : ℕ) (xs : List GroupIndex) → AreAt b ks s height xs
      → All Fits (flat_map (index_blocks ks) xs) → AreRows b ks.internal height (map address_of xs)
  rows_there zero xs h fits = tt
  rows_there (suc level) xs h fits =
      let both = apart level xs h fits in
      let bs = flat_map (index_blocks ks) (below xs) in (
        row_there level xs h (all_left Fits (nodes_blocks xs) bs both),
        subst (AreRows b ks.internal level) (sym (at_children b ks s level xs h))
            (rows_there level (below xs) (at_below b ks s level xs h) (all_right Fits (nodes_blocks xs) bs both)),
      )

  bottoms_there : (xs : List GroupIndex) → AreAt b ks s 0 xs → All Fits (flat_map (index_blocks ks) xs)
      → All (IsLeafThere b ks.leaf) (map address_of xs)
  bottoms_there [] h fits = All-nil (IsLeafThere b ks.leaf)
  bottoms_there (Node n ys ∷ xs) h fits = absurd h.0
  bottoms_there (Bottom l ∷ xs) h fits =
      All-cons (IsLeafThere b ks.leaf) l.at (map address_of xs) (record {
        inside = All-head Fits (leaf_block ks l.at) (flat_map (index_blocks ks) xs) fits;
        spelled = subst (λ (es : List SnodEntry). SpellsSnod ks.leaf es (bytes_of b l.at (snod_len ks.leaf)))
            (leaf_there b ks s l h.0) h.0.spelled;
      }) (bottoms_there xs h.1 (All-tail Fits (leaf_block ks l.at) (flat_map (index_blocks ks) xs) fits))

  pub leaves_there : (height : ℕ) (xs : List GroupIndex) → AreAt b ks s height xs
      → All Fits (flat_map (index_blocks ks) xs)
      → All (IsLeafThere b ks.leaf) (row_down b ks.internal height (map address_of xs))
  leaves_there zero xs h fits = bottoms_there xs h fits
  leaves_there (suc level) xs h fits =
      subst (λ (l : List ℕ). All (IsLeafThere b ks.leaf) (row_down b ks.internal level l))
      (sym (at_children b ks s level xs h))
      (leaves_there level (below xs) (at_below b ks s level xs h)
      (all_right Fits (nodes_blocks xs) (flat_map (index_blocks ks) (below xs)) (apart level xs h fits)))

-- ---- how many are named

-- all nodes but those of the first row are named above
pub counted : (b : Array) (k height : ℕ) (ats : List ℕ)
    → length (row_children b k (nodes_down b k height ats)) + length ats
    ≡ length (nodes_down b k height ats) + length (row_down b k height ats)
counted b k zero ats = refl
counted b k (suc level) ats =
    let cs = row_children b k ats in
    let ns = nodes_down b k level cs in
    let named = ap (λ (l : List ℕ). length l) (flat_map-append (λ (at : ℕ). (node_at b k at).children) ats ns) in
    omega (arith, counted b k level cs, named, length-append cs (row_children b k ns), length-append ats ns)
