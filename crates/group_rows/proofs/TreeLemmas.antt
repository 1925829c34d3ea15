-- How far the rows of a tree were read.
use Rattle.std.proofs.Common.{◌≡◌, ℕ, suc, ◌+◌, ◌-◌, ◌<◌, ◌≤◌, List, [], ◌∷◌, ◌++◌, length, reverse, sym, ◌∙◌}
use Rattle.std.proofs.Common.{ap, subst, arith, inl, inr}
use Rattle.std.proofs.lemmas.Bool.{cases_lt}
use Rattle.std.proofs.lemmas.List.{append_assoc, append-nil, length-append, reverse-append}
use Rattle.std.proofs.lemmas.List.Concat.{flat_map-append}
use Rattle.std.proofs.lemmas.List.Elements.{All-head}
use Rattle.outside.specs.Array.{Array}
use Rattle.node_codec.specs.declared.group_node.GroupNode.{GroupNode}
use Rattle.group_rows.specs.declared.gathered.Gathered.{Gathered}
use Rattle.group_rows.specs.Rows.{node_at, row_children, row_down, nodes_down, rows_down, IsNodeThere, IsRow, AreRows}
use Rattle.group_rows.specs.Gathering.{AddsNodes}
use Rattle.group_rows.proofs.GatherLemmas.{nodes_then}

-- ---- how many rows there are

pub few_more : (n m level : ℕ) → m ≡ n + 1 → 0 < level → level < 256 → (0 < n → n + level < 256)
    → m + (level - 1) < 256
few_more n m level more some low h = elim (cases_lt 0 n) [
  | inl lt ↦ let sum = h lt in omega (arith, more, some, sum)
  | inr le ↦ omega (arith, more, some, low, le)
]

pub few_all : (n m level : ℕ) → m ≡ n → (0 < n → n + level < 256) → m < 256
few_all n m level same h = elim (cases_lt 0 n) [
  | inl lt ↦ let sum = h lt in omega (arith, same, sum)
  | inr le ↦ omega (arith, same, le)
]

-- ---- how far they were read

abbrev pub level_at : Array → (k tree : ℕ) → ℕ
level_at b k tree = (node_at b k tree).level

-- all nodes of the tree
abbrev pub all_nodes : Array → (k tree : ℕ) → List ℕ
all_nodes b k tree = nodes_down b k (suc (level_at b k tree)) (tree ∷ [])

-- The nodes above this row were read; the row has so many more below it, down to the symbol table nodes. The rows that
-- were read, the root's aside, stand in their order.
pub record IsDown (b : Array) (k tree level : ℕ) (row : List ℕ) (rows : List (List ℕ)) (old now : Gathered) : Type 0
  where
    pub done : List ℕ
    pub adds : AddsNodes b k done old now
    pub nodes : done ++ nodes_down b k level row ≡ all_nodes b k tree
    pub leaves : row_down b k level row ≡ row_down b k (suc (level_at b k tree)) (tree ∷ [])
    pub rows_are : rows_down b k level row ++ reverse rows
        ≡ rows_down b k (level_at b k tree) (row_children b k (tree ∷ []))
    pub there : AreRows b k (suc (level_at b k tree)) (tree ∷ []) → AreRows b k level row

module _ (b : Array) (k tree : ℕ) where
  first_row : (root : GroupNode) → root ≡ node_at b k tree → root.children ≡ row_children b k (tree ∷ [])
  first_row root is = ap (λ (n : GroupNode). n.children) is ∙ sym (append-nil (node_at b k tree).children)

  -- the row below the root
  pub down_first : (root : GroupNode) (rows : List (List ℕ)) (old now : Gathered) → root ≡ node_at b k tree → rows ≡ []
      → AddsNodes b k (tree ∷ []) old now → IsDown b k tree root.level root.children rows old now
  down_first root rows old now is none adds =
      let level : root.level ≡ level_at b k tree = ap (λ (n : GroupNode). n.level) is in
      let row = first_row root is in
      record {
        done = tree ∷ [];
        adds = adds;
        nodes = λ j. (tree ∷ []) ++ nodes_down b k (level j) (row j);
        leaves = λ j. row_down b k (level j) (row j);
        rows_are = ap (λ (l : List (List ℕ)). rows_down b k root.level root.children ++ reverse l) none
            ∙ append-nil (rows_down b k root.level root.children) ∙ (λ j. rows_down b k (level j) (row j));
        there = λ all. subst (λ (n : ℕ). AreRows b k n root.children) (sym level)
            (subst (AreRows b k (level_at b k tree)) (sym row) all.1);
      }

  pub root_there : (old : Gathered) → AreRows b k (suc (level_at b k tree)) (tree ∷ [])
      → length (row_children b k (all_nodes b k tree)) ≤ old.left
      → IsNodeThere b k tree × (length (node_at b k tree).children ≤ old.left)
  root_there old all room =
      let one : IsNodeThere b k tree × (level_at b k tree ≡ level_at b k tree) =
      All-head (λ (at : ℕ). IsNodeThere b k at × ((node_at b k at).level ≡ level_at b k tree)) tree [] all.0 in (
        one.0,
        omega (
          arith,
          room,
          length-append (node_at b k tree).children
              (row_children b k (nodes_down b k (level_at b k tree) (row_children b k (tree ∷ [])))),
        ),
      )

  module _ (level lower : ℕ) (row : List ℕ) (rows : List (List ℕ)) (old mid : Gathered) (is : level ≡ suc lower)
      (h : IsDown b k tree level row rows old mid) where
    here : IsDown b k tree (suc lower) row rows old mid
    here = subst (λ (n : ℕ). IsDown b k tree n row rows old mid) is h

    -- the row may be read
    pub row_there : AreRows b k (suc (level_at b k tree)) (tree ∷ [])
        → length (row_children b k (all_nodes b k tree)) ≤ old.left
        → IsRow b k lower row × (length (row_children b k row) ≤ mid.left)
    row_there all room =
        let rest = nodes_down b k lower (row_children b k row) in
        let split : row_children b k (all_nodes b k tree)
        ≡ row_children b k here.done ++ (row_children b k row ++ row_children b k rest) =
        ap (row_children b k) (sym here.nodes)
        ∙ flat_map-append (λ (at : ℕ). (node_at b k at).children) here.done (row ++ rest)
        ∙ ap (λ (l : List ℕ). row_children b k here.done ++ l)
        (flat_map-append (λ (at : ℕ). (node_at b k at).children) row rest) in
        let counts = ap (λ (l : List ℕ). length l) split in (
          (here.there all).0,
          omega (
            arith,
            room,
            counts,
            here.adds.left,
            length-append (row_children b k here.done) (row_children b k row ++ row_children b k rest),
            length-append (row_children b k row) (row_children b k rest),
          ),
        )

    -- once it is read
    pub down_more : (below : List ℕ) (more : List (List ℕ)) (new : Gathered) → below ≡ row_children b k row
        → more ≡ rows ++ row ∷ [] → AddsNodes b k row mid new → IsDown b k tree lower below more old new
    down_more below more new children kept adds = record {
      done = here.done ++ row;
      adds = nodes_then b k here.done row old mid new here.adds adds;
      nodes = append_assoc here.done row (nodes_down b k lower below)
          ∙ ap (λ (l : List ℕ). here.done ++ (row ++ nodes_down b k lower l)) children ∙ here.nodes;
      leaves = ap (row_down b k lower) children ∙ here.leaves;
      rows_are = (λ j. rows_down b k lower (children j) ++ reverse (kept j))
          ∙ ap (λ (l : List (List ℕ)). rows_down b k lower (row_children b k row) ++ l) (reverse-append rows (row ∷ []))
          ∙ sym (append_assoc (rows_down b k lower (row_children b k row)) (row ∷ []) (reverse rows)) ∙ here.rows_are;
      there = λ all. subst (AreRows b k lower) (sym children) (here.there all).1;
    }

  -- all of it
  module _ (level : ℕ) (row : List ℕ) (rows : List (List ℕ)) (old now : Gathered) (none : level ≤ 0)
      (h : IsDown b k tree level row rows old now) where
    last : IsDown b k tree 0 row rows old now
    last = let zero : level ≡ 0 = omega arith in subst (λ (n : ℕ). IsDown b k tree n row rows old now) zero h

    pub all_leaves : row ≡ row_down b k (suc (level_at b k tree)) (tree ∷ [])
    all_leaves = last.leaves

    pub all_rows : (turned : List (List ℕ)) → turned ≡ reverse rows
        → turned ≡ rows_down b k (level_at b k tree) (row_children b k (tree ∷ []))
    all_rows turned is = is ∙ last.rows_are

    pub all_added : AddsNodes b k (all_nodes b k tree) old now
    all_added = subst (λ (l : List ℕ). AddsNodes b k l old now) (sym (append-nil last.done) ∙ last.nodes) last.adds
