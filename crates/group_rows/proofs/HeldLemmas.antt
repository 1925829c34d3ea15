-- A group whose blocks are in the catalogue may be read.
use Rattle.std.proofs.Common.{◌≡◌, ℕ, zero, suc, ◌+◌, ◌<◌, ◌≤◌, ◌==◌, false, List, [], ◌∷◌, ◌++◌, length, All}
use Rattle.std.proofs.Common.{None, ◌^◌, refl, sym, ◌∙◌, ap, subst, arith}
use Rattle.std.specs.List.{flat_map}
use Rattle.std.proofs.lemmas.Bool.{ne_eqb}
use Rattle.std.proofs.lemmas.List.{append-nil, length-append}
use Rattle.std.proofs.lemmas.List.Elements.{All-nil, All-cons, All-head, All-tail}
use Rattle.std.proofs.lemmas.List.Sorted.{length_permutation, All-permutation}
use Rattle.outside.specs.Array.{Array, bytes_of}
use Rattle.outside.specs.Blocks.{Block, placed, AllInside, most_blocks}
use Rattle.outside.specs.Space.{SpaceView, AreRegions, bounds_of}
use Rattle.node_codec.specs.declared.heap.HeapHead.{HeapHead}
use Rattle.node_codec.specs.Heap.{SpellsHeap}
use Rattle.block_space.specs.Blocks.{array_of}
use Rattle.block_space.specs.declared.blocks.Blocks.{Blocks}
use Rattle.file_model.specs.Groups.{GroupIndex, address_of, index_blocks}
use Rattle.file_model.specs.Groups.{node_block, leaf_block}
use Rattle.file_model.specs.Limits.{most_segment}
use Rattle.group_rows.specs.declared.group.GroupAt.{GroupAt}
use Rattle.group_rows.specs.Rows.{row_children, row_down, nodes_down, AreRows, IsLeafThere}
use Rattle.group_rows.specs.Reading.{IsHeld}
use Rattle.group_rows.proofs.IndexLemmas.{all_down, Fits, all_left, all_right, rows_there, leaves_there, counted}
use Rattle.group_rows.proofs.TreeLemmas.{level_at, all_nodes}
use Rattle.group_rows.proofs.GroupLemmas.{root_level}

inside_fits : (v : SpaceView) → AreRegions v.regions v.ends → (met : List Block)
    → AllInside (bounds_of v None) met → All Fits met
inside_fits v regions [] inside = All-nil Fits
inside_fits v regions (x ∷ met) inside =
    All-cons Fits x met (omega (arith, inside.0.2, regions.high inside.0.0, regions.fits inside.0.0))
    (inside_fits v regions met inside.1)

placed_fits : (at len : ℕ) → All Fits (placed at len) → 0 < len → at + len < 2 ^ 64
placed_fits at zero h some = absurd (omega arith)
placed_fits at (suc n) h some =
    let e : (suc n == 0) ≡ false = ne_eqb (suc n) 0 (λ z. omega arith) in
    let one : All Fits (record { start = at; len = suc n } ∷ []) = rw e at h in
    All-head Fits (record { start = at; len = suc n }) [] one

-- What reading asks of a group.
pub record MayBeRead (b : Array) (group : GroupAt) : Type 0 where
  pub head : HeapHead
  pub spelled : SpellsHeap head (bytes_of b group.heap_at 32)
  pub heap_fits : group.heap_at + 32 < 2 ^ 64
  pub small : head.len ≤ most_segment
  pub segment_fits : 0 < head.len → head.segment_at + head.len < 2 ^ 64
  pub rows : AreRows b group.ks.internal (suc (level_at b group.ks.internal group.tree_at)) (group.tree_at ∷ [])
  pub leaves : All (IsLeafThere b group.ks.leaf)
      (row_down b group.ks.internal (suc (level_at b group.ks.internal group.tree_at)) (group.tree_at ∷ []))
  pub few : length (row_children b group.ks.internal (all_nodes b group.ks.internal group.tree_at)) ≤ most_blocks

module _ {V : Type 0} (view : V → SpaceView) (blocks : Blocks V) (group : GroupAt)
    (regions : AreRegions (view blocks.space).regions (view blocks.space).ends) (h : IsHeld view blocks group) where
  abbrev b : Array
  b = array_of view blocks

  abbrev k : ℕ
  k = group.ks.internal

  abbrev x : GroupIndex
  x = h.has.index

  abbrev seg : List ℕ
  seg = bytes_of b h.has.head.segment_at h.has.head.len

  own_fit : All Fits (record { start = group.heap_at; len = 32 }
      ∷ placed h.has.head.segment_at h.has.head.len ++ index_blocks group.ks x)
  own_fit =
      let all = All-permutation Fits h.met (h.own ++ h.others) h.among
      (inside_fits (view blocks.space) regions h.met (h.keeps.inside None)) in
      subst (All Fits) h.has.blocks (all_left Fits h.own h.others all)

  rest_fit : All Fits (placed h.has.head.segment_at h.has.head.len ++ index_blocks group.ks x)
  rest_fit = All-tail Fits (record { start = group.heap_at; len = 32 })
      (placed h.has.head.segment_at h.has.head.len ++ index_blocks group.ks x) own_fit

  index_fit : All Fits (flat_map (index_blocks group.ks) (x ∷ []))
  index_fit = subst (All Fits) (sym (append-nil (index_blocks group.ks x)))
      (all_right Fits (placed h.has.head.segment_at h.has.head.len) (index_blocks group.ks x) rest_fit)

  abbrev levels : level_at b k (address_of x) ≡ h.has.level
  levels = (root_level b group.ks seg h.has.level x h.has.stands).0

  level_is : level_at b k group.tree_at ≡ h.has.level
  level_is = ap (level_at b k) (sym h.has.root) ∙ levels

  -- at the root as the group names it
  at_root : (P : ℕ → List ℕ → Type 0) → P (suc h.has.level) (address_of x ∷ [])
      → P (suc (level_at b k group.tree_at)) (group.tree_at ∷ [])
  at_root P p =
      subst (λ (n : ℕ). P (suc n) (group.tree_at ∷ [])) (sym level_is)
      (subst (λ (a : ℕ). P (suc h.has.level) (a ∷ [])) h.has.root p)

  index_count : length (nodes_down b k (suc h.has.level) (address_of x ∷ []))
      + length (row_down b k (suc h.has.level) (address_of x ∷ [])) ≡ length (index_blocks group.ks x)
  index_count =
      let F : ℕ → List Block = λ at. node_block group.ks at ∷ [] in
      let G : ℕ → List Block = λ at. leaf_block group.ks at ∷ [] in
      let ns = nodes_down b k (suc h.has.level) (address_of x ∷ []) in
      let ls = row_down b k (suc h.has.level) (address_of x ∷ []) in
      let all = all_down b group.ks seg (λ n. node_block group.ks n.at ∷ []) (λ s. leaf_block group.ks s.at ∷ []) F G
      (λ level n cs one. refl) (λ s one. refl) (suc h.has.level) (x ∷ []) (h.has.stands, tt) in
      omega (
        arith,
        length_permutation (flat_map (index_blocks group.ks) (x ∷ [])) (flat_map F ns ++ flat_map G ls) all,
        length-append (flat_map F ns) (flat_map G ls),
        singles (node_block group.ks) ns,
        singles (leaf_block group.ks) ls,
        length-append (index_blocks group.ks x) [],
      )
    where
      singles : {A : Type 0} (f : ℕ → A) (xs : List ℕ) → length (flat_map (λ y. f y ∷ []) xs) ≡ length xs
      singles f [] = refl
      singles f (y ∷ ys) = ap suc (singles f ys)

  pub few : length (row_children b k (nodes_down b k (suc h.has.level) (address_of x ∷ []))) ≤ most_blocks
  few =
      let blocks_are = ap (λ (l : List Block). length l) h.has.blocks in
      let index = index_blocks group.ks x in
      let seg_blocks = placed h.has.head.segment_at h.has.head.len in
      omega (
        arith,
        counted b k (suc h.has.level) (address_of x ∷ []),
        index_count,
        h.keeps.few,
        length_permutation h.met (h.own ++ h.others) h.among,
        length-append h.own h.others,
        blocks_are,
        length-append seg_blocks index,
      )

  pub may_be_read : MayBeRead b group
  may_be_read = record {
    head = h.has.head;
    spelled = h.has.spelled;
    heap_fits = All-head Fits (record { start = group.heap_at; len = 32 })
        (placed h.has.head.segment_at h.has.head.len ++ index_blocks group.ks x) own_fit;
    small = h.small h.has.head h.has.spelled;
    segment_fits = placed_fits h.has.head.segment_at h.has.head.len
        (all_left Fits (placed h.has.head.segment_at h.has.head.len) (index_blocks group.ks x) rest_fit);
    rows = at_root (AreRows b k) (rows_there b group.ks seg (suc h.has.level) (x ∷ []) (h.has.stands, tt) index_fit);
    leaves = at_root (λ n l. All (IsLeafThere b group.ks.leaf) (row_down b k n l))
        (leaves_there b group.ks seg (suc h.has.level) (x ∷ []) (h.has.stands, tt) index_fit);
    few = at_root (λ n l. length (row_children b k (nodes_down b k n l)) ≤ most_blocks) few;
  }
