-- The blocks that the plan of a draft writes: apart from one another, and as before.
use Rattle.std.proofs.Common.{◌≡◌, ℕ, suc, ◌+◌, ◌<◌, ◌≤◌, ◌==◌, false, List, [], ◌∷◌, ◌++◌}
use Rattle.std.proofs.Common.{refl, sym, ◌∙◌, ap, subst, arith, inl, inr, None, Some, Option}
use Rattle.std.specs.List.Sorted.{IsPermutation}
use Rattle.std.proofs.lemmas.Bool.{ne_eqb}
use Rattle.std.proofs.lemmas.List.{append_assoc}
use Rattle.std.proofs.lemmas.List.Sorted.{IsPermutation-append_left, IsPermutation-append_right, IsPermutation-sym}
use Rattle.outside.specs.Array.{Array}
use Rattle.outside.specs.Blocks.{Block, AreApart, IsApart, AllApart, Agree, placed}
use Rattle.file_model.specs.Index.{Bottom, Node}
use Rattle.file_model.specs.Groups.{Ks, GroupIndex, IsIndex, address_of, index_blocks}
use Rattle.file_model.proofs.BlockOrder.{apart_order, agree_order}
use Rattle.file_model.proofs.FrameBytes.{agree_left, agree_right, agree_both, placed_same}
use Rattle.plan_pieces.specs.declared.image.Image.{Image}
use Rattle.plan_pieces.specs.Images.{HaveImages, image_block, image_blocks, images_of}
use Rattle.plan_pieces.specs.declared.image.NewBlock.{NewBlock}
use Rattle.group_room.specs.Index.{leaf_ats, level_of, rows_below}
use Rattle.group_facts.specs.Rows.{blocks_by_rows}
use Rattle.group_facts.proofs.RowBlocks.{rows_are_blocks}
use Rattle.group_heap.specs.declared.heap.Heap.{Heap}
use Rattle.group_heap.specs.Edits.{LiesBeside, MaybePart, part_images, segment_images}
use Rattle.group_edit.specs.Drafts.{new_fills}

-- ---- a block within another

flipped : (x y : Block) → AreApart x y → AreApart y x
flipped x y (inl h) = inr h
flipped x y (inr h) = inl h

-- a block lies within another
abbrev Within : Block → Block → Type 0
Within x s = (s.start ≤ x.start) × (x.start + x.len ≤ s.start + s.len)

narrow_one : (s x y : Block) → Within x s → AreApart s y → AreApart x y
narrow_one s x y (low, high) (inl k) = inl (omega arith)
narrow_one s x y (low, high) (inr k) = inr (omega arith)

narrow : (s x : Block) → Within x s → (ys : List Block) → IsApart s ys → IsApart x ys
narrow s x w [] h = tt
narrow s x w (y ∷ ys) h = (narrow_one s x y w h.0, narrow s x w ys h.1)

narrow_among : (h s x : Block) (rs : List Block) → Within x s → AllApart (h ∷ s ∷ rs) → AllApart (h ∷ x ∷ rs)
narrow_among h s x rs w all = (
  (flipped x h (narrow_one s x h w (flipped h s all.0.0)), all.0.1),
  (narrow s x w rs all.1.0, all.1.1),
)

-- blocks in between left out
apart_last : (h : Block) (ps rs : List Block) → IsApart h (ps ++ rs) → IsApart h rs
apart_last h [] rs a = a
apart_last h (p ∷ ps) rs a = apart_last h ps rs a.1

all_last : (ps rs : List Block) → AllApart (ps ++ rs) → AllApart rs
all_last [] rs a = a
all_last (p ∷ ps) rs a = all_last ps rs a.1

-- ---- the segment and its part

abbrev pub place : Heap → List Block
place heap = placed heap.head.segment_at heap.head.len

abbrev pub part_blocks : Option Image → List Block
part_blocks part = image_blocks (part_images part)

pub placed_some : (at n : ℕ) → 0 < n → placed at n ≡ record { start = at; len = n } ∷ []
placed_some at n some = let e : (n == 0) ≡ false = ne_eqb n 0 (λ z. omega (arith, z, some)) in rw e refl

module _ (heap : Heap) (used next : ℕ) where
  pub part_apart : (part : Option Image) → MaybePart heap used next part → (h : Block) (rs : List Block)
      → AllApart ((h ∷ place heap) ++ rs) → AllApart ((h ∷ part_blocks part) ++ rs)
  part_apart None m h rs all = (apart_last h (place heap) rs all.0, all_last (place heap) rs all.1)
  part_apart (Some i) m h rs all =
      let at = heap.head.segment_at in
      let len = heap.head.len in
      let is = placed_some at len (omega (arith, m.some, m.behind, m.inside)) in
      narrow_among h (record { start = at; len = len }) (image_block i) rs
      (omega (arith, m.behind), omega (arith, m.inside))
      (subst (λ (ps : List Block). AllApart ((h ∷ ps) ++ rs)) is all)

  pub part_agree : (part : Option Image) → MaybePart heap used next part → (b c : Array)
      → Agree b c (place heap) → Agree b c (part_blocks part)
  part_agree None m b c agree = tt
  part_agree (Some i) m b c agree =
      let same = placed_same b c heap.head.segment_at heap.head.len agree in
      (λ a low high. same a (omega (arith, low, m.behind)) (omega (arith, high, m.inside)), tt)

  -- an address of the segment outside of the part
  pub part_beside : (part : Option Image) → (h : Block) (rs : List Block) → AllApart ((h ∷ place heap) ++ rs)
      → (a : ℕ) → heap.head.segment_at ≤ a → a < heap.head.segment_at + heap.head.len → LiesBeside a part
      → IsApart (record { start = a; len = 1 }) ((h ∷ part_blocks part) ++ rs)
  part_beside part h rs all a low high outside = go part outside
    where
      alone : AllApart (h ∷ record { start = a; len = 1 } ∷ rs)
      alone = narrow_among h (record { start = heap.head.segment_at; len = heap.head.len })
          (record { start = a; len = 1 }) rs (omega arith, omega arith)
          (subst (λ (ps : List Block). AllApart ((h ∷ ps) ++ rs))
          (placed_some heap.head.segment_at heap.head.len (omega arith)) all)

      go : (part : Option Image) → LiesBeside a part
          → IsApart (record { start = a; len = 1 }) ((h ∷ part_blocks part) ++ rs)
      go None out = (flipped h (record { start = a; len = 1 }) alone.0.0, alone.1.0)
      go (Some i) (inl before) =
          (flipped h (record { start = a; len = 1 }) alone.0.0, (inl (omega arith), alone.1.0))
      go (Some i) (inr behind) =
          (flipped h (record { start = a; len = 1 }) alone.0.0, (inr (omega arith), alone.1.0))

-- ---- all that is written and taken

-- the nodes in another order, and what is taken by its images
pub all_among : (h : Block) (ps is ns taken ts : List Block) → IsPermutation is ns → taken ≡ ts
    → AllApart (((h ∷ ps) ++ is) ++ taken) → AllApart ((h ∷ ps) ++ (ns ++ ts))
all_among h ps is ns taken ts nodes are all =
    let moved : IsPermutation ((h ∷ ps) ++ (is ++ taken)) ((h ∷ ps) ++ (ns ++ taken)) =
    IsPermutation-append_right (h ∷ ps) _ _ (IsPermutation-append_left taken is ns nodes) in
    let ordered = apart_order _ _ moved (subst AllApart (append_assoc (h ∷ ps) is taken) all) in
    subst (λ (xs : List Block). AllApart ((h ∷ ps) ++ (ns ++ xs))) are ordered

pub agree_among : (b c : Array) (h : Block) (ps qs is ns : List Block) → IsPermutation is ns
    → (Agree b c ps → Agree b c qs) → Agree b c ((h ∷ ps) ++ is) → Agree b c ((h ∷ qs) ++ ns)
agree_among b c h ps qs is ns nodes to agree = (
  agree.0,
  agree_both b c qs ns (to (agree_left b c ps is agree.1))
      (agree_order b c is ns nodes (agree_right b c ps is agree.1)),
)

-- ---- images of two lists

pub have_left : (b : Array) (is js : List Image) → HaveImages b (is ++ js) → HaveImages b is
have_left b [] js have = tt
have_left b (i ∷ is) js have = (have.0, have_left b is js have.1)

pub have_right : (b : Array) (is js : List Image) → HaveImages b (is ++ js) → HaveImages b js
have_right b [] js have = have
have_right b (i ∷ is) js have = have_right b is js have.1

pub have_all : (b : Array) (is js : List Image) → HaveImages b is → HaveImages b js → HaveImages b (is ++ js)
have_all b [] js have more = more
have_all b (i ∷ is) js have more = (have.0, have_all b is js have.1 more)

pub segment_is : (n : Option NewBlock) → images_of (new_fills n) ≡ segment_images n
segment_is None = refl
segment_is (Some n) = refl

-- ---- the blocks of an index by what was read of it

level_is : (b : Array) (ks : Ks) (s : List ℕ) (level : ℕ) (x : GroupIndex) → IsIndex b ks s (suc level) x
    → level_of x ≡ level
level_is b ks s level (Bottom l) h = absurd h
level_is b ks s level (Node n xs) h = h.0.level_is

pub read_blocks : (b : Array) (ks : Ks) (s : List ℕ) (level : ℕ) (x : GroupIndex) (leaves : List ℕ)
    (rows : List (List ℕ)) (tree : ℕ) → IsIndex b ks s (suc level) x → leaves ≡ leaf_ats x
    → rows ≡ rows_below x (level_of x) → address_of x ≡ tree
    → IsPermutation (blocks_by_rows ks leaves rows tree) (index_blocks ks x)
read_blocks b ks s level x leaves rows tree h leafs are root =
    let all = rows_are_blocks b ks s level x h in
    let same : blocks_by_rows ks (leaf_ats x) (rows_below x level) (address_of x)
    ≡ blocks_by_rows ks leaves rows tree =
    ap (λ (n : ℕ). blocks_by_rows ks (leaf_ats x) (rows_below x n) (address_of x)) (sym (level_is b ks s level x h))
    ∙ (λ i. blocks_by_rows ks (sym leafs i) (sym are i) (root i)) in
    IsPermutation-sym _ _ (subst (IsPermutation (index_blocks ks x)) same all)
