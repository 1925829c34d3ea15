-- Blocks of a group's index, and those that a name takes, are no longer than a segment may be.
use Rattle.std.proofs.Common.{◌≡◌, ◌⊎◌, inl, inr, ℕ, zero, suc, ◌+◌, ◌<◌, ◌≤◌, List, [], ◌∷◌, ◌++◌, replicate, refl, sym, ap, subst, arith}
use Rattle.std.proofs.Common.{⊎_elim, Bool, true, false}
use Rattle.std.specs.Prelude.{nat_le}
use Rattle.h5_base.specs.declared.extent.MemClass.TheVariants as class
use Rattle.h5_base.specs.declared.kinds.BlockKind.TheVariants as kind
use Rattle.std.specs.List.{AllZip, Contains}
use Rattle.std.specs.List.Sorted.{IsPermutation}
use Rattle.std.proofs.lemmas.List.Elements.{Contains-append_cases, Contains-append_left}
use Rattle.std.proofs.lemmas.List.Sorted.{Contains-permutation, IsPermutation-sym}
use Rattle.outside.specs.Array.{Array, bytes_of}
use Rattle.outside.specs.Blocks.{Block, placed}
use Rattle.block_space.specs.declared.plan.Take.{Take}
use Rattle.block_space.proofs.Apart.{contains_cons, contains_head, contains_tail, none_contained}
use Rattle.node_codec.specs.declared.heap.HeapHead.{HeapHead}
use Rattle.file_model.specs.Groups.{Found, GroupIndex, GroupIndexes, HasLinks, Ks, blocks_within, index_blocks}
use Rattle.file_model.specs.Index.{Bottom, Next, NoMore, Node}
use Rattle.file_model.specs.Limits.{most_segment}
use Rattle.object_model.specs.Tree.{Name}
use Rattle.group_room.specs.Index.{AreSmall}
use Rattle.group_room.specs.Room.{TakesName, group_takes, header_take, heap_take, leaf_take, node_take}
use Rattle.group_room.specs.Used.{name_end, segment_takes, wider_len}
use Rattle.group_edit.proofs.StandBlocks.{placed_some}

-- none of the blocks is longer than a segment may be
abbrev pub AreShort : List Block → Type 0
AreShort bs = (x : Block) → Contains bs x → x.len ≤ most_segment

no_block : AreShort []
no_block x has = absurd (none_contained x has)

one_more : (x : Block) (xs : List Block) → x.len ≤ most_segment → AreShort xs → AreShort (x ∷ xs)
one_more x xs first rest y has =
    ⊎_elim (λ is. subst (λ (b : Block). b.len ≤ most_segment) is first) (λ later. rest y later) (contains_cons x xs y has)

pub both_short : (xs ys : List Block) → AreShort xs → AreShort ys → AreShort (xs ++ ys)
both_short xs ys h k y has = ⊎_elim (λ l. h y l) (λ r. k y r) (Contains-append_cases xs ys y has)

pub short_moved : (xs ys : List Block) → IsPermutation xs ys → AreShort ys → AreShort xs
short_moved xs ys moved h y has = h y (Contains-permutation xs ys y moved has)

-- ---- an index

mutual
  index_short : (ks : Ks) → AreSmall ks → (x : GroupIndex) → AreShort (index_blocks ks x)
  index_short ks small (Bottom s) = one_more _ [] (omega (arith, small.leaf.1)) no_block
  index_short ks small (Node n xs) =
      one_more _ (blocks_within ks xs) (omega (arith, small.internal.1)) (within_short ks small xs)

  within_short : (ks : Ks) → AreSmall ks → (xs : GroupIndexes) → AreShort (blocks_within ks xs)
  within_short ks small NoMore = no_block
  within_short ks small (Next x xs) = both_short (index_blocks ks x) (blocks_within ks xs) (index_short ks small x)
      (within_short ks small xs)

placed_short : (at len : ℕ) → len ≤ most_segment → AreShort (placed at len)
placed_short at zero small = no_block
placed_short at (suc n) small = subst AreShort (sym (placed_some at (suc n) (omega arith))) (one_more _ [] small no_block)

-- all blocks of a group's links, where its segment is no longer
pub links_short : (b : Array) (ks : Ks) (tree heap : ℕ) (fs : List Found) (bs : List Block)
    (h : HasLinks b ks tree heap fs bs) → AreSmall ks → h.head.len ≤ most_segment → AreShort bs
links_short b ks tree heap fs bs h small most = subst AreShort (sym h.blocks)
    (one_more _ _ (omega arith) (both_short (placed h.head.segment_at h.head.len) (index_blocks ks h.index)
    (placed_short h.head.segment_at h.head.len most) (index_short ks small h.index)))

-- ---- a segment

-- where all blocks of a group are short, its segment is
pub segment_short : (b : Array) (ks : Ks) (tree heap : ℕ) (fs : List Found) (bs : List Block)
    (h : HasLinks b ks tree heap fs bs) → AreShort bs → h.head.len ≤ most_segment
segment_short b ks tree heap fs bs h short = go h.head.len refl
  where
    go : (n : ℕ) → h.head.len ≡ n → h.head.len ≤ most_segment
    go zero is = omega (arith, is)
    go (suc n) is =
        let x : Block = record { start = h.head.segment_at; len = h.head.len } in
        let has : Contains (placed h.head.segment_at h.head.len) x =
        subst (λ (xs : List Block). Contains xs x)
        (sym (placed_some h.head.segment_at h.head.len (omega (arith, is)))) (contains_head x []) in
        short x (subst (λ (xs : List Block). Contains xs x) (sym h.blocks)
        (contains_tail _ _ x (Contains-append_left (placed h.head.segment_at h.head.len) (index_blocks ks h.index) x has)))

-- ---- what is taken

-- blocks as long as takes that are short are short
pub taken_short : (ts : List Take) (ys : List Block) → AllZip (λ t y. y.len ≡ t.len) ts ys
    → ((t : Take) → Contains ts t → t.len ≤ most_segment) → AreShort ys
taken_short [] [] zip short = no_block
taken_short [] (y ∷ ys) zip short = absurd zip
taken_short (t ∷ ts) [] zip short = no_block
taken_short (t ∷ ts) (y ∷ ys) zip short = one_more y ys (omega (arith, zip.0, short t (contains_head t ts)))
    (taken_short ts ys zip.1 (λ u has. short u (contains_tail t ts u has)))

-- ---- takes

-- each of n alike is that one
pub of_alike : (n : ℕ) (x t : Take) → Contains (replicate n x) t → x ≡ t
of_alike zero x t has = absurd (none_contained t has)
of_alike (suc n) x t has = ⊎_elim (λ is. is) (λ later. of_alike n x t later) (contains_cons x (replicate n x) t has)

-- a new segment is of the class of local heaps
pub of_segment : (used len : ℕ) (name : Name) (t : Take) → Contains (segment_takes used len name) t
    → t.class ≡ class.LocalHeap
of_segment used len name t has = go (nat_le (name_end used name) len) refl has
  where
    go : (b : Bool) → nat_le (name_end used name) len ≡ b → Contains (segment_takes used len name) t
        → t.class ≡ class.LocalHeap
    go true fits there = absurd (none_contained t (rw fits at there))
    go false wide there = ⊎_elim (λ is. ap (λ (x : Take). x.class) (sym is)) (λ later. absurd (none_contained t later))
        (contains_cons (record { class = class.LocalHeap; len = wider_len used len name; kind = kind.Heap }) [] t
        (rw wide at there))

-- the takes of a new group and of a name are short where those of local heaps are
module _ (ks : Ks) (small : AreSmall ks) (index : GroupIndex) (level len : ℕ) (segment : List ℕ) (name : Name)
    (ts : List Take) (takes : TakesName ks index level len segment name ts)
    (heaps : (t : Take) → Contains ts t → t.class ≡ class.LocalHeap → t.len ≤ most_segment) where
  abbrev leaves : List Take
  leaves = replicate takes.leaves (leaf_take ks)

  abbrev nodes : List Take
  nodes = replicate takes.nodes (node_take ks)

  leaf_short : (t : Take) → Contains leaves t → t.len ≤ most_segment
  leaf_short t has = subst (λ (u : Take). u.len ≤ most_segment) (of_alike takes.leaves (leaf_take ks) t has)
      (omega (arith, small.leaf.1))

  node_short : (t : Take) → Contains nodes t → t.len ≤ most_segment
  node_short t has = subst (λ (u : Take). u.len ≤ most_segment) (of_alike takes.nodes (node_take ks) t has)
      (omega (arith, small.internal.1))

  pub name_short : (t : Take) → Contains ts t → t.len ≤ most_segment
  name_short t has =
      let there : Contains ((segment_takes takes.used len name ++ leaves) ++ nodes) t =
      subst (λ (us : List Take). Contains us t) takes.are has in
      elim (Contains-append_cases (segment_takes takes.used len name ++ leaves) nodes t there) [
        | inl first ↦ elim (Contains-append_cases (segment_takes takes.used len name) leaves t first) [
          | inl segment ↦ heaps t has (of_segment takes.used len name t segment)
          | inr leaf ↦ leaf_short t leaf
        ]
        | inr node ↦ node_short t node
      ]

-- those of a new group
module _ (ks : Ks) (small : AreSmall ks) where
  abbrev IsShortTake : Take → Type 0
  IsShortTake t = t.len ≤ most_segment

  of_four : (a b c e t : Take) → IsShortTake a → IsShortTake b → IsShortTake c → IsShortTake e
      → Contains (a ∷ b ∷ c ∷ e ∷ []) t → IsShortTake t
  of_four a b c e t first second third fourth has = elim (contains_cons a (b ∷ c ∷ e ∷ []) t has) [
    | inl is ↦ subst IsShortTake is first
    | inr more ↦ elim (contains_cons b (c ∷ e ∷ []) t more) [
      | inl is ↦ subst IsShortTake is second
      | inr rest ↦ elim (contains_cons c (e ∷ []) t rest) [
        | inl is ↦ subst IsShortTake is third
        | inr last ↦ elim (contains_cons e [] t last) [
          | inl is ↦ subst IsShortTake is fourth
          | inr none ↦ absurd (none_contained t none)
        ]
      ]
    ]
  ]

  pub group_short : (t : Take) → Contains (group_takes ks) t → t.len ≤ most_segment
  group_short t has = of_four (header_take 40) (node_take ks) (heap_take 32) (heap_take 88) t (omega arith)
      (omega (arith, small.internal.1)) (omega arith) (omega arith) has

-- ---- the old segment

-- where a group's segment is placed, it is one of its blocks
pub segment_there : (b : Array) (ks : Ks) (tree heap : ℕ) (fs : List Found) (bs : List Block)
    (h : HasLinks b ks tree heap fs bs) (x : Block) → Contains (placed h.head.segment_at h.head.len) x → Contains bs x
segment_there b ks tree heap fs bs h x has = subst (λ (xs : List Block). Contains xs x) (sym h.blocks)
    (contains_tail _ _ x (Contains-append_left (placed h.head.segment_at h.head.len) (index_blocks ks h.index) x has))
