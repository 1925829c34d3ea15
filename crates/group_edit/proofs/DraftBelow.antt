-- What a draft writes ends below 2^64, and what it takes isn't too much: it leaves room to count on.
use Rattle.std.proofs.Common.{◌≡◌, ℕ, ◌+◌, ◌*◌, ◌^◌, ◌<◌, ◌≤◌, List, [], ◌∷◌, ◌++◌, length, map, All, Option, None}
use Rattle.std.proofs.Common.{Some, refl, ◌∙◌, ap, subst, arith, cond, ◌==◌}
use Rattle.std.specs.List.{Contains, sum_by}
use Rattle.std.proofs.Math.Nat.{div-mul-le_self}
use Rattle.std.proofs.lemmas.List.{length-append, length-map}
use Rattle.std.proofs.lemmas.List.Elements.{All-append, All-cons, All-nil}
use Rattle.std.proofs.lemmas.List.Sums.{sum_by-append, sum_by-cons}
use Rattle.h5_base.specs.declared.extent.MemClass.{MemClass}
use Rattle.h5_base.specs.declared.extent.MemClass.TheVariants.{Super, Tree, Raw, GlobalHeap, LocalHeap, Header}
use Rattle.outside.specs.Blocks.{Block}
use Rattle.block_space.specs.Plans.{all_needed, classes, number_of, rounded, sum_of}
use Rattle.block_space.specs.declared.plan.EditPlan.{EditPlan}
use Rattle.block_space.specs.declared.plan.Take.{Take}
use Rattle.block_space.proofs.Apart.{contains_head, contains_tail}
use Rattle.node_codec.specs.Snod.{snod_len}
use Rattle.node_codec.specs.GroupNodes.{group_node_len}
use Rattle.file_model.specs.Groups.{Ks, leaf_block, node_block}
use Rattle.plan_pieces.specs.declared.image.Image.{Image}
use Rattle.plan_pieces.specs.declared.image.NewBlock.{NewBlock}
use Rattle.plan_pieces.specs.Images.{image_block, image_blocks, take_of, takes_of}
use Rattle.plan_pieces.specs.Plan.{EndsBelow, IsPlanOf, NeedsBelow}
use Rattle.group_room.specs.Index.{AreSmall}
use Rattle.group_room.specs.Room.{leaf_take, node_take}
use Rattle.group_layout.specs.Laying.{new_blocks, new_nodes, new_takes, node_takes, old_blocks}
use Rattle.group_layout.specs.declared.row.IndexRows.{IndexRows}
use Rattle.group_layout.specs.declared.row.Row.{Row}
use Rattle.group_edit.specs.Drafts.{LieBelow, heap_writes, new_fills, segment_fills}
use Rattle.group_edit.specs.declared.draft.Draft.{Draft}

-- ---- what is written

pub images_below : (is : List Image) → ((x : Block) → Contains (image_blocks is) x → x.start + x.len < 2 ^ 64)
    → All EndsBelow is
images_below [] below = All-nil EndsBelow
images_below (i ∷ is) below = All-cons EndsBelow i is
    (below (image_block i) (contains_head (image_block i) (image_blocks is)))
    (images_below is (λ x there. below x (contains_tail (image_block i) (image_blocks is) x there)))

pub writes_below : (ks : Ks) (draft : Draft) (writes : List Image) → LieBelow ks draft
    → image_blocks writes ≡ old_blocks ks draft.index → All EndsBelow (heap_writes draft.heap ++ writes)
writes_below ks draft writes below are = All-append EndsBelow (heap_writes draft.heap) writes below.heap
    (images_below writes (λ x there. below.nodes x (subst (λ (xs : List Block). Contains xs x) are there)))

-- ---- what is taken

-- the bytes that a block takes
abbrev share : Take → ℕ
share t = rounded t.len

pub rounded_at_most : (n : ℕ) → rounded n ≤ n + 7
rounded_at_most n = div-mul-le_self (n + 7) 8

pub leaf_share : (ks : Ks) → AreSmall ks → share (leaf_take ks) ≤ 2 ^ 17
leaf_share ks small = omega (arith, rounded_at_most (snod_len ks.leaf), small.leaf.1)

pub node_share : (ks : Ks) → AreSmall ks → share (node_take ks) ≤ 2 ^ 17
node_share ks small = omega (arith, rounded_at_most (group_node_len ks.internal), small.internal.1)

-- so many blocks alike
pub alike_share : (t : Take) (ats : List ℕ) → share t ≤ 2 ^ 17
    → sum_by share (map (λ (a : ℕ). t) ats) ≤ 2 ^ 17 * length ats
alike_share t [] small = omega arith
alike_share t (a ∷ ats) small =
    omega (arith, small, alike_share t ats small, sum_by-cons share t (map (λ (a : ℕ). t) ats))

pub nodes_share : (ks : Ks) (rows : List Row) → AreSmall ks
    → sum_by share (node_takes ks rows) ≤ 2 ^ 17 * length (new_nodes ks rows)
nodes_share ks [] small = omega arith
nodes_share ks (r ∷ rows) small = omega (
  arith,
  alike_share (node_take ks) r.new (node_share ks small),
  nodes_share ks rows small,
  sum_by-append share (map (λ (a : ℕ). node_take ks) r.new) (node_takes ks rows),
  length-append (map (node_block ks) r.new) (new_nodes ks rows),
  length-map r.new (node_block ks),
)

pub index_share : (ks : Ks) (index : IndexRows) → AreSmall ks
    → sum_by share (new_takes ks index) ≤ 2 ^ 17 * length (new_blocks ks index)
index_share ks index small = omega (
  arith,
  alike_share (leaf_take ks) index.leaves.new (leaf_share ks small),
  nodes_share ks index.rows small,
  sum_by-append share (map (λ (a : ℕ). leaf_take ks) index.leaves.new) (node_takes ks index.rows),
  length-append (map (leaf_block ks) index.leaves.new) (new_nodes ks index.rows),
  length-map index.leaves.new (leaf_block ks),
)

-- the segment, where there is one
pub segment_share : (segment : Option NewBlock) → sum_by share (takes_of (new_fills segment))
    ≤ sum_by (λ n. length n.image.bytes) (new_fills segment) + 7
segment_share None = omega arith
segment_share (Some n) = omega (arith, rounded_at_most (length n.image.bytes))

pub takes_append : (xs ys : List NewBlock) → takes_of (xs ++ ys) ≡ takes_of xs ++ takes_of ys
takes_append [] ys = refl
takes_append (x ∷ xs) ys = ap (λ l. take_of x ∷ l) (takes_append xs ys)

pub fills_most : (ks : Ks) (draft : Draft) (fills : List NewBlock) → AreSmall ks → LieBelow ks draft
    → takes_of fills ≡ new_takes ks draft.index
    → sum_by share (takes_of (segment_fills draft.heap ++ fills)) < 2 ^ 63
fills_most ks draft fills small below are =
    let segment = segment_fills draft.heap in
    let sums = ap (sum_by share) (takes_append segment fills) ∙ sum_by-append share (takes_of segment) (takes_of fills)
    in
    omega (
      arith,
      sums,
      ap (sum_by share) are,
      index_share ks draft.index small,
      segment_share draft.heap.segment,
      below.segment,
      below.few,
    )

pub fills_below : (ks : Ks) (draft : Draft) (fills : List NewBlock) → AreSmall ks → LieBelow ks draft
    → takes_of fills ≡ new_takes ks draft.index → NeedsBelow (segment_fills draft.heap ++ fills)
fills_below ks draft fills small below are = omega (arith, fills_most ks draft fills small below are)

-- ---- all classes

-- a block is counted in one class
one_class : (c : MemClass) (n : ℕ) → sum_by (λ d. cond (number_of c == number_of d) n 0) classes ≡ n
one_class Super n = omega arith
one_class Tree n = omega arith
one_class Raw n = omega arith
one_class GlobalHeap n = omega arith
one_class LocalHeap n = omega arith
one_class Header n = omega arith

-- what a block adds to a class
abbrev adds : MemClass → Take → ℕ
adds c t = cond (number_of t.class == number_of c) (rounded t.len) 0

all_classes : (ts : List Take) → sum_by (λ c. sum_of c ts) classes ≡ sum_by share ts
all_classes [] = omega arith
all_classes (t ∷ ts) = omega (
  arith,
  all_classes ts,
  one_class t.class (rounded t.len),
  sum_by-cons (adds Super) t ts,
  sum_by-cons (adds Tree) t ts,
  sum_by-cons (adds Raw) t ts,
  sum_by-cons (adds GlobalHeap) t ts,
  sum_by-cons (adds LocalHeap) t ts,
  sum_by-cons (adds Header) t ts,
  sum_by-cons share t ts,
)

-- what the plan of a draft takes leaves room to count on
pub plan_small : (ks : Ks) (draft : Draft) (old writes : List Image) (fills : List NewBlock) (plan : EditPlan)
    → AreSmall ks → LieBelow ks draft → takes_of fills ≡ new_takes ks draft.index
    → IsPlanOf old writes (segment_fills draft.heap ++ fills) plan → all_needed plan.needs < 2 ^ 63
plan_small ks draft old writes fills plan small below are is = omega (
  arith,
  all_classes plan.takes,
  ap (sum_by share) is.takes,
  fills_most ks draft fills small below are,
  is.needs Super,
  is.needs Tree,
  is.needs Raw,
  is.needs GlobalHeap,
  is.needs LocalHeap,
  is.needs Header,
)

-- ---- the number of blocks

one_segment : (segment : Option NewBlock) → length (new_fills segment) ≤ 1
one_segment None = omega arith
one_segment (Some n) = omega arith

alike_many : (t : Take) (ats : List ℕ) → length (map (λ (a : ℕ). t) ats) ≡ length ats
alike_many t ats = length-map ats (λ (a : ℕ). t)

nodes_many : (ks : Ks) (rows : List Row) → length (node_takes ks rows) ≡ length (new_nodes ks rows)
nodes_many ks [] = refl
nodes_many ks (r ∷ rows) = omega (
  arith,
  nodes_many ks rows,
  alike_many (node_take ks) r.new,
  length-map r.new (node_block ks),
  length-append (map (λ (a : ℕ). node_take ks) r.new) (node_takes ks rows),
  length-append (map (node_block ks) r.new) (new_nodes ks rows),
)

index_many : (ks : Ks) (index : IndexRows) → length (new_takes ks index) ≡ length (new_blocks ks index)
index_many ks index = omega (
  arith,
  nodes_many ks index.rows,
  alike_many (leaf_take ks) index.leaves.new,
  length-map index.leaves.new (leaf_block ks),
  length-append (map (λ (a : ℕ). leaf_take ks) index.leaves.new) (node_takes ks index.rows),
  length-append (map (leaf_block ks) index.leaves.new) (new_nodes ks index.rows),
)

pub plan_few : (ks : Ks) (draft : Draft) (old writes : List Image) (fills : List NewBlock) (plan : EditPlan)
    → LieBelow ks draft → takes_of fills ≡ new_takes ks draft.index
    → IsPlanOf old writes (segment_fills draft.heap ++ fills) plan → plan.needs.blocks ≤ 2 ^ 31
plan_few ks draft old writes fills plan below are is = omega (
  arith,
  is.count,
  ap (λ (ts : List Take). length ts) is.takes,
  length-map (segment_fills draft.heap ++ fills) take_of,
  length-append (segment_fills draft.heap) fills,
  one_segment draft.heap.segment,
  length-map fills take_of,
  ap (λ (ts : List Take). length ts) are,
  index_many ks draft.index,
  below.few,
)
