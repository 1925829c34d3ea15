-- The superblock and the root of a file, put together with all below it.
use Rattle.std.proofs.Common.{◌≡◌, ◌≢◌, ℕ, suc, ◌≤◌, ◌<◌, min, true, false, Bool, IsTrue, List, [], ◌∷◌, ◌++◌, map, Option, Some, None, Result, Ok, Err, IfOk, IfErr, IfSome, refl, sym, ◌∙◌, ap, subst, arith, inl, inr, lit<}
use Rattle.std.specs.List.{Contains}
use Rattle.std.specs.Prelude.{is_some}
use Rattle.std.proofs.lemmas.List.{append_assoc}
use Rattle.std.proofs.lemmas.List.FromFn.{length-map-range_with_len}
use Rattle.outside.specs.Array.{Array, bytes_of}
use Rattle.outside.specs.Blocks.{Block, Bounds, AllSome, AreKept, AreTaken}
use Rattle.outside.proofs.Taken.{taken_first}
use Rattle.outside.specs.Space.{SpaceView, bounds_of}
use Rattle.h5_base.specs.declared.extent.MemClass.TheVariants as class
use Rattle.h5_base.specs.declared.kinds.BlockKind.TheVariants as kinds
use Rattle.h5_base.specs.declared.kinds.What.TheVariants as what
use Rattle.block_space.specs.Blocks.{Keeps, Takes, space_of}
use Rattle.block_space.specs.declared.blocks.Blocks.{Blocks}
use Rattle.h5_base.specs.declared.refusal.Stop.{Stop}
use Rattle.h5_base.specs.Refusals.{refusal_of}
use Rattle.block_space.proofs.Stopped.{if_some}
use Rattle.block_space.proofs.Taken.{taken_over}
use Rattle.super_codec.specs.Super.{Spells, Fits, super_len, stop_of}
use Rattle.super_codec.specs.declared.superblock.Superblock.{Superblock}
use Rattle.super_codec.specs.declared.superblock.SuperStop.{SuperStop}
use Rattle.object_model.specs.Tree.{Group, Leaf, Empty, Link, names, IsOrdered, AreOrderedBelow, AreOrdered}
use Rattle.file_model.specs.Headers.{Met, messages_of}
use Rattle.file_model.specs.Objects.{has, IsGroupHeader}
use Rattle.file_model.specs.Groups.{Ks, HasLinks}
use Rattle.file_model.specs.Holds.{GroupAt, Full, FullLinks, IsGroup, IsHeld, AreHeld, founds, blocks_in, ks_of, HasDriver, super_bytes_of, HoldsFull}
use Rattle.file_model.specs.Limits.{IsSmallHeap, IsWithinLimits}
use Rattle.file_model.specs.Laws.{all_blocks}
use Rattle.h5_base.specs.declared.refusal.Refusal.{Refusal}
use Rattle.h5_base.specs.declared.refusal.Refusal.TheVariants.{Unsupported}
use Rattle.outside.specs.Blocks.{IsBlockRefused}
use Rattle.file_model.specs.Refusals.{IsHeaderRefused}
use Rattle.file_model.specs.RefusedGroups.{IsTableRefused}
use Rattle.file_model.proofs.NoRefusal.{not_refused_file}
use Rattle.file_model.specs.RefusedTree.{IsRootRefused, RootHeader, LaterRoot, NoGroup, InGroup, IsFileRefused, NoSuper, InTree, super_block, of_super}
use Rattle.file_model.proofs.NoFault.{IsFree, not_refused}
use Rattle.header_reader.specs.Gathered.{MakesNode}
use Rattle.header_reader.specs.Found.{IsFound}
use Rattle.header_reader.specs.declared.reading.Header.TheVariants as header
use Rattle.tree_nodes.specs.declared.node.Node.{Node}
use Rattle.tree_nodes.specs.declared.node.Node.TheVariants as node
use Rattle.tree_nodes.specs.declared.node.NodeId.{NodeId}
use Rattle.tree_nodes.specs.declared.tree.ObjectTree.{ObjectTree}
use Rattle.tree_nodes.specs.Nodes.{bare, is_group, link_names}
use Rattle.tree_nodes.specs.Entries.{superblock_of, root_of, entry_of, object_count}
use Rattle.tree_nodes.specs.Shown.{Keyed, KeyedLinks, Shows, AreKept as AreNodesKept, AreKeptBelow, child_links}
use Rattle.object_tree.specs.Opened.{Matches, IsOpened, file_blocks}
use Rattle.object_tree.specs.Sound.{HasSoundNodes, IsSoundTree}
use Rattle.object_tree.specs.Grown.{Grows, AreOpened, IsGroupRefused, HasRoot, table_of}
use Rattle.object_tree.proofs.NodesFound.{short_of, was_read}
use Rattle.object_tree.proofs.Objects.{group_node, table_group, group_objects, group_below}
use Rattle.object_tree.proofs.Growth.{not_none}
use Rattle.object_tree.proofs.SoFar.{counts_same}

-- ---- the superblock

whole_super : (s : Superblock) (b : Array) (e : Bounds) → Spells s (super_bytes_of b e)
    → super_len s.version ≤ e.ends class.Super
whole_super s b e h =
    let version = ap (λ (x : Superblock). super_len x.version) h.value in
    let len = length-map-range_with_len b 0 (min 100 (e.ends class.Super)) in
    let whole = h.block.whole in
    omega (arith, version, len, whole)

some_super : (version : ℕ) → 0 < super_len version
some_super version = omega arith

-- the superblock's block is the first, and isn't refused
pub super_free : (s : Superblock) (b : Array) (e : Bounds) → e.starts class.Super ≡ 0
    → Spells s (super_bytes_of b e) → IsFree e [] (super_block s)
super_free s b e first h = record {
  some = some_super s.version;
  others = tt;
  apart = tt;
  inside = (class.Super, omega (arith, first), omega (arith, whole_super s b e h));
  few = lit< tt;
}

pub super_not_refused : (s : Superblock) (b : Array) (e : Bounds) (stop : Stop) → e.starts class.Super ≡ 0
    → Spells s (super_bytes_of b e) → IfSome (refusal_of stop) (IsBlockRefused e [] (super_block s) kinds.Super)
    → IfSome (refusal_of stop) (IsFileRefused b e)
super_not_refused s b e stop first h x =
    if_some (refusal_of stop) (IsBlockRefused e [] (super_block s) kinds.Super) (IsFileRefused b e) (λ r y. absurd
    (not_refused e [] (super_block s) kinds.Super r (super_free s b e first h) y)) x

-- what was read is all that may spell the superblock
pub super_read : {V : Type 0} (view : V → SpaceView) (first here : V) (now items : List ℕ) (len end : ℕ)
    → here ≡ first → end ≡ (view here).ends class.Super → len ≡ min 100 end
    → items ≡ bytes_of (view first).array 0 len → now ≡ items
    → now ≡ super_bytes_of (view first).array (bounds_of (view first) None)
super_read {V = V} view first here now items len end same is most read value =
    value ∙ read ∙ ap (bytes_of (view first).array 0) (most ∙ ap (min 100) (is
    ∙ ap (λ (x : V). (view x).ends class.Super) same))

ok_or_err : {T E : Type 0} (r : Result T E) (x : T) (y : E) → r ≡ Ok x → r ≡ Err y → ⊥
ok_or_err r x y h k = cc

pub no_super : (b : Array) (e : Bounds) (bytes : List ℕ) (r : Result Superblock SuperStop) (stop : SuperStop)
    → bytes ≡ super_bytes_of b e → ((s : Superblock) → Spells s bytes → r ≡ Ok s) → r ≡ Err stop
    → stop ≡ stop_of bytes → IsFileRefused b e (of_super stop)
no_super b e bytes r stop same only is reason =
    NoSuper (λ s h. ok_or_err r s stop (only s (subst (Spells s) (sym same) h)) is) (ap of_super reason
    ∙ ap (λ (x : List ℕ). of_super (stop_of x)) same)

-- ---- a root that is no group

pub no_table : (ms : List Met) (at : ℕ) (n : Node) → table_of n ≡ None → MakesNode ms at n → has 0x11 ms ≡ false
no_table ms at (node.Group head tree heap) none h = absurd cc
no_table ms at (node.Dataset header shape elem fill layout filtered) none h = h.2.no_table
no_table ms at (node.Soft text) none h = absurd h
no_table ms at (node.Other header) none h = h.1.no_table

-- ---- a tree in order

names_in : (kls : KeyedLinks) → link_names (child_links kls) ≡ names kls
names_in Empty = refl
names_in (Link n t rest) = ap (λ ns. n ∷ ns) (names_in rest)

mutual
  ordered_tree : (kept : ObjectTree) (t : Keyed) → HasSoundNodes kept → AreNodesKept (entry_of kept) t → IsOrdered t
  ordered_tree kept (Group x ls) sound h = (
    subst AreOrdered (names_in ls) (sound.entries x.key _ h.1).ordered,
    ordered_below kept ls sound h.2,
  )
  ordered_tree kept (Leaf x) sound h = tt

  ordered_below : (kept : ObjectTree) (ls : KeyedLinks) → HasSoundNodes kept → AreKeptBelow (entry_of kept) ls
      → AreOrderedBelow ls
  ordered_below kept Empty sound h = tt
  ordered_below kept (Link n t rest) sound h = (ordered_tree kept t sound h.0, ordered_below kept rest sound h.1)

-- a tree of one node, to which these links were added
pub root_grown : (old new : ObjectTree) (n : Node) (kls : KeyedLinks) (id : NodeId) → id ≡ root_of old
    → entry_of old (root_of old).key ≡ Some (bare n) → ((k : ℕ) → k ≢ (root_of old).key → entry_of old k ≡ None)
    → object_count old ≡ 1 → Grows old new id.key kls
    → HasRoot new n kls
root_grown old new n kls id is made others one grows = record {
  entry = ap (entry_of new) place ∙ grows.here n (ap (entry_of old) (ap (λ (i : NodeId). i.key) is) ∙ made);
  below = grows.kept;
  distinct = grows.distinct;
  apart = λ has. not_none (bare n) (sym made ∙ ap (entry_of old) (ap (λ (i : NodeId). i.key) (sym is) ∙ sym place)
      ∙ grows.fresh (root_of new).key has);
  only = λ k other apart. grows.others k (λ same. other (same ∙ sym place)) apart
      ∙ others k (λ same. other (same ∙ ap (λ (i : NodeId). i.key) (sym grows.root)));
  objects = omega (arith, grows.objects, one);
}
  where
    place : (root_of new).key ≡ id.key
    place = ap (λ (i : NodeId). i.key) (grows.root ∙ sym is)

-- the tree that is kept from the root on
abbrev root_tree : ObjectTree → Node → KeyedLinks → Keyed
root_tree kept n kls = Group (record { key = (root_of kept).key; node = n }) kls

root_shown : (kept : ObjectTree) (n : Node) (kls : KeyedLinks) → is_group n ≡ true → HasRoot kept n kls
    → HasSoundNodes kept → Shows kept (root_tree kept n kls)
root_shown kept n kls group root sound = record {
  root = refl;
  nodes = (group, root.entry, root.below);
  ordered = ordered_tree kept (root_tree kept n kls) sound (group, root.entry, root.below);
  distinct = (root.apart, root.distinct);
  objects = omega (arith, root.objects, group_objects n group);
}

pub root_sound : (kept : ObjectTree) (n : Node) (kls : KeyedLinks) → is_group n ≡ true → HasRoot kept n kls
    → HasSoundNodes kept → Fits (superblock_of kept) → IsSoundTree kept
root_sound kept n kls group root sound fits = record {
  k_values = fits;
  nodes = sound;
  tree = root_tree kept n kls;
  shown = root_shown kept n kls group root sound;
  only = λ k lacks. root.only k (λ same. lacks (inl (sym same))) (λ below. lacks (inr below));
}

-- ---- what is kept

some_all : (met : List Block) → ((x : Block) → Contains met x → 0 < x.len) → AllSome met
some_all [] h = tt
some_all (m ∷ ms) h = (h m (0, omega arith, refl), some_all ms (λ x c. h x (suc c.0, omega (arith, c.1), c.2)))

pub kept_all : {V : Type 0} (view : V → SpaceView) (blocks : Blocks V) (met : List Block) (own : Option (List ℕ))
    → Keeps view blocks met → AreKept (bounds_of (view blocks.space) own) met
kept_all view blocks met own h = record { some = some_all met h.lists.filled; apart = h.lists.apart; inside = h.inside own }

-- ---- the opened tree

-- an opened tree of a file, and its blocks in the catalogue
abbrev pub OpenedWhole : {V : Type 0} → (V → SpaceView) → Blocks V → Array → Bounds → ObjectTree → Type 0
OpenedWhole view new b e kept = (o : IsOpened b e kept) × Keeps view new (file_blocks o)

opened_as : {V : Type 0} (view : V → SpaceView) (new : Blocks V) (b : Array) (e : Bounds) (kept : ObjectTree)
    (s : Superblock) (g : GroupAt) (ls : FullLinks) (t : Keyed) → superblock_of kept ≡ s
    → (full : HoldsFull b e s g ls) → IsWithinLimits b (all_blocks s full.driver (Group g ls)) (Group g ls)
    → Keeps view new (all_blocks s full.driver (Group g ls)) → Shows kept t → Matches t (Group g ls)
    → OpenedWhole view new b e kept
opened_as view new b e kept s g ls t is full within keeps shown same =
    let (held, small, all) = subst (λ (x : Superblock). (f : HoldsFull b e x g ls)
    × IsWithinLimits b (all_blocks x f.driver (Group g ls)) (Group g ls)
    × Keeps view new (all_blocks x f.driver (Group g ls))) (sym is) (full, within, keeps) in
    (record { root = g; links = ls; full = held; within = small; tree = t; shown = shown; same = same }, all)

-- what was read below the root
abbrev pub BelowRoot : {V : Type 0} → (V → SpaceView) → (mid new : Blocks V) → Array → Ks → (tree heap : ℕ)
    → KeyedLinks → Type 0
BelowRoot view mid new b ks tree heap kls = (met : List Block) → Keeps view mid met → (index : List Block)
    × (ls : FullLinks) × HasLinks b ks tree heap (founds ls) index × IsSmallHeap b heap × AreOpened b ks 32 kls ls
    × Keeps view new (met ++ (index ++ blocks_in ls))

root_opened : {V : Type 0} (view : V → SpaceView) (old mid new : Blocks V) (v : SpaceView) (b : Array) (s : Superblock)
    (head tree heap : ℕ) (kept : ObjectTree) (kls : KeyedLinks) → v.array ≡ b → view new.space ≡ v
    → Spells s (super_bytes_of v.array (bounds_of v None)) → Keeps view old (super_block s ∷ [])
    → Takes view old mid (IsFound v.array s.root.header_at (header.Known (node.Group head tree heap)))
    → superblock_of kept ≡ s → object_count kept ≤ 65536 → HasRoot kept (node.Group head tree heap) kls
    → HasSoundNodes kept → BelowRoot view mid new b (ks_of s) tree heap kls
    → OpenedWhole view new v.array (bounds_of v None) kept
root_opened view old mid new v b s head tree heap kept kls same now spelled taken first is few root sound rest =
    let (index, ls, links, small, opened, all) = below (super_block s ∷ bs) keeps in
    let g : GroupAt = record { header_at = at; tree_at = tree; heap_at = heap; own = bs ++ index } in
    let group : IsGroup v.array (ks_of s) g (founds ls) =
    record { prefix = found.0; parts = found.1; header = found.2; table = found.3.1; index = index; links = links; blocks = ap (λ (l : List Block). l ++ index) found.4 } in
    let every = subst (Keeps view new)
    (ap (λ (l : List Block). super_block s ∷ l) (sym (append_assoc bs index (blocks_in ls)))) all in
    let full : HoldsFull v.array (bounds_of v None) s g ls =
    record {
      super = spelled;
      driver = [];
      driver_is = refl;
      root = refl;
      held = (group, opened.held);
      kept = here
          (super_block s ∷ ((bs ++ index) ++ blocks_in ls)) every;
    } in
    let counted = counts_same kls ls opened.same in
    let within : IsWithinLimits v.array (all_blocks s [] (Group g ls)) (Group g ls) =
    record {
      depth = omega (arith, opened.depth);
      objects = omega (arith, counted, root.objects, few);
      block_count = every.few;
      parts = (short_of v.array at found.0 found.1 found.2 found.5, small, opened.fit);
    } in
    opened_as view new v.array (bounds_of v None) kept s g ls (root_tree kept (node.Group head tree heap) kls) is full
    within every (root_shown kept (node.Group head tree heap) kls refl root sound)
    ((found.3.0, refl, refl), opened.same)
  where
    at : ℕ
    at = s.root.header_at

    bs : List Block
    bs = (first (super_block s ∷ []) taken).0

    found : IsFound v.array at (header.Known (node.Group head tree heap)) bs
    found = (first (super_block s ∷ []) taken).1

    keeps : Keeps view mid (super_block s ∷ bs)
    keeps = (first (super_block s ∷ []) taken).2

    below : BelowRoot view mid new v.array (ks_of s) tree heap kls
    below = subst (λ (x : Array). BelowRoot view mid new x (ks_of s) tree heap kls) (sym same) rest

    here : (l : List Block) → Keeps view new l → AreKept (bounds_of v None) l
    here l h = subst (λ (x : SpaceView). AreKept (bounds_of x None) l) now (kept_all view new l None h)

-- ---- the refused root

-- the superblock's block was taken first
pub root_refused : (b : Array) (e : Bounds) (s : Superblock) (r : Refusal) → Spells s (super_bytes_of b e)
    → e.own ≡ None → AreTaken e [] (super_block s ∷ [])
    → IsRootRefused b e (ks_of s) (super_block s ∷ []) s.root.header_at r → IsFileRefused b e r
root_refused b e s r spelled own taken x = InTree s [] spelled (subst (λ (o : Option
    (List ℕ)). HasDriver b o s.driver_at []) (sym own) refl) taken x

pub root_header_refused : (b : Array) (e : Bounds) (s : Superblock) (stop : Stop) → Spells s (super_bytes_of b e)
    → e.own ≡ None → AreTaken e [] (super_block s ∷ [])
    → IfSome (refusal_of stop) (IsHeaderRefused b e (super_block s ∷ []) s.root.header_at)
    → IfSome (refusal_of stop) (IsFileRefused b e)
root_header_refused b e s stop spelled own taken x =
    if_some (refusal_of stop) (IsHeaderRefused b e (super_block s ∷ []) s.root.header_at) (IsFileRefused b e)
    (λ r y. root_refused b e s r spelled own taken (RootHeader y)) x

-- a group has a symbol table message
has_table : (ms : List Met) (tree heap : ℕ) → IsGroupHeader ms tree heap → has 0x11 ms ≡ true
has_table ms tree heap g = ap is_some g.first

root_below_refused : (b : Array) (e : Bounds) (s : Superblock) (head tree heap : ℕ) (bs : List Block) (stop : Stop)
    → Spells s (super_bytes_of b e) → e.own ≡ None
    → AreTaken e [] (super_block s ∷ []) → AreTaken e (super_block s ∷ []) bs
    → (f : IsFound b s.root.header_at (header.Known (node.Group head tree heap)) bs)
    → IfSome (refusal_of stop) (IsGroupRefused b e (ks_of s) 32 1 (super_block s ∷ bs) tree heap)
    → IfSome (refusal_of stop) (IsFileRefused b e)
root_below_refused b e s head tree heap bs stop spelled own first taken f x =
    if_some (refusal_of stop) (IsGroupRefused b e (ks_of s) 32 1 (super_block s ∷ bs) tree heap) (IsFileRefused b e)
    (λ r y. root_refused b e s r spelled own first (InGroup f.0 f.1 (was_read b e
    (super_block s ∷ []) bs s.root.header_at f.0 f.1 f.2 f.4 f.5 taken) (has_table
    (messages_of f.1) tree heap f.3.1)
    (group_below b e (ks_of s) 32 0 1 s.root.header_at tree heap (super_block s ∷ []) bs r (omega arith) taken
    (f.0, f.1, f.2, f.3.1, f.3.0, f.4, f.5) refl y))) x

pub root_kind_refused : (b : Array) (e : Bounds) (s : Superblock) (n : Node) (bs : List Block)
    → Spells s (super_bytes_of b e) → e.own ≡ None → AreTaken e [] (super_block s ∷ [])
    → AreTaken e (super_block s ∷ []) bs → table_of n ≡ None → IsFound b s.root.header_at (header.Known n) bs
    → IsFileRefused b e (Unsupported what.Root)
root_kind_refused b e s n bs spelled own first taken none f =
    root_refused b e s (Unsupported what.Root) spelled own first
    (NoGroup f.0 f.1 (was_read b e (super_block s ∷ []) bs s.root.header_at f.0 f.1 f.2 f.4 f.5 taken)
    (no_table (messages_of f.1) s.root.header_at n none f.3) refl)

pub root_later_refused : (b : Array) (e : Bounds) (s : Superblock) (bs : List Block)
    → Spells s (super_bytes_of b e) → e.own ≡ None → AreTaken e [] (super_block s ∷ [])
    → AreTaken e (super_block s ∷ []) bs → IsFound b s.root.header_at header.Later bs
    → IsFileRefused b e (Unsupported what.Header)
root_later_refused b e s bs spelled own first taken f =
    root_refused b e s (Unsupported what.Header) spelled own first
    (LaterRoot (subst (AreTaken e (super_block s ∷ [])) f.1 taken) f.0 refl)

-- a file that is held isn't refused
pub never_stopped : (b : Array) (e : Bounds) (s : Superblock) (g : GroupAt) (ls : FullLinks)
    (h : HoldsFull b e s g ls) (stop : Stop) → IsWithinLimits b (all_blocks s h.driver (Group g ls)) (Group g ls)
    → IfSome (refusal_of stop) (IsFileRefused b e) → refusal_of stop ≡ None
never_stopped b e s g ls h stop within x = go (refusal_of stop) x
  where
    go : (o : Option Refusal) → IfSome o (IsFileRefused b e) → o ≡ None
    go None x = refl
    go (Some r) x = absurd (not_refused_file b e s g ls h r within x)

pub never_refused : {T : Type 0} (b : Array) (e : Bounds) (s : Superblock) (g : GroupAt) (ls : FullLinks)
    (h : HoldsFull b e s g ls) (r : Result T Stop) → IsWithinLimits b (all_blocks s h.driver (Group g ls)) (Group g ls)
    → IfErr r (λ stop. IfSome (refusal_of stop) (IsFileRefused b e)) → IfErr r (λ stop. refusal_of stop ≡ None)
never_refused b e s g ls h (Ok x) within x' = tt
never_refused b e s g ls h (Err stop) within x = never_stopped b e s g ls h stop within x

-- the same over an alike space
pub root_moved : {T : Type 0} (v w : SpaceView) (s : Superblock) (r : Result T Stop) → v ≡ w
    → Spells s (super_bytes_of v.array (bounds_of v None))
    → (Spells s (super_bytes_of w.array (bounds_of w None))
    → IfErr r (λ stop. IfSome (refusal_of stop) (IsFileRefused w.array (bounds_of w None))))
    → IfErr r (λ stop. IfSome (refusal_of stop) (IsFileRefused v.array (bounds_of v None)))
root_moved v w s r same spelled next =
    subst (λ (a : SpaceView). IfErr r (λ stop. IfSome (refusal_of stop) (IsFileRefused a.array (bounds_of a None))))
    (sym same) (next (subst (λ (a : SpaceView). Spells s (super_bytes_of a.array (bounds_of a None))) same spelled))

pub root_told : {V : Type 0} (view : V → SpaceView) (new : Blocks V) (v w : SpaceView) (s : Superblock)
    (r : Result ObjectTree Stop) → v ≡ w → Spells s (super_bytes_of v.array (bounds_of v None))
    → (Spells s (super_bytes_of w.array (bounds_of w None))
    → IfOk r (OpenedWhole view new w.array (bounds_of w None)))
    → IfOk r (OpenedWhole view new v.array (bounds_of v None))
root_told view new v w s r same spelled next =
    subst (λ (a : SpaceView). IfOk r (OpenedWhole view new a.array (bounds_of a None))) (sym same)
    (next (subst (λ (a : SpaceView). Spells s (super_bytes_of a.array (bounds_of a None))) same spelled))

-- ---- by the results of the calls

pub super_refused_at : (v w : SpaceView) (s : Superblock) (stop : Stop) (len : ℕ) → v ≡ w
    → len ≡ super_len s.version → (v.regions class.Super).start ≡ 0
    → Spells s (super_bytes_of v.array (bounds_of v None))
    → IfSome (refusal_of stop) (IsBlockRefused (bounds_of w None) [] (record { start = 0; len = len }) kinds.Super)
    → IfSome (refusal_of stop) (IsFileRefused v.array (bounds_of v None))
super_refused_at v w s stop len same is first spelled x =
    let x' = subst (λ (a : SpaceView). IfSome (refusal_of stop) (IsBlockRefused (bounds_of a None) []
    (record { start = 0; len = len }) kinds.Super)) (sym same) x in
    let x'' = subst (λ (n : ℕ). IfSome (refusal_of stop) (IsBlockRefused (bounds_of v None) []
    (record { start = 0; len = n }) kinds.Super)) is x' in
    super_not_refused s v.array (bounds_of v None) stop first spelled x''

-- what was read below the root, where the space tells its bytes
abbrev pub BelowTold : {V : Type 0} → (V → SpaceView) → (mid new : Blocks V) → Array → Ks → (tree heap : ℕ)
    → (told : Bool) → Node → ObjectTree → Type 0
BelowTold view mid new b ks tree heap told root kept = (kls : KeyedLinks) × HasRoot kept root kls
    × (IsTrue told → BelowRoot view mid new b ks tree heap kls)

-- the node that stands at the root, as the node of a group
abbrev RootFound : {V : Type 0} → (V → SpaceView) → (old mid : Blocks V) → Array → ℕ → Node → Type 0
RootFound view old mid b at n = Takes view old mid (IsFound b at (header.Known n))

pub all_opened : {V : Type 0} (view : V → SpaceView) (old mid new : Blocks V) (v w : SpaceView) (s : Superblock)
    (n : Node) (tree heap : ℕ) (told : Bool) (r : Result ObjectTree Stop) → v ≡ w → view new.space ≡ v → IsTrue told
    → Spells s (super_bytes_of v.array (bounds_of v None)) → Keeps view old (super_block s ∷ [])
    → table_of n ≡ Some (record { tree_at = tree; heap_at = heap })
    → RootFound view old mid v.array s.root.header_at n
    → IfOk r (λ kept. superblock_of kept ≡ s) → IfOk r (λ kept. object_count kept ≤ 65536) → IfOk r HasSoundNodes
    → IfOk r (BelowTold view mid new w.array (ks_of s) tree heap told n)
    → IfOk r (OpenedWhole view new v.array (bounds_of v None))
all_opened view old mid new v w s n tree heap told
    (Ok kept) same now told_it spelled taken table first super few sound below =
    let (head, is) = group_node n tree heap table in
    let first' = subst (RootFound view old mid v.array s.root.header_at) is first in
    let below' = subst (λ (x : Node). BelowTold view mid new w.array (ks_of s) tree heap told x kept) is below in
    root_opened view old mid new v w.array s head tree heap kept below'.0 (ap (λ (a : SpaceView). a.array) same) now
    spelled taken first' super few below'.1 sound (below'.2 told_it)
all_opened view old mid new v w s n tree heap told
    (Err stop) same now told_it spelled taken table first super few sound below =
    tt

pub all_sound : {V : Type 0} (view : V → SpaceView) (mid new : Blocks V) (b : Array) (ks : Ks) (s : Superblock)
    (n : Node) (tree heap : ℕ) (told : Bool) (r : Result ObjectTree Stop)
    → table_of n ≡ Some (record { tree_at = tree; heap_at = heap }) → Fits s → IfOk r (λ kept. superblock_of kept ≡ s)
    → IfOk r HasSoundNodes → IfOk r (BelowTold view mid new b ks tree heap told n) → IfOk r IsSoundTree
all_sound view mid new b ks s n tree heap told (Ok kept) table fits super sound below =
    root_sound kept n below.0 (table_group n tree heap table) below.1 sound (subst Fits (sym super) fits)
all_sound view mid new b ks s n tree heap told (Err stop) table fits super sound below = tt

pub all_refused : {V T : Type 0} (view : V
    → SpaceView) (old mid : Blocks V) (v w : SpaceView) (s : Superblock) (n : Node)
    (tree heap : ℕ) (r : Result T Stop) → v ≡ w → v ≡ view (space_of mid)
    → Spells s (super_bytes_of v.array (bounds_of v None)) → Keeps view old (super_block s ∷ [])
    → table_of n ≡ Some (record { tree_at = tree; heap_at = heap })
    → RootFound view old mid v.array s.root.header_at n
    → IfErr r (λ stop. (met : List Block) (own : Option (List ℕ)) → Keeps view mid met
    → IfSome (refusal_of stop) (IsGroupRefused w.array (bounds_of w own) (ks_of s) 32 1 met tree heap))
    → IfErr r (λ stop. IfSome (refusal_of stop) (IsFileRefused v.array (bounds_of v None)))
all_refused view old mid v w s n tree heap (Ok kept) same here spelled taken table first x = tt
all_refused view old mid v w s n tree heap (Err stop) same here spelled taken table first x =
    let (head, is) = group_node n tree heap table in
    let (bs, found, keeps) = subst (RootFound view old mid v.array s.root.header_at) is first
    (super_block s ∷ []) taken in
    let y = subst (λ (a : SpaceView). IfSome (refusal_of stop)
    (IsGroupRefused a.array (bounds_of a None) (ks_of s) 32 1 (super_block s ∷ bs) tree heap)) (sym same)
    (x (super_block s ∷ bs) None keeps) in
    let first' = taken_over view mid v [] (super_block s ∷ bs) None here keeps in
    root_below_refused v.array (bounds_of v None) s head tree heap bs stop spelled refl
    (taken_first (bounds_of v None) [] (super_block s ∷ []) bs first') (taken_over view mid v
    (super_block s ∷ []) bs None here keeps) found y
