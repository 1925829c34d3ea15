-- Why a group's heap, its B-tree and its symbol table nodes are refused, each after the blocks that were met before.
-- Cited by what opens a file.
use Rattle.std.specs.Prelude.{◌≡◌, ◌⊎◌, ℕ, zero, suc, ◌<◌, ◌≤◌, List, [], ◌∷◌, ◌++◌, map}
use Rattle.outside.specs.Array.{Array, bytes_of}
use Rattle.outside.specs.Blocks.{Block, Bounds, placed}
use Rattle.h5_base.specs.declared.kinds.BlockKind.TheVariants as kind
use Rattle.h5_base.specs.declared.kinds.What.TheVariants as what
use Rattle.node_codec.specs.Snod.{SpellsSnod, soft_value_at, snod_len}
use Rattle.node_codec.specs.GroupNodes.{SpellsGroupNode, group_node_len, group_node_of}
use Rattle.node_codec.specs.Heap.{SpellsHeap}
use Rattle.node_codec.specs.declared.snod.SnodEntry.{SnodEntry}
use Rattle.node_codec.specs.declared.group_node.GroupNode.{GroupNode}
use Rattle.node_codec.specs.declared.heap.HeapHead.{HeapHead}
use Rattle.object_model.specs.Tree.{Name, AreOrdered}
use Rattle.file_model.specs.Groups.{Ks, Found, HasText, AreLinks, AreBetween, Under, StandsAt}
use Rattle.file_model.specs.Groups.{leaf_block, node_block}
use Rattle.h5_base.specs.declared.refusal.Refusal.{Refusal}
use Rattle.h5_base.specs.declared.refusal.Refusal.TheVariants.{Malformed, Unsupported}
use Rattle.outside.specs.Blocks.{IsBlockRefused, IsPlacedRefused, AreTaken}
use Rattle.file_model.specs.Limits.{most_segment}

-- what stands under a child is refused, after these blocks
abbrev pub RefusedUnder : Type 1
RefusedUnder = List Block → ℕ → Refusal → Type 0

-- no text stands there
abbrev pub HasNoText : List ℕ → ℕ → Type 0
HasNoText segment at = (text : List ℕ) → HasText segment at text → ⊥

-- the names of links
abbrev pub names_of : List Found → List Name
names_of = map (λ f. f.name)

-- An entry of the symbol table node at an address is refused, behind entries that tell the links `done`. Its name is
-- looked up first, then the name's order, then a soft link's value.
pub data IsEntryRefused (segment : List ℕ) (heap node : ℕ) (done : List Found) (x : SnodEntry)
    (r : Refusal) : Type 0 where
  NoName : HasNoText segment x.name_at → r ≡ Malformed heap kind.Heap → IsEntryRefused segment heap node done x r
  Disordered : (name : Name) → HasText segment x.name_at name → ¬ AreOrdered (names_of done ++ name ∷ [])
      → r ≡ Malformed node kind.Snod
      → IsEntryRefused segment heap node done x r
  NoValue : (name : Name) → HasText segment x.name_at name → AreOrdered (names_of done ++ name ∷ []) → x.cache ≡ 2
      → HasNoText segment (soft_value_at x) → r ≡ Malformed heap kind.Heap
      → IsEntryRefused segment heap node done x r

-- One of the entries is refused, behind those before it.
pub record AreEntriesRefused (segment : List ℕ) (heap node : ℕ) (entries : List SnodEntry) (r : Refusal) : Type 0 where
  pub before : List SnodEntry
  pub entry : SnodEntry
  pub later : List SnodEntry
  pub split : entries ≡ before ++ entry ∷ later
  pub done : List Found
  pub links : AreLinks segment before done
  pub ordered : AreOrdered (names_of done)
  pub refused : IsEntryRefused segment heap node done entry r

-- The symbol table node is refused: as a block, since its bytes spell none, or by an entry.
pub data IsLeafRefused (b : Array) (e : Bounds) (ks : Ks) (segment : List ℕ) (heap : ℕ) (met : List Block) (at : ℕ)
    (r : Refusal) : Type 0 where
  LeafBlock : IsBlockRefused e met (leaf_block ks at) kind.Snod r
      → IsLeafRefused b e ks segment heap met at r
  NoLeaf : AreTaken e met (leaf_block ks at ∷ [])
      → ((entries : List SnodEntry) → ¬ SpellsSnod ks.leaf entries (bytes_of b at (snod_len ks.leaf)))
      → r ≡ Malformed at kind.Snod
      → IsLeafRefused b e ks segment heap met at r
  InEntries : (entries : List SnodEntry) → AreTaken e met (leaf_block ks at ∷ [])
      → SpellsSnod ks.leaf entries (bytes_of b at (snod_len ks.leaf))
      → AreEntriesRefused segment heap at entries r
      → IsLeafRefused b e ks segment heap met at r

-- The keys on both sides of a child that was read are refused, for the links under it, and those under the children
-- before it: a key's text isn't in the segment; or else a name isn't between the keys; or else the names don't ascend.
pub data IsKeyRefused (segment : List ℕ) (heap node k l : ℕ) (done here : List Found) (r : Refusal) : Type 0 where
  NoKey : HasNoText segment k ⊎ HasNoText segment l → r ≡ Malformed heap kind.Heap
      → IsKeyRefused segment heap node k l done here r
  NotBetween : (low high : Name) → HasText segment k low → HasText segment l high → (AreBetween low high here → ⊥)
      → r ≡ Malformed node kind.Tree
      → IsKeyRefused segment heap node k l done here r
  LinksDisordered : (low high : Name) → HasText segment k low → HasText segment l high → AreBetween low high here
      → ¬ AreOrdered (names_of (done ++ here)) → r ≡ Malformed node kind.Tree
      → IsKeyRefused segment heap node k l done here r

-- The links under a child lie between the keys at both sides of it, and come after those under the children before it.
pub record FitKeys (segment : List ℕ) (k l : ℕ) (done here : List Found) : Type 0 where
  pub low : Name
  pub high : Name
  pub at_low : HasText segment k low
  pub at_high : HasText segment l high
  pub between : AreBetween low high here
  pub ordered : AreOrdered (names_of (done ++ here))

-- A child is refused; or, once all under it was read in the order of names and its blocks were taken, the keys beside
-- it; or, where they fit, a later child.
abbrev pub AreChildrenRefused : Bounds → List ℕ → (heap node : ℕ) → Under → RefusedUnder → List ℕ → List ℕ
    → (done : List Found) → List Block → Refusal → Type 0
AreChildrenRefused e segment heap node Child RefusedChild keys [] done met r = ⊥
AreChildrenRefused e segment heap node Child RefusedChild [] (c ∷ cs) done met r = ⊥
AreChildrenRefused e segment heap node Child RefusedChild (k ∷ []) (c ∷ cs) done met r = ⊥
AreChildrenRefused e segment heap node Child RefusedChild (k ∷ l ∷ ks) (c ∷ cs) done met r =
    RefusedChild met c r
    ⊎ ((here : List Found) × (own : List Block) × Child c here own × AreTaken e met own
    × ((AreOrdered (names_of here) × IsKeyRefused segment heap node k l done here r)
    ⊎ (FitKeys segment k l done here
    × AreChildrenRefused e segment heap node Child RefusedChild (l ∷ ks) cs (done ++ here) (met ++ own) r)))

-- a node of this level is refused: as a block, since its bytes spell none of this level, or for what stands under it
pub data IsNodeRefused (b : Array) (e : Bounds) (ks : Ks) (segment : List ℕ) (heap level : ℕ) (Child : Under)
    (RefusedChild : RefusedUnder) (met : List Block) (at : ℕ) (r : Refusal) : Type 0 where
  NodeBlock : IsBlockRefused e met (node_block ks at) kind.Tree r
      → IsNodeRefused b e ks segment heap level Child RefusedChild met at r
  NoNode : AreTaken e met (node_block ks at ∷ [])
      → ((n : GroupNode) → SpellsGroupNode ks.internal n (bytes_of b at (group_node_len ks.internal))
      → n.level ≡ level → ⊥) → r ≡ Malformed at kind.Tree
      → IsNodeRefused b e ks segment heap level Child RefusedChild met at r
  InChildren : (n : GroupNode) → AreTaken e met (node_block ks at ∷ [])
      → SpellsGroupNode ks.internal n (bytes_of b at (group_node_len ks.internal)) → n.level ≡ level
      → AreChildrenRefused e segment heap at Child RefusedChild n.keys n.children [] (met ++ node_block ks at ∷ []) r
      → IsNodeRefused b e ks segment heap level Child RefusedChild met at r

-- an index of this height is refused
abbrev pub IsIndexRefused : Array → Bounds → Ks → List ℕ → (heap height : ℕ) → RefusedUnder
IsIndexRefused b e ks segment heap zero = IsLeafRefused b e ks segment heap
IsIndexRefused b e ks segment heap (suc level) =
    IsNodeRefused b e ks segment heap level (StandsAt b ks segment level) (IsIndexRefused b e ks segment heap level)

-- the level that the root node tells
abbrev pub root_level : Array → Ks → ℕ → ℕ
root_level b ks tree = (group_node_of (bytes_of b tree (group_node_len ks.internal))).level

abbrev pub heap_block : ℕ → Block
heap_block heap = record { start = heap; len = 32 }

-- A group's heap or B-tree is refused, the heap first.
pub data IsTableRefused (b : Array) (e : Bounds) (ks : Ks) (met : List Block) (tree heap : ℕ)
    (r : Refusal) : Type 0 where
  HeapBlock : IsBlockRefused e met (heap_block heap) kind.Heap r → IsTableRefused b e ks met tree heap r
  NoHeap : AreTaken e met (heap_block heap ∷ []) → ((h : HeapHead) → SpellsHeap h (bytes_of b heap 32) → ⊥)
      → r ≡ Malformed heap kind.Heap
      → IsTableRefused b e ks met tree heap r
  LargeHeap : (h : HeapHead) → AreTaken e met (heap_block heap ∷ []) → SpellsHeap h (bytes_of b heap 32)
      → most_segment < h.len → r ≡ Unsupported what.Heap
      → IsTableRefused b e ks met tree heap r
  SegmentBlock : (h : HeapHead) → AreTaken e met (heap_block heap ∷ []) → SpellsHeap h (bytes_of b heap 32)
      → h.len ≤ most_segment → IsPlacedRefused e (met ++ heap_block heap ∷ []) h.segment_at h.len kind.Heap r
      → IsTableRefused b e ks met tree heap r
  InNodes : (h : HeapHead) → AreTaken e met (heap_block heap ∷ placed h.segment_at h.len)
      → SpellsHeap h (bytes_of b heap 32) → h.len ≤ most_segment
      → IsIndexRefused b e ks (bytes_of b h.segment_at h.len) heap (suc (root_level b ks tree))
      (met ++ heap_block heap ∷ placed h.segment_at h.len) tree r
      → IsTableRefused b e ks met tree heap r
