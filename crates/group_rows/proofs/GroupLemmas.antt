-- What was read by the bytes of each node is the group that they hold.
use Rattle.std.proofs.Common.{◌≡◌, ℕ, suc, List, [], ◌∷◌, ◌++◌, length, map, None}
use Rattle.std.proofs.Common.{refl, sym, ◌∙◌, ap, subst}
use Rattle.std.specs.List.{flat_map, range_with_len}
use Rattle.std.specs.List.Sorted.{IsPermutation}
use Rattle.std.proofs.lemmas.List.{append-nil, length-map}
use Rattle.std.proofs.lemmas.List.FromFn.{length-range_with_len}
use Rattle.std.proofs.lemmas.List.Concat.{flat_map-append, flat_map_single}
use Rattle.std.proofs.lemmas.List.Sorted.{IsPermutation-sym, IsPermutation-cons}
use Rattle.outside.specs.Array.{Array, bytes_of}
use Rattle.outside.specs.Blocks.{Block}
use Rattle.node_codec.specs.Heap.{SpellsHeap}
use Rattle.node_codec.specs.GroupNodes.{group_node_len}
use Rattle.node_codec.specs.Snod.{snod_len}
use Rattle.node_codec.specs.declared.group_node.GroupNode.{GroupNode}
use Rattle.node_codec.specs.declared.heap.HeapHead.{HeapHead}
use Rattle.node_codec.specs.declared.snod.SnodEntry.{SnodEntry}
use Rattle.file_model.specs.Index.{Bottom, Node, gather, each}
use Rattle.file_model.specs.Groups.{Ks, Found, GroupIndex, IsIndex, HasLinks, address_of, index_blocks}
use Rattle.file_model.specs.Groups.{index_offsets, node_block, leaf_block, key_offsets, entry_offsets}
use Rattle.plan_pieces.specs.Images.{HaveImages, image_block, image_blocks}
use Rattle.plan_pieces.specs.declared.image.Image.{Image}
use Rattle.group_heap.specs.Greatest.{IsGreatest}
use Rattle.group_rows.specs.declared.gathered.Gathered.{Gathered}
use Rattle.group_rows.specs.declared.group.GroupAt.{GroupAt}
use Rattle.group_rows.specs.declared.group.GroupRead.{GroupRead}
use Rattle.group_rows.specs.Rows.{node_at, entries_at, node_image, leaf_image, head_image, row_children, row_offsets}
use Rattle.group_rows.specs.Rows.{row_entries, row_down, nodes_down, rows_down}
use Rattle.group_rows.specs.Gathering.{Adds, AddsNodes, AddsLeaves}
use Rattle.group_room.specs.Index.{rows_below, level_of}
use Rattle.group_rows.specs.Reading.{IsReadOf}
use Rattle.group_rows.proofs.ListLemmas.{map-append}
use Rattle.group_rows.proofs.OffsetLemmas.{greatest_moved, greatest_none}
use Rattle.group_rows.proofs.IndexLemmas.{node_there, leaf_there, all_down, in_order, rows_under}
use Rattle.group_rows.proofs.TreeLemmas.{level_at, all_nodes}

-- ---- images

length-bytes_of : (b : Array) (at n : ℕ) → length (bytes_of b at n) ≡ n
length-bytes_of b at n = length-map (range_with_len at n) b ∙ length-range_with_len at n

-- an image of so many bytes stands, and has its block
record StandsOf (b : Array) (i : Image) (x : Block) : Type 0 where
  has : bytes_of b i.at (length i.bytes) ≡ i.bytes
  block : image_block i ≡ x

image_stands : (b : Array) (at n : ℕ)
    → StandsOf b (record { at = at; bytes = bytes_of b at n }) (record { start = at; len = n })
image_stands b at n = record {
  has = ap (bytes_of b at) (length-bytes_of b at n);
  block = λ j. record { start = at; len = length-bytes_of b at n j };
}

node_stands : (b : Array) (ks : Ks) (at : ℕ) → StandsOf b (node_image b ks.internal at) (node_block ks at)
unfolding node_image
node_stands b ks at = image_stands b at (group_node_len ks.internal)

leaf_stands : (b : Array) (ks : Ks) (at : ℕ) → StandsOf b (leaf_image b ks.leaf at) (leaf_block ks at)
unfolding leaf_image
leaf_stands b ks at = image_stands b at (snod_len ks.leaf)

head_stands : (b : Array) (at : ℕ) → StandsOf b (head_image b at) (record { start = at; len = 32 })
unfolding head_image
head_stands b at = image_stands b at 32

module _ (b : Array) (f : ℕ → Image) (g : ℕ → Block) (stand : (at : ℕ) → StandsOf b (f at) (g at)) where
  have_all : (ats : List ℕ) → HaveImages b (map f ats)
  have_all [] = tt
  have_all (at ∷ ats) = ((stand at).has, have_all ats)

  blocks_are : (ats : List ℕ) → image_blocks (map f ats) ≡ map g ats
  blocks_are [] = refl
  blocks_are (at ∷ ats) = λ j. (stand at).block j ∷ blocks_are ats j

have_both : (b : Array) (is js : List Image) → HaveImages b is → HaveImages b js → HaveImages b (is ++ js)
have_both b [] js h k = k
have_both b (i ∷ is) js h k = (h.0, have_both b is js h.1 k)

-- ---- lists of lists

flat_flat : {A B : Type 0} (e : ℕ → List A) (h : A → List B) (xs : List ℕ)
    → flat_map h (flat_map e xs) ≡ flat_map (λ x. flat_map h (e x)) xs
flat_flat e h [] = refl
flat_flat e h (x ∷ xs) = flat_map-append h (e x) (flat_map e xs) ∙ ap (λ l. flat_map h (e x) ++ l) (flat_flat e h xs)

flat_same : (xs : List ℕ) → flat_map (λ x. x ∷ []) xs ≡ xs
flat_same [] = refl
flat_same (x ∷ xs) = ap (λ (l : List ℕ). x ∷ l) (flat_same xs)

-- ---- the levels of an index

pub root_level : (b : Array) (ks : Ks) (s : List ℕ) (level : ℕ) (x : GroupIndex) → IsIndex b ks s (suc level) x
    → (level_at b ks.internal (address_of x) ≡ level) × (level_of x ≡ level)
root_level b ks s level (Bottom l) h = absurd h
root_level b ks s level (Node n xs) h = (
  ap (λ (m : GroupNode). m.level) (sym (node_there b ks level n (each address_of xs) h.0)) ∙ h.0.level_is,
  h.0.level_is,
)

-- ---- what was read

-- What was read is told by the bytes at each address.
pub record IsToldBy (b : Array) (group : GroupAt) (read : GroupRead) : Type 0 where
  pub heap_at : read.heap.at ≡ group.heap_at
  pub spelled : SpellsHeap read.heap.head (bytes_of b group.heap_at 32)
  pub segment : read.heap.segment.items ≡ bytes_of b read.heap.head.segment_at read.heap.head.len
  pub leaves : read.leaves
      ≡ row_down b group.ks.internal (suc (level_at b group.ks.internal group.tree_at)) (group.tree_at ∷ [])
  pub rows : read.rows.items ≡ rows_down b group.ks.internal (level_at b group.ks.internal group.tree_at)
      (row_children b group.ks.internal (group.tree_at ∷ []))
  pub entries : read.entries.items ≡ row_entries b group.ks.leaf read.leaves
  pub images : read.blocks.items ≡ head_image b group.heap_at
      ∷ (map (node_image b group.ks.internal) (all_nodes b group.ks.internal group.tree_at)
      ++ map (leaf_image b group.ks.leaf) read.leaves)
  pub last : IsGreatest (row_offsets b group.ks.internal (all_nodes b group.ks.internal group.tree_at)
      ++ flat_map entry_offsets (row_entries b group.ks.leaf read.leaves)) read.last

module _ (b : Array) (group : GroupAt) (read : GroupRead) (t : IsToldBy b group read) (fs : List Found)
    (bs : List Block) (h : HasLinks b group.ks group.tree_at group.heap_at fs bs) where
  abbrev k : ℕ
  k = group.ks.internal

  abbrev x : GroupIndex
  x = h.index

  abbrev seg : List ℕ
  seg = bytes_of b h.head.segment_at h.head.len

  abbrev top : List GroupIndex
  top = h.index ∷ []

  abbrev levels : (level_at b k (address_of x) ≡ h.level) × (level_of x ≡ h.level)
  levels = root_level b group.ks seg h.level x h.stands

  level_is : level_at b k group.tree_at ≡ h.level
  level_is = ap (level_at b k) (sym h.root) ∙ levels.0

  -- the symbol table nodes and all nodes, from the root of the index on
  leaves_down : read.leaves ≡ row_down b k (suc h.level) (address_of x ∷ [])
  leaves_down = t.leaves ∙ (λ j. row_down b k (suc (level_is j)) (sym h.root j ∷ []))

  nodes_are : all_nodes b k group.tree_at ≡ nodes_down b k (suc h.level) (address_of x ∷ [])
  nodes_are = λ j. nodes_down b k (suc (level_is j)) (sym h.root j ∷ [])

  head_is : read.heap.head ≡ h.head
  head_is = t.spelled.value ∙ sym h.spelled.value

  leaves_are : read.leaves ≡ gather (λ n. []) (λ s. s.at ∷ []) x
  leaves_are =
      leaves_down ∙ sym (flat_same (row_down b k (suc h.level) (address_of x ∷ [])))
      ∙ sym (in_order b group.ks seg (λ s. s.at ∷ []) (λ at. at ∷ []) (λ s l. refl) (suc h.level) top (h.stands, tt))
      ∙ append-nil (gather (λ n. []) (λ s. s.at ∷ []) x)

  entries_are : read.entries.items ≡ gather (λ n. []) (λ s. s.entries) x
  entries_are =
      t.entries ∙ ap (row_entries b group.ks.leaf) leaves_down
      ∙ sym (in_order b group.ks seg (λ s. s.entries) (entries_at b group.ks.leaf)
      (λ s l. leaf_there b group.ks seg s l) (suc h.level) top (h.stands, tt))
      ∙ append-nil (gather (λ n. []) (λ s. s.entries) x)

  rows_are : read.rows.items ≡ rows_below x (level_of x)
  rows_are =
      t.rows ∙ (λ j. rows_down b k (level_is j) (row_children b k (sym h.root j ∷ [])))
      ∙ rows_under b group.ks seg h.level x h.stands ∙ ap (rows_below x) (sym levels.1)

  offsets_moved : IsPermutation (row_offsets b k (all_nodes b k group.tree_at)
      ++ flat_map entry_offsets (row_entries b group.ks.leaf read.leaves)) (index_offsets x)
  offsets_moved =
      let F : ℕ → List ℕ = λ at. key_offsets (node_at b k at) in
      let G : ℕ → List ℕ = λ at. flat_map entry_offsets (entries_at b group.ks.leaf at) in
      let all = all_down b group.ks seg (λ n. key_offsets n.node) (λ s. flat_map entry_offsets s.entries) F G
      (λ level n cs one. ap key_offsets (node_there b group.ks level n cs one))
      (λ s one. ap (λ (es : List SnodEntry). flat_map entry_offsets es) (leaf_there b group.ks seg s one))
      (suc h.level) top (h.stands, tt) in
      let left = subst (λ (l : List ℕ). IsPermutation l
      (flat_map F (nodes_down b k (suc h.level) (address_of x ∷ []))
      ++ flat_map G (row_down b k (suc h.level) (address_of x ∷ [])))) (append-nil (index_offsets x)) all in
      let nodes = subst (λ (l : List ℕ). IsPermutation (index_offsets x)
      (flat_map F l ++ flat_map G (row_down b k (suc h.level) (address_of x ∷ [])))) (sym nodes_are) left in
      let leaves = subst (λ (l : List ℕ). IsPermutation (index_offsets x)
      (flat_map F (all_nodes b k group.tree_at) ++ flat_map G l)) (sym leaves_down) nodes in
      let flat = subst (λ (l : List ℕ). IsPermutation (index_offsets x)
      (flat_map F (all_nodes b k group.tree_at) ++ l))
      (sym (flat_flat (entries_at b group.ks.leaf) entry_offsets read.leaves)) leaves in
      IsPermutation-sym (index_offsets x) (flat_map F (all_nodes b k group.tree_at)
      ++ flat_map entry_offsets (row_entries b group.ks.leaf read.leaves)) flat

  blocks_moved : IsPermutation (map (node_block group.ks) (all_nodes b k group.tree_at)
      ++ map (leaf_block group.ks) read.leaves) (index_blocks group.ks x)
  blocks_moved =
      let F : ℕ → List Block = λ at. node_block group.ks at ∷ [] in
      let G : ℕ → List Block = λ at. leaf_block group.ks at ∷ [] in
      let all = all_down b group.ks seg (λ n. node_block group.ks n.at ∷ []) (λ s. leaf_block group.ks s.at ∷ []) F G
      (λ level n cs one. refl) (λ s one. refl) (suc h.level) top (h.stands, tt) in
      let left = subst (λ (l : List Block). IsPermutation l
      (flat_map F (nodes_down b k (suc h.level) (address_of x ∷ []))
      ++ flat_map G (row_down b k (suc h.level) (address_of x ∷ [])))) (append-nil (index_blocks group.ks x)) all in
      let nodes = subst (λ (l : List ℕ). IsPermutation (index_blocks group.ks x)
      (flat_map F l ++ flat_map G (row_down b k (suc h.level) (address_of x ∷ [])))) (sym nodes_are) left in
      let leaves = subst (λ (l : List ℕ). IsPermutation (index_blocks group.ks x)
      (flat_map F (all_nodes b k group.tree_at) ++ flat_map G l)) (sym leaves_down) nodes in
      let one = subst (λ (l : List Block). IsPermutation (index_blocks group.ks x) (l ++ flat_map G read.leaves))
      (flat_map_single (node_block group.ks) (all_nodes b k group.tree_at)) leaves in
      let both = subst (λ (l : List Block). IsPermutation (index_blocks group.ks x)
      (map (node_block group.ks) (all_nodes b k group.tree_at) ++ l))
      (flat_map_single (leaf_block group.ks) read.leaves) one in
      IsPermutation-sym (index_blocks group.ks x) (map (node_block group.ks) (all_nodes b k group.tree_at)
      ++ map (leaf_block group.ks) read.leaves) both

  have_images : HaveImages b read.blocks.items
  have_images =
      let ns = map (node_image b k) (all_nodes b k group.tree_at) in
      let ls = map (leaf_image b group.ks.leaf) read.leaves in
      subst (HaveImages b) (sym t.images) (
        (head_stands b group.heap_at).has,
        have_both b ns ls (have_all b (node_image b k) (node_block group.ks) (node_stands b group.ks)
            (all_nodes b k group.tree_at)) (have_all b (leaf_image b group.ks.leaf) (leaf_block group.ks)
            (leaf_stands b group.ks) read.leaves),
      )

  their_blocks : IsPermutation (image_blocks read.blocks.items)
      (record { start = group.heap_at; len = 32 } ∷ index_blocks group.ks x)
  their_blocks =
      let ns = map (node_image b k) (all_nodes b k group.tree_at) in
      let ls = map (leaf_image b group.ks.leaf) read.leaves in
      let head : Block = record { start = group.heap_at; len = 32 } in
      let nodes = blocks_are b (node_image b k) (node_block group.ks) (node_stands b group.ks)
      (all_nodes b k group.tree_at) in
      let leaves = blocks_are b (leaf_image b group.ks.leaf) (leaf_block group.ks) (leaf_stands b group.ks)
      read.leaves in
      let is : image_blocks read.blocks.items ≡ head ∷ (map (node_block group.ks) (all_nodes b k group.tree_at)
      ++ map (leaf_block group.ks) read.leaves) =
      ap (λ (l : List Image). image_blocks l) t.images
      ∙ (λ j. (head_stands b group.heap_at).block j ∷ map-append image_block ns ls j)
      ∙ (λ j. head ∷ (nodes j ++ leaves j)) in
      subst (λ (l : List Block). IsPermutation l (head ∷ index_blocks group.ks x)) (sym is)
      (IsPermutation-cons head (map (node_block group.ks) (all_nodes b k group.tree_at)
      ++ map (leaf_block group.ks) read.leaves) (index_blocks group.ks x) blocks_moved)

  pub read_is : IsReadOf b group h.head h.index read
  read_is = record {
    heap_at = t.heap_at;
    head_is = head_is;
    segment = t.segment ∙ ap (λ (e : HeapHead). bytes_of b e.segment_at e.len) head_is;
    entries = entries_are;
    leaves = leaves_are;
    rows = rows_are;
    last = greatest_moved _ (index_offsets x) read.last offsets_moved t.last;
    images = have_images;
    blocks = their_blocks;
  }

-- ---- what was gathered, one part after the other

pub all_read : (b : Array) (group : GroupAt) (leaves : List ℕ) (none one two all : Gathered) → none.images.items ≡ []
    → none.last ≡ None → Adds (head_image b group.heap_at ∷ []) [] 0 none one
    → AddsNodes b group.ks.internal (all_nodes b group.ks.internal group.tree_at) one two
    → AddsLeaves b group.ks.leaf leaves two all
    → (all.images.items ≡ head_image b group.heap_at
    ∷ (map (node_image b group.ks.internal) (all_nodes b group.ks.internal group.tree_at)
    ++ map (leaf_image b group.ks.leaf) leaves))
    × IsGreatest (row_offsets b group.ks.internal (all_nodes b group.ks.internal group.tree_at)
    ++ flat_map entry_offsets (row_entries b group.ks.leaf leaves)) all.last
all_read b group leaves none one two all images last head nodes bottom =
    let ns = map (node_image b group.ks.internal) (all_nodes b group.ks.internal group.tree_at) in
    let ls = map (leaf_image b group.ks.leaf) leaves in
    let offsets = row_offsets b group.ks.internal (all_nodes b group.ks.internal group.tree_at) in
    let first = head.last [] (subst (IsGreatest []) (sym last) (greatest_none [] refl)) in (
      bottom.images ∙ ap (λ (l : List Image). l ++ ls) (nodes.images ∙ ap (λ (l : List Image). l ++ ns)
          (head.images ∙ ap (λ (l : List Image). l ++ head_image b group.heap_at ∷ []) images)),
      bottom.last offsets (nodes.last [] first),
    )
