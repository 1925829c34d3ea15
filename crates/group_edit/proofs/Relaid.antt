-- Entries that are laid out over nodes are a group's, with any heap that has their texts.
use Rattle.std.proofs.Common.{◌≡◌, ◌⊎◌, ℕ, ◌*◌, ◌<◌, ◌≤◌, List, [], ◌∷◌, ◌++◌, length, map, drop, flat_map}
use Rattle.std.proofs.Common.{refl, sym, ◌∙◌, ap, subst, subst₂}
use Rattle.std.specs.Prelude.{slice_index}
use Rattle.std.specs.List.{Contains}
use Rattle.std.specs.List.Sorted.{IsPermutation}
use Rattle.std.proofs.lemmas.List.{append_assoc, length-map, map-append}
use Rattle.std.proofs.lemmas.List.Sorted.{IsPermutation-refl, IsPermutation-sym, IsPermutation-trans}
use Rattle.std.proofs.lemmas.List.Sorted.{IsPermutation-append_comm, IsPermutation-append_left}
use Rattle.std.proofs.lemmas.List.Sorted.{IsPermutation-append_right, IsPermutation-cons, IsPermutation-middle}
use Rattle.outside.specs.Array.{Array, bytes_of}
use Rattle.outside.specs.Blocks.{Block, placed}
use Rattle.node_codec.specs.Heap.{SpellsHeap}
use Rattle.node_codec.specs.declared.heap.HeapHead.{HeapHead}
use Rattle.node_codec.specs.declared.snod.SnodEntry.{SnodEntry}
use Rattle.object_model.specs.Tree.{AreOrdered}
use Rattle.file_model.specs.Groups.{AreLinks, Found, HasText, address_of, entry_offsets, index_blocks, index_offsets}
use Rattle.file_model.specs.WellKept.{IsKeptGroup}
use Rattle.file_model.specs.Groups.{Ks, leaf_block, node_block}
use Rattle.group_room.specs.Index.{entries_in, leaf_ats}
use Rattle.group_layout.specs.Laying.{IsSpelledOut, ats_of, new_blocks, new_nodes, old_blocks, old_nodes, rows_of}
use Rattle.group_layout.specs.Leaves.{leaf_keys, leaves}
use Rattle.group_layout.specs.Nodes.{AllNodesSpelled}
use Rattle.group_layout.specs.Rows.{HaveRoom, row_blocks}
use Rattle.group_layout.specs.declared.row.IndexRows.{IndexRows}
use Rattle.group_layout.specs.declared.row.Row.{Row}
use Rattle.group_layout.proofs.GroupLemmas.{group_laid_over}
use Rattle.group_layout.proofs.NodeLemmas.{nodes_suffice}
use Rattle.group_facts.specs.Heap.{names_of}
use Rattle.group_rows.specs.declared.group.GroupAt.{GroupAt}
use Rattle.group_edit.specs.Links.{HoldsGroup}

-- The group that is laid out.
pub record IsRelaid (c : Array) (g : GroupAt) (head : HeapHead) (base : ℕ) (index : IndexRows) (es : List SnodEntry)
    (fs : List Found) : Type 0 where
  pub blocks : List Block
  pub new : HoldsGroup c g fs blocks
  pub head_is : new.head ≡ head
  pub level_is : new.level ≡ length index.rows
  pub entries : entries_in new.index ≡ es
  pub offsets : (o : ℕ) → Contains (index_offsets new.index) o → (o ≡ base) ⊎ Contains (flat_map entry_offsets es) o
  pub used : (o : ℕ) → Contains (flat_map entry_offsets es) o → Contains (index_offsets new.index) o
  pub base_used : 0 < length (leaf_ats new.index) → Contains (index_offsets new.index) base
  pub leaves : IsPermutation (leaf_ats new.index) (ats_of index.leaves)
  pub kept : slice_index (bytes_of c head.segment_at head.len) 0 ≡ 0
      → IsKeptGroup (bytes_of c head.segment_at head.len) new.index
  pub nodes : IsPermutation (index_blocks g.ks new.index) (old_blocks g.ks index ++ new_blocks g.ks index)
  pub blocks_are : blocks ≡ record { start = g.heap_at; len = 32 } ∷ placed head.segment_at head.len
      ++ index_blocks g.ks new.index

-- ---- its blocks

-- behind two lists, the middle one comes first as well
pub turned : (ps ms ds : List Block) → IsPermutation (ps ++ (ms ++ ds)) (ms ++ (ps ++ ds))
turned ps ms ds = subst₂ IsPermutation (append_assoc ps ms ds) (append_assoc ms ps ds)
    (IsPermutation-append_left ds (ps ++ ms) (ms ++ ps) (IsPermutation-append_comm ps ms))

-- of two pairs the firsts come first as well
crossed : (ps qs rs ds : List Block) → IsPermutation ((ps ++ qs) ++ (rs ++ ds)) ((ps ++ rs) ++ (qs ++ ds))
crossed ps qs rs ds = subst₂ IsPermutation (sym (append_assoc ps qs (rs ++ ds))) (sym (append_assoc ps rs (qs ++ ds)))
    (IsPermutation-append_right ps _ _ (turned qs rs ds))

-- two pairs side by side, the second first
swapped : (ps qs rs ds : List Block) → IsPermutation ((ps ++ qs) ++ (rs ++ ds)) ((rs ++ ps) ++ (ds ++ qs))
swapped ps qs rs ds = IsPermutation-trans _ _ _ (IsPermutation-append_comm (ps ++ qs) (rs ++ ds)) (crossed rs ds ps qs)

-- the nodes that are there, and those that are taken
row_parts : (ks : Ks) (rs : List Row)
    → IsPermutation (row_blocks ks (map ats_of rs)) (old_nodes ks rs ++ new_nodes ks rs)
row_parts ks [] = IsPermutation-refl []
row_parts ks (r ∷ rs) =
    let there = map (node_block ks) r.old in
    let taken = map (node_block ks) r.new in
    let olds = old_nodes ks rs in
    let news = new_nodes ks rs in
    let moved = IsPermutation-trans _ _ _ (IsPermutation-append_left (there ++ taken) _ _ (row_parts ks rs))
    (swapped olds news there taken) in
    subst (λ (bs : List Block). IsPermutation (row_blocks ks (map ats_of rs) ++ bs)
    ((there ++ olds) ++ (taken ++ news))) (sym (map-append (node_block ks) r.old r.new)) moved

-- a block before two lists stands between them as well
between : (t : Block) (ps qs : List Block) → IsPermutation (t ∷ (ps ++ qs)) ((ps ++ t ∷ []) ++ qs)
between t ps qs = subst (IsPermutation (t ∷ (ps ++ qs))) (sym (append_assoc ps (t ∷ []) qs))
    (IsPermutation-sym _ _ (IsPermutation-middle ps t qs))

parts_are : (ks : Ks) (index : IndexRows) → IsPermutation
    (node_block ks index.tree ∷ row_blocks ks (map ats_of index.rows) ++ map (leaf_block ks) (ats_of index.leaves))
    (old_blocks ks index ++ new_blocks ks index)
parts_are ks index =
    let there = map (leaf_block ks) index.leaves.old in
    let taken = map (leaf_block ks) index.leaves.new in
    let olds = old_nodes ks index.rows in
    let news = new_nodes ks index.rows in
    let root = node_block ks index.tree in
    let moved = IsPermutation-trans _ _ _ (IsPermutation-append_left (there ++ taken) _ _ (row_parts ks index.rows))
    (swapped olds news there taken) in
    let all = IsPermutation-trans _ _ _ (IsPermutation-cons root _ _ moved)
    (between root (there ++ olds) (taken ++ news)) in
    subst (λ (bs : List Block). IsPermutation (root ∷ row_blocks ks (map ats_of index.rows) ++ bs)
    (old_blocks ks index ++ new_blocks ks index))
    (sym (map-append (leaf_block ks) index.leaves.old index.leaves.new)) all

-- ---- the group

leaf_addresses : (room : ℕ) (ats : List ℕ) (es : List SnodEntry) (fs : List Found)
    → ats ≡ map address_of (leaves room ats es fs)
leaf_addresses room [] es fs = refl
leaf_addresses room (at ∷ ats) es fs =
    ap (λ (l : List ℕ). at ∷ l) (leaf_addresses room ats (drop room es) (drop room fs))

module _ (c : Array) (g : GroupAt) (head : HeapHead) (base : ℕ) (index : IndexRows) (es : List SnodEntry)
    (fs : List Found) (root : index.tree ≡ g.tree_at) (spelled : SpellsHeap head (bytes_of c g.heap_at 32))
    (empty : HasText (bytes_of c head.segment_at head.len) base [])
    (zero_base : slice_index (bytes_of c head.segment_at head.len) 0 ≡ 0 → base ≡ 0)
    (links : AreLinks (bytes_of c head.segment_at head.len) es fs) (ordered : AreOrdered ([] ∷ names_of fs))
    (room : length es ≤ 2 * g.ks.leaf * length (ats_of index.leaves))
    (rows : HaveRoom (2 * g.ks.internal) (length (ats_of index.leaves)) (rows_of index))
    (nodes : IsSpelledOut c g.ks base index es) where
  pub relaid : IsRelaid c g head base index es fs
  relaid =
      let ks = g.ks in
      let ats = ats_of index.leaves in
      let keys = leaf_keys (2 * ks.leaf) base ats es in
      let xs = leaves (2 * ks.leaf) ats es fs in
      let all = nodes_suffice c ks 0 (rows_of index) keys xs (subst (AllNodesSpelled c ks 0 (rows_of index) keys)
      (leaf_addresses (2 * ks.leaf) ats es fs) nodes.nodes) in
      let over = group_laid_over c ks (bytes_of c head.segment_at head.len) base ats (map ats_of index.rows) index.tree
      es fs empty zero_base links ordered room nodes.leaves rows all in
      let laid_out = over.laid in
      let own : List Block = record { start = g.heap_at; len = 32 } ∷ placed head.segment_at head.len
      ++ index_blocks ks laid_out.index in
      record {
        blocks = own;
        new = record {
          head = head;
          spelled = spelled;
          level = length (map ats_of index.rows);
          index = laid_out.index;
          root = laid_out.root ∙ root;
          stands = laid_out.stands;
          links = sym laid_out.links;
          ordered = ordered.1;
          blocks = refl;
        };
        head_is = refl;
        level_is = length-map index.rows ats_of;
        entries = laid_out.entries;
        offsets = laid_out.offsets;
        used = laid_out.used;
        base_used = laid_out.base_used;
        leaves = subst (IsPermutation (leaf_ats laid_out.index)) over.leafs
            (IsPermutation-refl (leaf_ats laid_out.index));
        kept = laid_out.kept;
        nodes = IsPermutation-trans _ _ _ laid_out.blocks (parts_are ks index);
        blocks_are = refl;
      }
