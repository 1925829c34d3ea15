-- A group whose heap tells what is free, and whose entries with one fewer are laid out, has one link fewer.
use Rattle.std.proofs.Common.{◌≡◌, ℕ, ◌*◌, ◌<◌, ◌≤◌, List, [], ◌∷◌, length, slice_index, slice_index_or, sym, ◌∙◌, ap}
use Rattle.std.proofs.Common.{refl, subst, subst₂, arith, inl, inr, le_trans}
use Rattle.std.specs.List.{flat_map, remove}
use Rattle.std.proofs.lemmas.List.Edits.{length-remove}
use Rattle.std.proofs.lemmas.List.Sorted.{IsPermutation-refl}
use Rattle.outside.specs.Array.{Array, bytes_of}
use Rattle.outside.specs.Blocks.{Block, placed}
use Rattle.node_codec.specs.Heap.{SpellsHeap}
use Rattle.node_codec.specs.declared.heap.HeapHead.{HeapHead}
use Rattle.node_codec.specs.declared.snod.SnodEntry.{SnodEntry}
use Rattle.object_model.specs.Tree.{Name}
use Rattle.file_model.specs.EditLaws.{IsOneMore}
use Rattle.file_model.specs.Groups.{AreLinks, Found, HasText, entry_offsets, index_blocks, index_offsets}
use Rattle.file_model.specs.WellKept.{IsKeptGroup}
use Rattle.entry_list.proofs.EntryLaws.{one_fewer}
use Rattle.std.specs.List.Sorted.{IsPermutation}
use Rattle.group_room.specs.Index.{entries_in, leaf_ats}
use Rattle.group_room.specs.Used.{IsFreeBehind, IsUsedLen}
use Rattle.group_heap.specs.Edits.{HasFree}
use Rattle.group_heap.proofs.ArrayLemmas.{len_of}
use Rattle.group_layout.specs.Laying.{IsSpelledOut, ats_of, new_blocks, old_blocks, rows_of}
use Rattle.group_layout.specs.Rows.{HaveRoom}
use Rattle.group_facts.specs.Rows.{blocks_by_rows}
use Rattle.group_rows.specs.Reading.{IsReadOf}
use Rattle.group_rows.specs.declared.group.GroupAt.{GroupAt}
use Rattle.group_rows.specs.declared.group.GroupRead.{GroupRead}
use Rattle.group_edit.specs.declared.draft.Draft.{Draft}
use Rattle.group_edit.specs.Edited.{HasRemoved, StaysGroup}
use Rattle.group_edit.specs.Links.{HasName, HoldsGroup, segment_in}
use Rattle.group_edit.specs.Removing.{IsRemoveDraft}
use Rattle.group_edit.proofs.Relaid.{IsRelaid, relaid}
use Rattle.group_edit.proofs.RemovedNodes.{leaves_same, levels_same, new_same, old_same, one_entry_fewer, read_blocks}
use Rattle.group_edit.proofs.RemovedNodes.{read_levels, read_room, read_rows_room, rows_same, same_blocks, same_nodes}
use Rattle.group_edit.proofs.RemovedNodes.{some_leaf}
use Rattle.group_edit.proofs.RemovedTexts.{IsWith, among_all, first_kept, links_kept, text_kept, used_kept}
use Rattle.group_edit.proofs.RemovedLinks.{base_there, found, links_left, ordered_left, texts_there, used_there}
use Rattle.group_edit.proofs.RemovedLinks.{zero_there}

module _ (b : Array) (g : GroupAt) (name : Name) (read : GroupRead) (draft : Draft)
    (dr : IsRemoveDraft g name read draft) (fs : List Found) (bs : List Block) (old : HoldsGroup b g fs bs)
    (rd : IsReadOf b g old.head old.index read) where
  -- the nodes are those that were read, and have room for one entry fewer
  pub nodes_there : IsPermutation (old_blocks g.ks draft.index)
      (blocks_by_rows g.ks read.leaves read.rows.items g.tree_at)
  nodes_there =
      subst (λ (bs : List Block). IsPermutation bs (blocks_by_rows g.ks read.leaves read.rows.items g.tree_at))
      (sym (old_same g.ks g.tree_at read.leaves read.rows.items draft.index dr.rest.index)) (IsPermutation-refl _)

  pub leaves_room : length draft.entries.items ≤ 2 * g.ks.leaf * length (ats_of draft.index.leaves)
  leaves_room =
      let fewer = length-remove read.entries.items dr.place dr.within in
      let kept : length draft.entries.items ≤ length (entries_in old.index) =
      omega (arith, fewer, ap length dr.rest.entries, ap length rd.entries) in
      let room = read_room b g.ks _ old.level old.index old.stands read.leaves read.rows.items g.tree_at
      rd.leaves rd.rows old.root in
      rw (leaves_same g.ks g.tree_at read.leaves read.rows.items draft.index dr.rest.index) (le_trans kept room)

  pub rows_room : HaveRoom (2 * g.ks.internal) (length (ats_of draft.index.leaves)) (rows_of draft.index)
  rows_room =
      rw (
        leaves_same g.ks g.tree_at read.leaves read.rows.items draft.index dr.rest.index,
        rows_same g.ks g.tree_at read.leaves read.rows.items draft.index dr.rest.index,
      ) (read_rows_room b g.ks _ old.level old.index old.stands read.leaves read.rows.items g.tree_at
      rd.leaves rd.rows old.root)

  module _ (c : Array) (there : HasName fs name) (freed : HasFree read.heap dr.rest.used c)
      (spelled : IsSpelledOut c g.ks draft.base draft.index draft.entries.items) where
    abbrev before : List ℕ
    before = read.heap.segment.items

    abbrev after : List ℕ
    after = bytes_of c freed.head.segment_at freed.head.len

    abbrev es : List SnodEntry
    es = draft.entries.items

    abbrev rest : List Found
    rest = remove fs dr.place

    abbrev offsets : List ℕ
    offsets = flat_map entry_offsets es

    links : AreLinks before es rest
    links = links_left b g name read draft dr fs bs old rd there

    empty : HasText before draft.base []
    empty = base_there b g name read draft dr fs bs old rd links there.link

    is_used : IsUsedLen before (draft.base ∷ offsets) dr.rest.used
    is_used = used_there b g name read draft dr fs bs old rd links there.link

    long : length after ≡ length before
    long = len_of c freed.head.segment_at freed.head.len ∙ freed.len ∙ sym read.heap.len

    stays : (at : ℕ) (text : List ℕ) → IsWith draft.base offsets at → HasText before at text → HasText after at text
    stays at text among h =
        text_kept before after dr.rest.used long freed.front at text h
        (is_used.behind at text (among_all draft.base offsets at among) h)

    same_first : slice_index after 0 ≡ slice_index before 0
    same_first = first_kept before after dr.rest.used long freed.front (omega (arith, dr.rest.low))

    laid : IsRelaid c g freed.head draft.base draft.index es rest
    laid =
        relaid c g freed.head draft.base draft.index es rest dr.rest.index.root
        (subst (λ (at : ℕ). SpellsHeap freed.head (bytes_of c at 32)) rd.heap_at freed.spelled)
        (stays draft.base [] (inl refl) empty)
        (λ zero. zero_there b g name read draft dr fs bs old rd links there.link (sym same_first ∙ zero))
        (links_kept before after dr.rest.used long freed.front es rest links
        (λ at text within h. is_used.behind at text (among_all draft.base offsets at (inr within)) h))
        (ordered_left b g name read draft dr fs bs old rd there) leaves_room rows_room spelled

    -- ---- what stays

    same_after : segment_in c g rest laid.blocks laid.new ≡ after
    same_after = ap (λ (h : HeapHead). bytes_of c h.segment_at h.len) laid.head_is

    leaf : 0 < length (leaf_ats laid.new.index)
    leaf =
        let room : length read.entries.items ≤ 2 * g.ks.leaf * length read.leaves =
        rw rd.entries (read_room b g.ks _ old.level old.index old.stands read.leaves read.rows.items g.tree_at
        rd.leaves rd.rows old.root) in
        let moved = subst (IsPermutation (leaf_ats laid.new.index))
        (leaves_same g.ks g.tree_at read.leaves read.rows.items draft.index dr.rest.index) laid.leaves in
        some_leaf (2 * g.ks.leaf) read.entries.items dr.place read.leaves _ dr.within room moved

    used_after : IsUsedLen after (index_offsets laid.new.index) dr.rest.used
    used_after =
        used_kept before after dr.rest.used long freed.front draft.base offsets (index_offsets laid.new.index)
        (texts_there b g name read draft dr fs bs old rd links there.link) is_used laid.offsets laid.used
        (laid.base_used leaf)

    kept : IsKeptGroup (segment_in b g fs bs old) old.index
        → IsKeptGroup (segment_in c g rest laid.blocks laid.new) laid.new.index
    kept k =
        let zero : slice_index before 0 ≡ 0 = ap (λ (s : List ℕ). slice_index s 0) rd.segment ∙ k.empty_name.ended in
        subst (λ (s : List ℕ). IsKeptGroup s laid.new.index) (sym same_after) (laid.kept (same_first ∙ zero))

    level : laid.new.level ≡ old.level
    level =
        laid.level_is ∙ levels_same g.ks g.tree_at read.leaves read.rows.items draft.index dr.rest.index
        ∙ read_levels b g.ks _ old.level old.index old.stands read.leaves read.rows.items g.tree_at
        rd.leaves rd.rows old.root

    group_stays : StaysGroup b c g fs rest bs laid.blocks old laid.new
    group_stays = record {
      used = dr.rest.used;
      is_used = subst (λ (s : List ℕ). IsUsedLen s (index_offsets laid.new.index) dr.rest.used) (sym same_after)
          used_after;
      free = subst (λ (h : HeapHead). IsFreeBehind dr.rest.used h (bytes_of c h.segment_at h.len))
          (sym laid.head_is) freed.free;
      texts = λ at text was is h.
          let read_text : HasText before at text = subst (λ (s : List ℕ). HasText s at text) (sym rd.segment) h in
          subst (λ (s : List ℕ). HasText s at text) (sym same_after) (stays at text (laid.offsets at is) read_text);
      kept = kept;
      level = omega (arith, level);
    }

    -- ---- the blocks

    same_place : placed freed.head.segment_at freed.head.len ≡ placed old.head.segment_at old.head.len
    same_place =
        let at = freed.place ∙ ap (λ (h : HeapHead). h.segment_at) rd.head_is in
        let len = freed.len ∙ ap (λ (h : HeapHead). h.len) rd.head_is in
        λ j. placed (at j) (len j)

    nodes : IsPermutation (index_blocks g.ks laid.new.index) (index_blocks g.ks old.index)
    nodes =
        same_nodes _ _ (old_blocks g.ks draft.index) (new_blocks g.ks draft.index)
        (blocks_by_rows g.ks read.leaves read.rows.items g.tree_at) laid.nodes
        (new_same g.ks g.tree_at read.leaves read.rows.items draft.index dr.rest.index) nodes_there
        (read_blocks b g.ks _ old.level old.index old.stands read.leaves read.rows.items g.tree_at
        rd.leaves rd.rows old.root)

    blocks : IsPermutation laid.blocks bs
    blocks =
        subst₂ (λ (xs ys : List Block). IsPermutation xs ys) (sym laid.blocks_are) (sym old.blocks)
        (same_blocks (record { start = g.heap_at; len = 32 }) _ _ _ _ same_place nodes)

    pub removed : HasRemoved b c g fs bs old name
    removed =
        let is = found b g name read draft dr fs bs old rd there in
        let entry = slice_index_or read.entries.items dr.place dr.rest.gone in
        let fewer = one_entry_fewer read.entries.items dr.place dr.rest.gone dr.within in
        record {
          links = rest;
          blocks = laid.blocks;
          link = slice_index_or fs dr.place there.link;
          named = is.1;
          fewer = one_fewer fs dr.place there.link is.0;
          new = laid.new;
          are = blocks;
          heads = (
            ap (λ (h : HeapHead). h.segment_at) laid.head_is ∙ freed.place
                ∙ ap (λ (h : HeapHead). h.segment_at) rd.head_is,
            ap (λ (h : HeapHead). h.len) laid.head_is ∙ freed.len ∙ ap (λ (h : HeapHead). h.len) rd.head_is,
          );
          entry = entry;
          entries = subst₂ (IsOneMore entry) (sym (laid.entries ∙ dr.rest.entries)) rd.entries fewer;
          stays = group_stays;
        }
