-- A group whose heap has a name more, and whose entries with one more are laid out, has one link more.
use Rattle.std.proofs.Common.{◌≡◌, ◌⊎◌, ℕ, ◌+◌, ◌*◌, ◌<◌, ◌≤◌, List, [], ◌∷◌, ◌++◌, length, take, get_or}
use Rattle.std.proofs.Common.{sym, ◌∙◌, ap, subst, subst₂, arith, inl, inr}
use Rattle.std.specs.Prelude.{max, min}
use Rattle.std.specs.List.{Contains, flat_map, insert}
use Rattle.std.specs.List.Sorted.{IsPermutation}
use Rattle.std.proofs.lemmas.Bool.{cases_lt}
use Rattle.std.proofs.lemmas.List.Edits.{length-insert}
use Rattle.std.proofs.lemmas.List.Sorted.{IsPermutation-append_left, IsPermutation-trans}
use Rattle.outside.specs.Array.{Array, bytes_of}
use Rattle.outside.specs.Blocks.{Block, placed}
use Rattle.outside.specs.Space.{SpaceView}
use Rattle.block_space.specs.Plans.{rounded}
use Rattle.block_space.specs.declared.plan.Needs.{Needs}
use Rattle.node_codec.specs.Heap.{SpellsHeap}
use Rattle.node_codec.specs.declared.heap.HeapHead.{HeapHead}
use Rattle.node_codec.specs.declared.snod.SnodEntry.{SnodEntry}
use Rattle.object_model.specs.Tree.{Name, AreOrdered}
use Rattle.file_model.specs.EditLaws.{IsOneMore}
use Rattle.file_model.specs.Groups.{AreLinks, Found, HasText, Header, entry_offsets, index_blocks, index_offsets}
use Rattle.file_model.specs.WellKept.{IsKeptGroup}
use Rattle.plan_pieces.specs.Images.{image_blocks, images_of}
use Rattle.entry_list.specs.Places.{IsPlace}
use Rattle.group_room.specs.Used.{EndBefore, Fits, IsFreeBehind, IsUsedLen, name_end, wider_len}
use Rattle.group_heap.specs.Edits as heap
use Rattle.group_heap.specs.Greatest.{IsUsedBy}
use Rattle.group_heap.proofs.ArrayLemmas.{len_of}
use Rattle.group_heap.proofs.TextLemmas.{used_by_last}
use Rattle.group_layout.specs.Laying.{IsSpelledOut, ats_of, new_blocks, old_blocks, rows_of}
use Rattle.group_layout.specs.Rows.{HaveRoom}
use Rattle.group_facts.specs.Heap.{HasSomeText, names_of}
use Rattle.group_facts.specs.Rows.{blocks_by_rows}
use Rattle.group_facts.proofs.EmptyName.{nonempty_names}
use Rattle.group_facts.proofs.UsedIndex.{used_texts}
use Rattle.group_rows.specs.Reading.{IsReadOf}
use Rattle.group_rows.specs.declared.group.GroupAt.{GroupAt}
use Rattle.group_rows.specs.declared.group.GroupRead.{GroupRead}
use Rattle.group_edit.specs.declared.draft.Draft.{Draft}
use Rattle.group_edit.specs.declared.target.NewTarget.{NewTarget}
use Rattle.group_edit.specs.Drafts.{new_fills, segment_fills}
use Rattle.group_edit.specs.Edited.{AreNewBlocks, HasInserted, StaysGroup}
use Rattle.group_edit.specs.Inserting.{IsInsertDraft, next_segment}
use Rattle.group_edit.specs.Links.{HasName, HoldsGroup, IsNewName, entry_to, segment_in}
use Rattle.group_edit.proofs.Relaid.{IsRelaid, relaid}
use Rattle.group_edit.proofs.InsertedHeap.{IsBase, IsWithName, base_text, entry_uses, first_same, links_there, one_more}
use Rattle.group_edit.proofs.InsertedHeap.{ordered_with, stays_there, used_then}
use Rattle.group_edit.proofs.InsertedBlocks.{in_place, moved_to, read_blocks, segment_taken}

wider_some : (used len : ℕ) (name : Name) → 0 < wider_len used len name
wider_some used len name = omega arith

past : (len used : ℕ) (name : Name) → ¬ Fits used len name → len < name_end used name
past len used name more = elim (cases_lt len (name_end used name)) [
  | inl is ↦ is
  | inr fits ↦ absurd (more fits)
]

module _ (v : SpaceView) (c : Array) (g : GroupAt) (ahead : Needs) (name : Name) (target : NewTarget)
    (read : GroupRead) (draft : Draft) (dr : IsInsertDraft v g ahead name target read draft) (fs : List Found)
    (bs : List Block) (old : HoldsGroup v.array g fs bs) (rd : IsReadOf v.array g old.head old.index read)
    (is_new : IsNewName name) (lacks : HasName fs name → ⊥)
    (named : heap.HasName read.heap dr.used name (next_segment v ahead) c)
    (spelled : IsSpelledOut c g.ks draft.base draft.index draft.entries.items)
    (nodes : IsPermutation (old_blocks g.ks draft.index)
    (blocks_by_rows g.ks read.leaves read.rows.items g.tree_at))
    (room : length read.entries.items + 1 ≤ 2 * g.ks.leaf * length (ats_of draft.index.leaves))
    (rows : HaveRoom (2 * g.ks.internal) (length (ats_of draft.index.leaves)) (rows_of draft.index))
    (level : length draft.index.rows ≤ max old.level 31)
    (taken : List Block)
    (taken_are : taken ≡ image_blocks (images_of (segment_fills draft.heap)) ++ new_blocks g.ks draft.index) where
  abbrev segment : List ℕ
  segment = segment_in v.array g fs bs old

  abbrev changed : List ℕ
  changed = heap.segment_of c named.head

  abbrev link : Found
  link = record { name = name; target = Header target.header_at }

  abbrev links : List Found
  links = insert fs dr.entries.place link

  -- ---- the heap

  with_name : IsWithName segment changed dr.used name
  with_name =
      let len : length segment ≡ read.heap.head.len =
      len_of v.array old.head.segment_at old.head.len ∙ ap (λ (h : HeapHead). h.len) (sym rd.head_is) in
      record {
        low = dr.low;
        front = subst₂ (λ (n : ℕ) (l : List ℕ). take (min dr.used n) changed ≡ take (min dr.used n) l) (sym len)
            rd.segment named.front;
        empty = λ z. named.gap (omega (arith, len, z)) 0 (omega (arith, len, z)) (omega (arith, dr.low));
        text = named.text;
      }

  base_is : IsBase segment dr.used name draft.base
  base_is = record {
    zero = λ z. dr.base_zero (ap (λ (l : List ℕ). get_or l 0 0) rd.segment ∙ z);
    other = λ some. dr.base_other (λ z. some (ap (λ (l : List ℕ). get_or l 0 0) (sym rd.segment) ∙ z));
  }

  texts : (o : ℕ) → Contains (index_offsets old.index) o → HasSomeText segment o
  texts = (used_texts v.array g.ks segment old.level old.index old.stands).0

  used_len : IsUsedLen segment (index_offsets old.index) dr.used
  used_len = used_by_last segment (index_offsets old.index) read.last dr.used rd.last texts
      (subst (λ (l : List ℕ). IsUsedBy l read.last dr.used) rd.segment dr.is_used)

  -- an offset of an entry that was read is in use
  in_use : (o : ℕ) → Contains (flat_map entry_offsets read.entries.items) o → Contains (index_offsets old.index) o
  in_use o there = entry_uses old.index o
      (subst (λ (es : List SnodEntry). Contains (flat_map entry_offsets es) o) rd.entries there)

  ends : EndBefore segment (flat_map entry_offsets read.entries.items) dr.used
  ends at text there h = used_len.behind at text (in_use at there) h

  -- ---- the links

  told : AreLinks segment read.entries.items fs
  told = subst₂ (AreLinks segment) (sym rd.entries) (sym old.links)
      (used_texts v.array g.ks segment old.level old.index old.stands).1

  links_are : AreLinks changed draft.entries.items links
  links_are = subst (λ (es : List SnodEntry). AreLinks changed es links) (sym dr.entries.are)
      (links_there segment changed dr.used name with_name read.entries.items fs dr.entries.place target told ends
      dr.entries.free.within)

  place : IsPlace fs name dr.entries.place
  place = dr.entries.free.is_place fs
      (subst (λ (l : List ℕ). AreLinks l read.entries.items fs) (sym rd.segment) told) old.ordered

  ordered : AreOrdered ([] ∷ names_of links)
  ordered = ordered_with fs dr.entries.place link is_new.some
      (subst (λ (ls : List Found). AreOrdered ([] ∷ names_of ls)) (sym old.links)
      (nonempty_names v.array g.ks segment old.level old.index old.stands
      (subst (λ (ls : List Found). AreOrdered (names_of ls)) old.links old.ordered))) place lacks

  count : length draft.entries.items ≡ length read.entries.items + 1
  count = ap length dr.entries.are
      ∙ length-insert read.entries.items dr.entries.place (entry_to dr.used target) dr.entries.free.within

  -- the group that is laid out
  grown : IsRelaid c g named.head draft.base draft.index draft.entries.items links
  grown = relaid c g named.head draft.base draft.index draft.entries.items links dr.index.root
      (subst (λ (a : ℕ). SpellsHeap named.head (bytes_of c a 32)) rd.heap_at named.spelled)
      (base_text segment changed dr.used name with_name draft.base base_is)
      (λ z. base_is.zero (sym (first_same segment changed dr.used name with_name) ∙ z)) links_are ordered
      (subst (λ (n : ℕ). n ≤ 2 * g.ks.leaf * length (ats_of draft.index.leaves)) (sym count) room) rows spelled

  -- ---- its blocks

  more_blocks : IsPermutation (index_blocks g.ks grown.new.index)
      (index_blocks g.ks old.index ++ new_blocks g.ks draft.index)
  more_blocks = IsPermutation-trans _ _ _ grown.nodes (IsPermutation-append_left (new_blocks g.ks draft.index) _ _
      (IsPermutation-trans _ _ _ nodes (read_blocks v.array g.ks segment old.level old.index read.leaves
      read.rows.items g.tree_at old.stands rd.leaves rd.rows old.root)))

  abbrev head_block : Block
  head_block = record { start = g.heap_at; len = 32 }

  abbrev old_place : List Block
  old_place = placed old.head.segment_at old.head.len

  abbrev new_place : List Block
  new_place = placed named.head.segment_at named.head.len

  -- the length that was read is that of the group's heap
  len_is : read.heap.head.len ≡ old.head.len
  len_is = ap (λ (h : HeapHead). h.len) rd.head_is

  keeps_place : Fits dr.used old.head.len name
      → (grown.new.head.segment_at ≡ old.head.segment_at) × (grown.new.head.len ≡ old.head.len)
  keeps_place fits =
      let heads = named.stays (omega (arith, fits, len_is)) in (
        ap (λ (h : HeapHead). h.segment_at) grown.head_is ∙ heads.0 ∙ ap (λ (h : HeapHead). h.segment_at) rd.head_is,
        ap (λ (h : HeapHead). h.len) grown.head_is ∙ heads.1 ∙ len_is,
      )

  widened : ¬ Fits dr.used old.head.len name → grown.new.head.len ≡ wider_len dr.used old.head.len name
  widened more =
      let heads = named.moves (past read.heap.head.len dr.used name
      (λ fits. more (subst (λ (n : ℕ). Fits dr.used n name) len_is fits))) in
      ap (λ (h : HeapHead). h.len) grown.head_is ∙ heads.1 ∙ ap (λ (n : ℕ). wider_len dr.used n name) len_is

  -- the segment stays in its place
  stay : name_end dr.used name ≤ read.heap.head.len
      → AreNewBlocks v.array c g fs links bs grown.blocks taken old grown.new
  stay fits =
      let heads = named.stays fits in
      let at = heads.0 ∙ ap (λ (h : HeapHead). h.segment_at) rd.head_is in
      let len = heads.1 ∙ ap (λ (h : HeapHead). h.len) rd.head_is in
      let taken_is : taken ≡ new_blocks g.ks draft.index = taken_are
      ∙ ap (λ o. image_blocks (images_of (new_fills o)) ++ new_blocks g.ks draft.index) (dr.named.stays fits) in
      let now : grown.blocks ≡ head_block ∷ old_place ++ index_blocks g.ks grown.new.index = grown.blocks_are
      ∙ (λ i. head_block ∷ placed (at i) (len i) ++ index_blocks g.ks grown.new.index) in
      inl (
        ap (λ (h : HeapHead). h.segment_at) grown.head_is ∙ at,
        ap (λ (h : HeapHead). h.len) grown.head_is ∙ len,
        subst₂ IsPermutation (sym now) (λ i. sym old.blocks i ++ sym taken_is i)
            (in_place head_block old_place (index_blocks g.ks old.index) (index_blocks g.ks grown.new.index)
            (new_blocks g.ks draft.index) more_blocks),
      )

  -- it moves
  move : read.heap.head.len < name_end dr.used name
      → AreNewBlocks v.array c g fs links bs grown.blocks taken old grown.new
  move more =
      let heads = named.moves more in
      let wide : ℕ = wider_len dr.used read.heap.head.len name in
      let some : 0 < wide = wider_some dr.used read.heap.head.len name in
      let segment_is : image_blocks (images_of (segment_fills draft.heap)) ≡ new_place =
      segment_taken (next_segment v ahead) wide draft.heap.segment (dr.named.moves more).1 some
      ∙ (λ i. placed (sym heads.0 i) (sym heads.1 i)) in
      let taken_is : taken ≡ new_place ++ new_blocks g.ks draft.index = taken_are
      ∙ ap (λ (bs : List Block). bs ++ new_blocks g.ks draft.index) segment_is in
      inr (subst₂ IsPermutation (ap (λ (bs : List Block). bs ++ old_place) (sym grown.blocks_are))
      (λ i. sym old.blocks i ++ sym taken_is i)
      (moved_to head_block old_place new_place (index_blocks g.ks old.index) (index_blocks g.ks grown.new.index)
      (new_blocks g.ks draft.index) more_blocks))

  are : AreNewBlocks v.array c g fs links bs grown.blocks taken old grown.new
  are = elim (cases_lt read.heap.head.len (name_end dr.used name)) [
    | inl more ↦ move more
    | inr fits ↦ stay fits
  ]

  -- ---- what stays

  used_now : IsUsedLen changed (index_offsets grown.new.index) (rounded (dr.used + length name + 1))
  used_now = used_then segment changed dr.used name with_name (index_offsets grown.new.index) read.entries.items
      dr.entries.place target draft.base dr.whole base_is (λ at there. texts at (in_use at there)) ends
      (λ at there. subst (λ (es : List SnodEntry). (at ≡ draft.base) ⊎ Contains (flat_map entry_offsets es) at)
      dr.entries.are (grown.offsets at there))
      (λ at there. grown.used at (subst (λ (es : List SnodEntry). Contains (flat_map entry_offsets es) at)
      (sym dr.entries.are) there))

  -- what holds of the segment that was told holds of the group's
  of_new : (P : HeapHead → Type 0) → P named.head → P grown.new.head
  of_new P h = subst P (sym grown.head_is) h

  stays : StaysGroup v.array c g fs links bs grown.blocks old grown.new
  stays = record {
    used = rounded (dr.used + length name + 1);
    is_used = of_new (λ h. IsUsedLen (heap.segment_of c h) (index_offsets grown.new.index)
        (rounded (dr.used + length name + 1))) used_now;
    free = of_new (λ h. IsFreeBehind (rounded (dr.used + length name + 1)) h (heap.segment_of c h)) named.free;
    texts = λ at text was now h. of_new (λ h. HasText (heap.segment_of c h) at text)
        (stays_there segment changed dr.used name with_name at text h (used_len.behind at text was h));
    kept = λ k. of_new (λ h. IsKeptGroup (heap.segment_of c h) grown.new.index)
        (grown.kept (first_same segment changed dr.used name with_name ∙ k.empty_name.ended));
    level = subst (λ (n : ℕ). n ≤ max old.level 31) (sym grown.level_is) level;
  }

  pub inserted : HasInserted v.array c g fs bs old name target taken
  inserted = record {
    links = links;
    blocks = grown.blocks;
    more = one_more fs dr.entries.place link;
    new = grown.new;
    are = are;
    name_at = dr.used;
    at_used = used_len;
    in_place = keeps_place;
    wider = widened;
    entries = subst₂ (IsOneMore (entry_to dr.used target)) rd.entries (sym dr.entries.are ∙ sym grown.entries)
        (one_more read.entries.items dr.entries.place (entry_to dr.used target));
    stays = stays;
  }
