-- The links of a group that are left without the one of a name, and what they use of its heap.
use Rattle.std.proofs.Common.{◌≡◌, ℕ, ◌<◌, max, List, [], ◌∷◌, length, slice_index, slice_index_or, Some, unwrap_or}
use Rattle.std.proofs.Common.{sym, subst}
use Rattle.std.specs.List.{Contains, flat_map, remove}
use Rattle.outside.specs.Array.{Array}
use Rattle.outside.specs.Blocks.{Block}
use Rattle.node_codec.specs.declared.snod.SnodEntry.{SnodEntry}
use Rattle.object_model.specs.Tree.{Name, AreOrdered}
use Rattle.file_model.specs.Groups.{AreLinks, Found, HasText, entry_offsets}
use Rattle.entry_list.proofs.EntryLaws.{links_remove}
use Rattle.entry_list.proofs.OrderLaws.{name_found}
use Rattle.entry_list.proofs.PlaceLemmas.{name_at, name_stands}
use Rattle.group_room.specs.Used.{IsUsedLen}
use Rattle.group_heap.specs.Greatest.{HaveTexts}
use Rattle.group_heap.proofs.TextLemmas.{used_by_last}
use Rattle.group_facts.specs.Heap.{HasSomeText, names_of}
use Rattle.group_facts.proofs.EmptyName.{nonempty_names}
use Rattle.group_facts.proofs.HeapTexts.{links_have_texts}
use Rattle.group_facts.proofs.UsedIndex.{used_texts}
use Rattle.group_rows.specs.Reading.{IsReadOf}
use Rattle.group_rows.specs.declared.group.GroupAt.{GroupAt}
use Rattle.group_rows.specs.declared.group.GroupRead.{GroupRead}
use Rattle.group_edit.specs.declared.draft.Draft.{Draft}
use Rattle.group_edit.specs.Links.{HasName, HoldsGroup}
use Rattle.group_edit.specs.Removing.{IsRemoveDraft}
use Rattle.group_edit.proofs.RemovedTexts.{base_empty, base_first, greatest_with, last_text, texts_with}
use Rattle.group_edit.proofs.RemovedTexts as texts

-- the entries that were read are the links
pub read_links : (b : Array) (g : GroupAt) (read : GroupRead) (fs : List Found) (bs : List Block)
    (old : HoldsGroup b g fs bs) → IsReadOf b g old.head old.index read
    → AreLinks read.heap.segment.items read.entries.items fs
read_links b g read fs bs old rd =
    rw (rd.segment, rd.entries, old.links) (used_texts b g.ks _ old.level old.index old.stands).1

module _ (b : Array) (g : GroupAt) (name : Name) (read : GroupRead) (draft : Draft)
    (dr : IsRemoveDraft g name read draft) (fs : List Found) (bs : List Block) (old : HoldsGroup b g fs bs)
    (rd : IsReadOf b g old.head old.index read) where
  abbrev segment : List ℕ
  segment = read.heap.segment.items

  abbrev offsets : List ℕ
  offsets = flat_map entry_offsets draft.entries.items

  pub links_read : AreLinks segment read.entries.items fs
  links_read = read_links b g read fs bs old rd

  -- the last text in use, or that of the link that is gone
  module _ (links : AreLinks segment draft.entries.items (remove fs dr.place)) where
    each_text : (o : ℕ) → Contains offsets o → HasSomeText segment o
    each_text = links_have_texts segment draft.entries.items (remove fs dr.place) links

    gone_text : (d : Found) → HasSomeText segment dr.rest.gone.name_at
    gone_text d = (
      name_at fs d dr.place,
      subst (λ (e : SnodEntry). HasText segment e.name_at (name_at fs d dr.place)) (sym dr.rest.gone_is)
          (name_stands segment read.entries.items fs dr.place dr.rest.gone d links_read dr.within),
    )

    last : (d : Found) → HasSomeText segment (unwrap_or dr.rest.texts dr.rest.gone.name_at)
    last d = last_text segment offsets dr.rest.texts dr.rest.gone.name_at dr.rest.texts_are each_text (gone_text d)

    pub base_there : Found → HasText segment draft.base []
    base_there d =
        base_empty segment draft.base (unwrap_or dr.rest.texts dr.rest.gone.name_at) (last d) dr.rest.base_zero
        dr.rest.base_other

    pub zero_there : Found → slice_index segment 0 ≡ 0 → draft.base ≡ 0
    zero_there d =
        base_first segment draft.base (unwrap_or dr.rest.texts dr.rest.gone.name_at) (last d) dr.rest.base_zero
        dr.rest.base_other

    pub texts_there : Found → HaveTexts segment (draft.base ∷ offsets)
    texts_there d = texts_with segment draft.base offsets (base_there d) each_text

    pub used_there : Found → IsUsedLen segment (draft.base ∷ offsets) dr.rest.used
    used_there d =
        used_by_last segment (draft.base ∷ offsets) (Some (max (unwrap_or dr.rest.texts draft.base) draft.base))
        dr.rest.used
        (greatest_with draft.base offsets dr.rest.texts dr.rest.texts_are) (texts_there d) dr.rest.is_used

  module _ (there : HasName fs name) where
    pub found : (dr.place < length fs) × ((slice_index_or fs dr.place there.link).name ≡ name)
    found =
        name_found fs name dr.place there.link old.ordered (dr.is_place fs links_read old.ordered)
        (record { link = there.link; one = there.one; is = there.is })

    pub links_left : AreLinks segment draft.entries.items (remove fs dr.place)
    links_left =
        rw dr.rest.entries (links_remove segment read.entries.items fs dr.place links_read dr.within)

    pub ordered_left : AreOrdered ([] ∷ names_of (remove fs dr.place))
    ordered_left =
        let told = subst (λ (gs : List Found). AreOrdered (names_of gs)) old.links old.ordered in
        let all = nonempty_names b g.ks _ old.level old.index old.stands told in
        texts.ordered_left fs dr.place (subst (λ (gs : List Found). AreOrdered ([] ∷ names_of gs)) (sym old.links) all)
        found.0
