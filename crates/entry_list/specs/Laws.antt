-- Laws of entries and links with one more and one fewer. Each is the clause of a small public function of this crate.
use Rattle.std.specs.Prelude.{◌≡◌, ◌≢◌, ◌⊎◌, ℕ, ◌<◌, ◌≤◌, List, [], ◌∷◌, length, slice_index_or, flat_map}
use Rattle.std.specs.List.{Contains, insert, remove}
use Rattle.node_codec.specs.declared.snod.SnodEntry.{SnodEntry}
use Rattle.object_model.specs.Tree.{Name, AreOrdered}
use Rattle.file_model.specs.Groups.{Found, AreLinks, entry_offsets}
use Rattle.file_model.specs.RefusedGroups.{names_of}
use Rattle.file_model.specs.EditLaws.{IsOneMore}
use Rattle.entry_list.specs.Places.{IsPlace, HasName}

-- ---- entries and the links that they tell

-- an entry more tells its link at the same place
abbrev pub LinksInsert : Type 0
LinksInsert = (segment : List ℕ) (es : List SnodEntry) (fs : List Found) (n : ℕ) (e : SnodEntry) (f : Found)
    → AreLinks segment es fs → AreLinks segment (e ∷ []) (f ∷ []) → n ≤ length es
    → AreLinks segment (insert es n e) (insert fs n f)

-- and without one the link at its place is gone
abbrev pub LinksRemove : Type 0
LinksRemove = (segment : List ℕ) (es : List SnodEntry) (fs : List Found) (n : ℕ)
    → AreLinks segment es fs → n < length es → AreLinks segment (remove es n) (remove fs n)

-- ---- order

-- where names ascend, they ascend with a new one at its place
abbrev pub OrderInsert : Type 0
OrderInsert = (fs : List Found) (n : ℕ) (f : Found)
    → AreOrdered (names_of fs) → IsPlace fs f.name n → ¬ HasName fs f.name → AreOrdered (names_of (insert fs n f))

-- and with one fewer
abbrev pub OrderRemove : Type 0
OrderRemove = (fs : List Found) (n : ℕ) → AreOrdered (names_of fs) → n < length fs
    → AreOrdered (names_of (remove fs n))

-- ---- one more and one fewer

-- a link that is put in at some place
abbrev pub OneMore : Type 0
OneMore = (fs : List Found) (n : ℕ) (f : Found) → n ≤ length fs → IsOneMore f fs (insert fs n f)

-- a link that is taken out
abbrev pub OneFewer : Type 0
OneFewer = (fs : List Found) (n : ℕ) (d : Found) → n < length fs
    → IsOneMore (slice_index_or fs n d) (remove fs n) fs

-- ---- names

-- a name that one of the links has is that of the link at its place
abbrev pub NameFound : Type 0
NameFound = (fs : List Found) (name : Name) (n : ℕ) (d : Found)
    → AreOrdered (names_of fs) → IsPlace fs name n → HasName fs name
    → (n < length fs) × ((slice_index_or fs n d).name ≡ name)

-- no link has a name, where no link at its place has it
abbrev pub NameLacking : Type 0
NameLacking = (fs : List Found) (name : Name) (n : ℕ) (d : Found)
    → AreOrdered (names_of fs) → IsPlace fs name n → (n < length fs → (slice_index_or fs n d).name ≢ name)
    → ¬ HasName fs name

-- ---- offsets in use

-- with an entry more, an offset in use is one of its own, or was in use
abbrev pub OffsetsInsert : Type 0
OffsetsInsert = (es : List SnodEntry) (n : ℕ) (e : SnodEntry) (at : ℕ)
    → Contains (flat_map entry_offsets (insert es n e)) at
    → Contains (entry_offsets e) at ⊎ Contains (flat_map entry_offsets es) at

-- without an entry, an offset in use was in use
abbrev pub OffsetsRemove : Type 0
OffsetsRemove = (es : List SnodEntry) (n : ℕ) (at : ℕ)
    → Contains (flat_map entry_offsets (remove es n)) at → Contains (flat_map entry_offsets es) at
