-- What stands in a group's heap: texts that stay where the used bytes do, the used length behind one more name, and the
-- texts that an index uses. HDF5 File Format Specification 3.0, III.A.1, III.C and III.D.
-- Cited by what plans an edit of a group.
use Rattle.std.specs.Prelude.{◌≡◌, ◌⊎◌, ℕ, suc, ◌+◌, ◌%◌, ◌<◌, ◌≤◌, min, List, [], ◌∷◌, length, map, take}
use Rattle.std.specs.List.{Contains, flat_map}
use Rattle.outside.specs.Array.{Array}
use Rattle.node_codec.specs.declared.snod.SnodEntry.{SnodEntry}
use Rattle.object_model.specs.Tree.{Name, AreOrdered}
use Rattle.block_space.specs.Plans.{rounded}
use Rattle.file_model.specs.Groups.{Ks, Found, GroupIndex, HasText, AreLinks, IsIndex, entry_offsets, index_offsets}
use Rattle.file_model.specs.Groups.{links_under}
use Rattle.group_room.specs.Index.{entries_in}
use Rattle.group_room.specs.Used.{EndBefore, IsUsedLen}

-- some text stands in the segment at this offset
abbrev pub HasSomeText : List ℕ → ℕ → Type 0
HasSomeText segment at = (text : List ℕ) × HasText segment at text

-- the names of links
abbrev pub names_of : List Found → List Name
names_of fs = map (λ (f : Found). f.name) fs

-- ---- laws

-- A text that ends before the used length stands in each segment with the same used bytes.
abbrev pub TextStays : Type 0
TextStays = (segment other : List ℕ) (used at : ℕ) (text : List ℕ) → HasText segment at text
    → at + length text < used → min used (length segment) ≤ length other
    → take (min used (length segment)) other ≡ take (min used (length segment)) segment → HasText other at text

-- So do the texts of entries, which tell the same links there.
abbrev pub LinksStay : Type 0
LinksStay = (segment other : List ℕ) (used : ℕ) (es : List SnodEntry) (fs : List Found) → AreLinks segment es fs
    → EndBefore segment (flat_map entry_offsets es) used → min used (length segment) ≤ length other
    → take (min used (length segment)) other ≡ take (min used (length segment)) segment → AreLinks other es fs

-- At each offset of entries that tell links stands a text.
abbrev pub LinksHaveTexts : Type 0
LinksHaveTexts = (segment : List ℕ) (es : List SnodEntry) (fs : List Found) → AreLinks segment es fs
    → (o : ℕ) → Contains (flat_map entry_offsets es) o → HasSomeText segment o

-- So does one at each offset that an index uses, and its entries tell its links.
abbrev pub UsedTexts : Type 0
UsedTexts = (b : Array) (ks : Ks) (segment : List ℕ) (level : ℕ) (index : GroupIndex)
    → IsIndex b ks segment (suc level) index
    → ((o : ℕ) → Contains (index_offsets index) o → HasSomeText segment o)
    × AreLinks segment (entries_in index) (links_under index)

-- The used length once a name stands behind the used bytes. An offset may be that of its NUL, where the empty name is.
abbrev pub UsedWithName : Type 0
UsedWithName = (segment offsets : List ℕ) (used : ℕ) (name : Name) → used % 8 ≡ 0 → 8 ≤ used
    → Contains offsets used → HasText segment used name
    → ((o : ℕ) → Contains offsets o → (o ≡ used) ⊎ (o ≡ used + length name)
    ⊎ ((text : List ℕ) → HasText segment o text → o + length text < used))
    → IsUsedLen segment offsets (rounded (used + length name + 1))

-- No link of an index has the empty name, since each comes after that of a key.
abbrev pub NonemptyNames : Type 0
NonemptyNames = (b : Array) (ks : Ks) (segment : List ℕ) (level : ℕ) (index : GroupIndex)
    → IsIndex b ks segment (suc level) index → AreOrdered (names_of (links_under index))
    → AreOrdered ([] ∷ names_of (links_under index))
