-- The symbol table nodes of a group at hand, filled from the left, and the keys beside them. HDF5 File Format
-- Specification 3.0, III.A.1 and III.B. Cited by what plans one link more or fewer.
use Rattle.std.specs.Prelude.{ℕ, ◌*◌, List, [], ◌∷◌, take, drop}
use Rattle.outside.specs.Array.{Array, bytes_of}
use Rattle.node_codec.specs.Snod.{SpellsSnod, snod_len}
use Rattle.node_codec.specs.declared.snod.SnodEntry.{SnodEntry}
use Rattle.file_model.specs.Index.{Bottom}
use Rattle.file_model.specs.Groups.{Ks, GroupIndex, Found}

-- the nodes at these addresses, with entries and the links that they tell
abbrev pub leaves : (room : ℕ) → List ℕ → List SnodEntry → List Found → List GroupIndex
leaves room [] es fs = []
leaves room (at ∷ ats) es fs =
    Bottom (record { at = at; entries = take room es; links = take room fs })
    ∷ leaves room ats (drop room es) (drop room fs)

-- where the last of these names stands, or the one before them where there is none
abbrev pub last_key : ℕ → List SnodEntry → ℕ
last_key before [] = before
last_key before (e ∷ es) = last_key e.name_at es

-- the key before each node, and the one behind the last: the greatest name so far
abbrev pub leaf_keys : (room before : ℕ) → List ℕ → List SnodEntry → List ℕ
leaf_keys room before [] es = before ∷ []
leaf_keys room before (at ∷ ats) es = before ∷ leaf_keys room (last_key before (take room es)) ats (drop room es)

-- the blocks of these nodes spell their entries
abbrev pub AreLeavesSpelled : Array → Ks → List ℕ → List SnodEntry → Type 0
AreLeavesSpelled b ks [] es = Unit {0}
AreLeavesSpelled b ks (at ∷ ats) es = SpellsSnod ks.leaf (take (2 * ks.leaf) es) (bytes_of b at (snod_len ks.leaf))
    × AreLeavesSpelled b ks ats (drop (2 * ks.leaf) es)
