-- Where a name stands among the links of a group, which ascend by their names.
-- Cited by what looks a name up, and by what puts a link into a group or takes one out.
use Rattle.std.specs.Prelude.{◌≡◌, ℕ, ◌<◌, ◌≤◌, false, List, length, slice_index_or, take, drop, All, IsTrue}
use Rattle.std.specs.List.{Contains}
use Rattle.object_model.specs.Tree.{Name, name_lt}
use Rattle.node_codec.specs.declared.snod.SnodEntry.{SnodEntry}
use Rattle.file_model.specs.Groups.{Found, HasText}

-- The names of so many links come before a name, and those of the others don't.
pub record IsPlace (fs : List Found) (name : Name) (n : ℕ) : Type 0 where
  pub within : n ≤ length fs
  pub before : All (λ f. IsTrue (name_lt f.name name)) (take n fs)
  pub behind : All (λ f. name_lt f.name name ≡ false) (drop n fs)

-- one of the links has this name
pub record HasName (fs : List Found) (name : Name) : Type 0 where
  pub link : Found
  pub one : Contains fs link
  pub is : link.name ≡ name

-- there is an entry at a place, and it has this name
pub record IsNamedAt (segment : List ℕ) (es : List SnodEntry) (n : ℕ) (name : Name) : Type 0 where
  pub within : n < length es
  pub text : (d : SnodEntry) → HasText segment (slice_index_or es n d).name_at name
