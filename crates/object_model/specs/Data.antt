-- A dataset: its type and sizes, and its elements, in row-major order, each as its bytes.
-- Cited by `step`, and by what a file's bytes hold.
use Rattle.std.specs.Prelude.{ℕ, ◌&&◌, Bool, List, [], map, Option, if◌then◌else◌, slice_index_or}
use Rattle.dtype.specs.declared.types.ElemType.{ElemType}
use Rattle.object_model.specs.Boxes.{indices, place, plus, minus, in_box, all_le, all_lt, same_rank}

-- Its maximum sizes are its sizes where none were given, and all ones is unlimited. Without chunk sizes it is
-- contiguous. A filtered dataset's elements aren't known: its list is empty.
pub record Data : Type 0 where
  pub elem : ElemType
  pub dims : List ℕ
  pub max : List ℕ
  pub chunk : Option (List ℕ)
  pub fill : List ℕ
  pub filtered : Bool
  pub elements : List (List ℕ)

-- the elements of these sizes, each by its index
abbrev pub elements_by : List ℕ → (List ℕ → List ℕ) → List (List ℕ)
elements_by dims f = map f (indices dims)

-- the element at an index
abbrev pub element : Data → List ℕ → List ℕ
element d i = slice_index_or d.elements (place d.dims i) []

-- the box has the dataset's rank and lies within its sizes
abbrev pub fits_box : Data → List ℕ → List ℕ → Bool
fits_box d start count = same_rank start d.dims && same_rank count d.dims && all_le (plus start count) d.dims

-- the elements of a box, in row-major order
abbrev pub read_box : Data → List ℕ → List ℕ → List (List ℕ)
read_box d start count = map (λ i. element d (plus start i)) (indices count)

-- the elements of the box replaced by these, in row-major order, and all others as before
abbrev pub write_box : Data → List ℕ → List ℕ → List (List ℕ) → Data
write_box d start count values =
    record d {
      elements = elements_by d.dims (λ i. if in_box start count i then slice_index_or values
          (place count (minus i start)) [] else element d i);
    }

-- greater sizes: each element at its index, and the fill at new indices
abbrev pub grow : Data → List ℕ → Data
grow d dims =
    record d { dims = dims; elements = elements_by dims (λ i. if all_lt i d.dims then element d i else d.fill) }
