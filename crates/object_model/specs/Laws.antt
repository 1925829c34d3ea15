-- Laws that show that the tree and the step of a command are what they should be.
-- Each is the clause of a small public function of this crate.
use Rattle.std.specs.Prelude.{◌≡◌, ◌≢◌, ℕ, IsTrue, ◌↔◌, List, length, map, Some, None, Ok}
use Rattle.dtype.specs.Products.{product}
use Rattle.dtype.specs.Values.{CanHold, encoding}
use Rattle.dtype.specs.declared.types.ElemType.{ElemType}
use Rattle.dtype.specs.declared.types.Value.{Value}
use Rattle.object_model.specs.declared.command.Command.{Command}
use Rattle.object_model.specs.declared.command.Command.TheVariants as command
use Rattle.object_model.specs.declared.answer.Answer.TheVariants as answer
use Rattle.object_model.specs.Boxes.{all_lt, all_le, in_box}
use Rattle.object_model.specs.Data.{Data, element, fits_box, read_box, write_box, grow}
use Rattle.object_model.specs.Tree.{Name, find, walk, insert, IsOrdered, dir_of, last_of, ◌>>=◌}
use Rattle.object_model.specs.Step.{Plain, PlainLinks, Stack, Reply, Gives, can_hold, data_of, lines_of, links_of}
use Rattle.object_model.specs.Step.{new_group, joined, step}

-- the test of what a type can hold is right
abbrev pub TestsValues : Type 0
TestsValues = (t : ElemType) (v : Value) → IsTrue (can_hold t v) ↔ CanHold t v

-- what was written to a box is read there
abbrev pub ReadsWritten : Type 0
ReadsWritten = (d : Data) (start count : List ℕ) (values : List (List ℕ)) → IsTrue (fits_box d start count)
    → length values ≡ product count
    → read_box (write_box d start count values) start count ≡ values

-- and all other elements stay
abbrev pub KeepsOthers : Type 0
KeepsOthers = (d : Data) (start count i : List ℕ) (values : List (List ℕ)) → IsTrue (all_lt i d.dims)
    → (IsTrue (in_box start count i) → ⊥)
    → element (write_box d start count values) i ≡ element d i

-- where sizes grow, each element stays at its index
abbrev pub KeepsElements : Type 0
KeepsElements = (d : Data) (dims i : List ℕ) → IsTrue (all_le d.dims dims) → IsTrue (all_lt i d.dims)
    → element (grow d dims) i ≡ element d i

-- and new ones are the fill
abbrev pub FillsNew : Type 0
FillsNew = (d : Data) (dims i : List ℕ) → IsTrue (all_lt i dims) → (IsTrue (all_lt i d.dims) → ⊥)
    → element (grow d dims) i ≡ d.fill

-- the names of each group stay in order
abbrev pub KeepsOrder : Type 0
KeepsOrder = (s : Stack) (t new : Plain) (c : Command) (r : Reply) → IsOrdered t → step s t c ≡ Ok (new, r)
    → IsOrdered new

-- a new group is listed, and nothing else of the list changes
abbrev pub ListsNewGroup : Type 0
ListsNewGroup = (s : Stack) (t new : Plain) (p : List Name) (r : Reply) (ls : PlainLinks)
    → step s t (command.Mkgroup p) ≡ Ok (new, r)
    → (walk t (dir_of p) >>= links_of) ≡ Ok ls
    → step s new (command.Ls (dir_of p)) ≡ Ok (new, Gives (answer.Links (lines_of (insert ls (last_of p) new_group))))

-- a link more: its name leads to what was linked, and each other name to what it led to
abbrev pub FindsInserted : Type 0
FindsInserted = (ls : PlainLinks) (n : Name) (u : Plain) → find ls n ≡ None → find (insert ls n u) n ≡ Some u

abbrev pub FindsOthers : Type 0
FindsOthers = (ls : PlainLinks) (n q : Name) (u : Plain) → q ≢ n → find (insert ls n u) q ≡ find ls q

-- a write is read by the next command
abbrev pub AnswersWritten : Type 0
AnswersWritten = (s : Stack) (t new : Plain) (p : List Name) (start count : List ℕ) (values : List Value) (r : Reply)
    (d : Data)
    → step s t (command.Write p start count values) ≡ Ok (new, r) → (walk t p >>= data_of) ≡ Ok d
    → step s new (command.Read p start count) ≡ Ok
    (new, Gives (answer.Values d.elem (joined (map (encoding d.elem) values))))
