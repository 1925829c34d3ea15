-- What a command does to the tree, and what it answers.
-- Cited by the laws of this crate, by the script language and by the run of a script.
use Rattle.std.specs.Prelude.{ℕ, Bool, true, false, not, ◌&&◌, ◌==◌, ◌+◌, ◌-◌, ◌*◌, ◌^◌, nat_le, ℤ, pos, neg_ℤ, int_lt}
use Rattle.std.specs.Prelude.{List, [], ◌∷◌, length, map, replicate, Option, Some, None, is_none, is_some, unwrap_or}
use Rattle.std.specs.Prelude.{Result, Ok, Err, if◌then◌else◌}
use Rattle.std.specs.List.{flat_map, list_all}
use Rattle.dtype.specs.Products.{product}
use Rattle.dtype.specs.Types.{size_of}
use Rattle.dtype.specs.Values.{encoding, least_fill}
use Rattle.dtype.specs.declared.types.ElemType.{ElemType}
use Rattle.dtype.specs.declared.types.ElemType.TheVariants as elem
use Rattle.dtype.specs.declared.types.Value.{Value}
use Rattle.dtype.specs.declared.types.Value.TheVariants as value
use Rattle.object_model.specs.declared.command.Command.{Command}
use Rattle.object_model.specs.declared.command.Command.TheVariants as command
use Rattle.object_model.specs.declared.answer.Answer.{Answer}
use Rattle.object_model.specs.declared.answer.Answer.TheVariants as answer
use Rattle.object_model.specs.declared.answer.LinkLine.{LinkLine}
use Rattle.object_model.specs.declared.answer.Shown.{Shown}
use Rattle.object_model.specs.declared.answer.Shown.TheVariants as shown
use Rattle.object_model.specs.declared.answer.Code.{Code}
use Rattle.object_model.specs.declared.answer.Code.TheVariants.{ReadOnly, NotGroup, Exists, NotData, Unsupported}
use Rattle.object_model.specs.declared.answer.Code.TheVariants.{Filtered, Range, WrongType, Fixed, Shrink, NotEmpty}
use Rattle.object_model.specs.declared.answer.Code.TheVariants.{NoOnion}
use Rattle.object_model.specs.Boxes.{all_le, same_rank}
use Rattle.object_model.specs.Data.{Data, elements_by, fits_box, read_box, write_box, grow}
use Rattle.object_model.specs.Tree.{Tree, Group, Leaf, Links, Empty, Link, Name, find, child, walk, edit, relink}
use Rattle.object_model.specs.Tree.{insert, remove, dir_of, last_of, ◌>>=◌}

-- what a link leads to besides groups
pub data Object : Type 0 where
  Dataset : Data → Object
  Soft : List ℕ → Object
  Other : Object

-- the tree of HDF5's objects, without addresses
abbrev pub Plain : Type 0
Plain = Tree (Unit {0}) Object

abbrev pub PlainLinks : Type 0
PlainLinks = Links (Unit {0}) Object

-- a group without links
abbrev pub new_group : Plain
new_group = Group tt Empty

-- ---- values and fill

-- the test of whether an integer of so many bytes can hold a number
abbrev pub holds_number : (signed : Bool) → ℕ → ℤ → Bool
holds_number true size z = not (int_lt z (neg_ℤ (pos (2 ^ (8 * size - 1))))) && int_lt z (pos (2 ^ (8 * size - 1)))
holds_number false size z = not (int_lt z (pos 0)) && int_lt z (pos (2 ^ (8 * size)))

-- the test of whether a type can hold a value
abbrev pub can_hold : ElemType → Value → Bool
can_hold (elem.Int size signed big) (value.Num z) = holds_number signed size z
can_hold (elem.Int size signed big) (value.Text text) = false
can_hold (elem.Text size pad) (value.Num z) = false
can_hold (elem.Text size pad) (value.Text text) = nat_le (length text + least_fill pad) size

-- the element that was never written: the fill value, or zeros
abbrev pub fill_of : ElemType → Option Value → List ℕ
fill_of t None = replicate (size_of t) 0
fill_of t (Some v) = encoding t v

abbrev pub new_data : ElemType → List ℕ → Option (List ℕ) → Option (List ℕ) → Option Value → Data
new_data t dims chunk max fill = record {
  elem = t;
  dims = dims;
  max = unwrap_or max dims;
  chunk = chunk;
  fill = fill_of t fill;
  filtered = false;
  elements = elements_by dims (λ i. fill_of t fill);
}

-- ---- what is asked of a path

-- the refusal, where it holds
abbrev pub unless : {X : Type 0} → Bool → Code → Result X Code → Result X Code
unless bad code answer = if bad then Err code else answer

abbrev pub links_of : Plain → Result PlainLinks Code
links_of (Group g ls) = Ok ls
links_of (Leaf l) = Err NotGroup

-- a dataset whose elements can be reached
abbrev pub data_of : Plain → Result Data Code
data_of (Group g ls) = Err NotData
data_of (Leaf (Soft s)) = Err NotData
data_of (Leaf Other) = Err Unsupported
data_of (Leaf (Dataset d)) = unless d.filtered Filtered (Ok d)

abbrev pub has_links : Plain → Bool
has_links (Group g Empty) = false
has_links (Group g (Link n t ls)) = true
has_links (Leaf l) = false

-- ---- what is shown

abbrev pub shown_of : Plain → Shown
shown_of (Group g ls) = shown.Group
shown_of (Leaf (Dataset d)) = shown.Dataset
shown_of (Leaf (Soft text)) = shown.Soft text
shown_of (Leaf Other) = shown.Other

abbrev pub lines_of : PlainLinks → List LinkLine
lines_of Empty = []
lines_of (Link n t rest) = record { name = n; shown = shown_of t } ∷ lines_of rest

abbrev pub count : PlainLinks → ℕ
count Empty = 0
count (Link n t rest) = count rest + 1

abbrev pub stat_of : Plain → Answer
stat_of (Group g ls) = answer.Group (count ls)
stat_of (Leaf (Dataset d)) = answer.Dataset d.elem d.dims d.max d.chunk d.fill d.filtered
stat_of (Leaf (Soft text)) = answer.Soft text
stat_of (Leaf Other) = answer.Other

-- the bytes of elements, one after another
abbrev pub joined : List (List ℕ) → List ℕ
joined = flat_map (λ e. e)

-- ---- the step

-- of the stack: whether it is read-only, and whether it has revisions
pub record Stack : Type 0 where
  pub read_only : Bool
  pub has_revisions : Bool

-- what comes of a command that isn't refused: its answer, or a revision with this comment, whose answer the tree
-- doesn't tell
pub data Reply : Type 0 where
  Gives : Answer → Reply
  Commits : List ℕ → Reply

abbrev pub Outcome : Type 0
Outcome = Result (Plain × Reply) Code

-- one more link, at the end of a path
abbrev pub add : List Name → Plain → Plain → Outcome
add p new t =
    walk t (dir_of p) >>= λ dir. links_of dir >>= λ ls.
    unless (is_some (find ls (last_of p))) Exists
    (Ok (edit (dir_of p) (relink (λ old. insert old (last_of p) new)) t, Gives answer.Done))

-- The new tree and what comes of it, or the first refusal, with which the tree stays. The refusals that depend on more
-- than the tree (a limit, a region without room, the clock) come after these, in each command's order.
abbrev pub step : Stack → Plain → Command → Outcome
step s t (command.Mkgroup p) = unless s.read_only ReadOnly (add p new_group t)
step s t (command.Mkdata p elem dims chunk max fill) = unless s.read_only ReadOnly
    (add p (Leaf (Dataset (new_data elem dims chunk max fill))) t)
step s t (command.Write p start count values) =
    unless s.read_only ReadOnly
    (walk t p >>= λ node. data_of node >>= λ d.
    unless (not (fits_box d start count && length values == product count)) Range
    (unless (not (list_all (can_hold d.elem) values)) WrongType
    (Ok (edit p (λ _. Leaf (Dataset (write_box d start count (map (encoding d.elem) values)))) t, Gives answer.Done))))
step s t (command.Read p start count) =
    walk t p >>= λ node. data_of node >>= λ d.
    unless (not (fits_box d start count)) Range (Ok (t, Gives (answer.Values d.elem (joined (read_box d start count)))))
step s t (command.Ls p) = walk t p >>= λ node. links_of node >>= λ ls. Ok (t, Gives (answer.Links (lines_of ls)))
step s t (command.Stat p) = walk t p >>= λ node. Ok (t, Gives (stat_of node))
step s t (command.Extend p dims) =
    unless s.read_only ReadOnly
    (walk t p >>= λ node. data_of node >>= λ d.
    unless (is_none d.chunk) Fixed
    (unless (not (same_rank dims d.dims)) Range
    (unless (not (all_le d.dims dims)) Shrink
    (unless (not (all_le dims d.max)) Range
    (Ok (edit p (λ _. Leaf (Dataset (grow d dims))) t, Gives answer.Done))))))
step s t (command.Rm p) =
    unless s.read_only ReadOnly
    (walk t (dir_of p) >>= λ dir. child dir (last_of p) >>= λ old.
    unless (has_links old) NotEmpty (Ok (edit (dir_of p) (relink (λ ls. remove ls (last_of p))) t, Gives answer.Done)))
step s t command.Flush = unless s.read_only ReadOnly (Ok (t, Gives answer.Done))
step s t (command.Commit comment) = unless s.read_only ReadOnly
    (unless (not s.has_revisions) NoOnion (Ok (t, Commits comment)))

-- the tree after a command, and what it was answered where that is the tree's
abbrev pub after : Outcome → Plain → Plain
after (Ok done) t = done.0
after (Err code) t = t

abbrev pub replies : Stack → Plain → List Command → List (Result Reply Code)
replies s t [] = []
replies s t (c ∷ cs) = reply (step s t c) ∷ replies s (after (step s t c) t) cs
  where
    reply : Outcome → Result Reply Code
    reply (Ok done) = Ok done.1
    reply (Err code) = Err code
