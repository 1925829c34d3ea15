-- The grammar of the script language: which bytes are a line of which command.
-- Cited by `read_line`, and by the commands of a whole script.
use Rattle.std.specs.Prelude.{◌≡◌, ℕ, ◌≤◌, nat_le, ◌==◌, Bool, true, false, not, ◌&&◌, List, [], ◌∷◌, length, codes}
use Rattle.std.specs.Prelude.{Option, Some, None, is_some, if◌then◌else◌}
use Rattle.std.specs.List.{list_all}
use Rattle.h5_base.specs.Names.{IsComment}
use Rattle.dtype.specs.Values.{CanHold}
use Rattle.dtype.specs.declared.types.ElemType.{ElemType}
use Rattle.dtype.specs.declared.types.Value.{Value}
use Rattle.dtype.specs.declared.types.Value.TheVariants as value
use Rattle.object_model.specs.Boxes.{all_le, same_rank}
use Rattle.object_model.specs.Tree.{last_of}
use Rattle.object_model.specs.declared.command.Command.{Command}
use Rattle.object_model.specs.declared.command.Command.TheVariants as command
use Rattle.script.specs.Words.{front, rest_from, next_word, Next, IsRun}
use Rattle.script.specs.Names.{IsPath, IsText}
use Rattle.script.specs.Numbers.{IsInteger, IsSizes}
use Rattle.script.specs.Types.{IsType}
use Rattle.script.specs.declared.symbols.Within.TheVariants.{Quotes}
use Rattle.script.specs.declared.lines.Key.{Key}
use Rattle.script.specs.declared.lines.Key.TheVariants as key
use Rattle.script.specs.declared.paths.Leads.{Leads}
use Rattle.script.specs.declared.paths.Leads.TheVariants.{Anywhere, ToLink, ToNewLink}

-- ---- paths

-- at most 255 bytes, none of them zero
abbrev pub can_be_made : List ℕ → Bool
can_be_made name = nat_le (length name) 255 && list_all (λ b. not (b == 0)) name

-- not `/` where a link is made or removed
abbrev pub admits : Leads → List (List ℕ) → Bool
admits Anywhere path = true
admits ToLink path = not (length path == 0)
admits ToNewLink path = not (length path == 0) && can_be_made (last_of path)

pub record IsPathThat (leads : Leads) (w : List ℕ) (path : List (List ℕ)) : Type 0 where
  pub path_is : IsPath w path
  pub admitted : admits leads path ≡ true

-- ---- values

-- up to the closing quote, and the rest behind it
abbrev pub closed : List ℕ → List ℕ → Option (List ℕ × List ℕ)
closed inside [] = None
closed inside (quote ∷ more) = Some (inside, more)

-- behind a space, what stands between two double quotes, and the rest
abbrev pub next_quoted : List ℕ → Option (List ℕ × List ℕ)
next_quoted [] = None
next_quoted (s ∷ []) = None
next_quoted (s ∷ q ∷ text) = if s == 32 && q == 34 then closed (front 34 text) (rest_from 34 text) else None

-- a text in double quotes is next
abbrev pub begins_quoted : List ℕ → Bool
begins_quoted [] = false
begins_quoted (s ∷ []) = false
begins_quoted (s ∷ q ∷ text) = s == 32 && q == 34

-- a value is next: a number's word, or a text in double quotes, which may hold spaces
abbrev pub IsValue : List ℕ → Value → List ℕ → Type 0
IsValue text (value.Num z) more = Next IsInteger text z more
IsValue text (value.Text bytes) more = (inside : List ℕ) × (next_quoted text ≡ Some (inside, more))
    × IsText Quotes inside bytes

-- ---- the arguments of commands

-- a path, an offset for each dimension and a number for each
pub record IsBox (text : List ℕ) (path : List (List ℕ)) (start count more : List ℕ) : Type 0 where
  pub after_path : List ℕ
  pub after_start : List ℕ
  pub path_is : Next (IsPathThat Anywhere) text path after_path
  pub start_is : Next (IsSizes false) after_path start after_start
  pub count_is : Next (IsSizes false) after_start count more

-- the next word is this one
abbrev pub IsKey : List ℕ → List ℕ → Type 0
IsKey word text = (more : List ℕ) × (next_word text ≡ Some (word, more))

-- sizes behind this word, where it is next
abbrev pub IsOption : (maximum : Bool) → List ℕ → List ℕ → Option (List ℕ) → List ℕ → Type 0
IsOption maximum word text None more = (IsKey word text → ⊥) × (text ≡ more)
IsOption maximum word text (Some sizes) more = (after : List ℕ) × (next_word text ≡ Some (word, after))
    × Next (IsSizes maximum) after sizes more

-- as many chunk sizes as sizes, at least one, and none of them 0
abbrev pub is_chunk : List ℕ → Option (List ℕ) → Bool
is_chunk dims None = true
is_chunk dims (Some chunk) = not (length dims == 0) && same_rank chunk dims && list_all (λ n. not (n == 0)) chunk

-- as many maximum sizes as sizes, none below its size, and only of a chunked dataset
abbrev pub is_maximum : List ℕ → Option (List ℕ) → Option (List ℕ) → Bool
is_maximum dims chunk None = true
is_maximum dims chunk (Some max) = is_some chunk && all_le dims max

-- sizes, and chunk sizes and maximum sizes where they are given
pub record IsSizing (text dims : List ℕ) (chunk max : Option (List ℕ)) (more : List ℕ) : Type 0 where
  pub after_dims : List ℕ
  pub after_chunk : List ℕ
  pub dims_are : Next (IsSizes false) text dims after_dims
  pub chunk_is : IsOption false (codes "chunk") after_dims chunk after_chunk
  pub max_is : IsOption true (codes "max") after_chunk max more

-- the same, and they fit one another
pub record IsShape (text dims : List ℕ) (chunk max : Option (List ℕ)) (more : List ℕ) : Type 0 where
  pub sizing : IsSizing text dims chunk max more
  pub chunk_fits : is_chunk dims chunk ≡ true
  pub max_fits : is_maximum dims chunk max ≡ true

-- a value that the type can hold behind `fill`, or nothing more
abbrev pub IsFill : ElemType → List ℕ → Option Value → Type 0
IsFill t text None = text ≡ []
IsFill t text (Some v) = (after : List ℕ) × (next_word text ≡ Some (codes "fill", after)) × IsValue after v []
    × CanHold t v

-- path, type, sizes, and `chunk`, `max` and `fill` in this order, each of which may be left out
pub record IsMkdata (text : List ℕ) (path : List (List ℕ)) (t : ElemType) (dims : List ℕ) (chunk max : Option (List ℕ))
    (fill : Option Value) : Type 0 where
  pub after_path : List ℕ
  pub after_type : List ℕ
  pub after_shape : List ℕ
  pub path_is : Next (IsPathThat ToNewLink) text path after_path
  pub type_is : Next IsType after_path t after_type
  pub shape_is : IsShape after_type dims chunk max after_shape
  pub fill_is : IsFill t after_shape fill

-- a path and new sizes
abbrev pub IsExtend : List ℕ → List (List ℕ) → List ℕ → Type 0
IsExtend text path dims = (after : List ℕ) × Next (IsPathThat Anywhere) text path after
    × Next (IsSizes false) after dims []

-- a box and values to the end of the line
abbrev pub IsWrite : List ℕ → List (List ℕ) → List ℕ → List ℕ → List Value → Type 0
IsWrite text path start count values = (after : List ℕ) × IsBox text path start count after × IsRun IsValue after values

-- what follows a command's word
abbrev pub IsArguments : List ℕ → Command → Type 0
IsArguments text (command.Mkgroup path) = Next (IsPathThat ToNewLink) text path []
IsArguments text (command.Mkdata path t dims chunk max fill) = IsMkdata text path t dims chunk max fill
IsArguments text (command.Write path start count values) = IsWrite text path start count values
IsArguments text (command.Read path start count) = IsBox text path start count []
IsArguments text (command.Ls path) = Next (IsPathThat Anywhere) text path []
IsArguments text (command.Stat path) = Next (IsPathThat Anywhere) text path []
IsArguments text (command.Extend path dims) = IsExtend text path dims
IsArguments text (command.Rm path) = Next (IsPathThat ToLink) text path []
IsArguments text command.Flush = text ≡ []
IsArguments text (command.Commit comment) = (text ≡ 32 ∷ comment) × IsComment comment

abbrev pub key_of : Command → Key
key_of (command.Mkgroup path) = key.Mkgroup
key_of (command.Mkdata path t dims chunk max fill) = key.Mkdata
key_of (command.Write path start count values) = key.Write
key_of (command.Read path start count) = key.Read
key_of (command.Ls path) = key.Ls
key_of (command.Stat path) = key.Stat
key_of (command.Extend path dims) = key.Extend
key_of (command.Rm path) = key.Rm
key_of command.Flush = key.Flush
key_of (command.Commit comment) = key.Commit

abbrev pub key_word : Key → List ℕ
key_word key.Mkgroup = codes "mkgroup"
key_word key.Mkdata = codes "mkdata"
key_word key.Write = codes "write"
key_word key.Read = codes "read"
key_word key.Ls = codes "ls"
key_word key.Stat = codes "stat"
key_word key.Extend = codes "extend"
key_word key.Rm = codes "rm"
key_word key.Flush = codes "flush"
key_word key.Commit = codes "commit"

abbrev pub word_of : Command → List ℕ
word_of c = key_word (key_of c)

-- the word and what follows it spell the command
abbrev pub Reads : List ℕ → List ℕ → Command → Type 0
Reads word text c = (word ≡ word_of c) × IsArguments text c

-- at most 65,536 bytes, the command's word first, and its arguments behind it
pub record IsLine (line : List ℕ) (c : Command) : Type 0 where
  pub short : length line ≤ 65536
  pub spelled : Reads (front 32 line) (rest_from 32 line) c
