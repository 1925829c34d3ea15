-- What the words ask for, and the first fault of those that are not admitted.
-- Cited by `run` and by the functions that read words.
use Rattle.std.specs.Prelude.{ℕ, Bool, false, ◌&&◌, ◌||◌, not, ◌==◌, nat_le, List, [], ◌∷◌, ◌++◌, length, drop, map}
use Rattle.std.specs.Prelude.{slice_index, Option, Some, None, Result, Ok, Err, if◌then◌else◌, codes, string_bytes}
use Rattle.std.specs.Prelude.{String}
use Rattle.std.specs.List.{starts_with, list_all}
use Rattle.std.specs.Bool.{nat_eq}
use Rattle.std.specs.Str.{bytes_eq}
use Rattle.std.specs.Fmt.{decimal}
use Rattle.std.specs.declared.alloc.Global.{Global}
use Rattle.h5stack_core.specs.declared.words.WordFault.{WordFault}
use Rattle.h5stack_core.specs.declared.words.WordFault.TheVariants.{Unknown, NotBuilt, Order, Name, Missing}
use Rattle.h5stack_core.specs.declared.asked.Asked.{Asked}
use Rattle.h5stack_core.specs.declared.asked.Asked.TheVariants.{Create, Run}

-- a letter, a digit, `.`, `_` or `-`
abbrev pub is_file_byte : ℕ → Bool
is_file_byte b =
    (nat_le 48 b && nat_le b 57) || (nat_le 65 b && nat_le b 90) ||
    (nat_le 97 b && nat_le b 122) || b == 46 || b == 95 || b == 45

-- 1 to 100 of these, the first not `.`
abbrev pub is_file_name : List ℕ → Bool
is_file_name text = not (length text == 0) &&
    (nat_le (length text) 100 && (not (slice_index text 0 == 46) && list_all is_file_byte text))

abbrev pub is_create : List ℕ → Bool
is_create word = bytes_eq word (codes "create")

abbrev pub is_run : List ℕ → Bool
is_run word = bytes_eq word (codes "run")

-- the actions that aren't built yet
abbrev pub is_later_action : List ℕ → Bool
is_later_action word =
    bytes_eq word (codes "attach") || bytes_eq word (codes "recover") || bytes_eq word (codes "revisions")
    || bytes_eq word (codes "channels") || bytes_eq word (codes "repart") || bytes_eq word (codes "generate")

abbrev pub is_plain : List ℕ → Bool
is_plain word = starts_with nat_eq word (codes "plain=")

abbrev pub is_onion : List ℕ → Bool
is_onion word = starts_with nat_eq word (codes "onion=")

-- the layers of an action that aren't built yet: only a run takes an onion
abbrev pub is_later_layer : (runs : Bool) → List ℕ → Bool
is_later_layer runs word =
    (runs && is_onion word) || starts_with nat_eq word (codes "splitter=") || starts_with nat_eq word
    (codes "family=") || starts_with nat_eq word (codes "split=")
    || starts_with nat_eq word (codes "multi=") || starts_with nat_eq word
    (codes "subfiling=") || starts_with nat_eq word (codes "ext=")

-- the file that a `plain` word names
abbrev pub file_of : List ℕ → List ℕ
file_of word = drop 6 word

-- the fault of a word in the place of the base
unfoldable pub base_fault : (runs : Bool) → ℕ → List ℕ → Option WordFault
base_fault runs k word =
    if is_plain word then (if is_file_name (file_of word) then None else Some (Name k))
    else (if is_later_layer runs word then Some (NotBuilt k) else
    (if is_onion word then Some (Order k) else Some (Unknown k)))

-- and of a word behind the last
unfoldable pub rest_fault : (runs : Bool) → ℕ → List ℕ → WordFault
rest_fault runs k word = if is_later_layer runs word then NotBuilt k else
    (if is_plain word || is_onion word then Order k else Unknown k)

unfoldable pub action_fault : List ℕ → Option WordFault
action_fault word = if is_create word || is_run word then None else
    (if is_later_action word then Some (NotBuilt 0) else Some (Unknown 0))

-- the first of two
abbrev pub first_of_two : Option WordFault → Option WordFault → Option WordFault
first_of_two None other = other
first_of_two (Some fault) other = Some fault

abbrev pub after_base : (runs : Bool) → List (List ℕ) → Option WordFault
after_base runs [] = None
after_base runs (word ∷ rest) = Some (rest_fault runs 2 word)

abbrev pub after_action : (runs : Bool) → List (List ℕ) → Option WordFault
after_action runs [] = Some Missing
after_action runs (word ∷ rest) = first_of_two (base_fault runs 1 word) (after_base runs rest)

-- the first fault of the words, none where they are admitted
abbrev pub word_fault : List (List ℕ) → Option WordFault
word_fault [] = Some Missing
word_fault (word ∷ rest) = first_of_two (action_fault word) (after_action (is_run word) rest)

-- the words ask for the run of a script
abbrev pub asks_run : List (List ℕ) → Bool
asks_run [] = false
asks_run (word ∷ rest) = is_run word

-- the file that admitted words name
abbrev pub named : List (List ℕ) → List ℕ
named (action ∷ base ∷ rest) = file_of base
named words = []

abbrev pub wish : List (List ℕ) → Asked
wish words = if asks_run words then Run (named words) else Create (named words)

abbrev pub unless_faulty : Option WordFault → Asked → Result Asked WordFault
unless_faulty None asked = Ok asked
unless_faulty (Some fault) asked = Err fault

-- what the words ask for, or their first fault
abbrev pub asked_by : List (List ℕ) → Result Asked WordFault
asked_by words = unless_faulty (word_fault words) (wish words)

-- the words as lists of bytes
abbrev pub texts : List (String Global) → List (List ℕ)
texts = map string_bytes

-- the line that tells a fault
unfoldable pub usage_line : WordFault → List ℕ
usage_line (Unknown k) = codes "usage: unknown " ++ decimal k ++ codes "\n"
usage_line (NotBuilt k) = codes "usage: not-built " ++ decimal k ++ codes "\n"
usage_line (Order k) = codes "usage: order " ++ decimal k ++ codes "\n"
usage_line (Name k) = codes "usage: name " ++ decimal k ++ codes "\n"
usage_line Missing = codes "usage: missing\n"
