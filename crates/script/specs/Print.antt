-- What an answer's line says: names and targets with escapes, sizes, types, elements and the words of refusals.
-- Cited by `print_answer`, and by the theorem of a script's run.
use Rattle.std.specs.Prelude.{◌≡◌, ℕ, ◌+◌, ◌*◌, ◌/◌, ◌%◌, ◌==◌, Bool, true, false, not, ◌&&◌, if◌then◌else◌, List, []}
use Rattle.std.specs.Prelude.{◌∷◌, ◌++◌, length, codes, Option, Some, None}
use Rattle.std.specs.Int.{is_in_range}
use Rattle.std.specs.List.{flat_map, slice_range, range_with_len}
use Rattle.std.specs.Fmt.{decimal}
use Rattle.dtype.specs.Types.{IsElemType, size_of}
use Rattle.dtype.specs.Values.{escape, value_of, value_text}
use Rattle.dtype.specs.declared.types.Pad.{Pad}
use Rattle.dtype.specs.declared.types.Pad.TheVariants.{Nul, Ended, Space}
use Rattle.dtype.specs.declared.types.ElemType.{ElemType}
use Rattle.dtype.specs.declared.types.ElemType.TheVariants as elem
use Rattle.object_model.specs.declared.answer.Answer.{Answer}
use Rattle.object_model.specs.declared.answer.Answer.TheVariants as answer
use Rattle.object_model.specs.declared.answer.LinkLine.{LinkLine}
use Rattle.object_model.specs.declared.answer.Shown.{Shown}
use Rattle.object_model.specs.declared.answer.Shown.TheVariants as shown
use Rattle.object_model.specs.declared.answer.Code.{Code}
use Rattle.object_model.specs.declared.answer.Code.TheVariants as code

-- ---- names

-- 0x21 to 0x7E other than `\` and `>`
abbrev pub is_plain_name : ℕ → Bool
is_plain_name b = is_in_range 0x21 0x7E b && not (b == 92) && not (b == 62)

-- itself, or by its number
abbrev pub name_symbol : ℕ → List ℕ
name_symbol b = if is_plain_name b then (b ∷ []) else escape b

abbrev pub name_text : List ℕ → List ℕ
name_text = flat_map name_symbol

-- ---- sizes

-- a number, or `*` for the unlimited maximum
abbrev pub size_text : (maximum : Bool) → ℕ → List ℕ
size_text maximum n = if maximum && (n == 18446744073709551615) then codes "*" else decimal n

-- numbers with `,` between them, and `-` for rank 0
abbrev pub sizes_text : (maximum : Bool) → List ℕ → List ℕ
sizes_text maximum [] = codes "-"
sizes_text maximum (n ∷ ns) = size_text maximum n ++ flat_map (λ m. 44 ∷ size_text maximum m) ns

abbrev pub chunk_text : Option (List ℕ) → List ℕ
chunk_text None = codes "none"
chunk_text (Some chunk) = sizes_text false chunk

-- ---- types and elements

abbrev pub pad_text : Pad → List ℕ
pad_text Nul = codes "str"
pad_text Ended = codes "strz"
pad_text Space = codes "strs"

abbrev pub sign_text : Bool → List ℕ
sign_text signed = if signed then codes "i" else codes "u"

abbrev pub order_text : Bool → List ℕ
order_text big = if big then codes "be" else codes "le"

abbrev pub type_text : ElemType → List ℕ
type_text (elem.Int size signed big) = sign_text signed ++ decimal (8 * size) ++ order_text big
type_text (elem.Text size pad) = pad_text pad ++ decimal size

-- the element at an index, of elements one after another
abbrev pub element_at : ElemType → List ℕ → ℕ → List ℕ
element_at t bytes i = slice_range bytes (i * size_of t) (i * size_of t + size_of t)

-- each element behind a space
abbrev pub values_text : ElemType → List ℕ → List ℕ
values_text t bytes = flat_map (λ i. 32 ∷ value_text (value_of t (element_at t bytes i)))
    (range_with_len 0 (length bytes / size_of t))

-- ---- links

abbrev pub shown_letter : Shown → List ℕ
shown_letter shown.Group = codes " g:"
shown_letter shown.Dataset = codes " d:"
shown_letter (shown.Soft target) = codes " l:"
shown_letter shown.Other = codes " o:"

abbrev pub target_text : Shown → List ℕ
target_text shown.Group = []
target_text shown.Dataset = []
target_text (shown.Soft target) = 62 ∷ name_text target
target_text shown.Other = []

abbrev pub link_text : LinkLine → List ℕ
link_text l = shown_letter l.shown ++ name_text l.name ++ target_text l.shown

-- ---- answers

abbrev pub code_text : Code → List ℕ
code_text code.BadLine = codes "bad-line"
code_text code.NotBuilt = codes "not-built"
code_text code.ReadOnly = codes "read-only"
code_text code.Absent = codes "absent"
code_text code.NotGroup = codes "not-group"
code_text code.Exists = codes "exists"
code_text code.NotData = codes "not-data"
code_text code.Unsupported = codes "unsupported"
code_text code.Filtered = codes "filtered"
code_text code.Range = codes "range"
code_text code.WrongType = codes "type"
code_text code.Fixed = codes "fixed"
code_text code.Shrink = codes "shrink"
code_text code.NotEmpty = codes "not-empty"
code_text code.Limit = codes "limit"
code_text code.NoOnion = codes "no-onion"
code_text code.Clock = codes "clock"

abbrev pub filtered_text : Bool → List ℕ
filtered_text filtered = if filtered then codes " filtered" else []

-- type, sizes, maximum sizes and chunk sizes of a dataset
abbrev pub layout_text : ElemType → List ℕ → List ℕ → Option (List ℕ) → List ℕ
layout_text t dims max chunk =
    type_text t ++ codes " dims " ++ sizes_text false dims ++ codes " max " ++ sizes_text true max ++ codes " chunk "
    ++ chunk_text chunk

abbrev pub answer_text : Answer → List ℕ
answer_text answer.Done = codes "ok"
answer_text (answer.Values t bytes) = codes "ok" ++ values_text t bytes
answer_text (answer.Links items) = codes "ok" ++ flat_map link_text items
answer_text (answer.Group links) = codes "ok group " ++ decimal links
answer_text (answer.Dataset t dims max chunk fill filtered) =
    codes "ok data " ++ layout_text t dims max chunk ++ codes " fill " ++ value_text
    (value_of t fill) ++ filtered_text filtered
answer_text (answer.Soft target) = codes "ok link " ++ name_text target
answer_text answer.Other = codes "ok other"
answer_text (answer.Committed rev pages) = codes "ok rev " ++ decimal rev ++ codes " pages " ++ decimal pages
answer_text (answer.Full end need) = codes "no full " ++ decimal end ++ codes " " ++ decimal need
answer_text (answer.No c) = codes "no " ++ code_text c

-- The answer has a text: its elements are of a type that a file can hold, and whole, a fill value just one.
abbrev pub HasText : Answer → Type 0
HasText answer.Done = Unit {0}
HasText (answer.Values t bytes) = IsElemType t × (length bytes % size_of t ≡ 0)
HasText (answer.Links items) = Unit {0}
HasText (answer.Group links) = Unit {0}
HasText (answer.Dataset t dims max chunk fill filtered) = IsElemType t × (length fill ≡ size_of t)
HasText (answer.Soft target) = Unit {0}
HasText answer.Other = Unit {0}
HasText (answer.Committed rev pages) = Unit {0}
HasText (answer.Full end need) = Unit {0}
HasText (answer.No c) = Unit {0}

-- each answer's text with an LF after it
abbrev pub text : List Answer → List ℕ
text answers = flat_map (λ a. answer_text a ++ 10 ∷ []) answers
