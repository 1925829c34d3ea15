-- How a text is cut: at each separator, and into words behind single spaces.
-- Cited by the reader of a line and each of its parts, and by the split of a script into lines.
use Rattle.std.specs.Prelude.{◌≡◌, ℕ, ◌==◌, not, List, [], ◌∷◌, take, drop, Option, Some, None, if◌then◌else◌}
use Rattle.std.specs.List.{prefix_len}

abbrev pub onto_first : ℕ → List (List ℕ) → List (List ℕ)
onto_first x [] = (x ∷ []) ∷ []
onto_first x (w ∷ ws) = (x ∷ w) ∷ ws

-- what stands before, between and after the separators
abbrev pub split_on : ℕ → List ℕ → List (List ℕ)
split_on c [] = [] ∷ []
split_on c (x ∷ xs) = if x == c then [] ∷ split_on c xs else onto_first x (split_on c xs)

-- how many bytes stand before the first c
abbrev pub before_len : ℕ → List ℕ → ℕ
before_len c text = prefix_len (λ b. not (b == c)) text

-- what stands before the first c, and the rest from there on
abbrev pub front : ℕ → List ℕ → List ℕ
front c text = take (before_len c text) text

abbrev pub rest_from : ℕ → List ℕ → List ℕ
rest_from c text = drop (before_len c text) text

-- the word behind the one space at the front of a text, and the rest, which is empty or begins with a space
abbrev pub next_word : List ℕ → Option (List ℕ × List ℕ)
next_word [] = None
next_word (x ∷ text) = if x == 32 then Some (front 32 text, rest_from 32 text) else None

-- a word that spells the value is next, and `more` follows
abbrev pub Next : {X : Type 0} → (List ℕ → X → Type 0) → List ℕ → X → List ℕ → Type 0
Next Spells text x more = (word : List ℕ) × (next_word text ≡ Some (word, more)) × Spells word x

-- each front spells the next of these values, to the end of the text
abbrev pub IsRun : {X : Type 0} → (List ℕ → X → List ℕ → Type 0) → List ℕ → List X → Type 0
IsRun Spells text [] = text ≡ []
IsRun Spells text (x ∷ xs) = (more : List ℕ) × Spells text x more × IsRun Spells more xs
