-- How a script is cut into lines, one line at a time.
use Rattle.std.proofs.Common.{◌≡◌, ◌≢◌, ℕ, suc, ◌≤◌, Bool, true, false, cond, List, [], ◌∷◌, ◌++◌, length, take, Option, Some, None, refl, ap, subst, ◌∙◌, inl, inr, arith}
use Rattle.std.proofs.lemmas.Bool.Decides.{nat_tests}
use Rattle.std.specs.Prelude.{◌==◌}
use Rattle.std.specs.List.{AllZip}
use Rattle.std.proofs.lemmas.Bool.{cases_lt}
use Rattle.std.proofs.lemmas.List.{take_all, length-take}
use Rattle.object_model.specs.declared.command.Command.{Command}
use Rattle.script.specs.Line.{IsLine}
use Rattle.script.specs.Script.{Means, lines, without_empty_last}
use Rattle.script.specs.Words.{split_on, onto_first}
use Rattle.script_lines.specs.Lines.{HasNoLf}
use Rattle.script_run.specs.Run.{without_last}

-- ---- what has no LF

no_lf_first : (x : ℕ) (xs : List ℕ) → HasNoLf (x ∷ xs) → (x == 10) ≡ false
no_lf_first x xs none = by (x == 10) refl
  where
    by : (t : Bool) → (x == 10) ≡ t → t ≡ false
    by true is = absurd (none (0, omega arith, grind (arith, nat_tests)))
    by false is = refl

no_lf_others : (x : ℕ) (xs : List ℕ) → HasNoLf (x ∷ xs) → HasNoLf xs
no_lf_others x xs none (k, lt, is) = none (suc k, omega arith, is)

pub split_whole : (l : List ℕ) → HasNoLf l → split_on 10 l ≡ l ∷ []
split_whole [] none = refl
split_whole (x ∷ xs) none =
    ap (λ (t : Bool). cond t ([] ∷ split_on 10 xs) (onto_first x (split_on 10 xs))) (no_lf_first x xs none)
    ∙ ap (onto_first x) (split_whole xs (no_lf_others x xs none))

pub split_line : (l rest : List ℕ) → HasNoLf l → split_on 10 (l ++ 10 ∷ rest) ≡ l ∷ split_on 10 rest
split_line [] rest none = refl
split_line (x ∷ xs) rest none =
    ap (λ (t : Bool). cond t ([] ∷ split_on 10 (xs ++ 10 ∷ rest)) (onto_first x (split_on 10 (xs ++ 10 ∷ rest)))) (no_lf_first x xs none)
    ∙ ap (onto_first x) (split_line xs rest (no_lf_others x xs none))

-- ---- lines

-- there is a part
pub data AreSome : List (List ℕ) → Type 0 where
  Some_parts : (w : List ℕ) (ws : List (List ℕ)) → AreSome (w ∷ ws)

some_onto : (x : ℕ) (ws : List (List ℕ)) → AreSome (onto_first x ws)
some_onto x [] = Some_parts (x ∷ []) []
some_onto x (w ∷ ws) = Some_parts (x ∷ w) ws

pub split_some : (bytes : List ℕ) → AreSome (split_on 10 bytes)
split_some [] = Some_parts [] []
split_some (x ∷ xs) = elim (x == 10) as (λ t. AreSome (cond t ([] ∷ split_on 10 xs) (onto_first x (split_on 10 xs)))) [
  | true ↦ Some_parts [] (split_on 10 xs)
  | false ↦ some_onto x (split_on 10 xs)
]

keeps_first : (w : List ℕ) (ws : List (List ℕ)) → AreSome ws → without_empty_last (w ∷ ws) ≡ w ∷ without_empty_last ws
keeps_first [] [] some = elim some [ ]
keeps_first (b ∷ bs) [] some = elim some [ ]
keeps_first [] (v ∷ vs) some = refl
keeps_first (b ∷ bs) (v ∷ vs) some = refl

some_behind : (ls ws : List (List ℕ)) → AreSome ws → AreSome (ls ++ ws)
some_behind [] ws some = some
some_behind (l ∷ ls) ws some = Some_parts l (ls ++ ws)

pub keeps_front : (ls ws : List (List ℕ)) → AreSome ws → without_empty_last (ls ++ ws) ≡ ls ++ without_empty_last ws
keeps_front [] ws some = refl
keeps_front (l ∷ ls) ws some = keeps_first l (ls ++ ws) (some_behind ls ws some) ∙ ap (λ (xs : List (List ℕ)). l ∷ xs) (keeps_front ls ws some)

pub lines_line : (l rest : List ℕ) → HasNoLf l → lines (l ++ 10 ∷ rest) ≡ l ∷ lines rest
lines_line l rest none = ap without_empty_last (split_line l rest none) ∙ keeps_first l (split_on 10 rest) (split_some rest)

pub lines_last : (l : List ℕ) → HasNoLf l → l ≢ [] → lines l ≡ l ∷ []
lines_last [] none some = absurd (some refl)
lines_last (x ∷ xs) none some = ap without_empty_last (split_whole (x ∷ xs) none)

pub without_last-push : (ls : List (List ℕ)) (l : List ℕ) → without_last (ls ++ l ∷ []) ≡ ls
without_last-push [] l = refl
without_last-push (w ∷ []) l = refl
without_last-push (w ∷ v ∷ ws) l = ap (λ (xs : List (List ℕ)). w ∷ xs) (without_last-push (v ∷ ws) l)

-- ---- what lines mean

pub AllZip-push_pair : {A B : Type 0} (R : A → B → Type 0) (xs : List A) (ys : List B) (x : A) (y : B) → AllZip R xs ys → R x y → AllZip R (xs ++ x ∷ []) (ys ++ y ∷ [])
AllZip-push_pair R [] [] x y all one = (one, tt)
AllZip-push_pair R [] (b ∷ ys) x y all one = absurd all
AllZip-push_pair R (a ∷ xs) [] x y all one = absurd all
AllZip-push_pair R (a ∷ xs) (b ∷ ys) x y all one = (all.0, AllZip-push_pair R xs ys x y all.1 one)

too_long : (l : List ℕ) → 65537 ≤ length l → (d : Command) → IsLine l d → ⊥
too_long l long d line = let short = line.short in absurd (omega arith)

-- what is kept of a line means what the line means
pub means_kept : (l : List ℕ) (c : Option Command) → Means (take 65537 l) c → Means l c
means_kept l c means = elim (cases_lt (length l) 65537) [
  | inl short ↦ subst (λ (k : List ℕ). Means k c) (take_all 65537 l (omega arith)) means
  | inr long ↦ by c long means
]
  where
    by : (d : Option Command) → 65537 ≤ length l → Means (take 65537 l) d → Means l d
    by None long m = λ (e : Command) line. too_long l long e line
    by (Some d) long m = absurd (too_long (take 65537 l) (omega (arith, length-take 65537 l)) d m)
