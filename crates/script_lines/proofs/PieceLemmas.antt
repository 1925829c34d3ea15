-- The first LF of some bytes, what is kept of a line, and which part of a piece is held.
use Rattle.std.proofs.Common.{◌≡◌, ◌≢◌, ℕ, zero, suc, ◌+◌, ◌-◌, ◌<◌, ◌≤◌, min, Bool, true, false, cond, not, List, [], ◌∷◌, ◌++◌, length, take, drop, get_or, Some, None, refl, sym, ap, subst, ◌∙◌, eq-eqb, arith, drop-cons}
use Rattle.std.specs.Prelude.{position, slice_range, ◌==◌, nat_lt}
use Rattle.std.specs.List.{position_or_len}
use Rattle.std.proofs.lemmas.Bool.{ltb-false}
use Rattle.std.proofs.lemmas.Bool.Decides.{nat_tests}
use Rattle.std.proofs.lemmas.List.{take_min, get_or-take, take-append-drop, drop-drop, drop-take, length-take}
use Rattle.std.proofs.lemmas.List.Quantifiers.{position-Some}
use Rattle.std.proofs.Math.Seq.{take-append-add}
use Rattle.script_lines.specs.Lines.{HasNoLf, most_kept}

-- ---- the first LF

pub none_empty : HasNoLf []
none_empty (k, lt, is) = absurd (omega arith)

-- none in the first byte, and none in the others
pub none_cons : (x : ℕ) (xs : List ℕ) → x ≢ 10 → HasNoLf xs → HasNoLf (x ∷ xs)
none_cons x xs first others (zero, lt, is) = first is
none_cons x xs first others (suc k, lt, is) = others (k, omega arith, is)

none_within : (xs : List ℕ) → length xs ≤ position_or_len (λ b. b == 10) xs → HasNoLf xs
none_within [] le = none_empty
none_within (x ∷ xs) le = by (x == 10) refl (none_within xs) le
  where
    by : (t : Bool) → (x == 10) ≡ t → (length xs ≤ position_or_len (λ b. b == 10) xs → HasNoLf xs) → suc (length xs) ≤ cond (not t) (1 + position_or_len (λ b. b == 10) xs) 0 → HasNoLf (x ∷ xs)
    by true is others le = absurd (omega arith)
    by false is others le = none_cons x xs (λ same. let both : true ≡ false = sym (eq-eqb x 10 same) ∙ is in absurd cc) (others (omega arith))

pub no_lf : (xs : List ℕ) → position (λ b. b == 10) xs ≡ None → HasNoLf xs
no_lf xs is = by (nat_lt (position_or_len (λ b. b == 10) xs) (length xs)) refl is
  where
    by : (t : Bool) → nat_lt (position_or_len (λ b. b == 10) xs) (length xs) ≡ t → cond t (Some (position_or_len (λ b. b == 10) xs)) None ≡ None → HasNoLf xs
    by true t some = absurd cc
    by false t some = none_within xs (ltb-false _ _ t)

-- an LF stands there, and none before it
pub record FirstLf (xs : List ℕ) (at : ℕ) : Type 0 where
  pub within : at < length xs
  pub before : HasNoLf (take at xs)
  pub found : xs ≡ take at xs ++ 10 ∷ drop (at + 1) xs

pub first_lf : (xs : List ℕ) (at : ℕ) → position (λ b. b == 10) xs ≡ Some at → FirstLf xs at
first_lf xs at is =
    let p = position-Some (λ b. b == 10) xs at 10 is in
    let here : get_or xs at 10 ≡ 10 = let t = p.1 in grind (arith, nat_tests) in
    let one : suc at ≡ at + 1 = omega arith in
    let tail : drop at xs ≡ 10 ∷ drop (at + 1) xs = drop-cons xs at 10 p.0 ∙ (λ j. here j ∷ drop (one j) xs) in record {
      within = p.0;
      before = λ (k, lt, e).
          let low : k < at = omega (arith, lt, length-take at xs) in
          let no = p.2 k low in
          let yes : get_or xs k 10 ≡ 10 = sym (get_or-take at xs k 10 low) ∙ e in grind (arith, nat_tests);
      found = sym (take-append-drop at xs) ∙ ap (λ (l : List ℕ). take at xs ++ l) tail;
    }

-- ---- what is kept of a line

-- as much as there is room for
pub kept_more : (n : ℕ) (line bytes : List ℕ) → length line ≤ n → line ++ take (min (n - length line) (length bytes)) bytes ≡ take n (line ++ bytes)
kept_more n line bytes short =
    let m : length line + (n - length line) ≡ n = omega arith in
    ap (λ (l : List ℕ). line ++ l) (take_min (n - length line) bytes) ∙ sym (take-append-add line bytes (n - length line)) ∙ ap (λ k. take k (line ++ bytes)) m

-- what is kept of the front is enough
pub kept_again : (n : ℕ) (front bytes : List ℕ) → take n (take n front ++ bytes) ≡ take n (front ++ bytes)
kept_again zero front bytes = refl
kept_again (suc n) [] bytes = refl
kept_again (suc n) (x ∷ front) bytes = ap (λ (l : List ℕ). x ∷ l) (kept_again n front bytes)

-- ---- which part of a piece is held

-- behind the n bytes that are handed out, and the LF
pub held_behind : (piece : List ℕ) (at end n : ℕ) → at + (n + 1) ≤ end → drop (n + 1) (slice_range piece at end) ≡ slice_range piece (at + (n + 1)) end
held_behind piece at end n inside =
    let m : end - at ≡ n + 1 + (end - (at + (n + 1))) = omega arith in
    ap (λ k. drop (n + 1) (take k (drop at piece))) m ∙ drop-take (n + 1) (end - (at + (n + 1))) (drop at piece) ∙ ap (λ (l : List ℕ). take (end - (at + (n + 1))) l) (drop-drop (n + 1) at piece)

-- what is held up to the LF is handed out, into the line
pub taken_front : (piece seen line line1 had held : List ℕ) (at end n : ℕ) → seen ≡ piece → line ≡ had → slice_range piece at end ≡ held
    → n < length (slice_range seen at end) → HasNoLf (take n (slice_range seen at end)) → slice_range seen at end ≡ take n (slice_range seen at end) ++ 10 ∷ drop (n + 1) (slice_range seen at end)
    → line1 ≡ take most_kept (line ++ take n (slice_range seen at end))
    → (front : List ℕ) × HasNoLf front × (held ≡ front ++ 10 ∷ slice_range piece (at + (n + 1)) end) × (line1 ≡ take most_kept (had ++ front))
taken_front piece seen line line1 had held at end n same was is within before found kept =
    let behind : drop (n + 1) (slice_range seen at end) ≡ slice_range piece (at + (n + 1)) end =
    held_behind seen at end n (omega (arith, within, length-take (end - at) (drop at seen))) ∙ ap (λ (l : List ℕ). slice_range l (at + (n + 1)) end) same in (
      take n (slice_range seen at end),
      before,
      sym is ∙ ap (λ (l : List ℕ). slice_range l at end) (sym same) ∙ found ∙ ap (λ (l : List ℕ). take n (slice_range seen at end) ++ 10 ∷ l) behind,
      kept ∙ ap (λ (l : List ℕ). take most_kept (l ++ take n (slice_range seen at end))) was,
    )

none_left : (piece : List ℕ) (end : ℕ) → slice_range piece end end ≡ []
none_left piece end = let z : end - end ≡ 0 = omega arith in rw z refl

-- where it has no LF it is handed out whole
pub taken_whole : (piece seen line line1 had held : List ℕ) (at end : ℕ) → seen ≡ piece → line ≡ had → slice_range piece at end ≡ held
    → HasNoLf (slice_range seen at end) → line1 ≡ take most_kept (line ++ slice_range seen at end)
    → HasNoLf held × (slice_range piece end end ≡ []) × (line1 ≡ take most_kept (had ++ held))
taken_whole piece seen line line1 had held at end same was is none kept =
    let whole : slice_range seen at end ≡ held = ap (λ (l : List ℕ). slice_range l at end) same ∙ is in (
      subst HasNoLf whole none,
      none_left piece end,
      kept ∙ (λ j. take most_kept (was j ++ whole j)),
    )
