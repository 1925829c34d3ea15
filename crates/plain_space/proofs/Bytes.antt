-- The bytes of a file by address: read, written, and with another length.
use Rattle.std.proofs.Common.{ℕ, ◌≡◌, ◌<◌, ◌≤◌, ◌+◌, ◌-◌, ◌⊎◌, inl, inr, List, [], ◌++◌, length, take, drop, replicate, get_or, min, refl, sym, ◌∙◌, ap, subst, arith, append_assoc}
use Rattle.std.proofs.lemmas.Grind.{common_steps}
use Rattle.std.proofs.lemmas.Bool.{cases_lt}
use Rattle.std.proofs.lemmas.Bool.Decides.{nat_tests}
use Rattle.std.proofs.lemmas.List.{ext_get_or, get_or-append_right, get_or_append_left, length-append, get_or_past, get_or-drop, get_or-take, get_or-replicate, length-replicate, length-take, length-drop, drop_all, append-nil, places}
use Rattle.std.proofs.lemmas.List.FromFn.{get_or-map-range_with_len, length-map-range_with_len}
use Rattle.std.proofs.Math.Path.{fun_ext}
use borrow.Rule.Slice.PartMut.{put_mid}
use Rattle.outside.specs.Array.{Array, array_of, bytes_of, over, SameOutside}
use Rattle.outside.specs.Files.{written, resized}

-- ---- reading

-- n bytes were read of the most that were asked for, and zeros follow
pub read_behind : (file out : List ℕ) (at n most : ℕ) → length out ≡ most → n ≤ most → take n out ≡ take most (drop at file) → (k : ℕ) → k < most
    → get_or (take n out ++ replicate (most - n) 0) k 0 ≡ get_or file (at + k) 0
read_behind file out at n most size few same k lt = elim (cases_lt k n) [
  | inl low ↦
      let front : k < length (take n out) = omega (arith, length-take n out) in
      get_or_append_left (take n out) (replicate (most - n) 0) 0 k front
      ∙ ap (λ (l : List ℕ). get_or l k 0) same
      ∙ get_or-take most (drop at file) k 0 lt
      ∙ get_or-drop at file k 0
  | inr high ↦
      let size' : length (take n out) ≡ n = omega (arith, length-take n out) in
      let past : length file ≤ at + k = omega (arith, length-take most (drop at file), length-drop at file, ap length same) in
      get_or-append_right (take n out) (replicate (most - n) 0) n k 0 size' high
      ∙ get_or-replicate (most - n) (k - n) 0 0 (omega arith)
      ∙ sym (get_or_past file (at + k) 0 past)
]

pub read_all : (file out : List ℕ) (at n most : ℕ) → length out ≡ most → n ≤ most → take n out ≡ take most (drop at file)
    → take n out ++ replicate (most - n) 0 ≡ bytes_of (array_of file) at most
read_all file out at n most size few same =
    let front : length (take n out) ≡ n = omega (arith, length-take n out) in
    let whole : length (take n out ++ replicate (most - n) 0) ≡ most = omega (arith, length-append (take n out) (replicate (most - n) 0), length-replicate {A = ℕ} (most - n) 0) in
    ext_get_or 0 (take n out ++ replicate (most - n) 0) (bytes_of (array_of file) at most)
    (whole ∙ sym (length-map-range_with_len (array_of file) at most))
    (λ k lt. let below : k < most = omega arith in
    read_behind file out at n most size few same k below
    ∙ sym (get_or-map-range_with_len (array_of file) at most k (at + k) 0 below refl))

-- the rest of what was read into is filled with zeros
pub zeros_behind : (out zeros : List ℕ) (n rest : ℕ) → n ≤ length out → rest ≡ length out - n → zeros ≡ replicate rest 0
    → put_mid n (length out - n) out zeros ≡ take n out ++ replicate (length out - n) 0
zeros_behind out zeros n rest few size is =
    let all : zeros ≡ replicate (length out - n) 0 = is ∙ ap (λ (k : ℕ). replicate k 0) size in
    let none : drop (length out - n) (drop n out) ≡ [] = drop_all (length out - n) (drop n out) (omega (arith, length-drop n out)) in
    ap (λ (l : List ℕ). take n out ++ (l ++ drop (length out - n) (drop n out))) all
    ∙ ap (λ (l : List ℕ). take n out ++ (replicate (length out - n) 0 ++ l)) none
    ∙ ap (λ (l : List ℕ). take n out ++ l) (append-nil (replicate (length out - n) 0))

-- ---- arrays

-- inside a range or outside it
range_cases : (at n a : ℕ) → ((at ≤ a) × (a < at + n)) ⊎ ((a < at) ⊎ (at + n ≤ a))
range_cases at n a = grind arith

over-inside : (b : Array) (at : ℕ) (d : List ℕ) (a : ℕ) → at ≤ a → a < at + length d → over b at d a ≡ get_or d (a - at) 0
over-inside b at d a l h = grind (arith, nat_tests)

over-outside : (b : Array) (at : ℕ) (d : List ℕ) (a : ℕ) → (a < at) ⊎ (at + length d ≤ a) → over b at d a ≡ b a
over-outside b at d a h = grind (arith, nat_tests)

pub over-unique : (b c : Array) (at : ℕ) (d : List ℕ)
    → ((k : ℕ) → k < length d → c (at + k) ≡ get_or d k 0) → SameOutside at (length d) b c → c ≡ over b at d
over-unique b c at d inside outside = fun_ext (λ a. elim (range_cases at (length d) a) [
  | inl h ↦ (let e : at + (a - at) ≡ a = omega (arith, h.0) in
      let i : a - at < length d = omega (arith, h.0, h.1) in
      let p : c (at + (a - at)) ≡ get_or d (a - at) 0 = inside (a - at) i in
      subst (λ x. c x ≡ get_or d (a - at) 0) e p ∙ sym (over-inside b at d a h.0 h.1))
  | inr h ↦ outside a h ∙ sym (over-outside b at d a h)
])

-- ---- writing

padded : (file : List ℕ) (n k : ℕ) → get_or (file ++ replicate n 0) k 0 ≡ get_or file k 0
padded file n k = grind (arith, common_steps, places)

pub length-resized : (n : ℕ) (file : List ℕ) → length (resized n file) ≡ n
length-resized n file = omega (arith, length-append (take n file) (replicate (n - length file) 0), length-take n file, length-replicate {A = ℕ} (n - length file) 0)

-- below its length a file of another length has the same bytes
resized_below : (n : ℕ) (file : List ℕ) (k : ℕ) → k < n → get_or (resized n file) k 0 ≡ get_or file k 0
resized_below n file k lt = elim (cases_lt k (length file)) [
  | inl low ↦
      let front : k < length (take n file) = omega (arith, length-take n file) in
      get_or_append_left (take n file) (replicate (n - length file) 0) 0 k front ∙ get_or-take n file k 0 lt
  | inr high ↦
      let size : length (take n file) ≡ min n (length file) = length-take n file in
      get_or-append_right (take n file) (replicate (n - length file) 0) (min n (length file)) k 0 size (omega arith)
      ∙ get_or-replicate (n - length file) (k - min n (length file)) 0 0 (omega arith)
      ∙ sym (get_or_past file k 0 high)
]

written-parts : (file : List ℕ) (at : ℕ) (bytes : List ℕ) → written at bytes file ≡ resized at file ++ (bytes ++ drop (at + length bytes) file)
written-parts file at bytes = append_assoc (resized at file) bytes (drop (at + length bytes) file)

pub written_in : (file : List ℕ) (at : ℕ) (bytes : List ℕ) (k : ℕ) → k < length bytes → get_or (written at bytes file) (at + k) 0 ≡ get_or bytes k 0
written_in file at bytes k lt =
    let front : length (resized at file) ≡ at = length-resized at file in
    let place : at + k - at ≡ k = omega arith in
    ap (λ (l : List ℕ). get_or l (at + k) 0) (written-parts file at bytes)
    ∙ get_or-append_right (resized at file) (bytes ++ drop (at + length bytes) file) at (at + k) 0 front (omega arith)
    ∙ ap (λ (j : ℕ). get_or (bytes ++ drop (at + length bytes) file) j 0) place
    ∙ get_or_append_left bytes (drop (at + length bytes) file) 0 k lt

pub written_out : (file : List ℕ) (at : ℕ) (bytes : List ℕ) (k : ℕ) → (k < at) ⊎ (at + length bytes ≤ k) → get_or (written at bytes file) k 0 ≡ get_or file k 0
written_out file at bytes k h =
    let front : length (resized at file) ≡ at = length-resized at file in
    elim h [
      | inl low ↦
          ap (λ (l : List ℕ). get_or l k 0) (written-parts file at bytes)
          ∙ get_or_append_left (resized at file) (bytes ++ drop (at + length bytes) file) 0 k (omega (arith, front))
          ∙ resized_below at file k low
      | inr high ↦
          let place : at + length bytes + (k - at - length bytes) ≡ k = omega (arith, high) in
          ap (λ (l : List ℕ). get_or l k 0) (written-parts file at bytes)
          ∙ get_or-append_right (resized at file) (bytes ++ drop (at + length bytes) file) at k 0 front (omega (arith, high))
          ∙ get_or-append_right bytes (drop (at + length bytes) file) (length bytes) (k - at) 0 refl (omega (arith, high))
          ∙ get_or-drop (at + length bytes) file (k - at - length bytes) 0
          ∙ ap (λ (j : ℕ). get_or file j 0) place
    ]

pub length-written : (file : List ℕ) (at : ℕ) (bytes : List ℕ) → at + length bytes ≤ length file → length (written at bytes file) ≡ length file
length-written file at bytes inside =
    omega (arith, ap length (written-parts file at bytes), length-append (resized at file) (bytes ++ drop (at + length bytes) file), length-append bytes (drop (at + length bytes) file), length-resized at file, length-drop (at + length bytes) file)

-- ---- with another length

longer_in : (file : List ℕ) (n : ℕ) (k : ℕ) → k < length (replicate {A = ℕ} (n - length file) 0) → get_or (resized n file) (length file + k) 0 ≡ get_or (replicate (n - length file) 0) k 0
longer_in file n k lt =
    let few : k < n - length file = omega (arith, length-replicate {A = ℕ} (n - length file) 0) in
    resized_below n file (length file + k) (omega arith) ∙ get_or_past file (length file + k) 0 (omega arith) ∙ sym (get_or-replicate (n - length file) k 0 0 few)

longer_out : (file : List ℕ) (n : ℕ) → length file ≤ n → (k : ℕ) → (k < length file) ⊎ (length file + length (replicate {A = ℕ} (n - length file) 0) ≤ k) → get_or (resized n file) k 0 ≡ get_or file k 0
longer_out file n longer k h = elim (cases_lt k n) [
  | inl low ↦ resized_below n file k low
  | inr high ↦ get_or_past (resized n file) k 0 (omega (arith, length-resized n file)) ∙ sym (get_or_past file k 0 (omega arith))
]

pub array-longer : (file : List ℕ) (n : ℕ) → length file ≤ n → array_of (resized n file) ≡ over (array_of file) (length file) (replicate (n - length file) 0)
array-longer file n longer = over-unique (array_of file) (array_of (resized n file)) (length file) (replicate (n - length file) 0) (longer_in file n) (longer_out file n longer)
