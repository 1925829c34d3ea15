-- Bytes that are put into others, byte for byte.
use Rattle.std.proofs.Common.{◌≡◌, ℕ, ◌+◌, ◌-◌, ◌<◌, ◌≤◌, List, length, take, drop, get_or, sym, ◌∙◌, ap, arith}
use Rattle.std.proofs.Common.{replicate, inl, inr}
use Rattle.std.proofs.lemmas.Bool.{cases_lt}
use Rattle.std.proofs.lemmas.List.{get_or-drop, get_or-take, get_or_append_left, get_or-append_right, length-take}
use Rattle.std.proofs.lemmas.List.{length-drop}
use Rattle.std.proofs.lemmas.List.{ext_get_or, length-append, get_or-replicate, get_or_past, length-replicate}
use Rattle.h5_base.specs.Fields.{bytes_at, Puts}

-- ---- what stands somewhere

pub stands_at : (s : List ℕ) (at : ℕ) (xs : List ℕ) → at + length xs ≤ length s
    → ((i : ℕ) → i < length xs → get_or s (at + i) 0 ≡ get_or xs i 0) → bytes_at s at (length xs) ≡ xs
stands_at s at xs le same =
    let whole : length (take (length xs) (drop at s)) ≡ length xs = omega
    (arith, length-take (length xs) (drop at s), length-drop at s) in
    ext_get_or 0 (take (length xs) (drop at s)) xs whole
    (λ i lt. let below : i < length xs = omega arith in
    get_or-take (length xs) (drop at s) i 0 below ∙ get_or-drop at s i 0 ∙ same i below)

pub stands_in : (s : List ℕ) (at : ℕ) (xs : List ℕ) → bytes_at s at (length xs) ≡ xs → (i : ℕ) → i < length xs
    → get_or s (at + i) 0 ≡ get_or xs i 0
stands_in s at xs e i lt =
    sym (get_or-drop at s i 0) ∙ sym (get_or-take (length xs) (drop at s) i 0 lt)
    ∙ ap (λ (l : List ℕ). get_or l i 0) e

-- what stands inside of what stands somewhere
pub stands_within : (s : List ℕ) (start : ℕ) (v : List ℕ) (at : ℕ) (xs : List ℕ) → start + length v ≤ length s
    → bytes_at s start (length v) ≡ v → at + length xs ≤ length v → bytes_at v at (length xs) ≡ xs
    → bytes_at s (start + at) (length xs) ≡ xs
stands_within s start v at xs le e inside f =
    stands_at s (start + at) xs (omega arith)
    (λ i lt. let n : start + at + i ≡ start + (at + i) = omega arith in
    let m : at + i < length v = omega arith in
    ap (λ (k : ℕ). get_or s k 0) n ∙ stands_in s start v e (at + i) m ∙ stands_in v at xs f i lt)

-- ---- what is put

module _ (old new : List ℕ) (at : ℕ) (bytes : List ℕ) (p : Puts old new at bytes)
    (fits : at + length bytes ≤ length old) where
  front_len : length (take at old) ≡ at
  front_len = omega (arith, length-take at old)

  pub puts-len : length new ≡ length old
  puts-len =
      let f = ap length p.front in
      let r = ap length p.rest in
      omega (
        arith,
        f,
        r,
        front_len,
        length-append (take at old) bytes,
        length-take (at + length bytes) new,
        length-drop (at + length bytes) new,
        length-drop (at + length bytes) old,
      )

  pub puts-before : (i : ℕ) → i < at → get_or new i 0 ≡ get_or old i 0
  puts-before i lt =
      sym (get_or-take (at + length bytes) new i 0 (omega arith)) ∙ ap (λ (l : List ℕ). get_or l i 0) p.front
      ∙ get_or_append_left (take at old) bytes 0 i (omega (arith, front_len)) ∙ get_or-take at old i 0 lt

  pub puts-inside : (i : ℕ) → i < length bytes → get_or new (at + i) 0 ≡ get_or bytes i 0
  puts-inside i lt =
      let e : at + i - at ≡ i = omega arith in
      sym (get_or-take (at + length bytes) new (at + i) 0 (omega arith)) ∙ ap (λ (l : List ℕ). get_or l (at + i) 0)
      p.front
      ∙ get_or-append_right (take at old) bytes at (at + i) 0 front_len (omega arith)
      ∙ ap (λ (k : ℕ). get_or bytes k 0) e

  pub puts-behind : (i : ℕ) → at + length bytes ≤ i → get_or new i 0 ≡ get_or old i 0
  puts-behind i le =
      let e : at + length bytes + (i - (at + length bytes)) ≡ i = omega arith in
      ap (λ (k : ℕ). get_or new k 0) (sym e) ∙ sym (get_or-drop (at + length bytes) new (i - (at + length bytes)) 0)
      ∙ ap (λ (l : List ℕ). get_or l (i - (at + length bytes)) 0) p.rest
      ∙ get_or-drop (at + length bytes) old (i - (at + length bytes)) 0
      ∙ ap (λ (k : ℕ). get_or old k 0) e

-- zeros, wherever they are read
pub zero_at : (n i : ℕ) → get_or (replicate {A = ℕ} n 0) i 0 ≡ 0
zero_at n i = elim (cases_lt i n) [
  | inl lt ↦ get_or-replicate n i 0 0 lt
  | inr ge ↦ get_or_past (replicate {A = ℕ} n 0) i 0 (omega (arith, length-replicate {A = ℕ} n 0))
]
