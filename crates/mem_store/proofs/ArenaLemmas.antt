-- A part of a list that is replaced.
use Rattle.std.proofs.Common.{◌≡◌, ℕ, ◌+◌, ◌-◌, ◌<◌, ◌≤◌, max, List, ◌++◌, length, take, drop, replicate, sym, ◌∙◌, ap, arith, length-append, append_assoc, inl, inr}
use Rattle.std.proofs.lemmas.Bool.{cases_lt}
use Rattle.std.proofs.lemmas.List.{take-take, take_all, drop_all, length-take, length-drop, length-replicate, take-replicate, take-append-le, drop-append-le, append-nil}
use Rattle.std.proofs.Math.Seq.{take-add, take-append-add, drop-append-add}
use Rattle.outside.specs.Files.{written, resized}

part_length : (s len : ℕ) (b : List ℕ) → s + len ≤ length b → length (take len (drop s b)) ≡ len
part_length s len b within = omega (arith, length-take len (drop s b), length-drop s b)

pub resized_length : (n : ℕ) (c : List ℕ) → length (resized n c) ≡ n
resized_length n c = omega (arith, length-append (take n c) (replicate (n - length c) 0), length-take n c, length-replicate {A = ℕ} (n - length c) 0)

resized_more : (n len : ℕ) (c : List ℕ) → length c ≡ len → len ≤ n → resized n c ≡ c ++ replicate (n - len) 0
resized_more n len c is more = rw is (ap (λ (l : List ℕ). l ++ replicate (n - len) 0) (take_all n c (omega arith)))

resized_less : (n : ℕ) (c : List ℕ) → n ≤ length c → resized n c ≡ take n c
resized_less n c less = let none : n - length c ≡ 0 = omega arith in rw none (append-nil (take n c))

pub refit_more : (s len n : ℕ) (b : List ℕ) → s + len ≤ length b → len ≤ n
    → take (s + len) b ++ replicate (n - len) 0 ++ drop (s + len) b ≡ take s b ++ resized n (take len (drop s b)) ++ drop (s + len) b
refit_more s len n b within more =
    ap (λ (l : List ℕ). l ++ drop (s + len) b)
    (ap (λ (l : List ℕ). l ++ replicate (n - len) 0) (take-add s len b)
    ∙ append_assoc (take s b) (take len (drop s b)) (replicate (n - len) 0)
    ∙ ap (λ (l : List ℕ). take s b ++ l) (sym (resized_more n len (take len (drop s b)) (part_length s len b within) more)))

pub refit_less : (s len n : ℕ) (b : List ℕ) → s + len ≤ length b → n ≤ len
    → take (s + n) b ++ drop (s + n + (len - n)) b ≡ take s b ++ resized n (take len (drop s b)) ++ drop (s + len) b
refit_less s len n b within less =
    let end : s + n + (len - n) ≡ s + len = omega arith in
    let size : n ≤ length (take len (drop s b)) = omega (arith, part_length s len b within) in
    rw end (ap (λ (l : List ℕ). l ++ drop (s + len) b)
    (take-add s n b ∙ ap (λ (l : List ℕ). take s b ++ l) (sym (take-take n len (drop s b) less) ∙ sym (resized_less n (take len (drop s b)) size))))

-- the part and a piece over it, of the part alone
pub written_in : (at n len : ℕ) (c p : List ℕ) → length c ≡ len → length p ≡ n
    → take at (resized (max len (at + n)) c) ++ p ++ drop (at + n) (resized (max len (at + n)) c) ≡ written at p c
written_in at n len c p is size = elim (cases_lt len (at + n)) [
  | inl past ↦
      let top : max len (at + n) ≡ at + n = omega arith in
      rw (top, size) (ap (λ (l : List ℕ). l ++ p ++ drop (at + n) (resized (at + n) c)) (front past) ∙ ap (λ (l : List ℕ). resized at c ++ p ++ l) (back past))
  | inr within ↦
      let top : max len (at + n) ≡ len = omega arith in
      rw (top, size) (ap (λ (l : List ℕ). take at l ++ p ++ drop (at + n) l) same ∙ ap (λ (l : List ℕ). l ++ p ++ drop (at + n) c) (sym (resized_less at c (omega arith))))
]
  where
    same : resized len c ≡ c
    same = resized_less len c (omega arith) ∙ take_all len c (omega arith)

    full : len < at + n → resized (at + n) c ≡ c ++ replicate (at + n - length c) 0
    full past = ap (λ (l : List ℕ). l ++ replicate (at + n - length c) 0) (take_all (at + n) c (omega arith))

    front : len < at + n → take at (resized (at + n) c) ≡ resized at c
    front past = elim (cases_lt at (length c)) [
      | inl below ↦
          let none : at - length c ≡ 0 = omega arith in
          let lt : at ≤ length c = omega arith in
          ap (take at) (full past) ∙ take-append-le at c (replicate (at + n - length c) 0) lt ∙ sym (append-nil (take at c)) ∙ ap (λ (k : ℕ). take at c ++ replicate k 0) (sym none)
      | inr above ↦
          let sum : at ≡ length c + (at - length c) = omega arith in
          ap (take at) (full past)
          ∙ ap (λ (k : ℕ). take k (c ++ replicate (at + n - length c) 0)) sum
          ∙ take-append-add c (replicate (at + n - length c) 0) (at - length c)
          ∙ ap (λ (l : List ℕ). c ++ l) (take-replicate (at - length c) (at + n - length c) 0 (omega arith))
          ∙ ap (λ (l : List ℕ). l ++ replicate (at - length c) 0) (sym (take_all at c above))
    ]

    back : len < at + n → drop (at + n) (resized (at + n) c) ≡ drop (at + n) c
    back past =
        let fits : length (resized (at + n) c) ≤ at + n = omega (arith, length-append (take (at + n) c) (replicate (at + n - length c) 0), length-take (at + n) c, length-replicate {A = ℕ} (at + n - length c) 0) in
        drop_all (at + n) (resized (at + n) c) fits ∙ sym (drop_all (at + n) c (omega arith))

pub cover_in : (s at n : ℕ) (h x d p : List ℕ) → length h ≡ s → at + n ≤ length x
    → take (s + at) (h ++ x ++ d) ++ p ++ drop (s + at + n) (h ++ x ++ d) ≡ h ++ (take at x ++ p ++ drop (at + n) x) ++ d
cover_in s at n h x d p size within =
    let place : s + at ≡ length h + at = omega arith in
    let end : s + at + n ≡ length h + (at + n) = omega arith in
    let front : take (s + at) (h ++ x ++ d) ≡ h ++ take at x =
    ap (λ (k : ℕ). take k (h ++ x ++ d)) place ∙ ap (take (length h + at)) (append_assoc h x d) ∙ take-append-add h (x ++ d) at ∙ ap (λ (l : List ℕ). h ++ l) (take-append-le at x d (omega arith)) in
    let back : drop (s + at + n) (h ++ x ++ d) ≡ drop (at + n) x ++ d =
    ap (λ (k : ℕ). drop k (h ++ x ++ d)) end ∙ ap (drop (length h + (at + n))) (append_assoc h x d) ∙ drop-append-add h (x ++ d) (at + n) ∙ drop-append-le (at + n) x d within in
    (λ j. front j ++ p ++ back j) ∙ simp append_assoc

-- after the part was given its length and the piece laid over it
pub overwritten : (s at n len : ℕ) (b b1 p : List ℕ) → s + len ≤ length b → length p ≡ n
    → b1 ≡ take s b ++ resized (max len (at + n)) (take len (drop s b)) ++ drop (s + len) b
    → take (s + at) b1 ++ p ++ drop (s + at + n) b1 ≡ take s b ++ written at p (take len (drop s b)) ++ drop (s + len) b
overwritten s at n len b b1 p within size is =
    let c : List ℕ = take len (drop s b) in
    let part : length (take len (drop s b)) ≡ len = part_length s len b within in
    let front : length (take s b) ≡ s = omega (arith, length-take s b) in
    let whole : length (resized (max len (at + n)) (take len (drop s b))) ≡ max len (at + n) = resized_length (max len (at + n)) (take len (drop s b)) in
    (λ j. take (s + at) (is j) ++ p ++ drop (s + at + n) (is j))
    ∙ cover_in s at n (take s b) (resized (max len (at + n)) (take len (drop s b))) (drop (s + len) b) p front (omega (arith, whole))
    ∙ ap (λ (l : List ℕ). take s b ++ l ++ drop (s + len) b) (written_in at n len (take len (drop s b)) p part size)

pub length-written : (at : ℕ) (p c : List ℕ) → length (written at p c) ≡ max (length c) (at + length p)
length-written at p c =
    omega (arith, length-append (resized at c ++ p) (drop (at + length p) c), length-append (resized at c) p, resized_length at c, length-drop (at + length p) c)

pub written_size : (m at s len : ℕ) (b p : List ℕ) → s + len ≤ length b → m ≡ max len (at + length p) → m ≡ length (written at p (take len (drop s b)))
written_size m at s len b p within is = omega (arith, length-written at p (take len (drop s b)), part_length s len b within)
