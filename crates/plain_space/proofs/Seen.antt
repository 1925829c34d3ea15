-- The bytes of a file that are seen, those below a limit: read, written, and with another length.
use Rattle.std.proofs.Common.{ℕ, ◌≡◌, ◌<◌, ◌≤◌, ◌+◌, ◌-◌, inl, inr, List, [], ◌++◌, length, take, drop, replicate, get_or, min, Result, Ok, Err, sym, ◌∙◌, ap, arith}
use Rattle.std.specs.Result.{IfOk}
use Rattle.std.proofs.lemmas.Bool.{cases_lt}
use Rattle.std.proofs.lemmas.List.{ext_get_or, get_or_past, get_or-drop, get_or-take, length-take, length-drop, drop_all, take_all, take-append-le}
use Rattle.outside.specs.Array.{array_of, over, SameOutside}
use Rattle.outside.specs.Files.{written, resized, WrittenInPart, ResizedInPart}
use Rattle.plain_space.proofs.Bytes.{over-unique, written_in, written_out, length-resized, length-written, array-longer}

-- ---- reading

-- as many bytes are asked for as lie below the limit
read_below_limit : (limit at most : ℕ) (file : List ℕ) → at ≤ limit → take (min (limit - at) most) (drop at file) ≡ take most (drop at (take limit file))
read_below_limit limit at most file below = ext_get_or 0 (take (min (limit - at) most) (drop at file)) (take most (drop at (take limit file)))
    (omega (arith, length-take (min (limit - at) most) (drop at file), length-drop at file, length-take most (drop at (take limit file)), length-drop at (take limit file), length-take limit file))
    (λ k lt.
    let few : k < min (limit - at) most = omega (arith, length-take (min (limit - at) most) (drop at file)) in
    get_or-take (min (limit - at) most) (drop at file) k 0 few
    ∙ get_or-drop at file k 0
    ∙ sym (get_or-take limit file (at + k) 0 (omega arith))
    ∙ sym (get_or-drop at (take limit file) k 0)
    ∙ sym (get_or-take most (drop at (take limit file)) k 0 (omega arith)))

-- m bytes were asked for, those of the buffer that lie below the limit
pub read_seen : {E : Type 0} (result : Result ℕ E) (limit at m : ℕ) (file out new : List ℕ) → at ≤ limit → m ≡ min (limit - at) (length out) → length new ≡ length (take m out)
    → IfOk result (λ n. n ≤ length (take m out)) → IfOk result (λ n. take n new ≡ take (length (take m out)) (drop at file))
    → IfOk result (λ n. take n (new ++ drop m out) ≡ take (length out) (drop at (take limit file)))
read_seen (Ok n) limit at m file out new below most size few bytes =
    take-append-le n new (drop m out) (omega (arith, few, size))
    ∙ bytes
    ∙ ap (λ (k : ℕ). take k (drop at file)) (omega (arith, length-take m out))
    ∙ read_below_limit limit at (length out) file below
read_seen (Err e) limit at m file out new below most size few bytes = tt

pub none_past_limit : (limit at most : ℕ) (file : List ℕ) → limit ≤ at → take most (drop at (take limit file)) ≡ []
none_past_limit limit at most file past =
    let none : drop at (take limit file) ≡ [] = drop_all at (take limit file) (omega (arith, length-take limit file)) in
    ap (λ (l : List ℕ). take most l) none ∙ take_all most [] (omega arith)

-- ---- two files

-- where a byte is the same, so is what is seen of it
seen_same : (limit : ℕ) (f g : List ℕ) (k : ℕ) → get_or g k 0 ≡ get_or f k 0 → get_or (take limit g) k 0 ≡ get_or (take limit f) k 0
seen_same limit f g k same = elim (cases_lt k limit) [
  | inl low ↦ get_or-take limit g k 0 low ∙ same ∙ sym (get_or-take limit f k 0 low)
  | inr high ↦ get_or_past (take limit g) k 0 (omega (arith, length-take limit g)) ∙ sym (get_or_past (take limit f) k 0 (omega (arith, length-take limit f)))
]

-- the same bytes from the limit on
same_behind : (limit : ℕ) (f g : List ℕ) → length g ≡ length f → ((k : ℕ) → limit ≤ k → get_or g k 0 ≡ get_or f k 0) → drop limit g ≡ drop limit f
same_behind limit f g size same = ext_get_or 0 (drop limit g) (drop limit f) (omega (arith, length-drop limit g, length-drop limit f))
    (λ k lt. get_or-drop limit g k 0 ∙ same (limit + k) (omega arith) ∙ sym (get_or-drop limit f k 0))

-- what is seen, what isn't and the length make the file
pub same_bytes : (limit : ℕ) (f g : List ℕ) → array_of (take limit g) ≡ array_of (take limit f) → drop limit g ≡ drop limit f → length g ≡ length f → g ≡ f
same_bytes limit f g front behind size = ext_get_or 0 g f size (λ k lt. elim (cases_lt k limit) [
  | inl low ↦ sym (get_or-take limit g k 0 low) ∙ ap (λ (b : ℕ → ℕ). b k) front ∙ get_or-take limit f k 0 low
  | inr high ↦
      let place : limit + (k - limit) ≡ k = omega (arith, high) in
      ap (λ (j : ℕ). get_or g j 0) (sym place)
      ∙ sym (get_or-drop limit g (k - limit) 0)
      ∙ ap (λ (l : List ℕ). get_or l (k - limit) 0) behind
      ∙ get_or-drop limit f (k - limit) 0
      ∙ ap (λ (j : ℕ). get_or f j 0) place
])

-- ---- writing inside a file, done or in part

pub in_part : (at : ℕ) (bytes file : List ℕ) → at + length bytes ≤ length file → WrittenInPart at (length bytes) file (written at bytes file)
in_part at bytes file inside = record {
  no_shorter = omega (arith, length-written file at bytes inside);
  no_longer = omega (arith, length-written file at bytes inside);
  below = λ i low. written_out file at bytes i (inl low);
  above = λ i high. written_out file at bytes i (inr high);
}

pub part_length : (at n : ℕ) (f g : List ℕ) → at + n ≤ length f → WrittenInPart at n f g → length g ≡ length f
part_length at n f g inside part = omega (arith, part.no_shorter, part.no_longer)

pub part_behind : (limit at n : ℕ) (f g : List ℕ) → at + n ≤ limit → at + n ≤ length f → WrittenInPart at n f g → drop limit g ≡ drop limit f
part_behind limit at n f g low inside part = same_behind limit f g (part_length at n f g inside part) (λ k high. part.above k (omega arith))

pub part_outside : (limit at n : ℕ) (f g : List ℕ) → WrittenInPart at n f g → SameOutside at n (array_of (take limit f)) (array_of (take limit g))
part_outside limit at n f g part k h = seen_same limit f g k (elim h [
  | inl low ↦ part.below k low
  | inr high ↦ part.above k high
])

pub seen-written : (limit at : ℕ) (bytes file : List ℕ) → at + length bytes ≤ limit → array_of (take limit (written at bytes file)) ≡ over (array_of (take limit file)) at bytes
seen-written limit at bytes file low = over-unique (array_of (take limit file)) (array_of (take limit (written at bytes file))) at bytes
    (λ k lt. get_or-take limit (written at bytes file) (at + k) 0 (omega arith) ∙ written_in file at bytes k lt)
    (λ k h. seen_same limit file (written at bytes file) k (written_out file at bytes k h))

-- ---- with another length, of a file that is seen whole

-- a file that ends below the limit is seen whole
pub seen_whole : (limit end : ℕ) (file : List ℕ) → end ≡ length (take limit file) → end < limit → length file ≡ end
seen_whole limit end file size low = omega (arith, length-take limit file)

pub seen-longer : (limit old end : ℕ) (file : List ℕ) → old ≡ length (take limit file) → old < end → end ≤ limit
    → array_of (take limit (resized end file)) ≡ over (array_of (take limit file)) old (replicate (end - old) 0)
seen-longer limit old end file size up low =
    let whole : length file ≡ old = seen_whole limit old file size (omega arith) in
    ap array_of (take_all limit (resized end file) (omega (arith, length-resized end file)))
    ∙ array-longer file end (omega arith)
    ∙ ap (λ (n : ℕ). over (array_of file) n (replicate (end - n) 0)) whole
    ∙ ap (λ (l : List ℕ). over (array_of l) old (replicate (end - old) 0)) (sym (take_all limit file (omega arith)))

pub none_behind : (limit : ℕ) (f g : List ℕ) → length f ≤ limit → length g ≤ limit → drop limit g ≡ drop limit f
none_behind limit f g first second = drop_all limit g second ∙ sym (drop_all limit f first)

pub longer_outside : (limit old end : ℕ) (f g : List ℕ) → old ≡ length (take limit f) → old < end → end ≤ limit → ResizedInPart end f g
    → SameOutside old (end - old) (array_of (take limit f)) (array_of (take limit g))
longer_outside limit old end f g size up low part k h =
    let whole : length f ≡ old = seen_whole limit old f size (omega arith) in
    seen_same limit f g k (elim (cases_lt k (length g)) [
      | inl in_new ↦ part.each k in_new
      | inr past ↦ get_or_past g k 0 past ∙ sym (get_or_past f k 0 (omega (arith, part.no_shorter)))
    ])
