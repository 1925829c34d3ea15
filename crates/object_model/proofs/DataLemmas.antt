-- What is read of a dataset after a write or a growth.
use Rattle.std.proofs.Common.{◌≡◌, ℕ, ◌+◌, ◌-◌, ◌<◌, Bool, true, false, cond, ◌&&◌, nat_le, nat_lt, List, [], ◌∷◌, ◌++◌, length, map, get_or, refl, sym, ◌∙◌, ap, arith, append_assoc, length-append}
use Rattle.std.specs.List.{range_with_len}
use Rattle.std.proofs.lemmas.List.{get_or-map}
use Rattle.std.proofs.lemmas.Simd.{map-map}
use Rattle.std.proofs.Math.Seq.{get_or-append_seam}
use Rattle.std.proofs.lemmas.Bool.Decides.{nat_tests}
use Rattle.object_model.specs.Boxes.{indices, place, plus, minus, all_le, all_lt, same_rank, in_box}
use Rattle.object_model.specs.Data.{Data, elements_by, element, fits_box, write_box}
use Rattle.object_model.specs.Laws.{ReadsWritten, KeepsOthers, KeepsElements, FillsNew}
use Rattle.object_model.proofs.BoxLemmas.{and_both, and_true, length-indices, indices-at, indices-below, places, map-each, place-lt}

-- the element at an index is what it was made of
pub at-elements_by : (dims i : List ℕ) (f : List ℕ → List ℕ) → all_lt i dims ≡ true → get_or (elements_by dims f) (place dims i) [] ≡ f i
at-elements_by dims i f h =
    let lt : place dims i < length (indices dims) = omega (arith, place-lt dims i h, length-indices dims) in
    get_or-map f (indices dims) (place dims i) [] [] lt ∙ ap f (indices-at dims i h)

false_or : (b : Bool) → (b ≡ true → ⊥) → b ≡ false
false_or true h = absurd (h refl)
false_or false h = refl

-- a list by its places
map-places : (xs values : List (List ℕ)) (a : ℕ) → a ≡ length xs → map (λ k. get_or (xs ++ values) k []) (range_with_len a (length values)) ≡ values
map-places xs [] a e = refl
map-places xs (v ∷ vs) a e =
    let here : get_or (xs ++ v ∷ vs) a [] ≡ v = rw e (get_or-append_seam xs v vs []) in
    let next : a + 1 ≡ length (xs ++ v ∷ []) = omega (arith, length-append xs (v ∷ [])) in
    let same : (xs ++ v ∷ []) ++ vs ≡ xs ++ v ∷ vs = append_assoc xs (v ∷ []) vs in
    let later : map (λ k. get_or (xs ++ v ∷ vs) k []) (range_with_len (a + 1) (length vs)) ≡ vs =
    ap (λ (l : List (List ℕ)). map (λ k. get_or l k []) (range_with_len (a + 1) (length vs))) (sym same) ∙ map-places (xs ++ v ∷ []) vs (a + 1) next in
    (λ j. here j ∷ later j)

-- What an index of a box is in the dataset: below its sizes, in the box, and the same from the box's start.
pub record IsWithin (start count dims i : List ℕ) : Type 0 where
  pub below : all_lt (plus start i) dims ≡ true
  pub above : all_le start (plus start i) ≡ true
  pub inside : all_lt (plus start i) (plus start count) ≡ true
  pub back : minus (plus start i) start ≡ i

pub within : (start count dims i : List ℕ) → length start ≡ length dims → length count ≡ length dims → all_le (plus start count) dims ≡ true → all_lt i count ≡ true → IsWithin start count dims i
within [] [] [] [] a b c h = record { below = refl; above = refl; inside = refl; back = refl }
within [] [] [] (i ∷ is) a b c h = cc
within [] [] (d ∷ ds) i a b c h = absurd (omega arith)
within [] (n ∷ ns) [] i a b c h = absurd (omega arith)
within [] (n ∷ ns) (d ∷ ds) i a b c h = absurd (omega arith)
within (s ∷ ss) [] [] i a b c h = absurd (omega arith)
within (s ∷ ss) [] (d ∷ ds) i a b c h = absurd (omega arith)
within (s ∷ ss) (n ∷ ns) [] i a b c h = absurd (omega arith)
within (s ∷ ss) (n ∷ ns) (d ∷ ds) [] a b c h = cc
within (s ∷ ss) (n ∷ ns) (d ∷ ds) (i ∷ is) a b c h =
    let le = and_both (nat_le (s + n) d) (all_le (plus ss ns) ds) c in
    let lt = and_both (nat_lt i n) (all_lt is ns) h in
    let rest = within ss ns ds is (omega arith) (omega arith) le.1 lt.1 in
    record {
      below = and_true (nat_lt (s + i) d) (all_lt (plus ss is) ds) (grind (arith, nat_tests, le.0, lt.0)) rest.below;
      above = and_true (nat_le s (s + i)) (all_le ss (plus ss is)) (grind (arith, nat_tests)) rest.above;
      inside = and_true (nat_lt (s + i) (s + n)) (all_lt (plus ss is) (plus ss ns)) (grind (arith, nat_tests, lt.0)) rest.inside;
      back = let e : s + i - s ≡ i = omega arith in (λ j. e j ∷ rest.back j);
    }

-- what it says of a box to lie within a dataset
pub record Fits (d : Data) (start count : List ℕ) : Type 0 where
  pub start_rank : length start ≡ length d.dims
  pub count_rank : length count ≡ length d.dims
  pub end : all_le (plus start count) d.dims ≡ true

pub fits : (d : Data) (start count : List ℕ) → fits_box d start count ≡ true → Fits d start count
fits d start count h =
    let a = and_both (same_rank start d.dims && same_rank count d.dims) (all_le (plus start count) d.dims) h in
    let b = and_both (same_rank start d.dims) (same_rank count d.dims) a.0 in
    record {
      start_rank = grind (arith, nat_tests, b.0);
      count_rank = grind (arith, nat_tests, b.1);
      end = a.1;
    }

pub reads_written : ReadsWritten
reads_written d start count values h e =
    let f = fits d start count h in
    map-each (λ i. all_lt i count ≡ true) _ _ (indices count) (indices-below count) (written f)
    ∙ sym (map-map (λ k. get_or values k []) (place count) (indices count))
    ∙ ap (map (λ k. get_or values k [])) (places count)
    ∙ ap (λ (n : ℕ). map (λ k. get_or values k []) (range_with_len 0 n)) (sym e)
    ∙ map-places [] values 0 refl
  where
    written : Fits d start count → (i : List ℕ) → all_lt i count ≡ true → element (write_box d start count values) (plus start i) ≡ get_or values (place count i) []
    written f i lt =
        let w = within start count d.dims i f.start_rank f.count_rank f.end lt in
        at-elements_by d.dims (plus start i) _ w.below
        ∙ (λ j. cond (and_true _ _ w.above w.inside j) (get_or values (place count (minus (plus start i) start)) []) (element d (plus start i)))
        ∙ ap (λ (is : List ℕ). get_or values (place count is) []) w.back

pub keeps_others : KeepsOthers
keeps_others d start count i values lt outside =
    at-elements_by d.dims i _ lt
    ∙ (λ j. cond (false_or (in_box start count i) outside j) (get_or values (place count (minus i start)) []) (element d i))

all_lt-le : (i dims more : List ℕ) → all_lt i dims ≡ true → all_le dims more ≡ true → all_lt i more ≡ true
all_lt-le [] [] [] lt le = refl
all_lt-le [] [] (m ∷ ms) lt le = cc
all_lt-le [] (d ∷ ds) more lt le = cc
all_lt-le (i ∷ is) [] more lt le = cc
all_lt-le (i ∷ is) (d ∷ ds) [] lt le = cc
all_lt-le (i ∷ is) (d ∷ ds) (m ∷ ms) lt le =
    let a = and_both (nat_lt i d) (all_lt is ds) lt in
    let b = and_both (nat_le d m) (all_le ds ms) le in
    and_true (nat_lt i m) (all_lt is ms) (grind (arith, nat_tests, a.0, b.0)) (all_lt-le is ds ms a.1 b.1)

pub keeps_elements : KeepsElements
keeps_elements d dims i le lt =
    at-elements_by dims i _ (all_lt-le i d.dims dims lt le) ∙ (λ j. cond (lt j) (element d i) d.fill)

pub fills_new : FillsNew
fills_new d dims i lt new = at-elements_by dims i _ lt ∙ (λ j. cond (false_or (all_lt i d.dims) new j) (element d i) d.fill)
