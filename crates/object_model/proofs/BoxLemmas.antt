-- Indices of boxes in row-major order, and their places.
use Rattle.std.proofs.Common.{◌≡◌, ℕ, zero, suc, ◌+◌, ◌*◌, ◌<◌, ◌≤◌, Bool, true, false, ◌&&◌, nat_lt, List, [], ◌∷◌, ◌++◌, length, map, get_or, refl, sym, ◌∙◌, ap, arith, length-append}
use Rattle.std.specs.List.{flat_map, range_with_len}
use Rattle.std.proofs.lemmas.List.{length-map, map-append, get_or_append_left, get_or-append-add, get_or-map}
use Rattle.std.proofs.lemmas.Bool.Decides.{nat_tests}
use Rattle.dtype.specs.Products.{product}
use Rattle.object_model.specs.Boxes.{indices, place, all_lt}

pub and_both : (a b : Bool) → (a && b) ≡ true → (a ≡ true) × (b ≡ true)
and_both true b h = (refl, h)
and_both false b h = cc

pub and_true : (a b : Bool) → a ≡ true → b ≡ true → (a && b) ≡ true
and_true true b h k = k
and_true false b h k = cc

-- one row for each number from a on
abbrev rows : List (List ℕ) → ℕ → ℕ → List (List ℕ)
rows xs a n = flat_map (λ i. map (λ is. i ∷ is) xs) (range_with_len a n)

length-rows : (xs : List (List ℕ)) (a n : ℕ) → length (rows xs a n) ≡ n * length xs
length-rows xs a zero = omega arith
length-rows xs a (suc n) =
    omega (arith, length-append (map (λ is. a ∷ is) xs) (rows xs (a + 1) n), length-map xs (λ (is : List ℕ). a ∷ is), length-rows xs (a + 1) n)

pub length-indices : (ds : List ℕ) → length (indices ds) ≡ product ds
length-indices [] = refl
length-indices (d ∷ ds) = length-rows (indices ds) 0 d ∙ ap (λ (m : ℕ). d * m) (length-indices ds)

get_or-rows : (xs : List (List ℕ)) (a n x k : ℕ) → x < n → k < length xs → get_or (rows xs a n) (x * length xs + k) [] ≡ (a + x) ∷ get_or xs k []
get_or-rows xs a zero x k lt within = absurd (omega arith)
get_or-rows xs a (suc n) zero k lt within =
    let first : k < length (map (λ is. a ∷ is) xs) = omega (arith, length-map xs (λ (is : List ℕ). a ∷ is)) in
    let e : 0 * length xs + k ≡ k = omega arith in
    let z : a + 0 ≡ a = omega arith in
    rw (e, z) (get_or_append_left (map (λ is. a ∷ is) xs) (rows xs (a + 1) n) [] k first ∙ get_or-map (λ is. a ∷ is) xs k [] [] within)
get_or-rows xs a (suc n) (suc x) k lt within =
    let e : suc x * length xs + k ≡ length (map (λ is. a ∷ is) xs) + (x * length xs + k) = omega (arith, length-map xs (λ (is : List ℕ). a ∷ is)) in
    let z : a + suc x ≡ a + 1 + x = omega arith in
    rw (e, z) (get_or-append-add (map (λ is. a ∷ is) xs) (rows xs (a + 1) n) (x * length xs + k) [] ∙ get_or-rows xs (a + 1) n x k (omega arith) within)

-- an index within the sizes has its place among them
pub place-lt : (ds is : List ℕ) → all_lt is ds ≡ true → place ds is < product ds
place-lt [] is h = omega arith
place-lt (d ∷ ds) [] h = cc
place-lt (d ∷ ds) (i ∷ is) h =
    let both = and_both (nat_lt i d) (all_lt is ds) h in
    let lt : i < d = grind (arith, nat_tests, both.0) in
    let below = place-lt ds is both.1 in
    within i d (place ds is) (product ds) lt below
  where
    within : (i d k m : ℕ) → i < d → k < m → i * m + k < d * m
    within i zero k m lt below = absurd (omega arith)
    within zero (suc d) k m lt below = omega arith
    within (suc i) (suc d) k m lt below = omega (arith, within i d k m (omega arith) below)

-- and stands there
pub indices-at : (ds is : List ℕ) → all_lt is ds ≡ true → get_or (indices ds) (place ds is) [] ≡ is
indices-at [] [] h = refl
indices-at [] (i ∷ is) h = cc
indices-at (d ∷ ds) [] h = cc
indices-at (d ∷ ds) (i ∷ is) h =
    let both = and_both (nat_lt i d) (all_lt is ds) h in
    let lt : i < d = grind (arith, nat_tests, both.0) in
    let below : place ds is < length (indices ds) = omega (arith, place-lt ds is both.1, length-indices ds) in
    let e : i * product ds + place ds is ≡ i * length (indices ds) + place ds is = ap (λ (m : ℕ). i * m + place ds is) (sym (length-indices ds)) in
    let z : 0 + i ≡ i = omega arith in
    ap (λ (k : ℕ). get_or (indices (d ∷ ds)) k []) e ∙ get_or-rows (indices ds) 0 d i (place ds is) lt below ∙ (λ j. z j ∷ indices-at ds is both.1 j)

-- each of a list
abbrev pub Each : (List ℕ → Type 0) → List (List ℕ) → Type 0
Each P [] = Unit {0}
Each P (x ∷ xs) = P x × Each P xs

Each-append : (P : List ℕ → Type 0) (xs ys : List (List ℕ)) → Each P xs → Each P ys → Each P (xs ++ ys)
Each-append P [] ys h k = k
Each-append P (x ∷ xs) ys h k = (h.0, Each-append P xs ys h.1 k)

Each-row : (ds : List ℕ) (a d : ℕ) (xs : List (List ℕ)) → a < d → Each (λ is. all_lt is ds ≡ true) xs → Each (λ is. all_lt is (d ∷ ds) ≡ true) (map (λ is. a ∷ is) xs)
Each-row ds a d [] lt h = tt
Each-row ds a d (x ∷ xs) lt h = (and_true (nat_lt a d) (all_lt x ds) (grind (arith, nat_tests)) h.0, Each-row ds a d xs lt h.1)

Each-rows : (ds : List ℕ) (a n d : ℕ) (xs : List (List ℕ)) → a + n ≤ d → Each (λ is. all_lt is ds ≡ true) xs → Each (λ is. all_lt is (d ∷ ds) ≡ true) (rows xs a n)
Each-rows ds a zero d xs le h = tt
Each-rows ds a (suc n) d xs le h = Each-append _ (map (λ is. a ∷ is) xs) (rows xs (a + 1) n) (Each-row ds a d xs (omega arith) h) (Each-rows ds (a + 1) n d xs (omega arith) h)

-- each index of a box lies below its sizes
pub indices-below : (ds : List ℕ) → Each (λ is. all_lt is ds ≡ true) (indices ds)
indices-below [] = (refl, tt)
indices-below (d ∷ ds) = Each-rows ds 0 d d (indices ds) (omega arith) (indices-below ds)

pub map-each : {B : Type 0} (P : List ℕ → Type 0) (f g : List ℕ → B) (xs : List (List ℕ)) → Each P xs → ((x : List ℕ) → P x → f x ≡ g x) → map f xs ≡ map g xs
map-each P f g [] h same = refl
map-each P f g (x ∷ xs) h same = (λ j. same x h.0 j ∷ map-each P f g xs h.1 same j)

range-append : (a n m : ℕ) → range_with_len a (n + m) ≡ range_with_len a n ++ range_with_len (a + n) m
range-append a zero m = let e : 0 + m ≡ m = omega arith in let z : a + 0 ≡ a = omega arith in rw (e, z) refl
range-append a (suc n) m =
    let e : suc n + m ≡ suc (n + m) = omega arith in
    let z : a + suc n ≡ a + 1 + n = omega arith in
    rw (e, z) (ap (λ (l : List ℕ). a ∷ l) (range-append (a + 1) n m))

map-shift : (c a n : ℕ) → map (λ k. c + k) (range_with_len a n) ≡ range_with_len (c + a) n
map-shift c a zero = refl
map-shift c a (suc n) = let z : c + a + 1 ≡ c + (a + 1) = omega arith in rw z (ap (λ (l : List ℕ). (c + a) ∷ l) (map-shift c (a + 1) n))

map-row : (ds : List ℕ) (a d : ℕ) (xs : List (List ℕ)) → map (place (d ∷ ds)) (map (λ is. a ∷ is) xs) ≡ map (λ k. a * product ds + k) (map (place ds) xs)
map-row ds a d [] = refl
map-row ds a d (x ∷ xs) = ap (λ (l : List ℕ). (a * product ds + place ds x) ∷ l) (map-row ds a d xs)

places-rows : (ds : List ℕ) (a n d : ℕ) → map (place ds) (indices ds) ≡ range_with_len 0 (product ds)
    → map (place (d ∷ ds)) (rows (indices ds) a n) ≡ range_with_len (a * product ds) (n * product ds)
places-rows ds a zero d h = let z : 0 * product ds ≡ 0 = omega arith in rw z refl
places-rows ds a (suc n) d h =
    let first : map (place (d ∷ ds)) (map (λ is. a ∷ is) (indices ds)) ≡ range_with_len (a * product ds) (product ds) =
    map-row ds a d (indices ds) ∙ ap (map (λ k. a * product ds + k)) h ∙ map-shift (a * product ds) 0 (product ds)
    ∙ (let z : a * product ds + 0 ≡ a * product ds = omega arith in ap (λ (k : ℕ). range_with_len k (product ds)) z) in
    let n' : suc n * product ds ≡ product ds + n * product ds = omega arith in
    let a' : (a + 1) * product ds ≡ a * product ds + product ds = omega arith in
    map-append (place (d ∷ ds)) (map (λ is. a ∷ is) (indices ds)) (rows (indices ds) (a + 1) n)
    ∙ (λ j. first j ++ places-rows ds (a + 1) n d h j)
    ∙ ap (λ (k : ℕ). range_with_len (a * product ds) (product ds) ++ range_with_len k (n * product ds)) a'
    ∙ sym (range-append (a * product ds) (product ds) (n * product ds))
    ∙ ap (range_with_len (a * product ds)) (sym n')

-- the places of a box's indices count up
pub places : (ds : List ℕ) → map (place ds) (indices ds) ≡ range_with_len 0 (product ds)
places [] = refl
places (d ∷ ds) = let z : 0 * product ds ≡ 0 = omega arith in places-rows ds 0 d d (places ds) ∙ ap (λ (k : ℕ). range_with_len k (d * product ds)) z
