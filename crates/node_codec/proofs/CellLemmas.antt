-- Cells of one width: one more of them, and cells that were written are read again.
use Rattle.std.proofs.Common.{◌≡◌, ℕ, zero, suc, ◌+◌, ◌*◌, ◌<◌, List, [], ◌∷◌, ◌++◌, length, take, drop, map, get_or, refl, ap, arith, append_assoc, length-append, append-nil}
use Rattle.std.specs.List.{flat_map, All}
use Rattle.std.proofs.lemmas.List.{take_at, drop_at, drop-drop, take-take}
use Rattle.std.proofs.lemmas.List.Elements.{All-head, All-tail}
use Rattle.h5_base.specs.Fields.{u64_at, u64s_at}
use Rattle.node_codec.specs.Cells.{cells, woven}

-- one cell more at the end
pub cells-more : (width step n : ℕ) (b : List ℕ) → cells width step (n + 1) b ≡ cells width step n b ++ take width (drop (step * n) b) ∷ []
cells-more width step zero b = let e : step * 0 ≡ 0 = omega arith in rw e refl
cells-more width step (suc n) b =
    let one : suc n + 1 ≡ suc (n + 1) = omega arith in
    let e : step + step * n ≡ step * suc n = omega arith in
    rw (one, cells-more width step n (drop step b), drop-drop, e) refl

pub length-cells : (width step n : ℕ) (b : List ℕ) → length (cells width step n b) ≡ n
length-cells width step zero b = refl
length-cells width step (suc n) b = ap suc (length-cells width step n (drop step b))

-- the cell at a place
pub cells-at : (width step n : ℕ) (b : List ℕ) (i : ℕ) (d : List ℕ) → i < n → get_or (cells width step n b) i d ≡ take width (drop (step * i) b)
cells-at width step zero b i d lt = absurd (omega arith)
cells-at width step (suc n) b zero d lt = let e : step * 0 ≡ 0 = omega arith in rw e refl
cells-at width step (suc n) b (suc i) d lt =
    let e : step + step * i ≡ step * suc i = omega arith in
    rw (cells-at width step n (drop step b) i d (omega arith), drop-drop, e) refl

-- rows that stand one behind the other
pub cells-rows : {X : Type 0} (width : ℕ) (f : X → List ℕ) (xs : List X) (rest : List ℕ) → All (λ x. length (f x) ≡ width) xs → cells width width (length xs) (flat_map f xs ++ rest) ≡ map f xs
cells-rows width f [] rest all = refl
cells-rows {X = X} width f (x ∷ xs) rest all =
    let P : X → Type 0 = λ y. length (f y) ≡ width in
    let e : length (f x) ≡ width = All-head P x xs all in
    let more = flat_map f xs ++ rest in
    rw (append_assoc, take_at (f x) more width e, drop_at (f x) more width e, cells-rows width f xs rest (All-tail P x xs all)) refl

abbrev pub IsWide : ℕ → List ℕ → Type 0
IsWide width c = length c ≡ width

-- keys among children
pub woven-keys : (w v : ℕ) (ks cs : List (List ℕ)) (rest : List ℕ) → All (IsWide w) ks → All (IsWide v) cs → length ks ≡ length cs + 1 → cells w (w + v) (length ks) (woven ks cs ++ rest) ≡ ks
woven-keys w v [] cs rest wide high one = refl
woven-keys w v (k ∷ []) [] rest wide high one = rw (take_at k rest w (All-head (IsWide w) k [] wide)) refl
woven-keys w v (k ∷ j ∷ ks) [] rest wide high one = absurd (omega arith)
woven-keys w v (k ∷ ks) (c ∷ cs) rest wide high one =
    let a : length k ≡ w = All-head (IsWide w) k ks wide in
    let e : length c ≡ v = All-head (IsWide v) c cs high in
    let more = woven ks cs ++ rest in
    let both : length (k ++ c) ≡ w + v = omega (arith, length-append k c) in
    let split : (k ++ (c ++ woven ks cs)) ++ rest ≡ (k ++ c) ++ more = simp append_assoc in
    let front : take w ((k ++ c) ++ more) ≡ k = rw append_assoc (take_at k (c ++ more) w a) in
    rw (split, front, drop_at (k ++ c) more (w + v) both, woven-keys w v ks cs rest (All-tail (IsWide w) k ks wide) (All-tail (IsWide v) c cs high) (omega arith)) refl

-- children among keys
pub woven-children : (w v : ℕ) (ks cs : List (List ℕ)) (rest : List ℕ) → All (IsWide w) ks → All (IsWide v) cs → length ks ≡ length cs + 1 → cells v (w + v) (length cs) (drop w (woven ks cs ++ rest)) ≡ cs
woven-children w v ks [] rest wide high one = refl
woven-children w v [] (c ∷ cs) rest wide high one = absurd (omega arith)
woven-children w v (k ∷ ks) (c ∷ cs) rest wide high one =
    let a : length k ≡ w = All-head (IsWide w) k ks wide in
    let e : length c ≡ v = All-head (IsWide v) c cs high in
    let more = woven ks cs ++ rest in
    let split : (k ++ (c ++ woven ks cs)) ++ rest ≡ k ++ (c ++ more) = simp append_assoc in
    let other : drop (w + v) (c ++ more) ≡ drop w more = rw (comm w v, ← drop-drop w v (c ++ more), drop_at c more v e) refl in
    rw (split, drop_at k (c ++ more) w a, take_at c more v e, other, woven-children w v ks cs rest (All-tail (IsWide w) k ks wide) (All-tail (IsWide v) c cs high) (omega arith)) refl
  where
    comm : (w v : ℕ) → w + v ≡ v + w
    comm w v = omega arith

-- numbers of 8 bytes as cells
pub u64s_at-cells : (b : List ℕ) (at step n : ℕ) → u64s_at b at step n ≡ map (λ c. u64_at c 0) (cells 8 step n (drop at b))
unfolding u64_at
u64s_at-cells b at step zero = refl
u64s_at-cells b at step (suc n) = rw (u64s_at-cells b (at + step) step n, drop-drop step at b, take-take 8 8 (drop at b) (omega arith)) refl

-- a meaning that undoes a spelling, on each of a list
pub map-undone : {X Y : Type 0} (f : X → Y) (g : Y → X) (xs : List X) → All (λ x. g (f x) ≡ x) xs → map g (map f xs) ≡ xs
map-undone f g [] all = refl
map-undone {X = X} f g (x ∷ xs) all =
    let P : X → Type 0 = λ y. g (f y) ≡ y in
    rw (All-head P x xs all, map-undone f g xs (All-tail P x xs all)) refl

-- one key and one child more, and the key behind the last child
pub woven-more : (ks cs : List (List ℕ)) (k c : List ℕ) → length ks ≡ length cs → woven (ks ++ k ∷ []) (cs ++ c ∷ []) ≡ woven ks cs ++ (k ++ c)
woven-more [] [] k c same = simp append-nil
woven-more [] (d ∷ cs) k c same = absurd (omega arith)
woven-more (j ∷ ks) [] k c same = absurd (omega arith)
woven-more (j ∷ ks) (d ∷ cs) k c same = rw (woven-more ks cs k c (omega arith)) (simp append_assoc)

pub woven-last : (ks cs : List (List ℕ)) (k : List ℕ) → length ks ≡ length cs → woven (ks ++ k ∷ []) cs ≡ woven ks cs ++ k
woven-last [] [] k same = refl
woven-last [] (d ∷ cs) k same = absurd (omega arith)
woven-last (j ∷ ks) [] k same = absurd (omega arith)
woven-last (j ∷ ks) (d ∷ cs) k same = rw (woven-last ks cs k (omega arith)) (simp append_assoc)

pub length-woven : (w v : ℕ) (ks cs : List (List ℕ)) → All (IsWide w) ks → All (IsWide v) cs → length ks ≡ length cs → length (woven ks cs) ≡ (w + v) * length cs
length-woven w v [] [] wide high same = omega arith
length-woven w v [] (c ∷ cs) wide high same = absurd (omega arith)
length-woven w v (k ∷ ks) [] wide high same = absurd (omega arith)
length-woven w v (k ∷ ks) (c ∷ cs) wide high same =
    let a : length k ≡ w = All-head (IsWide w) k ks wide in
    let e : length c ≡ v = All-head (IsWide v) c cs high in
    let h = length-woven w v ks cs (All-tail (IsWide w) k ks wide) (All-tail (IsWide v) c cs high) (omega arith) in
    omega (arith, length-append k (c ++ woven ks cs), length-append c (woven ks cs), h)
