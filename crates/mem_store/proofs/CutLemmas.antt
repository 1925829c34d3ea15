-- A list in pieces of given lengths: each piece, one that is replaced, and one more.
use Rattle.std.proofs.Common.{◌≡◌, ℕ, zero, suc, ◌+◌, ◌<◌, ◌≤◌, List, [], ◌∷◌, ◌++◌, length, take, drop, sum, get_or, set, refl, sym, ◌∙◌, ap, arith, append_assoc}
use Rattle.std.proofs.lemmas.List.{drop-drop, drop-take, take-take, take-append-le, drop-append-le, take_all, length-take, length-drop, take_at, drop_at}
use Rattle.std.proofs.lemmas.List.Sums.{sum_by-cons, sum_by_more_le, sum_by-set, sum_by-append}
use Rattle.std.specs.List.{sum_by}
use Rattle.mem_store.specs.Table.{cut}

pub length-cut : (lens b : List ℕ) → length (cut lens b) ≡ length lens
length-cut [] b = refl
length-cut (n ∷ lens) b = ap suc (length-cut lens (drop n b))

pub sum-cons : (n : ℕ) (lens : List ℕ) → sum (n ∷ lens) ≡ n + sum lens
sum-cons n lens = sum_by-cons (λ (k : ℕ). k) n lens

pub sum_part : (lens : List ℕ) (i : ℕ) → i < length lens → sum (take i lens) + get_or lens i 0 ≤ sum lens
sum_part lens i lt = sum_by_more_le (λ (k : ℕ). k) lens i 0 lt

pub sum-set : (lens : List ℕ) (i n : ℕ) → i < length lens → sum (set lens i n) + get_or lens i 0 ≡ sum lens + n
sum-set lens i n lt = sum_by-set (λ (k : ℕ). k) lens i n 0 lt

pub sum-append : (lens : List ℕ) (n : ℕ) → sum (lens ++ n ∷ []) ≡ sum lens + n
sum-append lens n = omega (arith, sum_by-append (λ (k : ℕ). k) lens (n ∷ []))

pub get_or-cut : (lens : List ℕ) (b : List ℕ) (i : ℕ) → i < length lens → get_or (cut lens b) i [] ≡ take (get_or lens i 0) (drop (sum (take i lens)) b)
get_or-cut [] b i lt = absurd (omega arith)
get_or-cut (n ∷ lens) b zero lt = refl
get_or-cut (n ∷ lens) b (suc i) lt =
    get_or-cut lens (drop n b) i (omega arith)
    ∙ ap (take (get_or lens i 0)) (drop-drop (sum (take i lens)) n b)
    ∙ ap (λ (k : ℕ). take (get_or lens i 0) (drop k b)) (sym (sum-cons n (take i lens)))

-- one piece more
pub cut-append : (lens b x : List ℕ) → sum lens ≡ length b → cut (lens ++ length x ∷ []) (b ++ x) ≡ cut lens b ++ x ∷ []
cut-append [] [] x full = ap (λ (l : List ℕ). l ∷ []) (take_all (length x) x (omega arith))
cut-append [] (y ∷ b) x full = absurd (omega arith)
cut-append (n ∷ lens) b x full =
    let size : n ≤ length b = omega (arith, sum-cons n lens) in
    let rest : sum lens ≡ length (drop n b) = omega (arith, sum-cons n lens, length-drop n b) in
    (λ j. take-append-le n b x size j ∷ cut (lens ++ length x ∷ []) (drop-append-le n b x size j))
    ∙ ap (λ (l : List (List ℕ)). take n b ∷ l) (cut-append lens (drop n b) x rest)

-- one piece is replaced, in its place
pub cut-set : (lens : List ℕ) (b : List ℕ) (i : ℕ) (x : List ℕ) → i < length lens → sum lens ≤ length b
    → cut (set lens i (length x)) (take (sum (take i lens)) b ++ x ++ drop (sum (take i lens) + get_or lens i 0) b) ≡ set (cut lens b) i x
cut-set [] b i x lt fits = absurd (omega arith)
cut-set (n ∷ lens) b zero x lt fits =
    let place : 0 + n ≡ n = omega arith in
    ap (λ (k : ℕ). cut (length x ∷ lens) (x ++ drop k b)) place
    ∙ (λ j. take_at x (drop n b) (length x) refl j ∷ cut lens (drop_at x (drop n b) (length x) refl j))
cut-set (n ∷ lens) b (suc i) x lt fits =
    let size : n ≤ length b = omega (arith, sum-cons n lens) in
    let part : sum (take i lens) + get_or lens i 0 ≤ sum lens = sum_part lens i (omega arith) in
    let within : n + sum (take i lens) ≤ length b = omega (arith, sum-cons n lens) in
    let start : sum (take (suc i) (n ∷ lens)) ≡ n + sum (take i lens) = sum-cons n (take i lens) in
    let front : n ≤ length (take (n + sum (take i lens)) b) = omega (arith, length-take (n + sum (take i lens)) b) in
    let tail : List ℕ = drop (n + sum (take i lens) + get_or lens i 0) b in
    let later : drop (sum (take i lens) + get_or lens i 0) (drop n b) ≡ drop (n + sum (take i lens) + get_or lens i 0) b =
    drop-drop (sum (take i lens) + get_or lens i 0) n b ∙ ap (λ (k : ℕ). drop k b) (omega arith) in
    let head : take n (take (n + sum (take i lens)) b ++ x ++ tail) ≡ take n b =
    ap (take n) (append_assoc (take (n + sum (take i lens)) b) x tail)
    ∙ take-append-le n (take (n + sum (take i lens)) b) (x ++ tail) front
    ∙ take-take n (n + sum (take i lens)) b (omega arith) in
    let rest : drop n (take (n + sum (take i lens)) b ++ x ++ tail) ≡ take (sum (take i lens)) (drop n b) ++ x ++ drop (sum (take i lens) + get_or lens i 0) (drop n b) =
    ap (drop n) (append_assoc (take (n + sum (take i lens)) b) x tail)
    ∙ drop-append-le n (take (n + sum (take i lens)) b) (x ++ tail) front
    ∙ ap (λ (l : List ℕ). l ++ (x ++ tail)) (drop-take n (sum (take i lens)) b)
    ∙ sym (append_assoc (take (sum (take i lens)) (drop n b)) x tail)
    ∙ ap (λ (l : List ℕ). take (sum (take i lens)) (drop n b) ++ x ++ l) (sym later) in
    ap (λ (k : ℕ). cut (n ∷ set lens i (length x)) (take k b ++ x ++ drop (k + get_or lens i 0) b)) start
    ∙ (λ j. head j ∷ cut (set lens i (length x)) (rest j))
    ∙ ap (λ (l : List (List ℕ)). take n b ∷ l) (cut-set lens (drop n b) i x (omega arith) (omega (arith, length-drop n b, sum-cons n lens)))

-- the pieces are as long as all of it
pub sum_by-cut : (lens b : List ℕ) → sum lens ≤ length b → sum_by length (cut lens b) ≡ sum lens
sum_by-cut [] b fits = refl
sum_by-cut (n ∷ lens) b fits =
    let front : length (take n b) ≡ n = omega (arith, length-take n b, sum-cons n lens) in
    let rest : sum_by length (cut lens (drop n b)) ≡ sum lens = sum_by-cut lens (drop n b) (omega (arith, length-drop n b, sum-cons n lens)) in
    sum_by-cons (length {A = ℕ}) (take n b) (cut lens (drop n b)) ∙ (λ j. front j + rest j) ∙ sym (sum-cons n lens)

pub length-piece : (lens b : List ℕ) (i : ℕ) → i < length lens → sum lens ≤ length b → length (get_or (cut lens b) i []) ≡ get_or lens i 0
length-piece lens b i lt fits =
    ap length (get_or-cut lens b i lt) ∙ omega (arith, length-take (get_or lens i 0) (drop (sum (take i lens)) b), length-drop (sum (take i lens)) b, sum_part lens i lt)
