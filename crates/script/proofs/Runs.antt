-- Values one after another to a text's end, and values of a list of pieces.
use Rattle.std.proofs.Common.{◌≡◌, ℕ, zero, suc, ◌+◌, ◌<◌, List, [], ◌∷◌, ◌++◌, length, get_or, take, map, Bor, Some, None, refl, sym, ap, subst, ◌∙◌, append_assoc, arith}
use Rattle.std.specs.List.{AllZip}
use Rattle.std.proofs.lemmas.List.{append-nil, take_more, map-append}
use Rattle.script.specs.Words.{IsRun, Next, next_word}

pub some_is : {X : Type 0} (x y : X) → Some x ≡ Some y → x ≡ y
some_is x y e = cc

-- what follows a value is one text, whatever the value is
abbrev pub RestIs : {X : Type 0} → (List ℕ → X → List ℕ → Type 0) → Type 0
RestIs {X = X} At = (text : List ℕ) (x y : X) (more others : List ℕ) → At text x more → At text y others → others ≡ more

-- what was read before, and what is still read
pub record Keeps {X : Type 0} (At : List ℕ → X → List ℕ → Type 0) (text : List ℕ) (out : List X) (rest : List ℕ) : Type 0 where
  pub so : (n : List X) → IsRun At rest n → IsRun At text (out ++ n)
  pub only : (m : List X) → IsRun At text m → (n : List X) × IsRun At rest n

pub starts : {X : Type 0} (At : List ℕ → X → List ℕ → Type 0) (text : List ℕ) → Keeps At text [] text
starts At text = record { so = λ n h. h; only = λ m h. (m, h) }

next_run : {X : Type 0} (At : List ℕ → X → List ℕ → Type 0) → RestIs At → (x : X) (rest more : List ℕ) → 0 < length rest → At rest x more → (n : List X) → IsRun At rest n → (m : List X) × IsRun At more m
next_run At one x rest more lt at [] h = let none : length rest ≡ 0 = ap length h in absurd (omega (arith, none, lt))
next_run {X = X} At one x rest more lt at (y ∷ ys) (others, at', h) = (ys, subst (λ (t : List ℕ). IsRun At t ys) (one rest x y more others at at') h)

pub goes_on : {X : Type 0} (At : List ℕ → X → List ℕ → Type 0) → RestIs At → (text : List ℕ) (out : List X) (rest more : List ℕ) (x : X) → 0 < length rest → At rest x more → Keeps At text out rest → Keeps At text (out ++ x ∷ []) more
goes_on {X = X} At one text out rest more x lt at k =
    record {
      so = λ n h. subst (IsRun At text) (sym (append_assoc out (x ∷ []) n)) (k.so (x ∷ n) (more, at, h));
      only = λ m h. let a = k.only m h in next_run At one x rest more lt at a.0 a.1;
    }

pub is_done : {X : Type 0} (At : List ℕ → X → List ℕ → Type 0) (text : List ℕ) (out : List X) (rest : List ℕ) → length rest ≡ 0 → Keeps At text out rest → IsRun At text out
is_done At text out [] e k = subst (IsRun At text) (append-nil out) (k.so [] refl)
is_done At text out (x ∷ xs) e k = absurd (omega (arith, e))

not_run : {X : Type 0} (At : List ℕ → X → List ℕ → Type 0) (rest : List ℕ) → 0 < length rest → ((x : X) (more : List ℕ) → At rest x more → ⊥) → (n : List X) → IsRun At rest n → ⊥
not_run At rest lt none [] h = let empty : length rest ≡ 0 = ap length h in omega (arith, empty, lt)
not_run At rest lt none (x ∷ xs) (more, at, h) = none x more at

pub is_bad : {X : Type 0} (At : List ℕ → X → List ℕ → Type 0) (text : List ℕ) (out : List X) (rest : List ℕ) → 0 < length rest → ((x : X) (more : List ℕ) → At rest x more → ⊥) → Keeps At text out rest → (n : List X) → IsRun At text n → ⊥
is_bad At text out rest lt none k n h = let a = k.only n h in not_run At rest lt none a.0 a.1

-- ---- the next word

pub next_rest : {X Y : Type 0} (R : List ℕ → X → Type 0) (S : List ℕ → Y → Type 0) (text : List ℕ) (x : X) (y : Y) (more others : List ℕ) → Next R text x more → Next S text y others → others ≡ more
next_rest R S text x y more others (w, at, h) (v, at', g) = ap (λ (p : List ℕ × List ℕ). p.1) (some_is (v, others) (w, more) (sym at' ∙ at))

pub no_word : {X : Type 0} (R : List ℕ → X → Type 0) (text : List ℕ) → next_word text ≡ None → (x : X) (more : List ℕ) → Next R text x more → ⊥
no_word R text e x more (w, at, h) = let both : None ≡ Some (w, more) = sym e ∙ at in absurd cc

pub no_such : {X : Type 0} (R : List ℕ → X → Type 0) (text word rest : List ℕ) → next_word text ≡ Some (word, rest) → ((x : X) → R word x → ⊥) → (x : X) (more : List ℕ) → Next R text x more → ⊥
no_such R text word rest e none x more (w, at, h) =
    none x (subst (λ (v : List ℕ). R v x) (ap (λ (p : List ℕ × List ℕ). p.0) (some_is (w, more) (word, rest) (sym at ∙ e))) h)

-- ---- a value for each piece

abbrev now : Bor (List ℕ) → List ℕ
now w = w.now

pub no_items_at : {X : Type 0} (R : List ℕ → X → Type 0) (ps : List (Bor (List ℕ))) (i : ℕ) (d : Bor (List ℕ)) → i < length ps → ((x : X) → R (get_or ps i d).now x → ⊥) → (xs : List X) → AllZip R (map (λ w. w.now) ps) xs → ⊥
no_items_at R [] i d lt none xs h = omega (arith, lt)
no_items_at R (p ∷ ps) i d lt none [] h = h
no_items_at R (p ∷ ps) zero d lt none (x ∷ xs) h = none x h.0
no_items_at R (p ∷ ps) (suc i) d lt none (x ∷ xs) h = no_items_at R ps i d (omega (arith, lt)) none xs h.1

one_more : {X : Type 0} (R : List ℕ → X → Type 0) (ws : List (List ℕ)) (xs : List X) (w : List ℕ) (x : X) → AllZip R ws xs → R w x → AllZip R (ws ++ w ∷ []) (xs ++ x ∷ [])
one_more R [] [] w x h g = (g, tt)
one_more R [] (y ∷ ys) w x h g = absurd h
one_more R (v ∷ ws) [] w x h g = absurd h
one_more R (v ∷ ws) (y ∷ ys) w x h g = (h.0, one_more R ws ys w x h.1 g)

pub one_more_at : {X : Type 0} (R : List ℕ → X → Type 0) (ps : List (Bor (List ℕ))) (i : ℕ) (d : Bor (List ℕ)) (xs : List X) (x : X) → i < length ps → AllZip R (map (λ w. w.now) (take i ps)) xs → R (get_or ps i d).now x
    → AllZip R (map (λ w. w.now) (take (i + 1) ps)) (xs ++ x ∷ [])
one_more_at R ps i d xs x lt h g =
    let taken : map (λ w. w.now) (take (i + 1) ps) ≡ map (λ w. w.now) (take i ps) ++ (get_or ps i d).now ∷ [] = ap (λ (qs : List (Bor (List ℕ))). map (λ w. w.now) qs) (take_more ps i d lt) ∙ map-append now (take i ps) (get_or ps i d ∷ []) in
    rw taken (one_more R _ xs _ x h g)
