-- Totals of what a store holds, and the answers of its calls.
use Rattle.std.proofs.Common.{◌≡◌, ℕ, ◌+◌, ◌-◌, ◌<◌, max, ◌⊎◌, List, [], length, get_or, set, refl, ◌∙◌, ap, subst, arith, Ok, Err}
use Rattle.std.proofs.lemmas.Bool.{false≢true}
use Rattle.std.specs.List.{sum_by}
use Rattle.std.proofs.lemmas.List.Sums.{sum_by-set}
use Rattle.outside.specs.Files.{written, resized}
use Rattle.mem_store.specs.declared.table.Op.TheVariants.{Write}
use Rattle.mem_store.specs.Held.{Held, content, total, counted, put, after_write, after_set_len, Answers}
use Rattle.mem_store.proofs.ArenaLemmas.{length-written, resized_length}

-- one of the contents is another
replaced : (contents : List (List ℕ)) (i : ℕ) (x : List ℕ) → i < length contents → sum_by length (set contents i x) ≡ sum_by length contents - length (get_or contents i []) + length x
replaced contents i x lt = omega (arith, sum_by-set (length {A = ℕ}) contents i x [] lt, sum_by-set (length {A = ℕ}) contents i [] [] lt)

pub total-after_write : (i at : ℕ) (p : List ℕ) (h : Held) → i < length h.contents
    → sum_by length h.contents - length (content i h) + max (length (content i h)) (at + length p) + (h.written + length p) ≡ total (after_write i at p h)
total-after_write i at p h lt = omega (arith, replaced h.contents i (written at p (content i h)) lt, length-written at p (content i h))

pub total-after_set_len : (i n : ℕ) (h : Held) → i < length h.contents
    → sum_by length h.contents - length (content i h) + n + (h.written + 0) ≡ total (after_set_len i n h)
total-after_set_len i n h lt = omega (arith, replaced h.contents i (resized n (content i h)) lt, resized_length n (content i h))

-- the same bound, at an equal number
pub at_most : (A : Type 0) (room a b : ℕ) → a ≡ b → A ⊎ (room < a) → A ⊎ (room < b)
at_most A room a b is cause = subst (λ (n : ℕ). A ⊎ (room < n)) is cause

-- what is held after a write, part by part
pub written_to : (i at : ℕ) (p : List ℕ) (a m b : Held) → m ≡ counted Write i a
    → b.ids ≡ m.ids → b.contents ≡ set m.contents i (written at p (get_or m.contents i [])) → b.tallies ≡ m.tallies
    → b.calls ≡ m.calls → b.written ≡ m.written + length p → b.fails ≡ m.fails → b.room ≡ m.room → b ≡ after_write i at p a
written_to i at p a m b is ids contents tallies calls more fails room =
    let step : b ≡ record (put i (written at p (content i m)) m) { written = m.written + length p } = λ j. record {
      ids = ids j;
      contents = contents j;
      tallies = tallies j;
      calls = calls j;
      written = more j;
      fails = fails j;
      room = room j;
    } in
    step ∙ ap (λ (h : Held). record (put i (written at p (content i h)) h) { written = h.written + length p }) is

pub answers_err : {T E : Type 0} (F : Type 0) (done failed new : Held) (e : E) → F → new ≡ failed → Answers {T = T} F done failed new (Err e)
answers_err F done failed new e cause is = record { cause = (λ _. cause, λ _. refl); ok = tt; err = is }

pub answers_ok : {T E : Type 0} (F : Type 0) (done failed new : Held) (x : T) → (F → ⊥) → new ≡ done → Answers {E = E} F done failed new (Ok x)
answers_ok F done failed new x none is = record { cause = (λ err. absurd (false≢true err), λ fails. absurd (none fails)); ok = is; err = tt }
