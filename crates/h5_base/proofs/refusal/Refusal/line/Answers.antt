use Rattle.std.proofs.Common.{◌≡◌, IfOk, ℕ, List, Option, Some, Result, Ok, Err, string_bytes, append_assoc, refl, ◌∙◌}
use Rattle.std.specs.Prelude.{IfSome}
use Rattle.h5_base.specs.Refusals.{line_of}
use Rattle.h5_base.proofs.refusal.Refusal.line.Goals as goal

-- what a text was made of, in another form
made : {A E : Type 0} (bytes : A → List ℕ) (r : Result A E) (o : Option (List ℕ)) (m l : List ℕ) → IfOk r (λ s. IfSome o (λ bs. bytes s ≡ bs)) → o ≡ Some m → m ≡ l
    → IfOk r (λ s. bytes s ≡ l)
made bytes (Ok s) o m l h is same = (rw is at h) ∙ same
made bytes (Err e) o m l h is same = tt

pub returns-in-Malformed : goal.returns-in-Malformed
unfolding line_of
returns-in-Malformed c = rw c.in-Malformed.is (made string_bytes _ _ _ _ c.format.ensures.ok refl (simp (c.kind_word-kind.ensures, append_assoc)))

pub returns-in-Truncated : goal.returns-in-Truncated
unfolding line_of
returns-in-Truncated c = rw c.in-Truncated.is (made string_bytes _ _ _ _ c.format-in-Truncated.ensures.ok refl (simp append_assoc))
