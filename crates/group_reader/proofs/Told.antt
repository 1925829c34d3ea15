-- A stop that tells a refusal.
use Rattle.std.proofs.Common.{◌≡◌, IfErr, IfSome, OnOk, IsErrOf, Ok, Err, Result, sym, ◌∙◌, subst}
use Rattle.std.specs.Result.{IsErrAnd}
use Rattle.h5_base.specs.declared.refusal.Refusal.{Refusal}
use Rattle.h5_base.specs.declared.refusal.Stop.{Stop}
use Rattle.h5_base.specs.declared.refusal.Stop.TheVariants.{Refused, Failed}
use Rattle.h5_base.specs.Refusals.{refusal_of}

pub tells : (stop : Stop) (why : Refusal) (IsRefused : Refusal → Type 0) → stop ≡ Refused why → IsRefused why
    → IfSome (refusal_of stop) IsRefused
tells stop why IsRefused is h = subst (λ (x : Stop). IfSome (refusal_of x) IsRefused) (sym is) h

-- what is shown of an error is shown of the result that hands it on
pub passed : {T : Type 0} (r : Result T Stop) (e : Stop) (P : Stop → Type 0) → IsErrAnd r (λ x. x ≡ e) → P e → IfErr r P
passed (Ok x) e P is h = tt
passed (Err x) e P is h = subst P (sym is) h

pub passed_failed : {T Q : Type 0} (r : Result T Stop) (e : Stop) → IsErrAnd r (λ x. x ≡ e) → (e ≡ Failed → Q)
    → IsErrOf r Failed → Q
passed_failed (Ok x) e is h failed = absurd is
passed_failed (Err x) e is h failed = let same : x ≡ Failed = cc in h (sym is ∙ same)

pub on_ok_then : {T E : Type 0} (r : Result T E) (P Q : Type 0) → (P → Q) → OnOk r P → OnOk r Q
on_ok_then (Ok x) P Q f h = f h
on_ok_then (Err e) P Q f h = tt
