-- A stop that `?` hands on is the stop that was met.
use Rattle.std.proofs.Common.{◌≡◌, Result, Err, IfErr, IsErrAnd, sym, subst}
use Rattle.std.specs.Prelude.{IsErrOf}
use Rattle.std.proofs.lemmas.Result.{err_from_is_err_and}
use Rattle.h5_base.specs.declared.refusal.Stop.{Stop}

pub handed : {T : Type 0} (r : Result T Stop) (stop : Stop) (P : Stop → Type 0) → IsErrAnd r (λ y. y ≡ stop) → P stop → IfErr r P
handed r stop P is h =
    let q = err_from_is_err_and r is in
    subst (λ (x : Result _ Stop). IfErr x P) (sym q.1) (subst P (sym q.2) h)

pub handed_from : {T U : Type 0} (r : Result T Stop) (s : Result U Stop) (stop x : Stop) → IsErrAnd r (λ y. y ≡ stop) → s ≡ Err stop → IsErrOf r x → IsErrOf s x
handed_from r s stop x is was h = let q = err_from_is_err_and r is in cc (q.1, q.2)
