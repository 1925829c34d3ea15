-- What `?` carries out of a function: the bad line that it returns is that of the call.
use Rattle.std.proofs.Common.{◌≡◌, Result, Err}
use Rattle.std.specs.Result.{IsErrAnd}
use Rattle.std.proofs.lemmas.Result.{err_from_is_err_and}
use Rattle.script.specs.declared.stop.LineStop.{LineStop}
use Rattle.script.specs.declared.stop.LineStop.TheVariants.{BadLine}

same_stop : {T : Type 0} (r : Result T LineStop) (y s : LineStop) → r ≡ Err y → y ≡ s → r ≡ Err BadLine → s ≡ BadLine
same_stop r y s out same e = cc

pub carried : {T : Type 0} (r : Result T LineStop) (s : LineStop) → IsErrAnd r (λ y. y ≡ s) → r ≡ Err BadLine → s ≡ BadLine
carried r s out e = let y = err_from_is_err_and r out in same_stop r y.0 s y.1 y.2 e
