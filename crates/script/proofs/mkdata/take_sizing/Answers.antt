use Rattle.std.proofs.Common.{◌≡◌, Err, ap}
use Rattle.script.proofs.Carried.{carried}
use Rattle.script.specs.declared.stop.LineStop.TheVariants.{BadLine}
use Rattle.script.proofs.MkdataLemmas.{no_dims, no_max}
use Rattle.script.proofs.mkdata.take_sizing.Goals as goal

pub returns-in_err-dims-clause-bad : goal.returns-in_err-dims-clause-bad
returns-in_err-dims-clause-bad c = λ e.
    let is : c.in_err-dims.field-0.0 ≡ BadLine = carried c.from_residual.result c.in_err-dims.field-0.0 c.from_residual.ensures.1 e in
    no_dims c.args.text.now (c.in_err-dims.ensures.bad (ap Err is))

pub returns-in_err-max-clause-bad : goal.returns-in_err-max-clause-bad
returns-in_err-max-clause-bad c = λ e.
    let is : c.in_err-max.field-0.0 ≡ BadLine = carried c.from_residual-in_err-max.result c.in_err-max.field-0.0 c.from_residual-in_err-max.ensures.1 e in
    no_max c.args.text.now c.in_ok-dims.dims c.in_ok-dims.text.now c.in_ok-chunk.text.now c.in_ok-chunk.chunk c.in_ok-dims.ensures.found c.in_ok-chunk.ensures.found (c.in_err-max.ensures.bad (ap Err is))
