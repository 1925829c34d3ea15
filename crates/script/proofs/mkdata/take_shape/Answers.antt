use Rattle.std.proofs.Common.{◌≡◌, Err, ap, sym, ◌∙◌}
use Rattle.script.proofs.Carried.{carried}
use Rattle.script.specs.declared.stop.LineStop.TheVariants.{BadLine}
use Rattle.script.proofs.MkdataLemmas.{fitting, no_sizing, unfit}
use Rattle.script.proofs.mkdata.take_shape.Goals as goal

pub returns-in_err-sizes-clause-bad : goal.returns-in_err-sizes-clause-bad
returns-in_err-sizes-clause-bad c = λ e.
    let is : c.in_err-sizes.field-0.0 ≡ BadLine = carried c.from_residual.result c.in_err-sizes.field-0.0 c.from_residual.ensures.1 e in
    no_sizing c.args.text.now (c.in_err-sizes.ensures.bad (ap Err is))

pub returns-then-not-is_fitting-clause-bad : goal.returns-then-not-is_fitting-clause-bad
returns-then-not-is_fitting-clause-bad c = λ _.
    unfit c.args.text.now c.in_ok-sizes.sizes.dims c.in_ok-sizes.rest.now c.in_ok-sizes.sizes.chunk c.in_ok-sizes.sizes.max c.in_ok-sizes.ensures.found (sym c.is_fitting.ensures ∙ c.if-not-is_fitting.true)

pub returns-clause-found : goal.returns-clause-found
returns-clause-found c =
    fitting c.args.text.now c.in_ok-sizes.sizes.dims c.in_ok-sizes.rest.now c.in_ok-sizes.sizes.chunk c.in_ok-sizes.sizes.max c.in_ok-sizes.ensures.found (sym c.is_fitting.ensures ∙ c.if-not-is_fitting.false)
