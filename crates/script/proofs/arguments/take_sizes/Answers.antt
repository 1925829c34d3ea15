use Rattle.std.proofs.Common.{◌≡◌, Err, ap, sym}
use Rattle.script.proofs.Carried.{carried}
use Rattle.script.specs.declared.stop.LineStop.TheVariants.{BadLine}
use Rattle.script.specs.Numbers.{IsSizes}
use Rattle.script.proofs.Runs.{no_such}
use Rattle.script.proofs.arguments.take_sizes.Goals as goal

pub returns-in_err-read_sizes-in-Some-clause-bad : goal.returns-in_err-read_sizes-in-Some-clause-bad
returns-in_err-read_sizes-in-Some-clause-bad c = λ e.
    let is : c.in_err-read_sizes-in-Some.field-0.0 ≡ BadLine = carried c.from_residual.result c.in_err-read_sizes-in-Some.field-0.0 c.from_residual.ensures.1 e in
    no_such (IsSizes c.args.maximum) c.args.text.now c.in-Some.word.now c.in-Some.rest.now (sym c.in-Some.ensures) (c.in_err-read_sizes-in-Some.ensures.bad (ap Err is))
