use Rattle.std.proofs.Common.{◌≡◌, Err, ap}
use Rattle.script.proofs.Carried.{carried}
use Rattle.script.specs.declared.stop.LineStop.TheVariants.{BadLine}
use Rattle.script.proofs.CommandLemmas.{no_rm}
use Rattle.script.proofs.commands.read_rm.Goals as goal

pub returns-in_err-path-clause-bad : goal.returns-in_err-path-clause-bad
returns-in_err-path-clause-bad c = λ e.
    let is : c.in_err-path.field-0.0 ≡ BadLine = carried c.from_residual.result c.in_err-path.field-0.0 c.from_residual.ensures.1 e in
    no_rm c.args.text.now (c.in_err-path.ensures.bad (ap Err is))
