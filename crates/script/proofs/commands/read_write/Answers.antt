use Rattle.std.proofs.Common.{◌≡◌, Err, ap}
use Rattle.script.proofs.Carried.{carried}
use Rattle.script.specs.declared.stop.LineStop.TheVariants.{BadLine}
use Rattle.script.proofs.CommandLemmas.{no_write, no_write_box}
use Rattle.script.proofs.commands.read_write.Goals as goal

pub returns-in_err-place-clause-bad : goal.returns-in_err-place-clause-bad
returns-in_err-place-clause-bad c = λ e.
    let is : c.in_err-place.field-0.0 ≡ BadLine = carried c.from_residual.result c.in_err-place.field-0.0 c.from_residual.ensures.1 e in
    no_write c.args.text.now (no_write_box c.args.text.now (c.in_err-place.ensures.bad (ap Err is)))
