use Rattle.std.proofs.Common.{◌≡◌, Err, ap}
use Rattle.script.proofs.Carried.{carried}
use Rattle.script.specs.declared.stop.LineStop.TheVariants.{BadLine}
use Rattle.script.proofs.ArgumentLemmas.{no_quoted, bad_quoted}
use Rattle.script.proofs.values.take_quoted.Goals as goal

pub returns-in_err-bytes-in-Some-clause-bad : goal.returns-in_err-bytes-in-Some-clause-bad
returns-in_err-bytes-in-Some-clause-bad c = λ e.
    let is : c.in_err-bytes-in-Some.field-0.0 ≡ BadLine = carried c.from_residual.result c.in_err-bytes-in-Some.field-0.0 c.from_residual.ensures.1 e in
    bad_quoted c.args.text.now c.in-Some.inside.now c.in-Some.more.now c.requires c.in-Some.ensures (c.in_err-bytes-in-Some.ensures.bad (ap Err is))

pub returns-in-None-clause-bad : goal.returns-in-None-clause-bad
returns-in-None-clause-bad c = λ _. no_quoted c.args.text.now c.requires c.in-None.ensures
