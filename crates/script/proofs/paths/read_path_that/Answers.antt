use Rattle.std.proofs.Common.{◌≡◌, Err, false, ap, rules}
use Rattle.script.proofs.Carried.{carried}
use Rattle.script.specs.declared.stop.LineStop.TheVariants.{BadLine}
use Rattle.script.specs.Line.{admits}
use Rattle.script.proofs.ArgumentLemmas.{not_admitted}
use Rattle.script.proofs.paths.read_path_that.Goals as goal

pub returns-then-not-admits-clause-bad : goal.returns-then-not-admits-clause-bad
returns-then-not-admits-clause-bad c = λ _.
    let refused : admits c.args.leads c.in_ok-path.path ≡ false = search rules in
    not_admitted c.args.leads c.args.word.now c.in_ok-path.path c.in_ok-path.ensures.found refused

pub returns-in_err-path-clause-bad : goal.returns-in_err-path-clause-bad
returns-in_err-path-clause-bad c = λ e p h.
    let is : c.in_err-path.field-0.0 ≡ BadLine = carried c.from_residual.result c.in_err-path.field-0.0 c.from_residual.ensures.1 e in
    c.in_err-path.ensures.bad (ap Err is) p h.path_is
