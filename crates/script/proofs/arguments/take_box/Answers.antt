use Rattle.std.proofs.Common.{◌≡◌, Err, ap}
use Rattle.script.proofs.Carried.{carried}
use Rattle.script.specs.declared.stop.LineStop.TheVariants.{BadLine}
use Rattle.script.proofs.ArgumentLemmas.{no_path_box, no_start_box, no_count_box}
use Rattle.script.proofs.arguments.take_box.Goals as goal

pub returns-in_err-path-clause-bad : goal.returns-in_err-path-clause-bad
returns-in_err-path-clause-bad c = λ e.
    let is : c.in_err-path.field-0.0 ≡ BadLine = carried c.from_residual.result c.in_err-path.field-0.0 c.from_residual.ensures.1 e in
    no_path_box c.args.text.now (c.in_err-path.ensures.bad (ap Err is))

pub returns-in_err-start-clause-bad : goal.returns-in_err-start-clause-bad
returns-in_err-start-clause-bad c = λ e.
    let is : c.in_err-start.field-0.0 ≡ BadLine = carried c.from_residual-in_err-start.result c.in_err-start.field-0.0 c.from_residual-in_err-start.ensures.1 e in
    no_start_box c.args.text.now c.in_ok-path.text.now c.in_ok-path.path c.in_ok-path.ensures.found (c.in_err-start.ensures.bad (ap Err is))

pub returns-in_err-count-clause-bad : goal.returns-in_err-count-clause-bad
returns-in_err-count-clause-bad c = λ e.
    let is : c.in_err-count.field-0.0 ≡ BadLine = carried c.from_residual-in_err-count.result c.in_err-count.field-0.0 c.from_residual-in_err-count.ensures.1 e in
    no_count_box c.args.text.now c.in_ok-path.text.now c.in_ok-start.text.now c.in_ok-start.start c.in_ok-path.path c.in_ok-path.ensures.found c.in_ok-start.ensures.found (c.in_err-count.ensures.bad (ap Err is))
