use Rattle.std.proofs.Common.{◌≡◌, Err, [], ap, arith}
use Rattle.script.proofs.Carried.{carried}
use Rattle.script.specs.declared.stop.LineStop.TheVariants.{BadLine}
use Rattle.script.proofs.CommandLemmas.{more_box, no_read, some_left}
use Rattle.script.proofs.commands.read_read.Goals as goal

pub returns-in_err-place-clause-bad : goal.returns-in_err-place-clause-bad
returns-in_err-place-clause-bad c = λ e.
    let is : c.in_err-place.field-0.0 ≡ BadLine = carried c.from_residual.result c.in_err-place.field-0.0 c.from_residual.ensures.1 e in
    no_read c.args.text.now (λ p s n h. c.in_err-place.ensures.bad (ap Err is) p s n [] h)

pub returns-then-rest-ne0-clause-bad : goal.returns-then-rest-ne0-clause-bad
returns-then-rest-ne0-clause-bad c = λ _.
    no_read c.args.text.now
    (more_box c.args.text.now c.in_ok-place.place.path c.in_ok-place.place.start c.in_ok-place.place.count c.in_ok-place.rest.now c.in_ok-place.ensures.found (some_left c.in_ok-place.rest.now (omega arith)))
