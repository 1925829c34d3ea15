use Rattle.std.proofs.Common.{◌≡◌, Err, ap, arith}
use Rattle.script.proofs.Carried.{carried}
use Rattle.script.specs.declared.stop.LineStop.TheVariants.{BadLine}
use Rattle.script.specs.Line.{IsValue}
use Rattle.script.proofs.Runs.{goes_on, is_done, is_bad}
use Rattle.script.proofs.ArgumentLemmas.{value_rest, value_shorter}
use Rattle.script.proofs.values.read_values.Goals as goal

pub returns-in_err-value-clause-bad : goal.returns-in_err-value-clause-bad
returns-in_err-value-clause-bad c = λ e.
    let is : c.in_err-value.field-0.0 ≡ BadLine = carried c.from_residual.result c.in_err-value.field-0.0 c.from_residual.ensures.1 e in
    is_bad IsValue c.args.text.now c.loop-rest.values.items c.loop-rest.rest.now (omega arith) (c.in_err-value.ensures.bad (ap Err is)) c.loop-rest.invariant

pub loop-rest-smaller : goal.loop-rest-smaller
loop-rest-smaller c = value_shorter c.loop-rest.rest.now c.in_ok-value.value c.in_ok-value.more.now c.in_ok-value.ensures.found

pub loop-rest-preserved : goal.loop-rest-preserved
loop-rest-preserved c =
    rw c.in_ok-push.ensures.items
    (goes_on IsValue value_rest c.args.text.now c.loop-rest.values.items c.loop-rest.rest.now c.in_ok-value.more.now c.in_ok-value.value (omega arith) c.in_ok-value.ensures.found c.loop-rest.invariant)

pub returns-clause-found : goal.returns-clause-found
returns-clause-found c = is_done IsValue c.args.text.now c.loop-rest.values.items c.loop-rest.rest.now (omega arith) c.loop-rest.invariant
