use Rattle.std.proofs.Common.{◌≡◌, Err, [], false, ap, arith}
use Rattle.script.proofs.Carried.{carried}
use Rattle.script.specs.declared.stop.LineStop.TheVariants.{BadLine}
use Rattle.script.specs.Numbers.{IsSizes}
use Rattle.script.proofs.CommandLemmas.{more_word, no_extend, no_extend_path, no_extend_dims, some_left}
use Rattle.script.proofs.commands.read_extend.Goals as goal

pub returns-in_err-path-clause-bad : goal.returns-in_err-path-clause-bad
returns-in_err-path-clause-bad c = λ e.
    let is : c.in_err-path.field-0.0 ≡ BadLine = carried c.from_residual.result c.in_err-path.field-0.0 c.from_residual.ensures.1 e in
    no_extend c.args.text.now (no_extend_path c.args.text.now (c.in_err-path.ensures.bad (ap Err is)))

pub returns-in_err-dims-clause-bad : goal.returns-in_err-dims-clause-bad
returns-in_err-dims-clause-bad c = λ e.
    let is : c.in_err-dims.field-0.0 ≡ BadLine = carried c.from_residual-in_err-dims.result c.in_err-dims.field-0.0 c.from_residual-in_err-dims.ensures.1 e in
    no_extend c.args.text.now
    (no_extend_dims c.args.text.now c.in_ok-path.path c.in_ok-path.rest.now c.in_ok-path.ensures.found (λ d h. c.in_err-dims.ensures.bad (ap Err is) d [] h))

pub returns-then-rest-ne0-clause-bad : goal.returns-then-rest-ne0-clause-bad
returns-then-rest-ne0-clause-bad c = λ _.
    no_extend c.args.text.now
    (no_extend_dims c.args.text.now c.in_ok-path.path c.in_ok-path.rest.now c.in_ok-path.ensures.found
    (more_word (IsSizes false) c.in_ok-path.rest.now c.in_ok-dims.dims c.in_ok-dims.rest.now c.in_ok-dims.ensures.found (some_left c.in_ok-dims.rest.now (omega arith))))
