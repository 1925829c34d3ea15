use Rattle.std.proofs.Common.{◌≡◌, Err, ap}
use Rattle.script.proofs.Carried.{carried}
use Rattle.script.specs.declared.stop.LineStop.TheVariants.{BadLine}
use Rattle.script.proofs.CommandLemmas.{no_mkdata}
use Rattle.script.proofs.MkdataLemmas.{no_path, no_type, no_shape, no_fill}
use Rattle.script.proofs.mkdata.read_mkdata.Goals as goal

pub returns-in_err-path-clause-bad : goal.returns-in_err-path-clause-bad
returns-in_err-path-clause-bad c = λ e.
    let is : c.in_err-path.field-0.0 ≡ BadLine = carried c.from_residual.result c.in_err-path.field-0.0 c.from_residual.ensures.1 e in
    no_mkdata c.args.text.now (no_path c.args.text.now (c.in_err-path.ensures.bad (ap Err is)))

pub returns-in_err-elem-clause-bad : goal.returns-in_err-elem-clause-bad
returns-in_err-elem-clause-bad c = λ e.
    let is : c.in_err-elem.field-0.0 ≡ BadLine = carried c.from_residual-in_err-elem.result c.in_err-elem.field-0.0 c.from_residual-in_err-elem.ensures.1 e in
    no_mkdata c.args.text.now (no_type c.args.text.now c.in_ok-path.text.now c.in_ok-path.path c.in_ok-path.ensures.found (c.in_err-elem.ensures.bad (ap Err is)))

pub returns-in_err-sizes-clause-bad : goal.returns-in_err-sizes-clause-bad
returns-in_err-sizes-clause-bad c = λ e.
    let is : c.in_err-sizes.field-0.0 ≡ BadLine = carried c.from_residual-in_err-sizes.result c.in_err-sizes.field-0.0 c.from_residual-in_err-sizes.ensures.1 e in
    no_mkdata c.args.text.now
    (no_shape c.args.text.now c.in_ok-path.text.now c.in_ok-elem.text.now c.in_ok-path.path c.in_ok-elem.elem c.in_ok-path.ensures.found c.in_ok-elem.ensures.found
    (c.in_err-sizes.ensures.bad (ap Err is)))

pub returns-in_err-fill-clause-bad : goal.returns-in_err-fill-clause-bad
returns-in_err-fill-clause-bad c = λ e.
    let is : c.in_err-fill.field-0.0 ≡ BadLine = carried c.from_residual-in_err-fill.result c.in_err-fill.field-0.0 c.from_residual-in_err-fill.ensures.1 e in
    no_mkdata c.args.text.now
    (no_fill c.args.text.now c.in_ok-path.text.now c.in_ok-elem.text.now c.in_ok-sizes.text.now c.in_ok-sizes.sizes.dims c.in_ok-path.path c.in_ok-elem.elem
    c.in_ok-sizes.sizes.chunk c.in_ok-sizes.sizes.max c.in_ok-path.ensures.found c.in_ok-elem.ensures.found c.in_ok-sizes.ensures.found (c.in_err-fill.ensures.bad (ap Err is)))
