use Rattle.std.proofs.Common.{◌≡◌, Err, List, ℕ, Some, ap, subst, sym, rules}
use Rattle.script.proofs.Carried.{carried}
use Rattle.script.specs.declared.stop.LineStop.TheVariants.{BadLine}
use Rattle.script.specs.Words.{next_word}
use Rattle.script.proofs.MkdataLemmas.{no_option}
use Rattle.script.proofs.mkdata.take_option.Goals as goal

pub returns-in_err-sizes-in-Some-clause-bad : goal.returns-in_err-sizes-in-Some-clause-bad
returns-in_err-sizes-in-Some-clause-bad c = λ e.
    let is : c.in_err-sizes-in-Some.field-0.0 ≡ BadLine = carried c.from_residual.result c.in_err-sizes-in-Some.field-0.0 c.from_residual.ensures.1 e in
    let same : c.in-Some.word.now ≡ c.args.key.now = search rules in
    let next : next_word c.args.text.now ≡ Some (c.args.key.now, c.in-Some.after.now) = subst (λ (w : List ℕ). next_word c.args.text.now ≡ Some (w, c.in-Some.after.now)) same (sym c.in-Some.ensures) in
    no_option c.args.maximum c.args.key.now c.args.text.now c.in-Some.after.now next (c.in_err-sizes-in-Some.ensures.bad (ap Err is))
