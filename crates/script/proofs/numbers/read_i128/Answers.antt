use Rattle.std.proofs.Common.{◌≡◌, true, rules}
use Rattle.script.specs.Numbers.{is_bare}
use Rattle.script.proofs.NumberLemmas.{not_i128}
use Rattle.script.proofs.numbers.read_i128.Goals as goal

pub returns-in-Err : goal.returns-in-Err
returns-in-Err c =
    let bare : is_bare c.args.word.now ≡ true = search rules in
    not_i128 c.args.word.now bare c.in-Err.ensures.cases.0
