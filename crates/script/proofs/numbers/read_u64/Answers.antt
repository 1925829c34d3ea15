use Rattle.script.proofs.NumberLemmas.{not_u64}
use Rattle.script.proofs.numbers.read_u64.Goals as goal

pub returns-in-Err : goal.returns-in-Err
returns-in-Err c = not_u64 c.args.word.now c.in-Err.ensures.cases.0
