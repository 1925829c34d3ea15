use Rattle.h5stack_core.proofs.RunLemmas.{nothing_done}
use Rattle.h5stack_core.proofs.running.perform.Goals as goal

pub returns-in-Ok-Run-clause-same : goal.returns-in-Ok-Run-clause-same
returns-in-Ok-Run-clause-same g c = nothing_done _ _ c.run_file.ensures.run.same

pub returns-in-Err-clause-words_first : goal.returns-in-Err-clause-words_first
returns-in-Err-clause-words_first g c = c.in-Err.ensures.first
