use Rattle.stack_mount.proofs.Verdicts.{one_verdict, one_fault}
use Rattle.stack_mount.proofs.laws.one_verdict.Goals as goal

pub returns-clause-apart : goal.returns-clause-apart
returns-clause-apart c = one_verdict

pub returns-clause-one : goal.returns-clause-one
returns-clause-one c = one_fault
