use Rattle.end_fields.proofs.Plans.{commit_plan, flush_plan}
use Rattle.end_fields.proofs.laws.end_plans.Goals as goal

pub returns-clause-flush : goal.returns-clause-flush
returns-clause-flush c = flush_plan

pub returns-clause-commit : goal.returns-clause-commit
returns-clause-commit c = commit_plan
