use Rattle.end_fields.proofs.Plans.{field_closes, flush_does}
use Rattle.end_fields.proofs.laws.end_put.Goals as goal

pub returns-clause-flush : goal.returns-clause-flush
returns-clause-flush c = flush_does

pub returns-clause-close : goal.returns-clause-close
returns-clause-close c = field_closes
