use Rattle.end_fields.proofs.Held.{end_held, fields_told}
use Rattle.end_fields.proofs.laws.end_held.Goals as goal

pub returns-clause-held : goal.returns-clause-held
returns-clause-held c = end_held

pub returns-clause-told : goal.returns-clause-told
returns-clause-told c = fields_told
