use Rattle.end_fields.proofs.Held.{field_beside, field_inside}
use Rattle.end_fields.proofs.laws.field_in_super.Goals as goal

pub returns-clause-inside : goal.returns-clause-inside
returns-clause-inside c = field_inside

pub returns-clause-beside : goal.returns-clause-beside
returns-clause-beside c = field_beside
