use Rattle.end_fields.proofs.Held.{blocks_stay, limits_stay}
use Rattle.end_fields.proofs.laws.blocks_stay.Goals as goal

pub returns-clause-blocks : goal.returns-clause-blocks
returns-clause-blocks c = blocks_stay

pub returns-clause-limits : goal.returns-clause-limits
returns-clause-limits c = limits_stay
