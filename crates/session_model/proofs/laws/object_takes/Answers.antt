use Rattle.std.proofs.Common.{refl}
use Rattle.session_model.proofs.RoomLemmas.{data_takes_lem, group_takes_lem}
use Rattle.session_model.proofs.laws.object_takes.Goals as goal

pub returns-clause-group : goal.returns-clause-group
returns-clause-group c = group_takes_lem

pub returns-clause-lengths : goal.returns-clause-lengths
returns-clause-lengths c = refl

pub returns-clause-data : goal.returns-clause-data
returns-clause-data c = data_takes_lem
