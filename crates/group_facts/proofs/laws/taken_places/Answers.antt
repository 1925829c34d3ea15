use Rattle.group_facts.proofs.PlaceLemmas.{in_a_row, nothing_ahead, one_ahead, taken_behind}
use Rattle.group_facts.proofs.laws.taken_places.Goals as goal

pub returns-clause-one : goal.returns-clause-one
returns-clause-one c = one_ahead

pub returns-clause-row : goal.returns-clause-row
returns-clause-row c = in_a_row

pub returns-clause-behind : goal.returns-clause-behind
returns-clause-behind c = taken_behind

pub returns-clause-nothing : goal.returns-clause-nothing
returns-clause-nothing c = nothing_ahead
