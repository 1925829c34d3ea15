use Rattle.file_model.proofs.NewHeaders.{new_group, new_data, new_group_held, new_data_held}
use Rattle.file_model.proofs.edits.new_header.Goals as goal

pub returns-clause-group : goal.returns-clause-group
returns-clause-group c = new_group

pub returns-clause-data : goal.returns-clause-data
returns-clause-data c = new_data

pub returns-clause-group_held : goal.returns-clause-group_held
returns-clause-group_held c = new_group_held

pub returns-clause-data_held : goal.returns-clause-data_held
returns-clause-data_held c = new_data_held
