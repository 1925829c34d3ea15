use Rattle.file_model.proofs.PathBlocks.{path_blocks, path_apart}
use Rattle.file_model.proofs.EditFull.{file_blocks, beside_edit}
use Rattle.file_model.proofs.edits.path_blocks.Goals as goal

pub returns-clause-blocks : goal.returns-clause-blocks
returns-clause-blocks c = path_blocks

pub returns-clause-file : goal.returns-clause-file
returns-clause-file c = file_blocks

pub returns-clause-edit : goal.returns-clause-edit
returns-clause-edit c = beside_edit

pub returns-clause-apart : goal.returns-clause-apart
returns-clause-apart c = path_apart
