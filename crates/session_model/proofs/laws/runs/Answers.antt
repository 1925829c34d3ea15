use Rattle.session_model.proofs.RunExamples.{cut_run}
use Rattle.session_model.proofs.RunExamples.{empty_begins}
use Rattle.session_model.proofs.RunExamples.{fault_run}
use Rattle.session_model.proofs.RunExamples.{stopped_run}
use Rattle.session_model.proofs.RunExamples.{whole_run}
use Rattle.session_model.proofs.laws.runs.Goals as goal

pub returns-clause-begins : goal.returns-clause-begins
returns-clause-begins c = empty_begins

pub returns-clause-whole : goal.returns-clause-whole
returns-clause-whole c = whole_run

pub returns-clause-stopped : goal.returns-clause-stopped
returns-clause-stopped c = stopped_run

pub returns-clause-cut : goal.returns-clause-cut
returns-clause-cut c = cut_run

pub returns-clause-fault : goal.returns-clause-fault
returns-clause-fault c = fault_run
