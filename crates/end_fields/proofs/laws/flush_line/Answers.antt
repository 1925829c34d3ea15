use Rattle.end_fields.proofs.FlushLine.{is_done, is_over}
use Rattle.end_fields.proofs.laws.flush_line.Goals as goal

pub returns-clause-done : goal.returns-clause-done
returns-clause-done c = is_done

pub returns-clause-over : goal.returns-clause-over
returns-clause-over c = is_over
