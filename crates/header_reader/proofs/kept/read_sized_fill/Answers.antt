use Rattle.header_reader.proofs.kept.read_sized_fill.Goals as goal

pub returns-in-Err-clause-other : goal.returns-in-Err-clause-other
returns-in-Err-clause-other c = λ refused f spelled size. c.in-Err.ensures.other.0 refused f spelled
