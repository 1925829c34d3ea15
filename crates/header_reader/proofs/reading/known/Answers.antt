use Rattle.std.proofs.Common.{refl}
use Rattle.header_reader.proofs.reading.known.Goals as goal

pub returns-in-Ok-clause-made : goal.returns-in-Ok-clause-made
returns-in-Ok-clause-made c = λ b prefix parts header gathered whole short. (prefix, parts, header, c.in-Ok.ensures.made _ gathered whole, refl, short)
