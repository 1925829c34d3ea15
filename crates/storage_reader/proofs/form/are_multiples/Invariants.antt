use Rattle.storage_reader.proofs.ChunkSizes.{EachMultiple}
use Rattle.storage_reader.proofs.form.are_multiples.Given as goal

abbrev pub invariant-loop-i : goal.invariant-loop-i
invariant-loop-i l = EachMultiple l.sizes l.offset l.i
