use Rattle.std.proofs.Common.{subst}
use Rattle.dtype.specs.Types.{size_of}
use Rattle.header_reader.specs.Told.{IsSoundNode}
use Rattle.tree_answers.proofs.nodes.stat_of.Goals as goal

pub chunk_of-requires : goal.chunk_of-requires
chunk_of-requires c = let sound = subst IsSoundNode c.in-Dataset.is c.requires in (size_of c.in-Dataset.elem, sound.fit.stored)
