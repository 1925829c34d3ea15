use Rattle.std.proofs.Common.{◌≡◌, ◌+◌, ◌++◌, ◌∷◌, [], List, length}
use Rattle.outside.specs.Blocks.{Block}
use Rattle.block_space.specs.Blocks.{Keeps, array_of, space_of}
use Rattle.file_model.specs.Headers.{Part, header_blocks}
use Rattle.header_reader.specs.Walks.{IsWalked}
use Rattle.header_reader.proofs.reading.gather.Given as goal

abbrev pub invariant-parts : goal.invariant-parts
invariant-parts g l = record {
  parts : List Part;
  walked : IsWalked g.V.Space.tells (array_of g.V.Space.view l.initial.blocks) l.at l.fn.prefix parts l.walk;
  kept : (met : List Block) → Keeps g.V.Space.view l.initial.blocks (met ++ record { start = l.at; len = 16 + l.fn.prefix.size } ∷ []) → Keeps g.V.Space.view l.blocks (met ++ header_blocks l.at l.fn.prefix parts);
  alike : g.V.Kept.Alike (space_of l.initial.blocks) (space_of l.blocks);
  calm : g.V.Space.faults (space_of l.blocks) ≡ g.V.Space.faults (space_of l.initial.blocks);
}

abbrev pub decreases-parts : goal.decreases-parts
decreases-parts g l = length l.walk.waiting.items + l.walk.wanted
