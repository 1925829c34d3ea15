use Rattle.std.proofs.Common.{◌∷◌, []}
use Rattle.block_space.proofs.Stopped.{then_kept}
use Rattle.block_space.proofs.blocks.Blocks.adopt_bytes.Goals as goal

pub returns-in-Ok-clause-found : goal.returns-in-Ok-clause-found
returns-in-Ok-clause-found g c = then_kept g.V.Space.view c.args.self.now c.adopt.new.self c.read_bytes.new.self
    (record { start = c.args.at; len = c.args.len } ∷ []) c.read_bytes.result c.in-Ok.ensures.found c.read_bytes.ensures.kept
