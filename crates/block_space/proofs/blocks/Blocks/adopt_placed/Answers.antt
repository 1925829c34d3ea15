use Rattle.std.proofs.Common.{arith}
use Rattle.block_space.proofs.Stopped.{all_placed, found_placed}
use Rattle.block_space.proofs.blocks.Blocks.adopt_placed.Goals as goal

pub returns-clause-refused : goal.returns-clause-refused
returns-clause-refused g c = all_placed g.V.Space.view c.args.self.now c.args.start c.args.len c.args.kind _
    (omega (arith, c.if-len-eq0.false)) c.adopt.ensures.refused

pub returns-clause-found : goal.returns-clause-found
returns-clause-found g c = found_placed g.V.Space.view c.args.self.now c.adopt.new.self c.args.start c.args.len _
    (omega (arith, c.if-len-eq0.false)) c.adopt.ensures.found
