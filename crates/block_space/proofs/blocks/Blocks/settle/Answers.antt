use Rattle.block_space.proofs.Fresh.{kept_over}
use Rattle.block_space.proofs.blocks.Blocks.settle.Goals as goal

pub returns-clause-kept : goal.returns-clause-kept
returns-clause-kept g c = λ met keeps. kept_over (g.V.Space.view c.args.self.now.space) (g.V.Space.view
    c.settle.new.self) _ met
    (g.met.V.Space.edited_kind _ _ c.settle.ensures.edited).regions c.settle.ensures.ends keeps
