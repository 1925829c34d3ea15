use Rattle.block_space.proofs.Gathered.{listed_readied}
use Rattle.block_space.proofs.blocks.Blocks.make_room.Goals as goal

pub returns-clause-kept : goal.returns-clause-kept
returns-clause-kept g c = λ met. listed_readied (g.V.Space.view c.args.self.now.space) (g.V.Space.view c.prepare.new.self) _
    c.args.self.now.catalogue c.make_room.new.self met
    (g.met.V.Space.readied_view c.args.self.now.space c.prepare.new.self c.prepare.ensures.readied)
    (c.make_room.ensures.lists met)
