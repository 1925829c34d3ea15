use Rattle.header_reader.proofs.Following.{all_named}
use Rattle.header_reader.proofs.walk.Walk.follow.Goals as goal

pub returns-clause-refused : goal.returns-clause-refused
returns-clause-refused g c =
    rw (← c.u64_of.ensures, ← c.u64_of-2.ensures) (all_named g.V.Space.view c.args.blocks.now c.args.self.now.total c.u64_of.result c.u64_of-2.result c.args.kind _ c.if-kind-ne-CONTINUATION.false c.name_block.ensures.refused)
