use Rattle.std.proofs.Common.{rules}
use Rattle.block_space.proofs.Gathered.{gathered, to_lists}
use Rattle.block_space.proofs.Joined.{kept_there, none_there}
use Rattle.block_space.proofs.blocks.Blocks.holds.Goals as goal

pub returns-in-Some-clause-has : goal.returns-in-Some-clause-has
returns-in-Some-clause-has g c = λ met keeps.
    let ready = c.gather.new.self in
    kept_there ready.entries met (to_lists ready met c.in_ok-gather.ensures.ordered (c.gather.ensures.lists met keeps.lists))
    c.args.start c.args.len c.in-Some.kept.now
    (let h = c.get.ensures in let e = c.in-Some.kept-is in let k = c.in-Some.is in search rules)

pub returns-in-None-clause-has : goal.returns-in-None-clause-has
returns-in-None-clause-has g c = λ met keeps.
    let ready = c.gather.new.self in
    none_there ready.entries met (to_lists ready met c.in_ok-gather.ensures.ordered (c.gather.ensures.lists met keeps.lists))
    c.args.start c.args.len (let h = c.get.ensures in let k = c.in-None.is in search rules)

pub returns-in-Some-clause-kept : goal.returns-in-Some-clause-kept
returns-in-Some-clause-kept g c = λ met.
    gathered (g.V.Space.view c.args.self.now.space) c.args.self.now.catalogue c.gather.new.self met
    (c.gather.ensures.lists met)

pub returns-in-None-clause-kept : goal.returns-in-None-clause-kept
returns-in-None-clause-kept g c = λ met.
    gathered (g.V.Space.view c.args.self.now.space) c.args.self.now.catalogue c.gather.new.self met
    (c.gather.ensures.lists met)
