use Rattle.std.proofs.Common.{◌++◌}
use Rattle.block_space.specs.Catalogue.{blocks_of}
use Rattle.block_space.specs.Plans.{new_ranges}
use Rattle.block_space.proofs.Gathered.{gathered}
use Rattle.block_space.proofs.Readied.{asked_stay}
use Rattle.block_space.proofs.blocks.Blocks.reserve.Goals as goal

pub returns-in-Ok-make_room-clause-room : goal.returns-in-Ok-make_room-clause-room
returns-in-Ok-make_room-clause-room g c = λ met keeps. c.in_ok-find_room.ensures.room met
    (gathered (g.V.Space.view c.args.self.now.space) c.args.self.now.catalogue c.gather.new.self met
    (c.gather.ensures.lists met) keeps)

pub returns-in-Ok-make_room-clause-kept : goal.returns-in-Ok-make_room-clause-kept
returns-in-Ok-make_room-clause-kept g c = λ met keeps. c.make_room.ensures.kept met
    (gathered (g.V.Space.view c.args.self.now.space) c.args.self.now.catalogue c.gather.new.self met
    (c.gather.ensures.lists met) keeps)

pub returns-clause-kept : goal.returns-clause-kept
returns-clause-kept g c = λ met keeps. c.make_room.ensures.kept met
    (gathered (g.V.Space.view c.args.self.now.space) c.args.self.now.catalogue c.gather.new.self met
    (c.gather.ensures.lists met) keeps)

pub returns-clause-given : goal.returns-clause-given
returns-clause-given g c =
    let v = g.V.Space.view c.args.self.now.space in
    asked_stay v (g.V.Space.view c.make_room.new.self.space) c.in-Ok.ranges.items
    (blocks_of c.args.writes.now.items ++ new_ranges v c.args.needs.now) c.in-Ok.ensures.all c.in-Err.ensures.given
