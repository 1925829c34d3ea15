use Rattle.std.proofs.Common.{refl}
use Rattle.block_space.proofs.Gathered.{listed_same}
use Rattle.block_space.proofs.catalogue.Catalogue.make_room.Goals as goal

pub returns-in-Ok-clause-lists : goal.returns-in-Ok-clause-lists
returns-in-Ok-clause-lists c = λ met. listed_same c.args.self.now _ met refl c.reserve.ensures.items

pub returns-in-Err-clause-lists : goal.returns-in-Err-clause-lists
returns-in-Err-clause-lists c = λ met. listed_same c.args.self.now _ met refl c.reserve.ensures.items
