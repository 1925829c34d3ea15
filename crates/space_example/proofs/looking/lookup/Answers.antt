use Rattle.std.proofs.Common.{None}
use Rattle.outside.specs.Space.{bounds_of}
use Rattle.block_space.specs.Blocks.{space_of}
use Rattle.space_example.proofs.Matched.{all_found, all_there, opened_over, never_over}
use Rattle.space_example.proofs.looking.lookup.Goals as goal

pub returns-in-Ok-clause-found : goal.returns-in-Ok-clause-found
returns-in-Ok-clause-found g c = λ told.
    let v = g.V.Space.view c.args.space in
    let opened = opened_over g.V.Space.view (space_of c.new-blocks.result) c.args.space c.in-Ok.tree c.new-blocks.ensures.space (c.in-Ok.ensures.opened told).0 in
    all_found v.array (bounds_of v None) c.in-Ok.tree c.args.path.now c.found_at.result opened c.found_at.ensures.found

pub returns-in-Ok-clause-there : goal.returns-in-Ok-clause-there
returns-in-Ok-clause-there g c = λ told.
    let v = g.V.Space.view c.args.space in
    let opened = opened_over g.V.Space.view (space_of c.new-blocks.result) c.args.space c.in-Ok.tree c.new-blocks.ensures.space (c.in-Ok.ensures.opened told).0 in
    all_there v.array (bounds_of v None) c.in-Ok.tree c.args.path.now c.found_at.result opened c.found_at.ensures.found

pub returns-in-Err-clause-complete : goal.returns-in-Err-clause-complete
returns-in-Err-clause-complete g c = λ told. never_over g.V.Space.view (space_of c.new-blocks.result) c.args.space c.in-Err.stop c.new-blocks.ensures.space (c.in-Err.ensures.complete told)
