use Rattle.std.proofs.Common.{None}
use Rattle.outside.proofs.Causes.{one_later}
use Rattle.outside.specs.Space.{bounds_of}
use Rattle.block_space.specs.Blocks.{space_of}
use Rattle.object_tree.proofs.Rooted.{never_refused, never_stopped, root_moved, root_told}
use Rattle.object_tree.proofs.open.open_tree.Goals as goal

pub returns-in-Ok-clause-opened : goal.returns-in-Ok-clause-opened
returns-in-Ok-clause-opened g c = λ told.
    let v = g.V.Space.view (space_of c.args.blocks.now) in
    root_told g.V.Space.view _ v _ c.in-Ok.superblock c.open_root.result (g.met.V.Space.alike _ _ c.in-Ok.ensures.alike) (c.in-Ok.ensures.found told) (c.open_root.ensures.opened told)

pub returns-in-Ok-clause-refused : goal.returns-in-Ok-clause-refused
returns-in-Ok-clause-refused g c = λ told.
    let v = g.V.Space.view (space_of c.args.blocks.now) in
    root_moved v _ c.in-Ok.superblock c.open_root.result (g.met.V.Space.alike _ _ c.in-Ok.ensures.alike) (c.in-Ok.ensures.found told) (c.open_root.ensures.refused told)

pub returns-in-Ok-clause-complete : goal.returns-in-Ok-clause-complete
returns-in-Ok-clause-complete g c = λ told s root ls h within.
    let v = g.V.Space.view (space_of c.args.blocks.now) in
    never_refused v.array (bounds_of v None) s root ls h c.open_root.result within
    (root_moved v _ c.in-Ok.superblock c.open_root.result (g.met.V.Space.alike _ _ c.in-Ok.ensures.alike) (c.in-Ok.ensures.found told) (c.open_root.ensures.refused told))

pub returns-in-Ok-clause-alike : goal.returns-in-Ok-clause-alike
returns-in-Ok-clause-alike g c = g.V.Kept.transitive _ _ _ c.in-Ok.ensures.alike c.open_root.ensures.alike

pub returns-in-Err-clause-complete : goal.returns-in-Err-clause-complete
returns-in-Err-clause-complete g c = λ told s root ls h within.
    let v = g.V.Space.view (space_of c.args.blocks.now) in
    never_stopped v.array (bounds_of v None) s root ls h c.in-Err.stop within (c.in-Err.ensures.refused told)

pub returns-in-Ok-clause-failed : goal.returns-in-Ok-clause-failed
returns-in-Ok-clause-failed g c = λ failed.
    one_later _ _ _ (g.met.V.Space.goes_counts _ _ (g.met.V.Space.goes_alike _ _ c.in-Ok.ensures.alike))
    (c.open_root.ensures.failed failed)
