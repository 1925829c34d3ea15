use Rattle.std.proofs.Common.{◌≡◌, refl, subst}
use Rattle.file_model.specs.RefusedTree.{of_super}
use Rattle.stack_mount.specs.Mounted.{LacksSuper}
use Rattle.stack_mount.proofs.Fronts.{front_read, spelled_front, lacking_front}
use Rattle.stack_mount.proofs.judging.read_front.Goals as goal

pub returns-in-Ok-read_super-clause-found : goal.returns-in-Ok-read_super-clause-found
returns-in-Ok-read_super-clause-found g c = λ told.
    let b = (g.V.Space.view c.args.space.now).array in
    spelled_front b c.args.end c.read.new.out c.in-Ok-read_super.superblock
    (front_read b c.args.end c.min.result _ c.read.new.out c.min.ensures refl (c.in-Ok.ensures.bytes told)) c.in-Ok-read_super.ensures.found

pub returns-in-Err-read_super-clause-lacks : goal.returns-in-Err-read_super-clause-lacks
returns-in-Err-read_super-clause-lacks g c = λ told why is.
    let b = (g.V.Space.view c.args.space.now).array in
    let lacks = lacking_front b c.args.end c.read.new.out c.in-Err-read_super.stop
    (front_read b c.args.end c.min.result _ c.read.new.out c.min.ensures refl (c.in-Ok.ensures.bytes told))
    (λ s spelled. let found = c.in-Err-read_super.ensures.only s spelled in cc) c.in-Err-read_super.ensures.stop in
    let same : of_super c.in-Err-read_super.stop ≡ why = cc in
    subst (LacksSuper b c.args.end) same lacks
