use Rattle.std.proofs.Common.{◌≡◌, subst}
use Rattle.h5_base.specs.declared.extent.MemClass.TheVariants.{Super}
use Rattle.h5_base.specs.declared.refusal.Refusal.TheVariants.{Truncated}
use Rattle.stack_mount.specs.Mounted.{IsRefused}
use Rattle.stack_mount.proofs.Fronts.{short_file}
use Rattle.stack_mount.proofs.judging.judge.Goals as goal

pub returns-then-end-superblock-clause-refused : goal.returns-then-end-superblock-clause-refused
returns-then-end-superblock-clause-refused g c = λ told why is.
    let b = (g.V.Space.view c.args.space.now).array in
    let end = (g.V.Space.view c.args.space.now).ends Super in
    let short = short_file b c.end-end.result end c.in-Ok.superblock c.end-end.ensures (c.in-Ok.ensures.found told) c.if-end-superblock.true in
    let same : Truncated c.end-end.result c.in-Ok.superblock.end_at ≡ why = cc in
    subst (IsRefused b end) same short
