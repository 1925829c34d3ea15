use Rattle.std.proofs.Common.{ℕ, ◌≡◌, ap, arith}
use Rattle.h5_base.specs.declared.extent.MemClass.{MemClass}
use Rattle.h5_base.specs.declared.extent.MemClass.TheVariants.{Raw}
use Rattle.call_tests.proofs.spaces.change.Goals as goal

pub raise-requires-clause-up : goal.raise-requires-clause-up
raise-requires-clause-up c =
    let same : c.write.new.space.end ≡ c.args.space.now.end = ap (λ (ends : MemClass → ℕ). ends Raw) c.in_ok-write.ensures.ends in
    omega (arith, same, c.requires.end)
