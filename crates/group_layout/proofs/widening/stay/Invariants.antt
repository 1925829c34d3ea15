use Rattle.std.proofs.Common.{◌≡◌, map}
use Rattle.group_layout.specs.Laying.{unchanged}
use Rattle.group_layout.proofs.widening.stay.Given as goal

abbrev pub invariant-loop-old : goal.invariant-loop-old
invariant-loop-old l = l.kept.items ≡ map unchanged l.yielded
