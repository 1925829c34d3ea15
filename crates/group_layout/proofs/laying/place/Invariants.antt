use Rattle.std.proofs.Common.{◌≡◌, ◌-◌, ◌++◌, length, take, drop, map}
use Rattle.group_layout.specs.Placing.{filled}
use Rattle.group_layout.proofs.laying.place.Given as goal

abbrev pub invariant-loop-image : goal.invariant-loop-image
invariant-loop-image l = record {
  left : l.left ≡ l.old - length l.yielded;
  writes : l.laid.writes.items ≡ l.initial.laid.writes.items ++ take l.old l.yielded;
  fills : l.laid.fills.items ≡ l.initial.laid.fills.items ++ map (filled l.kind) (drop l.old l.yielded);
}
