use Rattle.std.proofs.Common.{◌≡◌, ◌≤◌, ◌++◌, length, drop}
use Rattle.group_layout.specs.Rows.{keys_above}
use Rattle.group_layout.proofs.keys.keys_above.Given as goal

abbrev pub invariant-loop-at : goal.invariant-loop-at
invariant-loop-at l = record {
  inside : l.from ≤ length l.below;
  keys : l.above.items ++ keys_above l.room (drop l._at-index l.ats) (drop l.from l.keys) (drop l.from l.below)
      ≡ keys_above l.room l.ats l.keys l.below;
}
