use Rattle.std.proofs.Common.{◌≡◌, ◌≤◌, ◌++◌, length, drop}
use Rattle.group_layout.specs.Leaves.{leaf_keys}
use Rattle.group_layout.proofs.keys.leaf_keys.Given as goal

abbrev pub invariant-loop-at : goal.invariant-loop-at
invariant-loop-at l = record {
  inside : l.from ≤ length l.entries;
  keys : l.keys.items ++ leaf_keys l.room l.key (drop l._at-index l.ats) (drop l.from l.entries)
      ≡ leaf_keys l.room l.base l.ats l.entries;
}
