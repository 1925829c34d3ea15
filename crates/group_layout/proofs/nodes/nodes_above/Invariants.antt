use Rattle.std.proofs.Common.{◌≡◌, ◌≤◌, ◌++◌, length, drop}
use Rattle.h5_base.specs.Fields.{undefined}
use Rattle.group_layout.specs.Nodes.{nodes_above}
use Rattle.group_layout.proofs.nodes.nodes_above.Given as goal

abbrev pub invariant-loop-i : goal.invariant-loop-i
invariant-loop-i l = record {
  inside : l.from ≤ length l.below;
  nodes : l.nodes.items ++ nodes_above l.level l.room l.left (drop l.i l.ats) (drop l.from l.keys) (drop l.from l.below)
      ≡ nodes_above l.level l.room undefined l.ats l.keys l.below;
}
