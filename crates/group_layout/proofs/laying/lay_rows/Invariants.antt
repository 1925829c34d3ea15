use Rattle.std.proofs.Common.{take}
use Rattle.group_layout.specs.Placing.{AreLaid}
use Rattle.group_layout.proofs.laying.lay_rows.Given as goal

abbrev pub invariant-loop-level : goal.invariant-loop-level
invariant-loop-level l =
    AreLaid l.ks (take l.level l.rows) l.initial.laid l.laid l.fn.leaves.keys.items l.fn.leaves.ats.items l.below.keys.items l.below.ats.items
