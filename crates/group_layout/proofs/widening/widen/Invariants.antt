use Rattle.std.proofs.Common.{◌≡◌, ◌++◌}
use Rattle.group_layout.proofs.WidenLemmas.{HaveGrown}
use Rattle.group_layout.proofs.widening.widen.Given as goal

abbrev pub invariant-loop-old : goal.invariant-loop-old
invariant-loop-old l = record {
  left : l.fn.rows.items ≡ l.yielded ++ l.old-iterator.rest.items;
  grown : HaveGrown l.room l.initial.below l.below l.initial.at l.step l.at l.yielded l.wider.items;
}
