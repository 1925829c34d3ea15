use Rattle.std.proofs.Common.{◌≡◌, length}
use Rattle.group_layout.proofs.WidenLemmas.{AreTaken}
use Rattle.group_layout.proofs.widening.taken.Given as goal

abbrev pub invariant-loop-i : goal.invariant-loop-i
invariant-loop-i l = record {
  count : length l.ats.items ≡ l._i;
  taken : AreTaken l.fn.at l.step l.at l.ats.items;
}
