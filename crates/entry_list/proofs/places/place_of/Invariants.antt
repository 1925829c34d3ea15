use Rattle.std.proofs.Common.{length, ◌≤◌, ◌-◌}
use Rattle.entry_list.proofs.PlaceLemmas.{Halved}
use Rattle.entry_list.proofs.places.place_of.Given as goal

abbrev pub invariant-loop-low : goal.invariant-loop-low
invariant-loop-low l = (l.low ≤ l.high) × (l.high ≤ length l.entries)
    × Halved l.segment l.entries l.name l.low l.high

abbrev pub decreases-loop-low : goal.decreases-loop-low
decreases-loop-low l = l.high - l.low
