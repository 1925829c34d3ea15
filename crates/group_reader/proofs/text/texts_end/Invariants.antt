use Rattle.std.proofs.Common.{◌≢◌, ℕ, ◌<◌, ◌≤◌, length, get_or}
use Rattle.group_reader.proofs.text.texts_end.Given as goal

abbrev pub invariant-loop-end : goal.invariant-loop-end
invariant-loop-end l = (l.end ≤ length l.segment) × ((n : ℕ) → l.end ≤ n → n < length l.segment
    → get_or l.segment n 0 ≢ 0)

abbrev pub decreases-loop-end : goal.decreases-loop-end
decreases-loop-end l = l.end
