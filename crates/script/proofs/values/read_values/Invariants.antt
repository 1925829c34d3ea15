use Rattle.std.proofs.Common.{length}
use Rattle.script.specs.Line.{IsValue}
use Rattle.script.proofs.Runs.{Keeps}
use Rattle.script.proofs.values.read_values.Given as goal

abbrev pub invariant-loop-rest : goal.invariant-loop-rest
invariant-loop-rest l = Keeps IsValue l.text l.values.items l.rest

abbrev pub decreases-loop-rest : goal.decreases-loop-rest
decreases-loop-rest l = length l.rest
