use Rattle.std.proofs.Common.{length}
use Rattle.script.specs.Names.{IsChar}
use Rattle.script.proofs.Runs.{Keeps}
use Rattle.script.proofs.symbols.read_text.Given as goal

abbrev pub invariant-loop-rest : goal.invariant-loop-rest
invariant-loop-rest l = Keeps (IsChar l.within) l.text l.bytes.items l.rest

abbrev pub decreases-loop-rest : goal.decreases-loop-rest
decreases-loop-rest l = length l.rest
