use Rattle.std.proofs.Common.{take, map}
use Rattle.std.specs.List.{AllZip}
use Rattle.script.specs.Names.{IsName}
use Rattle.script.proofs.paths.read_names.Given as goal

abbrev pub invariant-loop-piece : goal.invariant-loop-piece
invariant-loop-piece l = AllZip IsName (map (λ w. w.now) (take l.piece-index l.piece-items)) l.names.items
