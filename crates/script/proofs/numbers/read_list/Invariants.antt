use Rattle.std.proofs.Common.{take, map}
use Rattle.std.specs.List.{AllZip}
use Rattle.script.specs.Numbers.{IsSize}
use Rattle.script.proofs.numbers.read_list.Given as goal

abbrev pub invariant-loop-piece : goal.invariant-loop-piece
invariant-loop-piece l = AllZip (IsSize l.maximum) (map (λ w. w.now) (take l.piece-index l.piece-items)) l.sizes.items
