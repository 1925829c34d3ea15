use Rattle.std.proofs.Common.{◌≡◌, ◌++◌, ◌∷◌, take}
use Rattle.std.specs.List.{flat_map}
use Rattle.script.specs.Print.{size_text}
use Rattle.script.proofs.texts.put_more_sizes.Given as goal

abbrev pub invariant-loop-size : goal.invariant-loop-size
invariant-loop-size l = l.text.items ≡ l.initial.text.items ++ flat_map (λ m. 44 ∷ size_text l.maximum m) (take l.size-index l.sizes)
