use Rattle.std.proofs.Common.{◌≡◌, ◌++◌, ◌∷◌}
use Rattle.std.specs.List.{flat_map, range_with_len}
use Rattle.dtype.specs.Values.{value_of, value_text}
use Rattle.script.specs.Print.{element_at}
use Rattle.script.proofs.answers.put_values.Given as goal

abbrev pub invariant-loop-index : goal.invariant-loop-index
invariant-loop-index l = l.text.items ≡ l.initial.text.items ++ flat_map (λ i. 32 ∷ value_text (value_of l.elem_type (element_at l.elem_type l.bytes i))) (range_with_len 0 l.index)
