use Rattle.std.proofs.Common.{ℕ, List, [], ◌∷◌, append_assoc}
use Rattle.dtype.specs.Values.{value_of, value_text}
use Rattle.script.specs.Print.{element_at}
use Rattle.script.proofs.PrintLemmas.{more_values}
use Rattle.script.proofs.answers.put_values.Goals as goal

pub loop-index-preserved : goal.loop-index-preserved
loop-index-preserved c =
    let f : ℕ → List ℕ = λ i. 32 ∷ value_text (value_of c.args.elem_type.now (element_at c.args.elem_type.now c.args.bytes.now i)) in
    more_values f c.args.text.now.items c.loop-index.text.items _ c.loop-index.index c.loop-index.invariant
    (rw (c.in_ok-put_value.ensures, c.in_ok-append.ensures.appended, c.element.ensures.elem)
    (append_assoc c.loop-index.text.items (32 ∷ []) (value_text (value_of c.args.elem_type.now (element_at c.args.elem_type.now c.args.bytes.now c.loop-index.index)))))
