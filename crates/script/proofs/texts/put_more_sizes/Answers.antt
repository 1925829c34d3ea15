use Rattle.std.proofs.Common.{ℕ, List, [], ◌∷◌, ◌++◌, get_or, ap, ◌∙◌, append_assoc}
use Rattle.script.specs.Print.{size_text}
use Rattle.script.proofs.PrintLemmas.{more_items}
use Rattle.script.proofs.texts.put_more_sizes.Goals as goal

pub loop-size-preserved : goal.loop-size-preserved
loop-size-preserved c =
    let size : List ℕ = size_text c.args.maximum (get_or c.args.sizes.now c.loop-size.size-index 0) in
    more_items (λ m. 44 ∷ size_text c.args.maximum m) c.args.text.now.items c.loop-size.text.items _ c.args.sizes.now c.loop-size.size-index 0 c.loop-size-test.true c.loop-size.invariant
    (c.in_ok-put_size.ensures ∙ ap (λ (xs : List ℕ). xs ++ size) c.in_ok-append.ensures.appended ∙ append_assoc c.loop-size.text.items (44 ∷ []) size)
