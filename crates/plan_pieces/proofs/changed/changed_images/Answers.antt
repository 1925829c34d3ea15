use Rattle.std.proofs.Common.{◌≡◌, ◌++◌, ◌∷◌, [], List, length, subst, sym, ap, ◌∙◌, arith}
use Rattle.std.proofs.lemmas.List.{append_assoc, append-nil}
use Rattle.plan_pieces.specs.declared.image.Image.{Image}
use Rattle.plan_pieces.specs.Plan.{AreChanged, Joins}
use Rattle.plan_pieces.proofs.Joined.{any_order, one_more, nothing}
use Rattle.plan_pieces.proofs.changed.changed_images.Goals as goal

pub loop-image-preserved : goal.loop-image-preserved
loop-image-preserved c =
    let steps = c.in-Some.ensures.steps in (
      one_more c.sort_by_key.new.self.items c.in-Some.image c.loop-image.yielded c.loop-image.changed.items
          c.loop-image.invariant.0 c.push_changed.new.changed.items
          (subst (λ (o : List Image). Joins o c.in-Some.image c.loop-image.changed.items c.push_changed.new.changed.items)
          c.deref.ensures.value c.in_ok-push_changed.ensures),
      append_assoc c.loop-image.yielded (c.in-Some.image ∷ []) c.next.new.self.rest.items
          ∙ ap (λ (xs : List Image). c.loop-image.yielded ++ xs) (sym steps.0) ∙ c.loop-image.invariant.1,
      omega (arith, steps.1, ap (λ (xs : List Image). length xs) steps.0, c.loop-image.invariant.2),
    )

pub returns : goal.returns
returns c =
    let none = nothing c.loop-image.image-iterator.rest.items
    (c.loop-image.invariant.2 ∙ c.in-None.ensures.steps.0) in
    let all : c.loop-image.yielded ≡ c.args.images.items =
    sym (append-nil c.loop-image.yielded) ∙ ap (λ (xs : List Image). c.loop-image.yielded ++ xs) (sym none)
    ∙ c.loop-image.invariant.1 in
    any_order c.args.old.items c.sort_by_key.new.self.items c.args.images.items c.loop-image.changed.items
    c.sort_by_key.ensures.permutation
    (subst (λ (xs : List Image). AreChanged c.sort_by_key.new.self.items xs c.loop-image.changed.items) all
    c.loop-image.invariant.0)
