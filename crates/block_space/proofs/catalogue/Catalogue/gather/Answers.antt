use Rattle.std.proofs.Common.{◌≡◌, ◌++◌, ◌∷◌, [], arith, sym, ◌∙◌, ap, length, refl}
use Rattle.block_space.proofs.Gathered.{ends_with, listed_inserted, listed_same, when_failed}
use Rattle.block_space.proofs.catalogue.Catalogue.gather.Goals as goal

pub loop-last-init : goal.loop-last-init
loop-last-init c = λ met lists. lists

pub loop-last-preserved : goal.loop-last-preserved
loop-last-preserved c = λ met lists.
    let old = c.loop-last.self in
    let whole : old.taken.items ≡ c.pop.new.self.items ++ c.in-Some.last.now ∷ [] =
    ends_with old.taken.items c.pop.new.self.items _ c.in-Some.last.now
    (sym c.deref.ensures.len ∙ ap length c.deref.ensures.value) (omega (arith, c.in-Some.ensures.item.3.0, c.deref.ensures.len))
    c.pop.ensures.rest (let is = c.in-Some.ensures.item.3.1 c.in-Some.last.now in cc c.deref.ensures.value) in
    listed_inserted old _ met c.in-Some.last.now c.insert.result (sym c.is_err.ensures.value ∙ c.if-is_err.false)
    (c.loop-last.invariant met lists) whole c.insert.ensures.updates c.insert.ensures.old c.insert.ensures.len

pub returns-then-is_err-clause-lists : goal.returns-then-is_err-clause-lists
returns-then-is_err-clause-lists c = λ met lists. listed_same c.loop-last.self _ met
    (when_failed c.insert.result _ (sym c.is_err.ensures.value ∙ c.if-is_err.true) c.insert.ensures.err) refl
    (c.loop-last.invariant met lists)

pub returns-clause-lists : goal.returns-clause-lists
returns-clause-lists c = c.loop-last.invariant
