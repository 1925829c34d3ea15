use Rattle.std.proofs.Common.{rules}
use borrow.Author.Tests.{tests}
use Rattle.std.proofs.lemmas.Iterator.{cases_from_any, YieldsList-from_slice}
use Rattle.outside.specs.Space.{LiesIn}
use Rattle.block_space.specs.Plans.{classes}
use Rattle.block_space.proofs.SixClasses.{inside_from_any}
use Rattle.block_space.proofs.regions.lies_inside.Goals as goal

pub returns : goal.returns
returns g c = λ own.
    let view = g.V.Space.view c.args.space.now in
    inside_from_any view c.args.start c.args.len own c.any.result
    (cases_from_any _ _ _ (λ class. LiesIn view.regions view.ends class c.args.start c.args.len) (λ class. LiesIn view.regions view.ends class c.args.start c.args.len → ⊥)
    c.any.ensures.ran (YieldsList-from_slice classes c.iter.ensures.rest) (λ x q k. search (rules, tests)) (λ x q k. search (rules, tests)))
