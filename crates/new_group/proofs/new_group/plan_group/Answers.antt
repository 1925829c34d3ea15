use Rattle.std.proofs.Common.{List, [], sym, subst}
use Rattle.plan_pieces.specs.declared.image.Image.{Image}
use Rattle.plan_pieces.specs.declared.image.NewBlock.{NewBlock}
use Rattle.plan_pieces.specs.Plan.{IsPlanOf, NeedsBelow}
use Rattle.new_group.specs.Placed.{group_fills}
use Rattle.new_group.proofs.Planned.{is_new_group, needs_below}
use Rattle.new_group.proofs.new_group.plan_group.Goals as goal

pub make_plan-requires-clause-sums : goal.make_plan-requires-clause-sums
make_plan-requires-clause-sums g c = subst NeedsBelow (sym c.in_ok-fills.ensures)
    (needs_below c.args.ks.internal c.find_places-at.result c.requires.k)

pub returns : goal.returns
returns g c =
    let at = c.find_places-at.result in
    let plan = c.in_ok-plan.plan in
    let fills : List NewBlock = group_fills c.args.ks.internal at in
    let none : IsPlanOf [] c.new-2.result.items c.in_ok-fills.fills.items plan =
    subst (λ (old : List Image). IsPlanOf old c.new-2.result.items c.in_ok-fills.fills.items plan)
    c.new.ensures.items c.in_ok-plan.ensures in
    let nothing : IsPlanOf [] [] c.in_ok-fills.fills.items plan =
    subst (λ (writes : List Image). IsPlanOf [] writes c.in_ok-fills.fills.items plan) c.new-2.ensures.items none in
    let whole : IsPlanOf [] [] fills plan =
    subst (λ (blocks : List NewBlock). IsPlanOf [] [] blocks plan) c.in_ok-fills.ensures nothing in
    is_new_group (g.V.Space.view c.args.blocks.now.space) c.args.ks c.args.ahead c.find_places-at.new.ahead at
    c.requires.k c.find_places-at.ensures (g.met.V.Space.sound _ c.requires.stands).regions plan whole
