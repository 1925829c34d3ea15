use Rattle.std.proofs.Common.{◌∙◌}
use Rattle.block_space.proofs.Needed.{need_exact, range_fits, range_pushed}
use Rattle.block_space.proofs.blocks.Blocks.push_range.Goals as goal

pub invariant_of-range : goal.invariant_of-range
invariant_of-range g c = record {
  fits = range_fits (g.V.Space.view c.args.self.now.space) c.args.needs.now c.args.class _ _
      (g.met.V.Space.sound _ c.requires.stands).regions c.end.ensures c.region_need.ensures c.requires.room;
}

pub returns-in-Ok : goal.returns-in-Ok
returns-in-Ok g c =
    let view = g.V.Space.view c.args.self.now.space in
    range_pushed view c.args.needs.now c.args.class c.args.ranges.now.items _ _
    (λ none. c.if-of-eq0.false (c.of.ensures ∙ none)) c.in-Ok.ensures.items c.end.ensures
    (need_exact view c.args.needs.now c.args.class _ c.region_need.ensures c.requires.small)
