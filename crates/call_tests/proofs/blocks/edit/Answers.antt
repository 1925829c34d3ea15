use Rattle.std.proofs.Common.{◌∙◌, Option, ap, refl, subst}
use Rattle.outside.specs.Revisions.{Committed}
use Rattle.outside.specs.Space.{HasRoom}
use Rattle.call_tests.proofs.Reserved.{ends_before, is_reserved, none_short, planned_before, room_prepared}
use Rattle.call_tests.proofs.blocks.edit.Goals as goal

pub reserve-requires-clause-small : goal.reserve-requires-clause-small
reserve-requires-clause-small g c = c.requires.fits.2.small

pub ranges-requires-clause-stands : goal.ranges-requires-clause-stands
ranges-requires-clause-stands g c = g.met.V.Space.readied_stands _ _ c.reserve.ensures.readied c.requires.stands

pub ranges-requires-clause-small : goal.ranges-requires-clause-small
ranges-requires-clause-small g c = c.requires.fits.2.small

pub ranges-requires-clause-room : goal.ranges-requires-clause-room
ranges-requires-clause-room g c =
    let (met, keeps, fits) = c.requires.fits in
    none_short _ _ _ _ (g.met.V.Space.readied_view _ _ c.reserve.ensures.readied)
    (c.in_ok-reserve.ensures.room met keeps)

pub apply-requires-clause-stands : goal.apply-requires-clause-stands
apply-requires-clause-stands g c = g.met.V.Space.readied_stands _ _ c.reserve.ensures.readied c.requires.stands

pub apply-requires-clause-reserved : goal.apply-requires-clause-reserved
apply-requires-clause-reserved g c =
    let (met, keeps, fits) = c.requires.fits in
    let v = g.V.Space.view c.args.blocks.now.space in
    let w = g.V.Space.view c.reserve.new.self.space in
    let laws = g.met.V.Space.readied_view _ _ c.reserve.ensures.readied in
    let same = c.in_ok-writes.ensures.items ∙ c.as_slice.ensures in
    let all = c.in_ok-reserve.ensures.prepared in
    let there = subst (λ (o : Option Committed). HasRoom o c.in_ok-ranges.ranges.items)
    (ap (λ s. (g.V.Space.view s).committed) c.space.ensures) ((c.if-not-room_left.ensures).0 refl) in
    let room = room_prepared v w c.args.plan.needs _ _ c.room_in_any_order.ensures laws all c.in_ok-ranges.ensures.all
    there in (
      met,
      c.reserve.ensures.kept met keeps,
      fits,
      is_reserved v w _ _ _ c.args.plan laws c.requires.writable room (c.in_ok-reserve.ensures.room met keeps)
          c.reserved_covers.ensures all same c.in_ok-reserve.ensures.spare,
    )

pub returns : goal.returns
returns g c =
    let v = g.V.Space.view c.args.blocks.now.space in
    let w = g.V.Space.view c.reserve.new.self.space in
    let laws = g.met.V.Space.readied_view _ _ c.reserve.ensures.readied in
    let (met, keeps, fits) = c.requires.fits in
    record {
      array = λ told. planned_before v w c.args.plan _ laws (c.in_ok-apply.ensures.applies.done.array told);
      ends = ends_before v w met c.args.plan _ c.ends_behind_needs.ensures laws
          (g.met.V.Space.sound _ c.requires.stands).regions fits c.in_ok-apply.ensures.applies.done.ends;
    }
