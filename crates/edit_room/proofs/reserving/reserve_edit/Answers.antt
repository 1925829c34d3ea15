use Rattle.std.proofs.Common.{refl, subst}
use Rattle.block_space.specs.Plans.{IsNoRoom}
use Rattle.edit_room.proofs.Reserved.{asked_stay, closes, holds_closing, is_prepared, not_so, over, reserved, under}
use Rattle.edit_room.proofs.Reserved.{with_own_writes}
use Rattle.edit_room.proofs.reserving.reserve_edit.Goals as goal

pub returns-then-passes_limit-clause-refused : goal.returns-then-passes_limit-clause-refused
returns-then-passes_limit-clause-refused g c = λ met keeps. (
  c.in-Ok.ranges.items,
  c.in-Ok.ensures.touched,
  over (g.V.Space.view c.args.blocks.now.space) _ c.args.plan.now c.in-Ok.ranges.items
      (c.if-passes_limit.ensures.passes refl),
)

pub returns-in-Ok-reserve-clause-judged : goal.returns-in-Ok-reserve-clause-judged
returns-in-Ok-reserve-clause-judged g c = λ met keeps.
    let room = c.in-Ok-reserve.ensures.room met keeps in (
      c.in-Ok.ensures.touched,
      under (g.V.Space.view c.args.blocks.now.space) _ c.args.plan.now c.in-Ok.ranges.items
          (c.if-passes_limit.ensures.segments not_so) (c.if-passes_limit.ensures.room not_so) room.few,
      room,
    )

pub returns-in-Ok-reserve-clause-reserved : goal.returns-in-Ok-reserve-clause-reserved
returns-in-Ok-reserve-clause-reserved g c = λ met keeps.
    let v = g.V.Space.view c.args.blocks.now.space in
    let w = g.V.Space.view c.reserve.new.self.space in
    let (kept, has, fits) = c.requires.fits in
    reserved v w c.args.plan.now c.args.closing c.in-Ok-with_closing.writes.items
    (is_prepared v w _ _ _ _ (g.met.V.Space.readied_view _ _ c.reserve.ensures.readied) c.reserved_covers.ensures
    c.as_slice.ensures c.in-Ok-with_closing.ensures.all c.in-Ok-reserve.ensures.prepared) kept _ _ c.in-Ok.ranges.items
    (g.met.V.Space.sound _ c.requires.stands).regions fits c.requires.writable
    (c.in-Ok-reserve.ensures.room met keeps) c.in-Ok.ensures.touched (c.if-passes_limit.ensures.room not_so)
    c.requires.closing c.in-Ok-reserve.ensures.spare

pub returns-in-Ok-reserve-clause-closes : goal.returns-in-Ok-reserve-clause-closes
returns-in-Ok-reserve-clause-closes g c =
    let v = g.V.Space.view c.args.blocks.now.space in
    let w = g.V.Space.view c.reserve.new.self.space in
    closes v w c.args.plan.now c.args.closing c.in-Ok-with_closing.writes.items
    (is_prepared v w _ _ _ _ (g.met.V.Space.readied_view _ _ c.reserve.ensures.readied) c.reserved_covers.ensures
    c.as_slice.ensures c.in-Ok-with_closing.ensures.all c.in-Ok-reserve.ensures.prepared) c.requires.writable
    c.requires.closing

pub returns-in-Ok-reserve-clause-holds_closing : goal.returns-in-Ok-reserve-clause-holds_closing
returns-in-Ok-reserve-clause-holds_closing g c =
    let v = g.V.Space.view c.args.blocks.now.space in
    let w = g.V.Space.view c.reserve.new.self.space in
    holds_closing v w c.args.plan.now c.args.closing c.in-Ok-with_closing.writes.items
    (is_prepared v w _ _ _ _ (g.met.V.Space.readied_view _ _ c.reserve.ensures.readied) c.reserved_covers.ensures
    c.as_slice.ensures c.in-Ok-with_closing.ensures.all c.in-Ok-reserve.ensures.prepared)

pub returns-in-Err-Full-clause-refused : goal.returns-in-Err-Full-clause-refused
returns-in-Err-Full-clause-refused g c = λ met keeps.
    let v = g.V.Space.view c.args.blocks.now.space in
    let none = subst (IsNoRoom v _ c.args.plan.now.needs) c.in-Err-Full.field-0-is
    (c.in-Err-Full.ensures.refused met keeps) in (
      c.in-Ok.ranges.items,
      c.in-Ok.ensures.touched,
      under v _ c.args.plan.now c.in-Ok.ranges.items (c.if-passes_limit.ensures.segments not_so)
          (c.if-passes_limit.ensures.room not_so) none.0,
      none,
    )

pub returns-clause-given : goal.returns-clause-given
returns-clause-given g c =
    let v = g.V.Space.view c.args.blocks.now.space in
    let w = g.V.Space.view c.reserve.new.self.space in
    let writes = c.in-Ok-with_closing.writes.items in
    let both = with_own_writes c.args.plan.now c.args.closing writes _ c.as_slice.ensures
    c.in-Ok-with_closing.ensures.all in
    asked_stay v c.args.plan.now c.args.closing writes both w c.in-Err-NoMemory.ensures.given
