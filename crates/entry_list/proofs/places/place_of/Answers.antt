use Rattle.std.proofs.Common.{◌+◌, ◌-◌, ◌/◌, arith}
use Rattle.entry_list.proofs.PlaceLemmas.{halved_none, went_right, went_left, links_length, place_is}
use Rattle.entry_list.proofs.places.place_of.Goals as goal

pub loop-low-init : goal.loop-low-init
loop-low-init c =
    (omega arith, omega arith, halved_none c.args.segment.now c.args.entries.now c.args.name.now)

pub loop-low-preserved-then-comes_before : goal.loop-low-preserved-then-comes_before
loop-low-preserved-then-comes_before c =
    let low = c.loop-low.low in
    let high = c.loop-low.high in
    let middle = low + (high - low) / 2 in
    let known = c.loop-low.invariant in (
      omega arith,
      known.1,
      went_right c.args.segment.now c.args.entries.now c.args.name.now low high middle known.2
          (omega (arith, known.1)) _ c.comes_before.result c.comes_before.ensures c.if-comes_before.true,
    )

pub loop-low-preserved : goal.loop-low-preserved
loop-low-preserved c =
    let low = c.loop-low.low in
    let high = c.loop-low.high in
    let middle = low + (high - low) / 2 in
    let known = c.loop-low.invariant in (
      omega arith,
      omega (arith, known.1),
      went_left c.args.segment.now c.args.entries.now c.args.name.now low high middle known.2
          (omega (arith, known.1)) _ c.comes_before.result c.comes_before.ensures c.if-comes_before.false,
    )

pub returns-clause-place : goal.returns-clause-place
returns-clause-place c = λ fs links order.
    let known = c.loop-low.invariant in
    let same = links_length c.args.segment.now c.args.entries.now fs links in
    place_is fs c.args.name.now c.loop-low.low c.loop-low.high known.0 c.loop-low-test.false
    (omega (arith, same, known.1)) (known.2 fs links order)
