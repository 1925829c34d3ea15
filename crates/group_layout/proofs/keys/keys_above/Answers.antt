use Rattle.std.proofs.Common.{◌<◌, length, arith, sym, ◌∙◌}
use Rattle.group_layout.proofs.Parts.{keys_above_step, keys_above_end}
use Rattle.group_layout.proofs.keys.keys_above.Goals as goal

pub loop-at-preserved : goal.loop-at-preserved
loop-at-preserved c =
    let keys = c.args.keys.now in
    let from = c.loop-at.from in
    let within : from < length keys = omega arith in
    let step = keys_above_step c.args.room c.loop-at.above.items c.args.ats.now keys c.args.below.now c.loop-at._at-index
    from c.loop-at-test.true within in
    record {
      inside = omega arith;
      keys = rw (c.in-Ok.ensures.items, c.part_end-from.ensures) (sym step ∙ c.loop-at.invariant.keys);
    }

pub returns : goal.returns
returns c =
    let keys = c.args.keys.now in
    let from = c.loop-at.from in
    let within : from < length keys = omega arith in
    let end = keys_above_end c.args.room c.loop-at.above.items c.args.ats.now keys c.args.below.now c.loop-at._at-index
    from c.loop-at-test.false within in
    c.in-Ok-push.ensures.items ∙ sym end ∙ c.loop-at.invariant.keys
