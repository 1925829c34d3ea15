use Rattle.std.proofs.Common.{arith, sym, ap, ◌∙◌}
use Rattle.group_layout.specs.Leaves.{last_key}
use Rattle.group_layout.proofs.Parts.{leaf_keys_step, part_is}
use Rattle.group_layout.proofs.keys.leaf_keys.Goals as goal

pub loop-at-preserved : goal.loop-at-preserved
loop-at-preserved c =
    let room = c.args.room in
    let es = c.args.entries.now in
    let from = c.loop-at.from in
    let to = c.part_end-to.result in
    let i = c.loop-at._at-index in
    let key = c.last_key-key.ensures ∙ ap (last_key c.loop-at.key) (part_is room from to es c.part_end-to.ensures) in
    let step = leaf_keys_step room c.loop-at.key c.loop-at.keys.items c.args.ats.now es i from c.loop-at-test.true in
    record {
      inside = omega arith;
      keys = rw (c.in-Ok.ensures.items, key, c.part_end-to.ensures) (sym step ∙ c.loop-at.invariant.keys);
    }
