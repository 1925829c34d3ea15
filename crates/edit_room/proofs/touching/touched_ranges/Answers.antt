use Rattle.std.proofs.Common.{rules}
use Rattle.std.proofs.lemmas.List.Sorted.{IsNonDecreasingBy-from_sort_by_key}
use Rattle.h5_base.specs.declared.extent.Extent.{Extent}
use Rattle.block_space.proofs.Needed.{ascend}
use Rattle.edit_room.specs.Touched.{touched_blocks}
use Rattle.edit_room.proofs.Ranges.{both_listed, ordered_blocks}
use Rattle.edit_room.proofs.Touched.{touched_by}
use Rattle.edit_room.proofs.touching.touched_ranges.Goals as goal

pub returns-in-Ok-clause-ascend : goal.returns-in-Ok-clause-ascend
returns-in-Ok-clause-ascend g c = ascend c.sort_by_key.new.self.items
    (IsNonDecreasingBy-from_sort_by_key (λ (x : Extent). x.start) _ c.in-Ok.ensures.sorted (λ a r q k. search rules))

pub returns-in-Ok-clause-touched : goal.returns-in-Ok-clause-touched
returns-in-Ok-clause-touched g c =
    let v = g.V.Space.view c.args.blocks.now.space in
    let (met, keeps, fits) = c.requires.fits in
    let listed = both_listed v c.args.plan.now c.new-ranges.result.items c.push_writes.new.ranges.items
    c.push_all_behind.new.ranges.items c.as_slice.result.now c.new-ranges.ensures.items c.as_slice.ensures
    c.in_ok-push_writes.ensures c.in_ok-push_all_behind.ensures in
    touched_by v c.args.plan.now met _ (g.met.V.Space.sound _ c.requires.stands).regions fits
    (ordered_blocks _ _ (touched_blocks v c.args.plan.now) listed c.in-Ok.ensures.permutation)
