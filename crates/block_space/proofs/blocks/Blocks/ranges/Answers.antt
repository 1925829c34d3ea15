use Rattle.std.proofs.Common.{◌≡◌, ◌∙◌, ◌++◌, ap, sym, subst, append-nil, rules}
use Rattle.std.specs.List.{flat_map}
use Rattle.std.specs.List.Sorted.{IsPermutation}
use Rattle.std.proofs.lemmas.List.Sorted.{IsNonDecreasingBy-from_sort_by_key, IsPermutation-map, IsPermutation-sym}
use Rattle.std.proofs.lemmas.List.Elements.{same_from_all_zip}
use Rattle.h5_base.specs.declared.extent.Extent.{Extent}
use Rattle.outside.specs.Blocks.{Block}
use Rattle.block_space.specs.Catalogue.{blocks_of}
use Rattle.block_space.specs.Plans.{classes, new_range}
use Rattle.block_space.proofs.Needed.{ranges_more, ranges_all, ascend}
use Rattle.block_space.proofs.blocks.Blocks.ranges.Goals as goal

pub loop-class-init : goal.loop-class-init
loop-class-init g c = ap blocks_of
    (same_from_all_zip _ c.args.writes.now.items c.in-Ok.ranges.items c.in-Ok.ensures.cases.0 (λ x y same. search rules))
    ∙ sym (append-nil (blocks_of c.args.writes.now.items))

pub loop-class-preserved : goal.loop-class-preserved
loop-class-preserved g c = ranges_more (new_range (g.V.Space.view c.args.self.now.space) c.args.needs.now)
    c.loop-class.class-index (blocks_of c.args.writes.now.items) _ _ c.loop-class-test.true c.loop-class.invariant
    c.in_ok-push_range.ensures

pub returns-in-Ok-sort_by_key-clause-ascend : goal.returns-in-Ok-sort_by_key-clause-ascend
returns-in-Ok-sort_by_key-clause-ascend g c = ascend c.sort_by_key.new.self.items
    (IsNonDecreasingBy-from_sort_by_key (λ (x : Extent). x.start) _ c.in-Ok-sort_by_key.ensures.sorted
    (λ a r q k. search rules))

abbrev block_of : Extent → Block
block_of x = record { start = x.start; len = x.len }

pub returns-in-Ok-sort_by_key-clause-all : goal.returns-in-Ok-sort_by_key-clause-all
returns-in-Ok-sort_by_key-clause-all g c =
    let given = blocks_of c.args.writes.now.items in
    let f = new_range (g.V.Space.view c.args.self.now.space) c.args.needs.now in
    let all : blocks_of c.loop-class.ranges.items ≡ given ++ flat_map f classes =
    ranges_all f c.loop-class.class-index given _ c.loop-class-test.false c.loop-class.invariant in
    subst (IsPermutation (blocks_of c.sort_by_key.new.self.items)) all
    (IsPermutation-sym _ _ (IsPermutation-map block_of _ _ c.in-Ok-sort_by_key.ensures.permutation))
