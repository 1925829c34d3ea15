use Rattle.std.proofs.Common.{rules, ◌∙◌, ap, ◌++◌, List}
use Rattle.std.proofs.lemmas.List.Sorted.{IsNonDecreasingBy-from_sort_by_key}
use Rattle.h5_base.specs.declared.extent.Extent.{Extent}
use Rattle.block_space.specs.Catalogue.{blocks_of}
use Rattle.block_space.proofs.Needed.{ascend}
use Rattle.edit_room.specs.Reserving.{closing_blocks}
use Rattle.edit_room.proofs.Ranges.{ordered_blocks}
use Rattle.edit_room.proofs.reserving.with_closing.Goals as goal

pub returns-in-Ok-sort_by_key-clause-ascend : goal.returns-in-Ok-sort_by_key-clause-ascend
returns-in-Ok-sort_by_key-clause-ascend c = ascend c.sort_by_key.new.self.items
    (IsNonDecreasingBy-from_sort_by_key (λ (x : Extent). x.start) _ c.in-Ok-sort_by_key.ensures.sorted
    (λ a r q k. search rules))

pub returns-in-Ok-sort_by_key-clause-all : goal.returns-in-Ok-sort_by_key-clause-all
returns-in-Ok-sort_by_key-clause-all c = ordered_blocks _ _ _
    (c.in_ok-push_closing.ensures
    ∙ ap (λ (xs : List Extent). blocks_of xs ++ closing_blocks c.args.closing) c.in-Ok.ensures.items)
    c.in-Ok-sort_by_key.ensures.permutation
