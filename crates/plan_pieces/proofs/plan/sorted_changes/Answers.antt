use Rattle.std.proofs.Common.{rules}
use Rattle.std.proofs.lemmas.List.Sorted.{IsNonDecreasingBy-from_sort_by_key}
use Rattle.plan_pieces.specs.declared.image.Image.{Image}
use Rattle.plan_pieces.proofs.Ranged.{changed_order}
use Rattle.plan_pieces.proofs.plan.sorted_changes.Goals as goal

pub returns-in-Ok-clause-changed : goal.returns-in-Ok-clause-changed
returns-in-Ok-clause-changed c = changed_order c.args.old.items c.args.writes.items c.in_ok-images.images.items
    c.sort_by_key.new.self.items c.in-Ok.ensures.permutation c.in_ok-images.ensures

pub returns-in-Ok-clause-ascend : goal.returns-in-Ok-clause-ascend
returns-in-Ok-clause-ascend c = IsNonDecreasingBy-from_sort_by_key (λ (i : Image). i.at) _ c.in-Ok.ensures.sorted
    (λ a r q k. search rules)
