use Rattle.std.proofs.Common.{◌∙◌, ap, refl}
use Rattle.slab.specs.Slab.{Slab}
use Rattle.tree_nodes.specs.declared.entry.Entry.{Entry}
use Rattle.tree_nodes.proofs.ShownLemmas.{entry_is, counted_new, new_others, shows_new}
use Rattle.tree_nodes.proofs.tree.ObjectTree.empty.Goals as goal

pub invariant_of-result : goal.invariant_of-result
invariant_of-result c = record {
  counted = counted_new c.reserve.new.self c.add_node-key.new.nodes c.args.root c.requires (ap (λ (s : Slab Entry). s.slots) c.reserve.ensures.rest_kept ∙ c.new-nodes.ensures.empty) c.add_node-key.ensures.objects;
}

pub returns-clause-root : goal.returns-clause-root
returns-clause-root c = entry_is _ c.add_node-key.result _ c.add_node-key.ensures.made

pub returns-clause-others : goal.returns-clause-others
returns-clause-others c =
    new_others _ c.reserve.new.self c.add_node-key.result (ap (λ (s : Slab Entry). s.slots) c.reserve.ensures.rest_kept ∙ c.new-nodes.ensures.empty) c.add_node-key.ensures.others

pub returns-clause-tree : goal.returns-clause-tree
returns-clause-tree c = shows_new _ c.add_node-key.result c.args.root c.requires refl refl (returns-clause-root c)
