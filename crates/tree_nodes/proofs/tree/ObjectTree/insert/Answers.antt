use Rattle.std.proofs.Common.{◌∙◌, ap, refl, ℕ, ◌+◌}
use Rattle.tree_nodes.proofs.ShownLemmas.{inserts, shows_inserts, room_node, room_link, byte_is}
use Rattle.tree_nodes.proofs.tree.ObjectTree.insert.Goals as goal

pub add_node-key-requires : goal.add_node-key-requires
add_node-key-requires c = room_node c.args.self.now c.args.id c.requires.room

pub link-requires : goal.link-requires
link-requires c = room_link c.args.self.now c.args.id c.add_node-key.new.nodes c.add_node-key.result c.args.name c.requires.room c.requires.lacks c.add_node-key.ensures.fresh c.add_node-key.ensures.others

pub returns-clause-entry : goal.returns-clause-entry
returns-clause-entry c =
    inserts c.args.self.now _ c.add_node-key.new.nodes c.args.id c.args.name c.add_node-key.result c.args.node refl refl
    (ap (λ (n : ℕ). c.args.self.now.objects + n) (c.from-added.ensures ∙ byte_is _ _ c.is_object.ensures))
    c.add_node-key.ensures.fresh c.add_node-key.ensures.made c.add_node-key.ensures.others c.link.ensures.linked c.link.ensures.others c.requires.lacks

pub returns-clause-tree : goal.returns-clause-tree
returns-clause-tree c = shows_inserts c.args.self.now _ c.args.id c.args.name c.add_node-key.result c.args.node c.requires.lacks (returns-clause-entry c)
