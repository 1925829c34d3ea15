use Rattle.tree_places.proofs.Edited.{more_shown, more_sound, more_places}
use Rattle.tree_places.proofs.editing.insert_node.Goals as goal

pub returns-clause-sound : goal.returns-clause-sound
returns-clause-sound c = more_sound _ _ c.args.group c.args.name _ c.args.node c.requires.sound c.requires.node
    c.requires.can c.insert.ensures.entry c.insert.ensures.tree

pub returns-clause-keyed : goal.returns-clause-keyed
returns-clause-keyed c = λ p t same can shows. more_shown _ _ c.args.group c.args.name _ c.args.node p t
    c.insert.ensures.tree same can shows

pub returns-clause-places : goal.returns-clause-places
returns-clause-places c = more_places _ _ c.args.group c.args.name _ c.args.node c.insert.ensures.tree
