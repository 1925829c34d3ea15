use Rattle.tree_places.proofs.Edited.{fewer_shown, fewer_sound, fewer_places}
use Rattle.tree_places.proofs.editing.remove_node.Goals as goal

pub returns-clause-sound : goal.returns-clause-sound
returns-clause-sound c = fewer_sound _ _ c.args.group c.args.name.now c.requires.sound c.requires.can
    c.remove.ensures.entry c.remove.ensures.tree

pub returns-clause-keyed : goal.returns-clause-keyed
returns-clause-keyed c = λ p t same can shows. fewer_shown _ _ c.args.group c.args.name.now p t c.remove.ensures.tree
    same can shows

pub returns-clause-places : goal.returns-clause-places
returns-clause-places c = fewer_places _ _ c.args.group c.args.name.now c.remove.ensures.tree
