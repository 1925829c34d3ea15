use Rattle.tree_answers.proofs.SoundTrees.{sound_is}
use Rattle.tree_answers.proofs.laws.sound_is.Goals as goal

pub returns : goal.returns
returns c = sound_is
