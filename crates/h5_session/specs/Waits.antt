-- What a call leaves of a session that only plans: the same state, over an alike space. Cited by what plans a line.
use Rattle.std.specs.Prelude.{◌≡◌, List, Result, IsErrOf}
use Rattle.outside.specs.Blocks.{Block}
use Rattle.outside.specs.Causes.{Counts, OneRose}
use Rattle.outside.specs.Space.{SpaceView}
use Rattle.block_space.specs.Blocks.{Keeps}
use Rattle.tree_nodes.specs.Entries.{Same}
use Rattle.h5_session.specs.Session.{space_in}
use Rattle.h5_session.specs.declared.session.Session.{Session}
use Rattle.h5_session.specs.declared.stop.StepStop.{StepStop}
use Rattle.h5_session.specs.declared.stop.StepStop.TheVariants as stop

-- All that is kept is as before, the space is alike, and a count rose exactly where the call answers a fault, which is
-- never one of a copy.
pub record Waits {V T : Type 0} (view : V → SpaceView) (Alike : V → V → Type 0) (faults : V → Counts)
    (old new : Session V) (result : Result T StepStop) : Type 0 where
  pub alike : Alike (space_in old) (space_in new)
  pub kept : (met : List Block) → Keeps view old.blocks met → Keeps view new.blocks met
  pub tree : Same old.tree new.tree
  pub edited : new.edited ≡ old.edited
  pub failed : IsErrOf result stop.Failed → OneRose (faults (space_in old)) (faults (space_in new))
  pub no_copy : ¬ IsErrOf result stop.WoFailed
  pub calm : ¬ IsErrOf result stop.Failed → faults (space_in new) ≡ faults (space_in old)
