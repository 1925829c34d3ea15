-- Laws of what the tree that the program keeps shows, and of the commands that are given.
-- Each is the clause of a small public function of this crate.
use Rattle.std.specs.Prelude.{◌≡◌, IsTrue, Ok}
use Rattle.outside.specs.Array.{Array}
use Rattle.outside.specs.Blocks.{Bounds}
use Rattle.object_model.specs.declared.command.Command.{Command}
use Rattle.object_model.specs.declared.answer.Answer.{Answer}
use Rattle.object_model.specs.Step.{Plain, Reply, Gives, step}
use Rattle.file_model.specs.Holds.{Full, Holds, plain}
use Rattle.tree_nodes.specs.declared.tree.ObjectTree.{ObjectTree}
use Rattle.object_tree.specs.Opened.{IsOpened}
use Rattle.object_tree.specs.Sound.{IsSoundTree}
use Rattle.tree_places.specs.Kept.{HasPlaces}
use Rattle.tree_answers.specs.Answers.{is_given, plain_stack}
use Rattle.tree_answers.specs.Shown.{IsTreeOf}

-- the bytes of an opened file hold a tree, which is the one that is kept
abbrev pub Held : Type 0
Held = (b : Array) (e : Bounds) (kept : ObjectTree) → IsOpened b e kept → (t : Plain) × Holds b e t × IsTreeOf kept t

-- each tree that they hold is the one that is kept
abbrev pub OpenedIs : Type 0
OpenedIs = (b : Array) (e : Bounds) (kept : ObjectTree) → IsOpened b e kept → (t : Plain) → Holds b e t
    → IsTreeOf kept t

-- A tree that is sound is some tree of objects, whatever the space tells: so what is answered from it is the answer of
-- a step.
abbrev pub SoundIs : Type 0
SoundIs = (kept : ObjectTree) → IsSoundTree kept → (t : Plain) × IsTreeOf kept t

-- A tree of places that is kept is kept without its places; and each tree of objects that is kept is such a tree, over
-- a space that tells nothing too. So what an edit makes of places tells what it makes of objects.
abbrev pub PlacesAre : Type 0
PlacesAre = (kept : ObjectTree) (f : Full) → HasPlaces kept f → IsTreeOf kept (plain f)

abbrev pub PlacesOf : Type 0
PlacesOf = (kept : ObjectTree) (t : Plain) → IsTreeOf kept t → (f : Full) × HasPlaces kept f × (plain f ≡ t)

-- a given command leaves the tree as it is, and makes no revision
abbrev pub OnlyLooks : Type 0
OnlyLooks = (t new : Plain) (c : Command) (r : Reply) → IsTrue (is_given c) → step plain_stack t c ≡ Ok (new, r)
    → (new ≡ t) × ((a : Answer) × (r ≡ Gives a))
