-- Laws of one link more and one fewer, in the tree of places, in the tree of objects and in the tree that is kept.
-- Each is the clause of a small public function of this crate.
use Rattle.std.specs.Prelude.{◌≡◌, ℕ, ◌+◌, ◌≤◌, max, List, length, map, Some, Ok}
use Rattle.outside.specs.Array.{Array}
use Rattle.outside.specs.Blocks.{Block, Bounds, Agree}
use Rattle.header_codec.specs.declared.types.Prefix.{Prefix}
use Rattle.object_model.specs.declared.command.Command.TheVariants as command
use Rattle.object_model.specs.declared.answer.Answer.TheVariants as answer
use Rattle.object_model.specs.declared.answer.Code.TheVariants.{ReadOnly}
use Rattle.object_model.specs.Tree.{Group, Empty, Name, names, AreOrdered, find, walk, edit, insert, remove, dir_of}
use Rattle.object_model.specs.Tree.{last_of, ◌>>=◌}
use Rattle.object_model.specs.Step.{Stack, Gives, new_group, unless, add, step}
use Rattle.file_model.specs.EditLaws.{IsOneMore, group_at}
use Rattle.file_model.specs.Groups.{Found, Ks}
use Rattle.file_model.specs.Headers.{Part, IsHeader, header_blocks}
use Rattle.file_model.specs.Holds.{Full, FullLinks, GroupAt, IsHeld, blocks_of, founds, target_of, plain}
use Rattle.file_model.specs.Laws.{beside}
use Rattle.file_model.specs.Limits.{IsShort, Fits, AllFit, objects_of, depth_to}
use Rattle.tree_nodes.specs.declared.node.Node.TheVariants as node
use Rattle.tree_nodes.specs.declared.tree.ObjectTree.{ObjectTree}
use Rattle.tree_nodes.specs.Entries.{object_count, Same}
use Rattle.tree_nodes.specs.Shown.{Keyed, single}
use Rattle.object_tree.specs.Opened.{IsOpened, Matches}
use Rattle.tree_places.specs.Places.{add_place, remove_place, to_add, to_remove}
use Rattle.tree_places.specs.Kept.{Agrees, HasPlaces, LeavesParent, Stays}

-- ---- the tree of objects

-- A new link comes to what it makes of the tree of places, seen without places, or to the first refusal there.
abbrev pub AddIs : Type 0
AddIs = (f : GroupAt → GroupAt) (p : List Name) (new t : Full)
    → add p (plain new) (plain t) ≡ (to_add t p >>= λ dir. Ok (plain (add_place f p new t), Gives answer.Done))

-- so does `mkgroup`
abbrev pub AddStep : Type 0
AddStep = (s : Stack) (f : GroupAt → GroupAt) (p : List Name) (new t : Full) → plain new ≡ new_group
    → step s (plain t) (command.Mkgroup p) ≡ unless s.read_only ReadOnly
    (to_add t p >>= λ dir. Ok (plain (add_place f p new t), Gives answer.Done))

-- and `rm`
abbrev pub RemoveStep : Type 0
RemoveStep = (s : Stack) (f : GroupAt → GroupAt) (p : List Name) (t : Full)
    → step s (plain t) (command.Rm p) ≡ unless s.read_only ReadOnly
    (to_remove t p >>= λ dir. Ok (plain (remove_place f p t), Gives answer.Done))

-- ---- the tree of places

-- both are another group at the path's parent
abbrev pub AddThere : Type 0
AddThere = (f : GroupAt → GroupAt) (p : List Name) (new t : Full) (g : GroupAt) (ls : FullLinks)
    → walk t (dir_of p) ≡ Ok (Group g ls)
    → add_place f p new t ≡ edit (dir_of p) (λ _. Group (f g) (insert ls (last_of p) new)) t

abbrev pub RemoveThere : Type 0
RemoveThere = (f : GroupAt → GroupAt) (p : List Name) (t : Full) (g : GroupAt) (ls : FullLinks)
    → walk t (dir_of p) ≡ Ok (Group g ls)
    → remove_place f p t ≡ edit (dir_of p) (λ _. Group (f g) (remove ls (last_of p))) t

-- the root stays a group
abbrev pub RootStays : Type 0
RootStays = (f : GroupAt → GroupAt) (p : List Name) (new : Full) (g : GroupAt) (ls : FullLinks)
    → ((h : GroupAt) × (ks : FullLinks) × (add_place f p new (Group g ls) ≡ Group h ks))
    × ((h : GroupAt) × (ks : FullLinks) × (remove_place f p (Group g ls) ≡ Group h ks))

-- links that have one more, and whose names ascend, are those with one more at its place
abbrev pub InsertedLinks : Type 0
InsertedLinks = (ls : FullLinks) (n : Name) (new : Full) (fs : List Found) → AreOrdered (map (λ f. f.name) fs)
    → IsOneMore (record { name = n; target = target_of new }) (founds ls) fs → fs ≡ founds (insert ls n new)

-- links that have one fewer, which had this name, are those without it
abbrev pub RemovedLinks : Type 0
RemovedLinks = (ls : FullLinks) (n : Name) (old : Found) (fs : List Found) → AreOrdered (names ls) → old.name ≡ n
    → IsOneMore old fs (founds ls) → fs ≡ founds (remove ls n)

-- ---- the tree that is kept

-- a new group without links is the new place of its node
abbrev pub NewGroupPlace : Type 0
NewGroupPlace = (key at len tree heap : ℕ) (index : List Block)
    → Matches (single key (node.Group at tree heap)) (Group (group_at at len tree heap index) Empty)

-- the same is found in trees that match
abbrev pub MatchesWalk : Type 0
MatchesWalk = (p : List Name) (k : Keyed) (t : Full) → Matches k t → Agrees (walk k p) (walk t p)

abbrev pub MatchesToAdd : Type 0
MatchesToAdd = (p : List Name) (k : Keyed) (t : Full) → Matches k t → Agrees (to_add k p) (to_add t p)

abbrev pub MatchesToRemove : Type 0
MatchesToRemove = (p : List Name) (k : Keyed) (t : Full) → Matches k t → Agrees (to_remove k p) (to_remove t p)

-- and they match after an edit that matches
abbrev pub MatchesEdit : Type 0
MatchesEdit = (p : List Name) (h : Keyed → Keyed) (f : Full → Full) (k : Keyed) (t : Full) → Matches k t
    → ((u : Keyed) (v : Full) → walk k p ≡ Ok u → walk t p ≡ Ok v → Matches u v → Matches (h u) (f v))
    → Matches (edit p h k) (edit p f t)

-- with one link more
abbrev pub MatchesAdd : Type 0
MatchesAdd = (p : List Name) (f : GroupAt → GroupAt) (k new : Keyed) (t u : Full) → Matches k t → Matches new u
    → LeavesParent f p t → Matches (add_place (λ x. x) p new k) (add_place f p u t)

-- and with one fewer
abbrev pub MatchesRemove : Type 0
MatchesRemove = (p : List Name) (f : GroupAt → GroupAt) (k : Keyed) (t : Full) → Matches k t → LeavesParent f p t
    → Matches (remove_place (λ x. x) p k) (remove_place f p t)

-- the tree of an opened file is kept
abbrev pub OpenedPlaces : Type 0
OpenedPlaces = (b : Array) (e : Bounds) (kept : ObjectTree) (o : IsOpened b e kept)
    → HasPlaces kept (Group o.root o.links)

-- a tree in which all is kept is as good
abbrev pub SameStays : Type 0
SameStays = (old new : ObjectTree) → Same old new → Stays old new

-- ---- objects and depth

-- what is kept counts the objects of the tree of places
abbrev pub PlacesCount : Type 0
PlacesCount = (kept : ObjectTree) (t : Full) → HasPlaces kept t → object_count kept ≡ objects_of t

-- what one link more makes of them
abbrev pub AddLimits : Type 0
AddLimits = (f : GroupAt → GroupAt) (p : List Name) (new t : Full) (g : GroupAt) (ls : FullLinks)
    → walk t (dir_of p) ≡ Ok (Group g ls)
    → (objects_of (add_place f p new t) ≡ objects_of t + objects_of new)
    × (depth_to (add_place f p new t) ≡ max (depth_to t) (length (dir_of p) + (depth_to new + 1)))

-- and one fewer
abbrev pub RemoveLimits : Type 0
RemoveLimits = (f : GroupAt → GroupAt) (p : List Name) (t old : Full) (g : GroupAt) (ls : FullLinks)
    → walk t (dir_of p) ≡ Ok (Group g ls) → find ls (last_of p) ≡ Some old
    → (objects_of (remove_place f p t) + objects_of old ≡ objects_of t)
    × (depth_to (remove_place f p t) ≤ depth_to t)

-- ---- headers and heaps within their limits

-- A header is as short in other bytes that agree on its blocks.
abbrev pub ShortStays : Type 0
ShortStays = (b c : Array) (at : ℕ) (prefix : Prefix) (parts : List Part) → IsHeader b at prefix parts
    → Agree b c (header_blocks at prefix parts) → IsShort b at → IsShort c at

-- So an object with all below it stays within the limits, where its blocks stay.
abbrev pub FitsFrame : Type 0
FitsFrame = (b c : Array) (ks : Ks) (t : Full) → IsHeld b ks t → Agree b c (blocks_of t) → Fits b t → Fits c t

-- and a tree with another object at the end of a path, where all beside it stays
abbrev pub FitsEdit : Type 0
FitsEdit = (b c : Array) (ks : Ks) (p : List Name) (t u v : Full) → walk t p ≡ Ok u → IsHeld b ks t
    → Agree b c (beside p t) → Fits b t → Fits c v → Fits c (edit p (λ _. v) t)

-- links with one more, and with one fewer
abbrev pub FitLinks : Type 0
FitLinks = (b : Array) (ls : FullLinks) (n : Name) (t : Full) → AllFit b ls
    → (Fits b t → AllFit b (insert ls n t)) × AllFit b (remove ls n)
