-- What one link more or one fewer at the end of a path makes of a tree, and why it is refused.
-- Over any tree: the tree of objects, the tree of places, and the tree with keys. Cited by what edits an opened file.
use Rattle.std.specs.Prelude.{Bool, true, false, List, is_some, Result, Ok, Err, if◌then◌else◌}
use Rattle.object_model.specs.declared.answer.Code.{Code}
use Rattle.object_model.specs.declared.answer.Code.TheVariants.{NotGroup, Exists, NotEmpty}
use Rattle.object_model.specs.Tree.{Tree, Group, Leaf, Links, Empty, Link, Name, find, child, walk, edit, insert}
use Rattle.object_model.specs.Tree.{remove, dir_of, last_of, ◌>>=◌}

-- the group with f done to what it carries, and h to its links
abbrev pub regroup : {G L : Type 0} → (G → G) → (Links G L → Links G L) → Tree G L → Tree G L
regroup f h (Group g ls) = Group (f g) (h ls)
regroup f h (Leaf l) = Leaf l

-- One more link, of the path's last name, at its place among those of its parent; f is done to what the parent carries.
abbrev pub add_place : {G L : Type 0} → (G → G) → List Name → Tree G L → Tree G L → Tree G L
add_place f p new t = edit (dir_of p) (regroup f (λ ls. insert ls (last_of p) new)) t

-- One link fewer, the one of the path's last name; f is done to what its parent carries.
abbrev pub remove_place : {G L : Type 0} → (G → G) → List Name → Tree G L → Tree G L
remove_place f p t = edit (dir_of p) (regroup f (λ ls. remove ls (last_of p))) t

-- ---- refusals

abbrev pub has_children : {G L : Type 0} → Tree G L → Bool
has_children (Group g Empty) = false
has_children (Group g (Link n t ls)) = true
has_children (Leaf l) = false

-- this group, where it has no link of the name
abbrev pub lacking : {G L : Type 0} → Tree G L → Name → Result (Tree G L) Code
lacking (Group g ls) n = if is_some (find ls n) then Err Exists else Ok (Group g ls)
lacking (Leaf l) n = Err NotGroup

-- this group, where its link of the name leads to what has no links
abbrev pub loosely : {G L : Type 0} → Tree G L → Name → Result (Tree G L) Code
loosely t n = child t n >>= λ old. if has_children old then Err NotEmpty else Ok t

-- the parent to which a path's last name can be added, or the first refusal
abbrev pub to_add : {G L : Type 0} → Tree G L → List Name → Result (Tree G L) Code
to_add t p = walk t (dir_of p) >>= λ dir. lacking dir (last_of p)

-- the parent from which a path's last name can be removed, or the first refusal
abbrev pub to_remove : {G L : Type 0} → Tree G L → List Name → Result (Tree G L) Code
to_remove t p = walk t (dir_of p) >>= λ dir. loosely dir (last_of p)
