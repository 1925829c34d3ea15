-- The file after an edit of one group: it holds the tree with one place more or fewer.
-- Each law is the clause of a small public function of this crate.
use Rattle.std.specs.Prelude.{◌≡◌, List, Ok}
use Rattle.outside.specs.Array.{Array}
use Rattle.outside.specs.Blocks.{Bounds, Agree, AreKept}
use Rattle.super_codec.specs.declared.superblock.Superblock.{Superblock}
use Rattle.object_model.specs.Tree.{Group, Name, walk, insert, remove, dir_of, last_of}
use Rattle.file_model.specs.EditLaws.{AreApartFrom, file_beside}
use Rattle.file_model.specs.Holds.{Full, FullLinks, GroupAt, HoldsFull, IsHeld, blocks_of, ks_of}
use Rattle.file_model.specs.Laws.{Rises}
use Rattle.tree_places.specs.Places.{add_place, remove_place}
use Rattle.tree_places.specs.Kept.{IsSameGroup}

-- Other bytes hold this group with all below it; the bytes of all blocks beside those of what a path leads to stay, and
-- the group's own are apart from them.
pub record IsGroupEdit (b c : Array) (e f : Bounds) (s : Superblock) (g : GroupAt) (ls : FullLinks)
    (h : HoldsFull b e s g ls) (dir : List Name) (group : Full) : Type 0 where
  pub held : IsHeld c (ks_of s) group
  pub rises : Rises e f
  pub stays : Agree b c (file_beside s h.driver dir (Group g ls))
  pub kept : AreKept f (blocks_of group)
  pub apart : AreApartFrom (blocks_of group) (file_beside s h.driver dir (Group g ls))

-- the bytes and ends hold this tree of places
abbrev pub HoldsPlaces : Array → Bounds → Superblock → Full → Type 0
HoldsPlaces c f s t = (g : GroupAt) × (ls : FullLinks) × (t ≡ Group g ls) × HoldsFull c f s g ls

-- where the path's parent has one link more in them, the tree with one place more is held
abbrev pub AddHeld : Type 0
AddHeld = (b c : Array) (e f : Bounds) (s : Superblock) (g old now : GroupAt) (ls below : FullLinks) (p : List Name)
    (new : Full) (h : HoldsFull b e s g ls)
    → walk (Group g ls) (dir_of p) ≡ Ok (Group old below) → IsSameGroup now old
    → IsGroupEdit b c e f s g ls h (dir_of p) (Group now (insert below (last_of p) new))
    → HoldsPlaces c f s (add_place (λ _. now) p new (Group g ls))

-- and where it has one link fewer, the tree with one place fewer
abbrev pub RemoveHeld : Type 0
RemoveHeld = (b c : Array) (e f : Bounds) (s : Superblock) (g old now : GroupAt) (ls below : FullLinks) (p : List Name)
    (h : HoldsFull b e s g ls)
    → walk (Group g ls) (dir_of p) ≡ Ok (Group old below) → IsSameGroup now old
    → IsGroupEdit b c e f s g ls h (dir_of p) (Group now (remove below (last_of p)))
    → HoldsPlaces c f s (remove_place (λ _. now) p (Group g ls))
