-- A file in which one group has another index, and what is known of the space around it.
-- Cited by the laws of lines that make a link more or fewer.
use Rattle.std.specs.Prelude.{◌≡◌, List, ◌++◌, Ok}
use Rattle.std.specs.List.Sorted.{IsPermutation}
use Rattle.outside.specs.Array.{Array}
use Rattle.outside.specs.Blocks.{Block, Bounds, Agree, AreKept}
use Rattle.object_model.specs.Tree.{Group, Name, walk}
use Rattle.super_codec.specs.declared.superblock.Superblock.{Superblock}
use Rattle.file_model.specs.EditLaws.{file_beside}
use Rattle.file_model.specs.Groups.{HasLinks}
use Rattle.file_model.specs.Headers.{header_blocks}
use Rattle.file_model.specs.Holds.{AreHeld, Full, FullLinks, GroupAt, HoldsFull, IsGroup, blocks_in, blocks_of, founds, ks_of}
use Rattle.file_model.specs.Laws.{Rises, all_blocks}

-- The group at the end of a path has other links in other bytes, by the same B-tree and heap. Its index has the blocks
-- that it had, and some of those that were taken; some are gone. All blocks of the file but those of its index stay.
pub record IsIndexEdit (b c : Array) (e f : Bounds) (s : Superblock) (g : GroupAt) (ls : FullLinks)
    (h : HoldsFull b e s g ls) (dir : List Name) (old : GroupAt) (below after : FullLinks)
    (taken gone : List Block) : Type 0 where
  pub walked : walk (Group g ls) dir ≡ Ok (Group old below)
  pub was : IsGroup b (ks_of s) old (founds below)
  pub changed : List Block
  pub now : HasLinks c (ks_of s) old.tree_at old.heap_at (founds after) changed
  pub rest : AreHeld c (ks_of s) after
  pub blocks : IsPermutation (changed ++ (blocks_in after ++ gone)) (was.index ++ (blocks_in below ++ taken))
  pub rises : Rises e f
  pub kept : AreKept f (all_blocks s h.driver (Group g ls) ++ taken)
  pub header : Agree b c (header_blocks old.header_at was.prefix was.parts)
  pub stays : Agree b c (file_beside s h.driver dir (Group g ls))
