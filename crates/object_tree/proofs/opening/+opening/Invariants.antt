use Rattle.std.proofs.Common.{◌≡◌, ◌+◌, ◌*◌, ◌≤◌, ◌++◌, List, map, IsTrue}
use Rattle.outside.specs.Blocks.{Block}
use Rattle.block_space.specs.Blocks.{Keeps, space_of}
use Rattle.file_model.specs.Holds.{FullLinks, founds, blocks_in}
use Rattle.group_reader.specs.Links.{found_of}
use Rattle.object_model.specs.Tree.{names}
use Rattle.tree_nodes.specs.Entries.{object_count}
use Rattle.tree_nodes.specs.Shown.{KeyedLinks}
use Rattle.object_tree.specs.Grown.{Grows, AreOpened}
use Rattle.object_tree.specs.Sound.{HasSoundNodes}
use Rattle.object_tree.proofs.opening.+opening.Given as goal

abbrev pub decreases-open_each : goal.decreases-open_each
decreases-open_each g l = 4 * l.place.levels + 2

abbrev pub decreases-open_link : goal.decreases-open_link
decreases-open_link g l = 4 * l.place.levels + 1

abbrev pub decreases-open_links : goal.decreases-open_links
decreases-open_links g l = 4 * l.place.levels + 3

abbrev pub decreases-open_object : goal.decreases-open_object
decreases-open_object g l = 4 * l.place.levels

abbrev pub invariant-open_each-loop-link : goal.invariant-open_each-loop-link
invariant-open_each-loop-link g l = record {
  listed : (met : List Block) × Keeps g.V.Space.view l.blocks met;
  alike : g.V.Kept.Alike (space_of l.fn.blocks) (space_of l.blocks);
  calm : g.V.Space.faults (space_of l.blocks) ≡ g.V.Space.faults (space_of l.fn.blocks);
  few : object_count l.opening.tree ≤ 65536;
  sound : HasSoundNodes l.opening.tree;
  left : l.fn.links.items ≡ l.yielded ++ l.link-iterator.rest.items;
  opened : (kls : KeyedLinks) × Grows l.fn.opening.tree l.opening.tree l.place.group.key kls × (names kls ≡ map (λ x. x.name) l.yielded)
      × (IsTrue g.V.Space.tells → (met : List Block) → Keeps g.V.Space.view l.fn.blocks met → (ls : FullLinks)
      × AreOpened (g.V.Space.view (space_of l.fn.blocks)).array l.place.ks l.place.levels kls ls
      × (founds ls ≡ map found_of l.yielded) × Keeps g.V.Space.view l.blocks (met ++ blocks_in ls));
}
