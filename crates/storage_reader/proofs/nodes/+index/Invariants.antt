use Rattle.std.proofs.Common.{◌≡◌, ◌+◌, ◌*◌, List, IsTrue}
use Rattle.outside.specs.Blocks.{Block}
use Rattle.block_space.specs.Blocks.{Keeps, Takes, array_of, space_of}
use Rattle.storage_reader.specs.Ends.{Spans}
use Rattle.storage_reader.specs.Nodes.{child_at, refused_child}
use Rattle.storage_reader.proofs.Children.{AreRead}
use Rattle.storage_reader.proofs.nodes.+index.Given as goal

-- in each level the node, its children, and the loop over them
abbrev pub decreases-adopt_children : goal.decreases-adopt_children
decreases-adopt_children g l = 3 * l.node.now.level + 1

abbrev pub decreases-adopt_node : goal.decreases-adopt_node
decreases-adopt_node g l = 3 * l.level + 2

abbrev pub decreases-adopt_nodes : goal.decreases-adopt_nodes
decreases-adopt_nodes g l = 3 * l.node.now.level

abbrev pub invariant-adopt_nodes-loop-i : goal.invariant-adopt_nodes-loop-i
invariant-adopt_nodes-loop-i g l = record {
  read : IsTrue g.V.Space.tells → Takes g.V.Space.view l.initial.blocks l.blocks
      (Spans (AreRead (child_at (array_of g.V.Space.view l.initial.blocks) l.form l.node.level) (refused_child (array_of g.V.Space.view l.initial.blocks) l.form l.node.level l.fn.at) l.fn.at l.node l.i) l.before);
  alike : g.V.Kept.Alike (space_of l.initial.blocks) (space_of l.blocks);
  listed : (met : List Block) × Keeps g.V.Space.view l.blocks met;
  calm : g.V.Space.faults (space_of l.blocks) ≡ g.V.Space.faults (space_of l.initial.blocks);
}
