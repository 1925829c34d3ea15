use Rattle.std.proofs.Common.{◌≡◌, take, map}
use Rattle.outside.specs.Array.{Array}
use Rattle.file_model.specs.Groups.{node_block}
use Rattle.plan_pieces.specs.Images.{HaveImages, image_blocks}
use Rattle.group_layout.specs.Nodes.{AreNodesSpelled}
use Rattle.group_layout.proofs.nodes.node_images.Given as goal

abbrev pub invariant-loop-i : goal.invariant-loop-i
invariant-loop-i l = record {
  blocks : image_blocks l.images.items ≡ map (node_block l.ks) (take l.i l.ats);
  spelled : (b : Array) → HaveImages b l.images.items → AreNodesSpelled b l.ks (take l.i l.ats) (take l.i l.nodes);
}
