use Rattle.std.proofs.Common.{◌≡◌, ◌≤◌, length, take, drop, map}
use Rattle.outside.specs.Array.{Array}
use Rattle.file_model.specs.Groups.{leaf_block}
use Rattle.plan_pieces.specs.Images.{HaveImages, image_blocks}
use Rattle.group_layout.specs.Leaves.{AreLeavesSpelled}
use Rattle.group_layout.proofs.leaves.leaf_images.Given as goal

abbrev pub invariant-loop-at : goal.invariant-loop-at
invariant-loop-at l = record {
  inside : l.from ≤ length l.entries;
  blocks : image_blocks l.images.items ≡ map (leaf_block l.ks) (take l.at-index l.ats);
  spelled : (b : Array) → HaveImages b l.images.items
      → AreLeavesSpelled b l.ks (drop l.at-index l.ats) (drop l.from l.entries) → AreLeavesSpelled b l.ks l.ats l.entries;
}
