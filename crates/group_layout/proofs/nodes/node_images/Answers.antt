use Rattle.std.proofs.Common.{ℕ, ◌<◌, List, ◌++◌, [], ◌∷◌, length, take, map, get_or, arith, sym, ap, ◌∙◌}
use Rattle.std.proofs.lemmas.List.{take_more, map_push, map_more}
use Rattle.outside.specs.Blocks.{Block}
use Rattle.node_codec.specs.declared.group_node.GroupNode.{GroupNode}
use Rattle.file_model.specs.Groups.{node_block}
use Rattle.plan_pieces.specs.Images.{image_block}
use Rattle.group_layout.proofs.ImageLemmas.{node_image_block, node_image_more}
use Rattle.group_layout.proofs.nodes.node_images.Goals as goal

pub loop-i-preserved : goal.loop-i-preserved
loop-i-preserved c =
    let ks = c.args.ks in
    let ats = c.args.ats.now in
    let nodes = c.args.nodes.now in
    let i = c.loop-i.i in
    let before = c.loop-i.images.items in
    let image = c.in_ok-image.image in
    let lt : i < length nodes = c.loop-i-test.true in
    let has : i < length ats = omega arith in
    let at : ℕ = get_or ats i 0 in
    let node : GroupNode = c.index-nodes-i.result in
    let items = c.in-Ok.ensures.items in
    let block = node_image_block ks at node image c.in_ok-image.ensures in
    record {
      blocks = ap (map image_block) items ∙ map_push image_block before image
          ∙ ap (λ (b : Block). map image_block before ++ b ∷ []) block
          ∙ ap (λ (l : List Block). l ++ node_block ks at ∷ []) c.loop-i.invariant.blocks
          ∙ sym (map_more (node_block ks) ats i 0 has);
      spelled = λ b h.
          let more = node_image_more b ks before (take i ats) (take i nodes) at node image c.in_ok-image.ensures
          (c.loop-i.invariant.spelled b) (rw items at h) in
          rw (take_more ats i 0 has, take_more nodes i node lt, sym c.index-nodes-i.is) more;
    }
