use Rattle.std.proofs.Common.{◌*◌, List, length, IfOk, ap, subst, sym, ◌∙◌}
use Rattle.std.specs.List.{All}
use Rattle.outside.specs.Array.{Array}
use Rattle.h5_base.specs.Fields.{undefined}
use Rattle.node_codec.specs.GroupNodes.{FitsGroupNode}
use Rattle.node_codec.specs.declared.group_node.GroupNode.{GroupNode}
use Rattle.plan_pieces.specs.Images.{HaveImages}
use Rattle.group_layout.specs.Nodes.{AreNodesSpelled}
use Rattle.group_layout.proofs.RowNodes.{count_nodes, nodes_fit, same_nodes}
use Rattle.group_layout.proofs.laying.row_images.Goals as goal

pub node_images-requires : goal.node_images-requires
node_images-requires c =
    let k = c.args.ks.internal in
    let below = c.args.below.now in
    let ats = c.args.ats.now in
    let level = c.args.level in
    let nodes = c.as_slice-3.ensures.value ∙ c.in_ok-nodes.ensures ∙ same_nodes level (2 * k) undefined ats _ _ _ _
    c.as_slice.ensures.value c.as_slice-2.ensures.value in
    let fit = nodes_fit k level undefined ats below.keys.items below.ats.items below.one_more in
    let count = count_nodes level (2 * k) undefined ats below.keys.items below.ats.items in
    record {
      k = c.requires;
      fit = subst (All (FitsGroupNode k)) (sym nodes) fit;
      counts = sym count ∙ sym (ap length nodes);
    }

pub returns : goal.returns
returns c =
    let k = c.args.ks.internal in
    let ats = c.args.ats.now in
    let nodes = c.as_slice-3.ensures.value ∙ c.in_ok-nodes.ensures ∙ same_nodes c.args.level (2 * k) undefined ats _ _ _ _
    c.as_slice.ensures.value c.as_slice-2.ensures.value in
    record {
      blocks = c.node_images.ensures.blocks;
      spelled = subst (λ (ns : List GroupNode). IfOk c.node_images.result (λ v. (b : Array) → HaveImages b v.items
          → AreNodesSpelled b c.args.ks ats ns)) nodes c.node_images.ensures.spelled;
    }
