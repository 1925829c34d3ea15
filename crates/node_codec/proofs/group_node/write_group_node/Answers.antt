use Rattle.std.proofs.Common.{◌≡◌, ℕ, length, map, replicate, refl, ap, ◌∙◌}
use Rattle.h5_base.specs.Fields.{Puts}
use Rattle.h5_base.proofs.FieldLemmas.{puts_more}
use Rattle.node_codec.specs.Cells.{woven}
use Rattle.node_codec.specs.TreeHead.{tree_head}
use Rattle.node_codec.specs.GroupNodes.{group_node_bytes, group_node_len}
use Rattle.node_codec.proofs.NodeLemmas.{number}
use Rattle.node_codec.proofs.PutLemmas.{puts-padded}
use Rattle.node_codec.proofs.GroupLemmas.{group-spelled}
use Rattle.node_codec.proofs.group_node.write_group_node.Goals as goal

pub returns-clause-bytes : goal.returns-clause-bytes
unfolding group_node_bytes
returns-clause-bytes c =
    let n = c.args.n.now in
    let zeros : c.fill.new.self ≡ replicate {A = ℕ} (group_node_len c.args.k) 0 =
    c.fill.ensures.after (λ y e. e) ∙ ap (λ m. replicate {A = ℕ} m 0) c.requires.room in
    let head : Puts c.fill.new.self c.put_tree_head.new.out 0 (tree_head 0 n.level (length n.children) n.left n.right) =
    rw (← c.len.ensures) c.put_tree_head.ensures.put in
    let links : Puts c.put_tree_head.new.out c.put_links.new.out 24 (woven (map number n.keys) (map number n.children)) =
    rw (← c.as_slice.ensures, ← c.as_slice-2.ensures) c.put_links.ensures.put in
    let all = puts_more _ _ _ 0 24 _ _ refl head links in
    puts-padded (group_node_len c.args.k) c.put_links.new.out _ (rw zeros at all)

pub returns-clause-spelled : goal.returns-clause-spelled
returns-clause-spelled c =
    let r = c.requires in
    let keys = rw c.as_slice.ensures at c.put_links.ensures.keys in
    let children = rw c.as_slice-2.ensures at c.put_links.ensures.children in
    rw (returns-clause-bytes c)
    (group-spelled c.args.k c.args.n.now r.k r.counts c.put_tree_head.ensures.left c.put_tree_head.ensures.right keys children)
