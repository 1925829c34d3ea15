use Rattle.std.proofs.Common.{◌∙◌, ap, arith}
use Rattle.outside.specs.Array.{bytes_of}
use Rattle.block_space.specs.Blocks.{array_of}
use Rattle.group_rows.proofs.NodeLemmas.{node_is, adds_node}
use Rattle.group_rows.proofs.row.read_node.Goals as goal

pub returns-in_ok-keep-in-Ok-clause-found : goal.returns-in_ok-keep-in-Ok-clause-found
returns-in_ok-keep-in-Ok-clause-found g c = λ told.
    let b = array_of g.V.Space.view c.args.blocks.now in
    node_is b c.args.k c.args.at c.in-Ok.node c.deref.result.now
    (c.deref.ensures.value ∙ c.in_ok-bytes.ensures.bytes told ∙ ap (bytes_of b c.args.at) c.group_node_size.ensures)
    c.in-Ok.ensures.found

pub returns-in_ok-keep-in-Ok-clause-adds : goal.returns-in_ok-keep-in-Ok-clause-adds
returns-in_ok-keep-in-Ok-clause-adds g c = λ told.
    let b = array_of g.V.Space.view c.args.blocks.now in
    let read = c.in_ok-bytes.ensures.bytes told ∙ ap (bytes_of b c.args.at) c.group_node_size.ensures in
    adds_node b c.args.k c.args.at c.in-Ok.node c.from_vec-bytes.result c.args.gathered.now _
    (node_is b c.args.k c.args.at c.in-Ok.node c.deref.result.now (c.deref.ensures.value ∙ read) c.in-Ok.ensures.found)
    (c.from_vec-bytes.ensures ∙ read) (record {
      images = c.in_ok-keep-in-Ok.ensures.kept;
      mine = c.greatest_key.result;
      greatest = c.greatest_key.ensures;
      last = c.greater-gathered.ensures;
      left = omega (arith, c.len.ensures, c.len-in-Ok.ensures, c.if-len-gathered.true);
    })
