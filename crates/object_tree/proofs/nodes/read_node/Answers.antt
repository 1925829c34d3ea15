use Rattle.std.proofs.Common.{ap, arith}
use Rattle.outside.proofs.Causes.{one_later}
use Rattle.outside.specs.Space.{SpaceView}
use Rattle.block_space.specs.Blocks.{space_of}
use Rattle.header_reader.specs.declared.reading.Header.TheVariants as header
use Rattle.object_tree.proofs.NodesFound.{later_found, all_header_refused, node_after, refused_after, found_as}
use Rattle.object_tree.proofs.nodes.read_node.Goals as goal

pub returns-in-Ok-Later-clause-found : goal.returns-in-Ok-Later-clause-found
returns-in-Ok-Later-clause-found g c = λ told met keeps.
    let b = (g.V.Space.view (space_of c.args.blocks.now)).array in
    let f = found_as g.V.Space.view c.args.blocks.now _ b c.args.at c.in-Ok-Later.field-0 header.Later
    c.in-Ok-Later.field-0-is (c.in-Ok-Later.ensures.found told) met keeps in
    (f.0, later_found b c.args.ks c.args.at f.0 f.1, f.2)

pub returns-in-Ok-clause-found : goal.returns-in-Ok-clause-found
returns-in-Ok-clause-found g c = λ told.
    let same = ap (λ (v : SpaceView). v.array) (g.met.V.Space.alike _ _ c.in-Ok-Known.ensures.alike) in
    let first = found_as g.V.Space.view c.args.blocks.now _ _ c.args.at c.in-Ok-Known.field-0
    (header.Known c.in-Ok-Known.node) c.in-Ok-Known.field-0-is (c.in-Ok-Known.ensures.found told) in
    node_after g.V.Space.view c.args.blocks.now _ _ _ _ c.args.ks c.args.at c.in-Ok-Known.node same first
    (c.in-Ok.ensures.found told)

pub returns-in-Err-adopt_data-clause-refused : goal.returns-in-Err-adopt_data-clause-refused
returns-in-Err-adopt_data-clause-refused g c = λ told.
    let same = g.met.V.Space.alike _ _ c.in-Ok-Known.ensures.alike in
    let first = found_as g.V.Space.view c.args.blocks.now _ _ c.args.at c.in-Ok-Known.field-0
    (header.Known c.in-Ok-Known.node) c.in-Ok-Known.field-0-is (c.in-Ok-Known.ensures.found told) in
    refused_after g.V.Space.view c.args.blocks.now _ _ _ c.args.ks c.args.at c.args.objects c.in-Ok-Known.node
    c.in-Err-adopt_data.stop same (omega (arith, c.if-objects-ge-MOST_OBJECTS.false)) first (c.in-Err-adopt_data.ensures.refused told)

pub returns-in-Err-clause-refused : goal.returns-in-Err-clause-refused
returns-in-Err-clause-refused g c = λ told levels met own keeps.
    all_header_refused _ _ _ c.args.ks levels c.args.objects c.args.at met c.in-Err.stop
    (omega (arith, c.if-objects-ge-MOST_OBJECTS.false)) (c.in-Err.ensures.refused told met own keeps)
