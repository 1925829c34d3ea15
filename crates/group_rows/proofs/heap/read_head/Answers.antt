use Rattle.std.proofs.Common.{◌∙◌, refl}
use Rattle.block_space.specs.Blocks.{array_of}
use Rattle.group_rows.proofs.NodeLemmas.{adds_head}
use Rattle.group_rows.proofs.heap.read_head.Goals as goal

pub returns-in_ok-keep-in-Some-clause-adds : goal.returns-in_ok-keep-in-Some-clause-adds
returns-in_ok-keep-in-Some-clause-adds g c = λ told.
    adds_head (array_of g.V.Space.view c.args.blocks.now) c.args.at c.from_vec-bytes.result c.args.gathered.now _
    (c.from_vec-bytes.ensures ∙ c.in_ok-bytes.ensures.bytes told) c.in_ok-keep-in-Some.ensures.kept refl refl
