use Rattle.std.proofs.Common.{◌≡◌, rules, subst}
use Rattle.dtype.specs.Shapes.{AreU64s, shape_bytes}
use Rattle.dtype.proofs.ShapeLaws.{shape_spelled}
use Rattle.dtype.proofs.shape_codec.write_shape.Goals as goal

pub returns-clause-spelled : goal.returns-clause-spelled
returns-clause-spelled c h rest =
    let is : c.from_vec.result ≡ shape_bytes c.args.shape.now = search rules in
    let fit : AreU64s c.args.shape.now.dims = subst AreU64s c.as_slice-sizes.ensures c.append_sizes.ensures.fit in
    rw is (shape_spelled c.args.shape.now h fit c.append_max.ensures.fit rest)
