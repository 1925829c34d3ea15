use Rattle.std.proofs.Common.{ap, ◌∙◌}
use Rattle.outside.specs.Array.{bytes_of}
use Rattle.file_model.specs.EditLaws.{end_place}
use Rattle.end_fields.proofs.Told.{spelled_read}
use Rattle.end_fields.proofs.field.told_end.Goals as goal

pub returns-clause-spelled : goal.returns-clause-spelled
returns-clause-spelled g c = λ told.
    let array = (g.V.Space.view c.args.blocks.now.space).array in
    spelled_read array (end_place c.args.version) c.read.new.out c.number_of.result
    (c.in_ok-read.ensures.bytes told ∙ ap (λ at. bytes_of array at 8) c.end_range.ensures.start)
    c.number_of.ensures.number c.number_of.ensures.spelled c.number_of.type_inv
