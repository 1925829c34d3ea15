use Rattle.std.proofs.Common.{ℕ, List, length, ◌∙◌, subst}
use Rattle.outside.specs.Array.{over}
use Rattle.outside.specs.Space.{TellsWritten}
use Rattle.outside.specs.Revisions.{IsLogicalEnd}
use Rattle.block_space.proofs.Stopped.{on_ok_then}
use Rattle.block_space.proofs.Pages.{tells_one}
use Rattle.end_fields.specs.Field.{TellsEnd}
use Rattle.end_fields.proofs.Told.{main_over, tells_over}
use Rattle.end_fields.proofs.field.write_end.Goals as goal

pub returns-clause-tells : goal.returns-clause-tells
returns-clause-tells g c = λ told.
    let v = g.V.Space.view c.args.blocks.now.space in
    let w = g.V.Space.view c.patch.new.self.space in
    on_ok_then c.patch.result _ (TellsEnd c.args.version v w) (λ done. tells_over c.args.version
    c.logical_end-end.result v w c.logical_end-end.type_inv
    (subst (λ s. IsLogicalEnd (g.V.Space.view s).regions (g.V.Space.view s).ends c.logical_end-end.result)
    c.space.ensures c.logical_end-end.ensures)
    ((done.wrote told).array ∙ (λ i. over v.array (c.end_range.ensures.start i) (c.to_le_bytes.ensures i)))
    (done.wrote told).history) c.patch.ensures.done

pub returns-clause-told_main : goal.returns-clause-told_main
returns-clause-told_main g c = λ told main.
    let v = g.V.Space.view c.args.blocks.now.space in
    let w = g.V.Space.view c.patch.new.self.space in
    main_over c.args.version c.logical_end-end.result v w c.logical_end-end.type_inv
    (subst (λ s. IsLogicalEnd (g.V.Space.view s).regions (g.V.Space.view s).ends c.logical_end-end.result)
    c.space.ensures c.logical_end-end.ensures)
    (c.patch.ensures.wrote_main told main
    ∙ (λ i. over v.array (c.end_range.ensures.start i) (c.to_le_bytes.ensures i)))

pub returns-clause-pages : goal.returns-clause-pages
returns-clause-pages g c =
    let v = g.V.Space.view c.args.blocks.now.space in
    let w = g.V.Space.view c.patch.new.self.space in
    on_ok_then c.patch.result _ _ (λ done. tells_one _ _ v.committed w.committed
    (subst (λ at. TellsWritten at 8 v.committed w.committed) c.end_range.ensures.start
    (subst (λ (bs : List ℕ). TellsWritten c.end_range.result.start (length bs) v.committed w.committed)
    c.to_le_bytes.ensures done.pages))) c.patch.ensures.done
