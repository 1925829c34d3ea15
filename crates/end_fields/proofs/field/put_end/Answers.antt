use Rattle.std.proofs.Common.{OnErr, true, false, ◌≡◌, ◌∙◌, sym, subst, refl}
use Rattle.outside.specs.Array.{SameOutside}
use Rattle.outside.specs.Causes.{Counts}
use Rattle.outside.specs.Space.{HasCauses, SpaceView}
use Rattle.file_model.specs.EditLaws.{end_place}
use Rattle.end_fields.specs.Field.{IsTold, PutsEnd}
use Rattle.end_fields.proofs.Told.{both_ok, puts_none, puts_one}
use Rattle.end_fields.proofs.field.put_end.Goals as goal

pub returns-in-Ok-true-clause-puts : goal.returns-in-Ok-true-clause-puts
returns-in-Ok-true-clause-puts g c = λ told.
    let v = g.V.Space.view c.args.blocks.now.space in
    let w = g.V.Space.view c.tells_end.new.blocks.space in
    let h = c.in-Ok-true.ensures in
    let test = c.in-Ok-true.field-0-test in
    puts_none c.args.version v w (g.met.V.Space.alike _ _ h.alike) ((h.told told).0 test) (h.spelled told)

pub returns-in-Ok-false-clause-puts : goal.returns-in-Ok-false-clause-puts
returns-in-Ok-false-clause-puts g c = λ told.
    let v = g.V.Space.view c.args.blocks.now.space in
    let m = g.V.Space.view c.tells_end.new.blocks.space in
    let w = g.V.Space.view c.write_end.new.blocks.space in
    let h = c.in-Ok-false.ensures in
    let test = c.in-Ok-false.field-0-test in
    both_ok c.write_end.result _ _ (PutsEnd c.args.version v w) (puts_one c.args.version v m w
    (g.met.V.Space.alike _ _ h.alike) (λ right. let no : true ≡ false = sym ((h.told told).1 right) ∙ test in cc))
    (c.write_end.ensures.tells told) c.write_end.ensures.pages

pub returns-in-Ok-false-clause-told_main : goal.returns-in-Ok-false-clause-told_main
returns-in-Ok-false-clause-told_main g c = λ told main.
    subst (λ (u : SpaceView). IsTold c.args.version u (g.V.Space.view c.write_end.new.blocks.space).array)
    (sym (g.met.V.Space.alike _ _ c.in-Ok-false.ensures.alike)) (c.write_end.ensures.told_main told main)

pub returns-in-Ok-false-clause-in_part : goal.returns-in-Ok-false-clause-in_part
returns-in-Ok-false-clause-in_part g c = λ told.
    subst (λ (u : SpaceView). OnErr c.write_end.result (SameOutside (end_place c.args.version) 8 u.array
    (g.V.Space.view c.write_end.new.blocks.space).array))
    (sym (g.met.V.Space.alike _ _ c.in-Ok-false.ensures.alike)) (c.write_end.ensures.in_part told)

pub returns-in-Ok-false-clause-cause : goal.returns-in-Ok-false-clause-cause
returns-in-Ok-false-clause-cause g c =
    subst (λ (copy : Counts). HasCauses {T = Unit {0}} (g.V.Space.faults c.args.blocks.now.space)
    (g.V.Space.faults c.write_end.new.blocks.space) copy (g.V.Space.copy_faults c.write_end.new.blocks.space)
    c.write_end.result) (g.met.V.Space.alike_copy _ _ c.in-Ok-false.ensures.alike)
    (subst (λ (counts : Counts). HasCauses {T = Unit {0}} counts (g.V.Space.faults c.write_end.new.blocks.space)
    (g.V.Space.copy_faults c.tells_end.new.blocks.space) (g.V.Space.copy_faults c.write_end.new.blocks.space)
    c.write_end.result) c.in-Ok-false.ensures.calm c.write_end.ensures.cause)

pub returns-in-Err-clause-cause : goal.returns-in-Err-clause-cause
returns-in-Err-clause-cause g c = record {
  failed = λ is. c.in-Err.ensures.failed;
  copy_failed = λ is. absurd cc;
  calm = λ no. absurd (no refl);
  copy_calm = λ no. g.met.V.Space.alike_copy _ _ c.in-Err.ensures.alike;
}
