use Rattle.std.proofs.Common.{◌++◌, ℕ, List, Result, Ok, Err, OnErr, sym, ap, subst, ◌∙◌, inl, inr, arith, refl, not}
use Rattle.std.proofs.lemmas.Bool.Decides.{nat_tests}
use Rattle.std.specs.List.{Contains}
use Rattle.script_lines.specs.Lines.{Reading}
use Rattle.script_lines.specs.declared.reader.ReadStop.TheVariants.{Failed, Limit}
use Rattle.script_lines.proofs.LineLemmas.{Begun, more, filled, line_next, stopped, at_end, length-parts, no_stop}
use Rattle.script_lines.proofs.reader.LineReader.next.Goals as goal
use Rattle.script_lines.proofs.reader.LineReader.next.Goals.{then-is_empty, else-is_empty}

on_err : {T E : Type 0} (r : Result T E) (P : Type 0) → P → OnErr r P
on_err (Ok x) P p = tt
on_err (Err e) P p = p

pub returns-then-take_line-clause-next : goal.returns-then-take_line-clause-next
returns-then-take_line-clause-next g c = λ told.
    let e = c.if-take_line.ensures.ended refl in
    line_next _ _ _ _ _ _ e.0 _ c.loop-self.invariant.begun e.1 e.2 e.3 told

pub returns-in_err-fill-clause-stopped : goal.returns-in_err-fill-clause-stopped
returns-in_err-fill-clause-stopped g c = λ told.
    let rest = c.if-take_line.ensures.open refl in
    let b = more _ _ _ _ _ _ c.loop-self.invariant.begun rest.0 rest.2 in
    on_err _ _ (stopped _ _ _ _ c.fill.new.self.held (g.I.Source.left c.fill.new.source) b told (c.fill.ensures.bytes told) c.in_err-fill.ensures.stopped)

pub returns-then-not-branch-clause-next : goal.returns-then-not-branch-clause-next
returns-then-not-branch-clause-next g c = λ told.
    let rest = c.if-take_line.ensures.open refl in
    let b = more _ _ _ _ _ _ c.loop-self.invariant.begun rest.0 rest.2 in
    let f = filled _ _ _ _ c.fill.new.self.held (g.I.Source.left c.fill.new.source) b c.fill.ensures.bytes in
    let inside = c.self-in-loop-self.inside in
    let none = sym (c.fill.ensures.bytes told) ∙ c.fill.ensures.end told (c.in_ok-fill.was ∙ (cc)) in
    elim c.if-is_empty.branch [
      | then-is_empty w ↦ at_end _ _ _ _ _ _ inside.line.items c.if-is_empty.result f told none c.fill.ensures.line (ap (λ (r : Reading). r.line) c.self-in-loop-self.view_is) (inl (w.result-is, grind (arith, nat_tests, inside.line.ok.0, w.if-is_empty.true, c.is_empty.ensures)))
      | else-is_empty w ↦ at_end _ _ _ _ _ _ inside.line.items c.if-is_empty.result f told none c.fill.ensures.line (ap (λ (r : Reading). r.line) c.self-in-loop-self.view_is) (inr (w.result-is, grind (arith, nat_tests, inside.line.ok.0, w.if-is_empty.false, c.is_empty.ensures)))
    ]

pub loop-self-preserved : goal.loop-self-preserved
loop-self-preserved g c =
    let rest = c.if-take_line.ensures.open refl in
    let b = more _ _ _ _ _ _ c.loop-self.invariant.begun rest.0 rest.2 in
    let left = g.I.Source.left in
    let i = c.loop-self.invariant in
    let none = λ (has : Contains c.args.self.now.held 10). rest.0 (subst (λ (l : List ℕ). Contains l 10) (sym (i.held has)) has) in
    record {
      begun = subst (λ (l : List ℕ). Begun g.I.Source.tells l c.fill.new.self.held (left c.fill.new.source) (c.args.self.now.held ++ left c.args.source.now)) (sym c.fill.ensures.line)
          (filled _ _ _ _ c.fill.new.self.held (g.I.Source.left c.fill.new.source) b c.fill.ensures.bytes);
      counted = λ told.
          let parts = length-parts (left c.loop-self.source) c.fill.new.self.held (left c.fill.new.source) (c.fill.ensures.bytes told) in
          omega (arith, i.counted told, parts, c.fill.ensures.taken, c.take_line.ensures.taken);
      asking = c.in_ok-fill.ensures.ended ∙ ap not c.if-not-branch.false;
      spent = omega (arith, i.spent, c.fill.ensures.taken, c.take_line.ensures.taken);
      held = λ has. absurd (none has);
      asked = λ has. absurd (none has);
      calm = c.fill.ensures.calm (no_stop c.fill.result c.in_ok-fill.field-0 Failed c.in_ok-fill.was) ∙ i.calm;
      full = λ was.
          let limit = c.fill.ensures.unasked (c.take_line.ensures.taken ∙ (i.full was).0) in
          absurd (no_stop c.fill.result c.in_ok-fill.field-0 Limit c.in_ok-fill.was limit.0);
    }
