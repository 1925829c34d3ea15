use Rattle.std.proofs.Common.{◌≡◌, ◌++◌, ◌+◌, ◌≤◌, ℕ, List, [], Result, Ok, Err, length, sym, ap, subst, ◌∙◌, inl, inr, refl, arith}
use Rattle.std.specs.Prelude.{IfOk, OnOk}
use Rattle.std.proofs.lemmas.Bool.{false≢true}
use Rattle.std.proofs.lemmas.Result.{err_from_is_err_and}
use Rattle.object_model.specs.Step.{Plain}
use Rattle.outside.specs.Causes.{Rose}
use Rattle.script_lines.specs.Lines.{Reading}
use Rattle.script_lines.specs.declared.reader.NextLine.{NextLine}
use Rattle.script_lines.specs.declared.reader.NextLine.TheVariants.{Line, Last, End}
use Rattle.tree_answers.specs.Shown.{IsTreeOf}
use Rattle.script_run.specs.declared.stop.Ended.{Ended}
use Rattle.script_run.specs.declared.stop.Ended.TheVariants.{AllDone}
use Rattle.script_run.specs.declared.stop.ScriptStop.{ScriptStop}
use Rattle.script_run.specs.Run.{IsAnswered, IsLineAnswered}
use Rattle.script_run.proofs.RunLemmas.{SoFar, start, in_part, stopped, line_more, cut_line, cut_last, last_answered, all_answered, short_script, none_left, next_at}
use Rattle.script_run.proofs.run.answer_script.Goals as goal

-- the error that a `?` passes on
carried : (r s : Result Ended ScriptStop) (y z e : ScriptStop) → s ≡ Err z → r ≡ Err y → y ≡ z → r ≡ Err e → s ≡ Err e
carried r s y z e was is same at = was ∙ ap (λ (x : ScriptStop). Err x) (sym same) ∙ sym is ∙ at

on_ok : (r : Result Ended ScriptStop) (P : Type 0) → P → OnOk r P
on_ok (Ok e) P p = p
on_ok (Err e) P p = tt

-- what holds of an answer over each tree
for_each : (r : Result Ended ScriptStop) (Tree : Plain → Type 0) (P Q : Plain → Ended → Type 0) → ((t : Plain) → Tree t → IfOk r (P t)) → ((t : Plain) → Tree t → (e : Ended) → P t e → Q t e)
    → IfOk r (λ e. (t : Plain) → Tree t → Q t e)
for_each (Ok e) Tree P Q holds step = λ t is. step t is e (holds t is)
for_each (Err e) Tree P Q holds step = tt

-- a count that rose from a later one on
rose : (first mid now : ℕ) → first ≤ mid → Rose mid now → Rose first now
rose first mid now later h = omega (arith, later, h)

pub returns-in_default-clause-in_part : goal.returns-in_default-clause-in_part
returns-in_default-clause-in_part g c = λ told which t is.
    in_part _ t _ _ _ _ _ _ (start g.O.Sink.tells t (g.I.Source.left c.args.input.now) (g.O.Sink.written c.args.out.now)) (λ prints. refl)

pub next-requires : goal.next-requires
next-requires g c = c.loop-next.invariant.read_all

pub loop-next-init : goal.loop-next-init
loop-next-init g c = record {
  so_far = λ told t is.
      let left = g.I.Source.left c.args.input.now in
      let none : c.in-Ok.reader.held ≡ [] = ap (λ (r : Reading). r.held) c.in-Ok.ensures in
      subst (λ (l : List ℕ). SoFar g.O.Sink.tells t left (l ++ left) AllDone (g.O.Sink.written c.args.out.now) (g.O.Sink.written c.args.out.now)) (sym none) (start _ t _ _);
  counted = λ told.
      let none : c.in-Ok.reader.taken ≡ 0 = ap (λ (r : Reading). r.taken) c.in-Ok.ensures in omega arith;
  read_all = λ told is. absurd (false≢true (sym (ap (λ (r : Reading). r.ended) c.in-Ok.ensures) ∙ is));
  input_calm = refl;
  output_calm = refl;
}

pub returns-in-Err-Failed-clause-stopped : goal.returns-in-Err-Failed-clause-stopped
returns-in-Err-Failed-clause-stopped g c = λ told which t is.
    let s = c.in-Err-Failed.ensures.stopped told in
    stopped _ t _ _ _ s.0 _ _ _ (c.loop-next.invariant.so_far told t is) s.1 s.2

pub returns-in-Err-Limit-clause-stopped : goal.returns-in-Err-Limit-clause-stopped
returns-in-Err-Limit-clause-stopped g c = λ told which t is.
    let s = c.in-Err-Limit.ensures.stopped told in
    stopped _ t _ _ _ s.0 _ _ _ (c.loop-next.invariant.so_far told t is) s.1 s.2

pub returns-in_err-ended-in-Line-clause-in_part : goal.returns-in_err-ended-in-Line-clause-in_part
returns-in_err-ended-in-Line-clause-in_part g c = λ told which t is.
    let p = err_from_is_err_and c.from_residual.result c.from_residual.ensures.1 in
    let n = next_at _ Line _ c.line.result.now _ _ (c.in-Ok-next.ensures.next told) c.in-Line.is c.line.ensures in
    let s = c.loop-next.invariant.so_far told t is in
    elim which [
      | inl e ↦ cut_line _ t _ _ _ _ _ _ _ _ s n (c.answer_line.ensures.cut t is (carried _ _ _ _ _ c.in_err-ended-in-Line.was p.1 p.2 e))
      | inr e ↦ in_part _ t _ _ _ _ _ _ s (λ prints. c.answer_line.ensures.same prints (carried _ _ _ _ _ c.in_err-ended-in-Line.was p.1 p.2 e))
    ]

pub loop-next-preserved : goal.loop-next-preserved
loop-next-preserved g c = record {
  so_far = λ told t is.
      let n = next_at _ Line _ c.line.result.now _ _ (c.in-Ok-next.ensures.next told) c.in-Line.is c.line.ensures in
      line_more _ t _ _ _ _ _ _ _ _ _ (c.loop-next.invariant.so_far told t is) n (c.in_ok-ended-in-Line.ensures.answered t is);
  counted = λ told. c.next.ensures.counted told ∙ c.loop-next.invariant.counted told;
  read_all = c.next.ensures.read_all;
  input_calm = c.next.ensures.calm (λ failed. let is = c.in-Ok-next.is in cc) ∙ c.loop-next.invariant.input_calm;
  output_calm = c.in_ok-ended-in-Line.ensures.calm (λ failed. cc) ∙ c.loop-next.invariant.output_calm;
}

pub returns-in-Last-clause-answered : goal.returns-in-Last-clause-answered
returns-in-Last-clause-answered g c = λ told.
    let n = next_at _ Last _ c.line-in-Last.result.now _ _ (c.in-Ok-next.ensures.next told) c.in-Last.is c.line-in-Last.ensures in
    let counted : c.next.new.self.taken + length (g.I.Source.left c.next.new.source) ≡ length (g.I.Source.left c.args.input.now) =
    omega (arith, c.next.ensures.counted told, c.loop-next.invariant.counted told) in
    let short = short_script _ _ _ _ counted n.3 (c.next.ensures.ended (inl (c.in-Ok-next.is ∙ ap (λ (x : NextLine). Ok x) c.in-Last.is))) in
    for_each c.answer_line-in-Last.result (IsTreeOf c.args.tree.now)
    (λ t now. IsLineAnswered g.O.Sink.tells t c.line-in-Last.result.now c.loop-next.ended now (g.O.Sink.written c.loop-next.out) (g.O.Sink.written c.answer_line-in-Last.new.out))
    (λ t now. IsAnswered g.O.Sink.tells t (g.I.Source.left c.args.input.now) now (g.O.Sink.written c.args.out.now) (g.O.Sink.written c.answer_line-in-Last.new.out))
    c.answer_line-in-Last.ensures.answered
    (λ t is now a. last_answered _ t _ _ _ _ _ _ _ _ _ (c.loop-next.invariant.so_far told t is) n a short)

pub returns-in-Last-clause-read : goal.returns-in-Last-clause-read
returns-in-Last-clause-read g c = λ told.
    let n = next_at _ Last _ c.line-in-Last.result.now _ _ (c.in-Ok-next.ensures.next told) c.in-Last.is c.line-in-Last.ensures in
    on_ok c.answer_line-in-Last.result _ (none_left c.next.new.self.held _ n.3)

pub returns-in-Last-clause-in_part : goal.returns-in-Last-clause-in_part
returns-in-Last-clause-in_part g c = λ told which t is.
    let n = next_at _ Last _ c.line-in-Last.result.now _ _ (c.in-Ok-next.ensures.next told) c.in-Last.is c.line-in-Last.ensures in
    let s = c.loop-next.invariant.so_far told t is in
    elim which [
      | inl e ↦ cut_last _ t _ _ _ _ _ _ _ _ s n (c.answer_line-in-Last.ensures.cut t is e)
      | inr e ↦ in_part _ t _ _ _ _ _ _ s (λ prints. c.answer_line-in-Last.ensures.same prints e)
    ]

pub returns-in-End-clause-answered : goal.returns-in-End-clause-answered
returns-in-End-clause-answered g c = λ told t is.
    let n = next_at _ End _ c.next.new.self.line _ _ (c.in-Ok-next.ensures.next told) c.in-End.is refl in
    let counted : c.next.new.self.taken + length (g.I.Source.left c.next.new.source) ≡ length (g.I.Source.left c.args.input.now) =
    omega (arith, c.next.ensures.counted told, c.loop-next.invariant.counted told) in
    let short = short_script _ _ _ _ counted n.1 (c.next.ensures.ended (inr (c.in-Ok-next.is ∙ ap (λ (x : NextLine). Ok x) c.in-End.is))) in
    all_answered _ t _ _ _ _ _ (c.loop-next.invariant.so_far told t is) n.0 short

pub returns-in-End-clause-read : goal.returns-in-End-clause-read
returns-in-End-clause-read g c = λ told.
    let n = next_at _ End _ c.next.new.self.line _ _ (c.in-Ok-next.ensures.next told) c.in-End.is refl in
    none_left c.next.new.self.held _ n.1

pub returns-in_err-ended-in-Line-clause-stopped : goal.returns-in_err-ended-in-Line-clause-stopped
returns-in_err-ended-in-Line-clause-stopped g c = λ told which t is.
    let p = err_from_is_err_and c.from_residual.result c.from_residual.ensures.1 in
    absurd (elim which [
      | inl e ↦ c.answer_line.ensures.no_input (carried _ _ _ _ _ c.in_err-ended-in-Line.was p.1 p.2 e)
      | inr e ↦ c.answer_line.ensures.no_limit (carried _ _ _ _ _ c.in_err-ended-in-Line.was p.1 p.2 e)
    ])

pub returns-in_err-ended-in-Line-clause-input : goal.returns-in_err-ended-in-Line-clause-input
returns-in_err-ended-in-Line-clause-input g c = λ e.
    let p = err_from_is_err_and c.from_residual.result c.from_residual.ensures.1 in
    absurd (c.answer_line.ensures.no_input (carried _ _ _ _ _ c.in_err-ended-in-Line.was p.1 p.2 e))

pub returns-in_err-ended-in-Line-clause-output : goal.returns-in_err-ended-in-Line-clause-output
returns-in_err-ended-in-Line-clause-output g c = λ e.
    let p = err_from_is_err_and c.from_residual.result c.from_residual.ensures.1 in
    rose _ _ _ (omega (arith, c.loop-next.invariant.output_calm)) (c.answer_line.ensures.output (carried _ _ _ _ _ c.in_err-ended-in-Line.was p.1 p.2 e))

pub returns-in_err-ended-in-Line-clause-limit : goal.returns-in_err-ended-in-Line-clause-limit
returns-in_err-ended-in-Line-clause-limit g c = λ told e.
    let p = err_from_is_err_and c.from_residual.result c.from_residual.ensures.1 in
    absurd (c.answer_line.ensures.no_limit (carried _ _ _ _ _ c.in_err-ended-in-Line.was p.1 p.2 e))

pub returns-in-Last-clause-stopped : goal.returns-in-Last-clause-stopped
returns-in-Last-clause-stopped g c = λ told which t is.
    absurd (elim which [ inl e ↦ c.answer_line-in-Last.ensures.no_input e | inr e ↦ c.answer_line-in-Last.ensures.no_limit e ])

pub returns-in-Last-clause-input : goal.returns-in-Last-clause-input
returns-in-Last-clause-input g c = λ e. absurd (c.answer_line-in-Last.ensures.no_input e)

pub returns-in-Last-clause-output : goal.returns-in-Last-clause-output
returns-in-Last-clause-output g c = λ e. rose _ _ _ (omega (arith, c.loop-next.invariant.output_calm)) (c.answer_line-in-Last.ensures.output e)

pub returns-in-Last-clause-limit : goal.returns-in-Last-clause-limit
returns-in-Last-clause-limit g c = λ told e. absurd (c.answer_line-in-Last.ensures.no_limit e)
