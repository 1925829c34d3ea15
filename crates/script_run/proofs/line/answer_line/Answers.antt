use Rattle.std.proofs.Common.{List, ℕ, ◌≡◌, ◌∙◌, ◌++◌, ap, sym, subst, false, Result, Ok, Err, OnOk}
use Rattle.std.specs.Result.{is_err}
use Rattle.object_model.specs.Step.{Plain}
use Rattle.script_lines.specs.Written.{WrittenInPart}
use Rattle.script_run.specs.Run.{after}
use Rattle.script_run.proofs.line.answer_line.Goals as goal

-- what is so where nothing failed is so
from_ok : {T E P : Type 0} (r : Result T E) → is_err r ≡ false → OnOk r P → P
from_ok (Ok x) none h = h
from_ok (Err e) none h = cc

pub returns-then-is_err-clause-cut : goal.returns-then-is_err-clause-cut
returns-then-is_err-clause-cut g c t is err =
    let (command, means, told) = c.in-Ok.ensures in
    record {
      command = command;
      means = means;
      printed = λ prints. subst
          (λ (bytes : List ℕ). WrittenInPart bytes (g.O.Sink.written c.args.out.now) (g.O.Sink.written c.print.new.out))
          (c.as_slice.ensures.value ∙ (told t is).0) (c.print.ensures.prefix prints);
    }

pub returns-clause-answered : goal.returns-clause-answered
returns-clause-answered g c t is =
    let (command, means, told) = c.in-Ok.ensures in
    record {
      command = command;
      means = means;
      now_is = c.after.ensures ∙ ap (after c.args.ended) (told t is).1;
      printed = λ prints. from_ok c.print.result (sym c.is_err.ensures.value ∙ c.if-is_err.false) (c.print.ensures.ok prints)
          ∙ ap (λ (bytes : List ℕ). g.O.Sink.written c.args.out.now ++ bytes)
          (c.as_slice.ensures.value ∙ (told t is).0);
    }
