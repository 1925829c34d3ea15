use Rattle.std.proofs.Common.{◌≡◌, ◌+◌, ◌-◌, ◌≤◌, ◌++◌, length, IsTrue}
use Rattle.object_model.specs.Step.{Plain}
use Rattle.script_lines.specs.Lines.{HasReadAll, most_taken, spent}
use Rattle.tree_answers.specs.Shown.{IsTreeOf}
use Rattle.script_run.proofs.RunLemmas.{SoFar}
use Rattle.script_run.proofs.run.answer_script.Given as goal

abbrev pub invariant-loop-next : goal.invariant-loop-next
invariant-loop-next g l = record {
  so_far : IsTrue g.I.Source.tells → (t : Plain) → IsTreeOf l.tree t
      → SoFar g.O.Sink.tells t (g.I.Source.left l.fn.input) (l.reader.held ++ g.I.Source.left l.input) l.ended (g.O.Sink.written l.fn.out) (g.O.Sink.written l.out);
  counted : IsTrue g.I.Source.tells → l.reader.taken + length (g.I.Source.left l.input) ≡ length (g.I.Source.left l.fn.input);
  read_all : IsTrue g.I.Source.tells → HasReadAll l.reader (g.I.Source.left l.input);
  input_calm : g.I.Source.faults l.input ≡ g.I.Source.faults l.fn.input;
  output_calm : g.O.Sink.faults l.out ≡ g.O.Sink.faults l.fn.out;
}

abbrev pub decreases-loop-next : goal.decreases-loop-next
decreases-loop-next g l = most_taken - spent l.reader
