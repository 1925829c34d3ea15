use Rattle.script.proofs.ScriptExamples.{two_lines, empty_lines, two_answers}
use Rattle.script.proofs.laws.examples.Goals as goal

pub returns : goal.returns
returns c = record { two_lines = two_lines; empty_lines = empty_lines; two_answers = two_answers }
