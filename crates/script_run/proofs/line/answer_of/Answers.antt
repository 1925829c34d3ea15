use Rattle.std.proofs.Common.{◌≡◌, ℕ, List, Option, Some, Result, Ok, Err}
use Rattle.std.specs.Prelude.{IfOk}
use Rattle.h5_base.specs.declared.NoMemory.{NoMemory}
use Rattle.object_model.specs.declared.answer.Answer.{Answer}
use Rattle.object_model.specs.declared.command.Command.{Command}
use Rattle.object_model.specs.Step.{Plain}
use Rattle.tree_answers.specs.Answers.{answer_to}
use Rattle.tree_answers.specs.Shown.{IsTreeOf}
use Rattle.tree_nodes.specs.declared.tree.ObjectTree.{ObjectTree}
use Rattle.script.specs.Script.{Means}
use Rattle.script_run.proofs.line.answer_of.Goals as goal

answered : (tree : ObjectTree) (line : List ℕ) (command : Command) (r : Result Answer NoMemory) → Means line (Some command) → IfOk r (λ a. (t : Plain) → IsTreeOf tree t → a ≡ answer_to t (Some command))
    → IfOk r (λ a. (c : Option Command) × Means line c × ((t : Plain) → IsTreeOf tree t → a ≡ answer_to t c))
answered tree line command (Ok a) means is = (Some command, means, is)
answered tree line command (Err e) means is = tt

pub returns-in-Ok-clause-answered : goal.returns-in-Ok-clause-answered
returns-in-Ok-clause-answered c = answered c.args.tree.now c.args.line.now c.in-Ok.command c.answer.result c.in-Ok.ensures.found c.answer.ensures.answered
