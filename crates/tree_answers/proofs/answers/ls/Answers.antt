use Rattle.std.proofs.Common.{sym, ap, ◌∙◌}
use Rattle.object_model.specs.declared.answer.Answer.TheVariants as answer
use Rattle.tree_places.proofs.Nodes.{kept_here}
use Rattle.tree_answers.proofs.Told.{lines_at}
use Rattle.tree_answers.proofs.Looks.{ls_answer}
use Rattle.tree_answers.proofs.answers.ls.Goals as goal

pub returns-in_ok-lines_of-in-Ok-clause-answered : goal.returns-in_ok-lines_of-in-Ok-clause-answered
returns-in_ok-lines_of-in-Ok-clause-answered c = λ t h.
    let tree = c.args.tree.now in
    let id = c.in-Ok.id in
    let (ls, leads, there) = c.in-Ok.ensures.found t h in
    let (e, at) = kept_here tree id c.in-Ok.ensures.has in
    ap answer.Links (c.in_ok-lines_of-in-Ok.ensures e at ∙ lines_at tree id e at ls there)
    ∙ sym (ls_answer t c.args.path.now ls leads)
