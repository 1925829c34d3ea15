use Rattle.std.proofs.Common.{◌≡◌, Some, sym, ◌∙◌, subst, length}
use Rattle.std.proofs.lemmas.Result.{IfOk-weaker}
use Rattle.object_model.specs.declared.answer.Answer.{Answer}
use Rattle.object_model.specs.declared.command.Command.TheVariants as command
use Rattle.object_model.specs.Step.{Plain}
use Rattle.script.specs.Print.{HasText}
use Rattle.tree_answers.specs.Answers.{answer_to}
use Rattle.tree_answers.specs.Shown.{IsTreeOf}
use Rattle.tree_answers.specs.Kept.{stat_by}
use Rattle.tree_places.proofs.Nodes.{kept_here}
use Rattle.tree_answers.proofs.Places.{sound_here, found_there, found_nowhere}
use Rattle.tree_answers.proofs.Told.{stat_at, text_by}
use Rattle.tree_answers.proofs.Looks.{stat_answer, stat_refused}
use Rattle.tree_answers.proofs.answers.stat.Goals as goal

pub stat_of-requires : goal.stat_of-requires
stat_of-requires c = sound_here c.args.tree.now c.in-Ok.id c.node.result.now c.requires c.in-Ok.ensures.has c.node.ensures.entry

pub returns-in-Ok-clause-answered : goal.returns-in-Ok-clause-answered
returns-in-Ok-clause-answered c =
    let tree = c.args.tree.now in
    let id = c.in-Ok.id in
    let path = c.args.path.now in
    let (e, at) = kept_here tree id c.in-Ok.ensures.has in
    let same : stat_by c.node.result.now c.links.result ≡ stat_by e.node (length e.links) = cc
    (c.node.ensures.entry e at, c.links.ensures.entry e at) in
    IfOk-weaker c.stat_of.result (λ (a : Answer). a ≡ stat_by c.node.result.now c.links.result) (λ (a : Answer).
    (t : Plain) → IsTreeOf tree t → a ≡ answer_to t (Some (command.Stat path)))
    (λ a is t h.
    let (u, leads, there) = found_there tree path id c.in-Ok.ensures.found t h in
    is ∙ same ∙ stat_at tree id e at u there ∙ sym (stat_answer t path u leads))
    c.stat_of.ensures

pub returns-in-Ok-clause-text : goal.returns-in-Ok-clause-text
returns-in-Ok-clause-text c =
    let sound = sound_here c.args.tree.now c.in-Ok.id c.node.result.now c.requires c.in-Ok.ensures.has c.node.ensures.entry in
    IfOk-weaker c.stat_of.result (λ (a : Answer). a ≡ stat_by c.node.result.now c.links.result) HasText
    (λ a is. subst HasText (sym is) (text_by c.node.result.now c.links.result sound))
    c.stat_of.ensures

pub returns-in-Err-clause-answered : goal.returns-in-Err-clause-answered
returns-in-Err-clause-answered c = λ t h.
    sym (stat_refused t c.args.path.now c.in-Err.code
    (found_nowhere c.args.tree.now c.args.path.now c.in-Err.code c.in-Err.ensures.found t h))
