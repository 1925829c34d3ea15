-- What the commands that only look at the tree are answered.
use Rattle.std.proofs.Common.{◌≡◌, List, Result, Ok, Err, Some, refl, ap, ◌∙◌}
use Rattle.object_model.specs.declared.command.Command.TheVariants as command
use Rattle.object_model.specs.declared.answer.Answer.{Answer}
use Rattle.object_model.specs.declared.answer.Answer.TheVariants as answer
use Rattle.object_model.specs.declared.answer.Code.{Code}
use Rattle.object_model.specs.Tree.{Group, Leaf, Name, walk, ◌>>=◌}
use Rattle.object_model.specs.Step.{Plain, PlainLinks, Gives, links_of, lines_of, stat_of}
use Rattle.tree_answers.specs.Answers.{reply_to, answer_to}

-- ---- the answers, by what the path leads to

abbrev listed : Result PlainLinks Code → Answer
listed (Ok ls) = answer.Links (lines_of ls)
listed (Err code) = answer.No code

list_reply : (t : Plain) (r : Result Plain Code)
    → reply_to (r >>= λ node. links_of node >>= λ ls. Ok (t, Gives (answer.Links (lines_of ls)))) ≡ listed
    (r >>= links_of)
list_reply t (Err code) = refl
list_reply t (Ok (Group g ls)) = refl
list_reply t (Ok (Leaf o)) = refl

pub ls_answer : (t : Plain) (p : List Name) (ls : PlainLinks) → (walk t p >>= links_of) ≡ Ok ls
    → answer_to t (Some (command.Ls p)) ≡ answer.Links (lines_of ls)
ls_answer t p ls is = list_reply t (walk t p) ∙ ap listed is

abbrev told : Result Plain Code → Answer
told (Ok node) = stat_of node
told (Err code) = answer.No code

stat_reply : (t : Plain) (r : Result Plain Code) → reply_to (r >>= λ node. Ok (t, Gives (stat_of node))) ≡ told r
stat_reply t (Err code) = refl
stat_reply t (Ok node) = refl

pub stat_answer : (t : Plain) (p : List Name) (u : Plain) → walk t p ≡ Ok u
    → answer_to t (Some (command.Stat p)) ≡ stat_of u
stat_answer t p u is = stat_reply t (walk t p) ∙ ap told is

pub stat_refused : (t : Plain) (p : List Name) (code : Code) → walk t p ≡ Err code
    → answer_to t (Some (command.Stat p)) ≡ answer.No code
stat_refused t p code is = stat_reply t (walk t p) ∙ ap told is
