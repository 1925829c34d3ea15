-- The links of the group that a path leads to.
use Rattle.std.proofs.Common.{◌≡◌, List, Result, Ok, Err, ap}
use Rattle.object_model.specs.declared.answer.Code.{Code}
use Rattle.object_model.specs.Tree.{Name, walk, ◌>>=◌}
use Rattle.object_model.specs.Step.{Plain, links_of}
use Rattle.tree_answers.specs.Kept.{links_behind}

pub links_there : (t u : Plain) (path : List Name) → walk t path ≡ Ok u → links_behind t path ≡ links_of u
links_there t u path leads = ap (λ (r : Result Plain Code). r >>= links_of) leads

pub links_nowhere : (t : Plain) (path : List Name) (code : Code) → walk t path ≡ Err code
    → links_behind t path ≡ Err code
links_nowhere t path code refused = ap (λ (r : Result Plain Code). r >>= links_of) refused
