use Rattle.std.proofs.lemmas.Bool.{ltb-true, lt-ltb}
use Rattle.block_space.proofs.Listed.{over_some, over_none}
use Rattle.block_space.proofs.neighbours.runs_over.Goals as goal

pub returns-in-Some : goal.returns-in-Some
returns-in-Some c = λ met lists.
    let over = over_some c.args.catalogue.now met lists c.in-Some.start c.in-Some.len c.args.at c.in-Some.ensures in
    (λ h. over.0 (ltb-true _ _ h), λ r. lt-ltb _ _ (over.1 r))

pub returns-in-None : goal.returns-in-None
returns-in-None c = λ met lists.
    (λ h. absurd cc, λ r. absurd (over_none c.args.catalogue.now met lists c.args.at c.in-None.ensures r))
