use Rattle.std.proofs.Common.{rules, of_calls}
use Rattle.std.proofs.lemmas.Fn.{always_returns_same}
use Rattle.object_model.specs.Tree.{name_lt}
use Rattle.tree_nodes.proofs.PlaceLemmas.{place_is, comes_before_all}
use Rattle.tree_nodes.proofs.places.place_of.Goals as goal

pub returns-clause-place : goal.returns-clause-place
returns-clause-place c = λ o.
    let links = c.args.links.now in
    let name = c.args.name.now in
    place_is links name c.partition_point.result c.partition_point.ensures.bound
    (c.partition_point.ensures.partitioned (λ l. name_lt l.name name) (always_returns_same _ _ _ (λ a r f k. search (rules, of_calls))) (λ i j d. comes_before_all links name o i j d))
