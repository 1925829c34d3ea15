use Rattle.std.proofs.Common.{◌≡◌, ◌∙◌, subst, List}
use Rattle.object_model.specs.Tree.{AreOrdered}
use Rattle.tree_nodes.specs.declared.node.ChildLink.{ChildLink}
use Rattle.tree_nodes.specs.Nodes.{link_names, place_in}
use Rattle.tree_nodes.proofs.PlaceLemmas.{insert_there}
use Rattle.tree_nodes.proofs.places.add_link.Goals as goal

pub returns : goal.returns
returns c = λ o none.
    let links = c.args.links.now.items in
    let place : c.place_of-place.result ≡ place_in links c.args.link.name = subst (λ (xs : List ChildLink). AreOrdered (link_names xs) → c.place_of-place.result ≡ place_in xs c.args.link.name) c.as_slice.ensures.value c.place_of-place.ensures.place o in
    c.in-Ok.ensures.items ∙ insert_there links c.args.link c.place_of-place.result place o none
