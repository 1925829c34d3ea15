use Rattle.std.proofs.Common.{◌≡◌, ◌∙◌, sym, ap, refl, [], None}
use Rattle.object_model.specs.Tree.{Group, find, insert}
use Rattle.tree_nodes.specs.declared.node.NodeId.{NodeId}
use Rattle.tree_nodes.specs.Shown.{single}
use Rattle.tree_nodes.proofs.ShownLemmas.{lacks_shown, no_child}
use Rattle.call_tests.proofs.trees.add.Goals as goal

pub insert-requires-clause-lacks : goal.insert-requires-clause-lacks
insert-requires-clause-lacks c =
    let (x, ls, shows) = c.requires in
    let t = Group x ls in
    let root = c.root-root.result in
    let now = c.reserve.ensures.tree t shows in
    let key : x.key ≡ root.key = shows.root ∙ ap (λ (i : NodeId). i.key) (sym c.root-root.ensures) in
    let none : find ls c.in_ok-name.name ≡ None = no_child (find ls c.in_ok-name.name) (sym (c.in-None.ensures.tree t t [] now refl key)) in
    lacks_shown c.reserve.new.self root t [] x ls c.in_ok-name.name now refl key none

pub returns-in-None-clause-shown : goal.returns-in-None-clause-shown
returns-in-None-clause-shown c =
    let (x, ls, shows) = c.requires in
    let t = Group x ls in
    let key : x.key ≡ c.root-root.result.key = shows.root ∙ ap (λ (i : NodeId). i.key) (sym c.root-root.ensures) in
    (x, insert ls c.in_ok-name.name (single c.insert.result.key c.args.node), c.insert.ensures.tree t t [] (c.reserve.ensures.tree t shows) refl key)
