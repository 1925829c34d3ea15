use Rattle.std.proofs.Common.{◌≡◌, ◌∙◌, sym, ap, subst, refl, [], Option}
use Rattle.std.specs.Prelude.{IsSome}
use Rattle.std.proofs.lemmas.List.{nil_from_length}
use Rattle.object_model.specs.Tree.{Group, remove}
use Rattle.tree_nodes.specs.declared.node.NodeId.{NodeId}
use Rattle.tree_nodes.specs.Nodes.{Kept}
use Rattle.tree_nodes.specs.Shown.{kept_of, links_of}
use Rattle.tree_nodes.proofs.ShownLemmas.{child_kept, loose_shown}
use Rattle.call_tests.proofs.trees.take.Goals as goal

pub links-requires : goal.links-requires
links-requires c =
    let (x, ls, shows) = c.requires in
    let t = Group x ls in
    let key = shows.root ∙ ap (λ (i : NodeId). i.key) (sym c.root-root.ensures) in
    let (v, leads, at) = child_kept c.args.tree.now t [] x ls c.in_ok-name.name c.in-Some.child shows refl (sym (c.in-Some.ensures.tree t t [] shows refl key)) in
    subst (λ (o : Option Kept). IsSome o) (sym at) refl

pub remove-requires : goal.remove-requires
remove-requires c =
    let (x, ls, shows) = c.requires in
    let t = Group x ls in
    let key = shows.root ∙ ap (λ (i : NodeId). i.key) (sym c.root-root.ensures) in
    let (v, leads, at) = child_kept c.args.tree.now t [] x ls c.in_ok-name.name c.in-Some.child shows refl (sym (c.in-Some.ensures.tree t t [] shows refl key)) in
    let none : links_of v ≡ [] = nil_from_length (links_of v) (sym (c.links.ensures.entry (kept_of v) at) ∙ c.if-links-eq0.true) in
    loose_shown c.args.tree.now c.root-root.result t [] x ls v c.in_ok-name.name shows refl key leads none

pub returns : goal.returns
returns c =
    let (x, ls, shows) = c.requires in
    let t = Group x ls in
    let key = shows.root ∙ ap (λ (i : NodeId). i.key) (sym c.root-root.ensures) in
    record { shown = (x, remove ls c.in_ok-name.name, c.remove.ensures.tree t t [] shows refl key) }
