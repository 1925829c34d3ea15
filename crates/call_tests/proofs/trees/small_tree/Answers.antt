use Rattle.std.proofs.Common.{refl, sym, subst, Option}
use Rattle.std.specs.Prelude.{IsSome}
use Rattle.tree_nodes.specs.Nodes.{Kept}
use Rattle.call_tests.proofs.trees.small_tree.Goals as goal

pub set_dims-requires : goal.set_dims-requires
set_dims-requires g c =
    let made = c.in_ok-id.ensures.made in
    (_, c.set_layout.ensures.entry.changed _ made, refl)

pub node-requires : goal.node-requires
node-requires g c =
    let made = c.in_ok-id.ensures.made in
    subst (λ (o : Option Kept). IsSome o) (sym (c.set_dims.ensures.entry.changed _ (c.set_layout.ensures.entry.changed _ made))) refl
