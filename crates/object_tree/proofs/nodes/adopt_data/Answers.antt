use Rattle.std.proofs.Common.{◌≡◌, ◌++◌, ℕ, List, Option, IfErr, IfSome, OnOk, refl}
use Rattle.std.specs.Prelude.{Result}
use Rattle.block_space.proofs.Stopped.{if_err}
use Rattle.block_space.proofs.Taken.{taken_over}
use Rattle.object_tree.proofs.NodesFound.{keeps_joined, plain_found, info_at, info_of_elements, data_found}
use Rattle.object_tree.proofs.NodesFound.{all_data_refused, on_ok_then}
use Rattle.object_tree.proofs.nodes.adopt_data.Goals as goal

pub returns-in-None-clause-found : goal.returns-in-None-clause-found
returns-in-None-clause-found g c = λ told at met bs f keeps.
    (bs, plain_found _ c.args.ks at c.args.node.now bs c.in-None.ensures.none f, keeps)

pub returns-in-Some-clause-found : goal.returns-in-Some-clause-found
returns-in-Some-clause-found g c = λ told.
    let e = c.in-Some.elements in
    let n = c.args.node.now in
    on_ok_then c.adopt_storage.result _ _ (λ taken at met bs f keeps.
    let parts = c.in-Some.ensures.parts in
    let (ss, (cs, stored), kept) = taken (info_at _ at n bs e parts f) (info_of_elements _ at n bs e parts f) (met ++ bs)
    keeps in
    (bs ++ ss, data_found _ c.args.ks at n bs ss cs e parts f stored, keeps_joined g.V.Space.view _ met bs ss kept))
    (c.adopt_storage.ensures.found told)

pub returns-in-Some-clause-refused : goal.returns-in-Some-clause-refused
returns-in-Some-clause-refused g c = λ told.
    let e = c.in-Some.elements in
    let n = c.args.node.now in
    if_err c.adopt_storage.result _ _ (λ stop refused at levels objects met bs own few f keeps.
    let parts = c.in-Some.ensures.parts in
    all_data_refused _ _ _ c.args.ks levels objects at n met bs e stop parts f few
    (taken_over g.V.Space.view c.args.blocks.now _ met bs own refl keeps)
    (refused (info_at _ at n bs e parts f) (info_of_elements _ at n bs e parts f) (met ++ bs) own keeps))
    (c.adopt_storage.ensures.refused told)
