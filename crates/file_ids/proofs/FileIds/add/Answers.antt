use Rattle.std.proofs.Common.{rules, ◌≡◌, ap, length}
use Rattle.file_ids.specs.Ids.{Ids, place_of}
use Rattle.file_ids.proofs.PlaceLemmas.{AreSound-grown}
use Rattle.file_ids.proofs.FileIds.add.Goals as goal

pub invariant_of-self-2 : goal.invariant_of-self-2
invariant_of-self-2 c =
    let is = ap (λ (ids : Ids). ids.names) c.self.view_is in
    let absent : place_of c.args.name c.self.inside.names.items ≡ length c.self.inside.names.items = rw is c.requires in
    AreSound-grown (record { names = c.self.inside.names.items; faults = c.self.inside.faults.items; own = c.self.inside.own })
    c.args.name _ _ c.self.invariant c.as_slice-text.ensures.name.some absent (search rules) (search rules)

pub returns-clause-sound : goal.returns-clause-sound
returns-clause-sound c =
    let is = ap (λ (ids : Ids). ids.names) c.self.view_is in
    let absent : place_of c.args.name c.self.inside.names.items ≡ length c.self.inside.names.items = rw is c.requires in
    AreSound-grown (record { names = c.self.inside.names.items; faults = c.self.inside.faults.items; own = c.self.inside.own })
    c.args.name _ _ c.self.invariant c.as_slice-text.ensures.name.some absent (search rules) (search rules)
