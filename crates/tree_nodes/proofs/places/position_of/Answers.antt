use Rattle.std.proofs.Common.{◌≡◌, true, false, get_or, sym, ◌∙◌}
use Rattle.object_model.specs.Tree.{same_name}
use Rattle.tree_nodes.proofs.PlaceLemmas.{link_there, none_there, none_past}
use Rattle.tree_nodes.proofs.places.position_of.Goals as goal
use Rattle.tree_nodes.proofs.places.position_of.Goals.{else-place-links-via-then-place-links+else-eq, else-place-links-via-else-place-links}

pub returns-then-eq-clause-position : goal.returns-then-eq-clause-position
returns-then-eq-clause-position c = λ o.
    let i = c.place_of-place.result in
    let m = c.index-links-place.result in
    let same : same_name (get_or c.args.links.now i m).name c.args.name.now ≡ true = rw (← c.as_slice.ensures, ← c.as_slice-then-place-links.ensures) (sym c.eq.ensures ∙ c.if-eq.true) in
    link_there c.args.links.now c.args.name.now i m (c.place_of-place.ensures.place o) o c.if-place-links.true same

pub returns-else-place-links-clause-position : goal.returns-else-place-links-clause-position
returns-else-place-links-clause-position c = λ o.
    let i = c.place_of-place.result in
    let place = c.place_of-place.ensures.place o in
    elim c.else-place-links.branch [
      | else-place-links-via-then-place-links+else-eq w ↦
          let m = w.index-links-place.result in
          let apart : same_name (get_or c.args.links.now i m).name c.args.name.now ≡ false = rw (← w.as_slice.ensures, ← w.as_slice-then-place-links.ensures) (sym w.eq.ensures ∙ w.if-eq.false) in
          none_there c.args.links.now c.args.name.now i m place o apart
      | else-place-links-via-else-place-links w ↦ none_past c.args.links.now c.args.name.now i place o w.if-place-links.false
    ]
