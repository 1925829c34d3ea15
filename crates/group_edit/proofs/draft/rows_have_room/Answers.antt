use Rattle.std.proofs.Common.{◌≡◌, ◌+◌, ◌*◌, ◌≤◌, length, sym, subst, arith, get_or, ap, ◌∙◌, drop}
use Rattle.std.proofs.lemmas.Bool.{le-leb, leb-true}
use Rattle.group_layout.specs.Laying.{ats_of}
use Rattle.group_edit.proofs.DraftRoom.{RoomIn, root_then, row_then, then_root, then_row}
use Rattle.group_edit.proofs.draft.rows_have_room.Goals as goal

pub loop-row-init : goal.loop-row-init
loop-row-init c = (omega (arith, c.ranges.leaves), ((λ h. h), (λ h. h)))

pub returns-then-saturating_mul-below : goal.returns-then-saturating_mul-below
returns-then-saturating_mul-below c =
    let rows = c.args.rows.now in
    let i = c.loop-row.row-index in
    let d = c.row-item.result in
    let nodes : c.nodes_in-nodes.result ≡ length (ats_of (get_or rows i d)) =
    c.nodes_in-nodes.ensures ∙ ap (λ r. length (ats_of r)) c.row-item.is in (
      (λ no. cc),
      (λ all.
          let fits = (row_then c.args.room c.loop-row.below rows i c.args.tree d c.loop-row-test.true
          (c.loop-row.invariant.1.1 all)).0 in
          let met = subst (λ n. c.loop-row.below ≤ c.args.room * n) (sym nodes) fits in
          absurd (omega (
            arith,
            met,
            c.loop-row.invariant.0,
            c.if-saturating_mul-below.true,
            c.saturating_mul.ensures,
          ))),
    )

pub loop-row-preserved : goal.loop-row-preserved
loop-row-preserved c =
    let rows = c.args.rows.now in
    let i = c.loop-row.row-index in
    let d = c.row-item.result in
    let room = c.args.room in
    let tree = c.args.tree in
    let nodes : c.nodes_in-nodes.result ≡ length (ats_of (get_or rows i d)) =
    c.nodes_in-nodes.ensures ∙ ap (λ r. length (ats_of r)) c.row-item.is in
    let here = c.loop-row-test.true in
    let met : c.loop-row.below ≤ room * c.nodes_in-nodes.result =
    omega (arith, c.if-saturating_mul-below.false, c.saturating_mul.ensures) in
    let fits = subst (λ n. c.loop-row.below ≤ room * n) nodes met in (
      omega (arith, c.nodes_in-nodes.type_inv),
      (
        (λ next. c.loop-row.invariant.1.0 (then_row room c.loop-row.below rows i tree d here fits
            (subst (λ n. RoomIn room n (drop (i + 1) rows) tree) nodes next))),
        (λ all. subst (λ n. RoomIn room n (drop (i + 1) rows) tree) (sym nodes)
            (row_then room c.loop-row.below rows i tree d here (c.loop-row.invariant.1.1 all)).1),
      ),
    )

pub returns : goal.returns
returns c =
    let rows = c.args.rows.now in
    let i = c.loop-row.row-index in
    let room = c.args.room in
    let below = c.loop-row.below in
    let behind : length rows ≤ i = omega (arith, c.loop-row-test.false) in (
      (λ yes. let met : below ≤ room = leb-true below room yes in
          c.loop-row.invariant.1.0 (then_root room below rows i c.args.tree behind (omega (arith, met)))),
      (λ all. let met = root_then room below rows i c.args.tree behind (c.loop-row.invariant.1.1 all) in
          le-leb below room (omega (arith, met))),
    )
