use Rattle.std.proofs.Common.{Err, Some, sym, ◌∙◌, ap, subst}
use Rattle.outside.proofs.Goes.{goes_on, over_on}
use Rattle.outside.specs.Causes.{Rose}
use Rattle.outside.specs.Store.{View}
use Rattle.outside.specs.Space.{SpaceView}
use Rattle.plain_space.specs.Alike.{view_alike, stands_alike}
use Rattle.plain_space.specs.CameFrom.{came_alike}
use Rattle.plain_space.proofs.Views.{counts_same}
use Rattle.stack_mount.proofs.Seen.{counts_on, looked_rose, seen_on}
use Rattle.stack_mount.proofs.Fronts.{admitted_at, refused_at}
use Rattle.stack_mount.proofs.mounting.mount.Goals as goal

pub returns-in-Err-clause-refused : goal.returns-in-Err-clause-refused
returns-in-Err-clause-refused g c = λ told why is. absurd (c.in-Err.ensures.no_line why is)

pub returns-in-Ok-judge-clause-array : goal.returns-in-Ok-judge-clause-array
returns-in-Ok-judge-clause-array g c = λ told.
    let a = c.in-Ok.space in
    let b = c.judge.new.space in
    ap (λ (v : SpaceView). v.array) (sym (view_alike g.S.Store.tells_files g.S.Store.tells_images (g.S.Store.view a.store) (g.S.Store.view b.store)
    (g.S.Store.leaves a.store) (g.S.Store.leaves b.store) (g.S.Store.past a.store) (g.S.Store.past b.store) a b c.in-Ok-judge.ensures.alike))
    ∙ c.in-Ok.ensures.array told

pub returns-in-Ok-judge-clause-admitted : goal.returns-in-Ok-judge-clause-admitted
returns-in-Ok-judge-clause-admitted g c = λ told.
    admitted_at _ _ _ _ (c.in-Ok.ensures.array told) (c.in-Ok.ensures.end told) (c.in-Ok-judge.ensures.admitted told)

pub returns-in-Err-judge-clause-refused : goal.returns-in-Err-judge-clause-refused
returns-in-Err-judge-clause-refused g c = λ told why is.
    refused_at _ _ _ _ why (c.in-Ok.ensures.array told) (c.in-Ok.ensures.end told) (c.in-Err-judge.ensures.refused told why is)

pub returns-in-Err-judge-clause-goes : goal.returns-in-Err-judge-clause-goes
returns-in-Err-judge-clause-goes g c =
    goes_on g.S.Store.tells_files (λ q. ⊥) (g.S.Store.view c.args.store) (g.S.Store.view c.in-Ok.space.store) (g.S.Store.view c.into_store.result)
    c.in-Ok.ensures.left.goes (c.into_store.ensures.looked c.in-Ok.space c.in-Err-judge.ensures.alike).goes

pub returns-in-Err-judge-clause-since : goal.returns-in-Err-judge-clause-since
returns-in-Err-judge-clause-since g c = λ told.
    over_on (λ q. ⊥) (g.S.Store.leaves c.args.store) (g.S.Store.leaves c.in-Ok.space.store) (g.S.Store.leaves c.into_store.result)
    (g.S.Store.past c.args.store) (g.S.Store.past c.in-Ok.space.store) (g.S.Store.past c.into_store.result)
    (c.in-Ok.ensures.left.since told) ((c.into_store.ensures.looked c.in-Ok.space c.in-Err-judge.ensures.alike).since told)

pub returns-in-Ok-judge-clause-stands : goal.returns-in-Ok-judge-clause-stands
returns-in-Ok-judge-clause-stands g c =
    let a = c.in-Ok.space in
    let b = c.judge.new.space in
    stands_alike g.S.Store.tells_files g.S.Store.tells_images (g.S.Store.view a.store) (g.S.Store.view b.store)
    (g.S.Store.leaves a.store) (g.S.Store.leaves b.store) (g.S.Store.past a.store) (g.S.Store.past b.store) a b
    c.in-Ok-judge.ensures.alike c.in-Ok.ensures.stands

pub returns-in-Err-judge-clause-failed : goal.returns-in-Err-judge-clause-failed
returns-in-Err-judge-clause-failed g c = λ failed.
    let a = c.in-Ok.space in
    let b = c.judge.new.space in
    let one = c.in-Err-judge.ensures.failed (ap Err failed) in
    let view = ap g.S.Store.view c.into_store.ensures.store in
    looked_rose g.S.Store.tells_files g.S.Store.tells_images c.args.file.now a.id.n b.id.n (g.S.Store.view c.args.store)
    (g.S.Store.view a.store) (g.S.Store.view c.into_store.result)
    (g.S.Store.leaves c.args.store) (g.S.Store.leaves a.store) (g.S.Store.leaves c.into_store.result)
    (g.S.Store.past c.args.store) (g.S.Store.past a.store) (g.S.Store.past c.into_store.result)
    c.in-Ok.ensures.name c.in-Err-judge.ensures.alike.id c.in-Ok.ensures.left
    (c.into_store.ensures.looked a c.in-Err-judge.ensures.alike)
    (subst (λ (w : View). Rose ((g.S.Store.view a.store).counts (Some a.id.n)) (w.counts (Some b.id.n))) (sym view) one.rose)

pub returns-in-Ok-judge-clause-calm : goal.returns-in-Ok-judge-clause-calm
returns-in-Ok-judge-clause-calm g c =
    let a = c.in-Ok.space in
    let b = c.judge.new.space in
    counts_on (g.S.Store.view c.args.store) (g.S.Store.view a.store) (g.S.Store.view b.store) c.in-Ok.ensures.calm
    (counts_same (g.S.Store.view a.store) (g.S.Store.view b.store) a.id.n b.id.n c.in-Ok-judge.ensures.alike.id
    c.in-Ok-judge.ensures.alike.store.others (c.in-Ok-judge.ensures.calm (λ is. cc)))

pub returns-in-Err-judge-clause-calm_refused : goal.returns-in-Err-judge-clause-calm_refused
returns-in-Err-judge-clause-calm_refused g c = λ fine.
    let a = c.in-Ok.space in
    let b = c.judge.new.space in
    let came = came_alike g.S.Store.tells_files g.S.Store.tells_images (g.S.Store.view a.store) (g.S.Store.view b.store)
    (g.S.Store.leaves a.store) (g.S.Store.leaves b.store) (g.S.Store.past a.store) (g.S.Store.past b.store) a b
    c.in-Err-judge.ensures.alike in
    counts_on (g.S.Store.view c.args.store) (g.S.Store.view a.store) (g.S.Store.view c.into_store.result)
    c.in-Ok.ensures.calm (c.into_store.ensures.calm a came (c.in-Err-judge.ensures.calm (λ is. fine (cc))))

pub returns-in-Err-judge-clause-others : goal.returns-in-Err-judge-clause-others
returns-in-Err-judge-clause-others g c =
    let a = c.in-Ok.space in
    let looked = c.into_store.ensures.looked a c.in-Err-judge.ensures.alike in
    (seen_on g.S.Store.tells_files g.S.Store.tells_images c.args.file.now a.id.n _ _ _ _ _ _ _ _ _ c.in-Ok.ensures.name
    c.in-Ok.ensures.left looked).others
