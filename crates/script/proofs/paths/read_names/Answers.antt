use Rattle.std.proofs.Common.{◌≡◌, Err, ◌∙◌, List, map, Bor, ℕ, ap, subst, sym}
use Rattle.std.specs.List.{AllZip}
use Rattle.script.proofs.Carried.{carried}
use Rattle.script.specs.declared.stop.LineStop.TheVariants.{BadLine}
use Rattle.script.specs.Names.{IsName}
use Rattle.script.proofs.Runs.{no_items_at, one_more_at}
use Rattle.script.proofs.paths.read_names.Goals as goal

pub returns-in_err-name-clause-bad : goal.returns-in_err-name-clause-bad
returns-in_err-name-clause-bad c = λ e p h.
    let is : c.in_err-name.field-0.0 ≡ BadLine = carried c.from_residual-in_err-name.result c.in_err-name.field-0.0 c.from_residual-in_err-name.ensures.1 e in
    let same : map (λ w. w.now) c.deref-piece-items.result.now ≡ _ = ap (λ (ps : List (Bor (List ℕ))). map (λ w. w.now) ps) c.deref-piece-items.ensures.value ∙ c.in_ok-pieces.ensures in
    no_items_at IsName c.deref-piece-items.result.now c.loop-piece.piece-index _ c.loop-piece-test.true (c.in_err-name.ensures.bad (ap Err is)) p (subst (λ (ws : List (List ℕ)). AllZip IsName ws p) (sym same) h)

pub loop-piece-preserved : goal.loop-piece-preserved
loop-piece-preserved c = rw c.in_ok-push.ensures.items (one_more_at IsName c.deref-piece-items.result.now c.loop-piece.piece-index _ c.loop-piece.names.items c.in_ok-name.name c.loop-piece-test.true c.loop-piece.invariant c.in_ok-name.ensures.found)
