use Rattle.std.proofs.Common.{◌≡◌, Err, ◌∙◌, List, map, Bor, ℕ, ap, subst, sym}
use Rattle.std.specs.List.{AllZip}
use Rattle.script.proofs.Carried.{carried}
use Rattle.script.specs.declared.stop.LineStop.TheVariants.{BadLine}
use Rattle.script.specs.Numbers.{IsSize}
use Rattle.script.proofs.Runs.{no_items_at, one_more_at}
use Rattle.script.proofs.numbers.read_list.Goals as goal

pub returns-in_err-size-clause-bad : goal.returns-in_err-size-clause-bad
returns-in_err-size-clause-bad c = λ e p h.
    let is : c.in_err-size.field-0.0 ≡ BadLine = carried c.from_residual-in_err-size.result c.in_err-size.field-0.0 c.from_residual-in_err-size.ensures.1 e in
    let same : map (λ w. w.now) c.deref-piece-items.result.now ≡ _ = ap (λ (ps : List (Bor (List ℕ))). map (λ w. w.now) ps) c.deref-piece-items.ensures.value ∙ c.in_ok-pieces.ensures in
    no_items_at (IsSize c.args.maximum) c.deref-piece-items.result.now c.loop-piece.piece-index _ c.loop-piece-test.true (c.in_err-size.ensures.bad (ap Err is)) p (subst (λ (ws : List (List ℕ)). AllZip (IsSize c.args.maximum) ws p) (sym same) h)

pub loop-piece-preserved : goal.loop-piece-preserved
loop-piece-preserved c = rw c.in_ok-push.ensures.items (one_more_at (IsSize c.args.maximum) c.deref-piece-items.result.now c.loop-piece.piece-index _ c.loop-piece.sizes.items c.in_ok-size.size c.loop-piece-test.true c.loop-piece.invariant c.in_ok-size.ensures.found)
