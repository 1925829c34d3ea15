use Rattle.std.proofs.Common.{[], ◌∷◌, refl, subst, sym, arith}
use Rattle.std.proofs.lemmas.List.{length_push}
use Rattle.group_layout.proofs.WidenLemmas.{AreTaken, taken_more}
use Rattle.group_layout.proofs.widening.taken.Goals as goal

pub loop-i-preserved : goal.loop-i-preserved
loop-i-preserved c =
    let at = c.loop-i.at in
    let step = c.args.step in
    let next = c.saturating_add-at.result in
    let ats = c.loop-i.ats.items in
    let items = c.in-Ok.ensures.items in
    let more = taken_more c.args.at step at next ats (at ∷ []) c.loop-i.invariant.taken (λ lt. refl) (λ lt. omega arith) in
    record {
      count = rw items (omega (arith, length_push ats at));
      taken = subst (AreTaken c.args.at step next) (sym items) more;
    }
