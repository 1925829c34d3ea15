use Rattle.std.proofs.Common.{◌≡◌, ℕ, ◌+◌, ◌*◌, ◌^◌, ◌<◌, ◌++◌, List, [], ◌∷◌, length, ap, subst, sym, ◌∙◌}
use Rattle.group_room.specs.Index.{addresses}
use Rattle.group_layout.proofs.widening.with_pair.Goals as goal

pub returns : goal.returns
returns c =
    let at = c.args.at in
    let step = c.args.step in
    let new : List ℕ = c.from_vec-new.result in
    let empty = c.from_vec-old.ensures ∙ c.new.ensures.items in
    let count : length new ≡ 2 = ap length c.from_vec-new.ensures ∙ c.in_ok-taken.ensures.count in
    let first : at + step * 2 < 2 ^ 64 → new ≡ addresses at step 2 =
    λ lt. c.from_vec-new.ensures ∙ c.in_ok-taken.ensures.are lt in
    record {
      pair = new;
      more_is = c.in-Ok.ensures.items
          ∙ ap (λ (l : List ℕ). c.args.rows.items ++ record { old = l; new = new } ∷ []) empty;
      two = count;
      are = subst (λ (n : ℕ). at + step * n < 2 ^ 64 → new ≡ addresses at step n) (sym count) first;
    }
