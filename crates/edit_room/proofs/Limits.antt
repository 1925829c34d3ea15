-- A limit is passed by all ranges with the same addresses, or by none; and the ranges of a plan are those of a line.
use Rattle.std.proofs.Common.{subst, sym, inl, inr, ℕ, List}
use Rattle.h5_base.specs.declared.extent.Extent.{Extent}
use Rattle.outside.specs.Array.{Ends}
use Rattle.outside.specs.Space.{SpaceView}
use Rattle.block_space.specs.declared.plan.EditPlan.{EditPlan}
use Rattle.session_model.specs.State.{AreTouched, InReach, setting_of, IsTouched}
use Rattle.edit_room.specs.Judged.PassesALimit.{Blocks, Segment, Pages}
use Rattle.edit_room.specs.Touched.{IsTouchedBy, LimitOfAny, TouchedInReach}
use Rattle.edit_room.proofs.Pages.{room_alike}

-- two lists of ranges that a plan touches have the same addresses
pub touched_alike : (v : SpaceView) (plan : EditPlan) (xs ys : List Extent) → IsTouchedBy v plan xs
    → IsTouchedBy v plan ys → (a : ℕ) → IsTouched xs a → IsTouched ys a
touched_alike v plan xs ys one two a t = elim (one.reached a t) [
  | inl written ↦ two.written a written
  | inr taken ↦ two.taken a taken
]

pub limit_of_any : LimitOfAny
limit_of_any v count plan xs ys sound one two (Blocks many) = Blocks many
limit_of_any v count plan xs ys sound one two (Segment x has class long) = Segment x has class long
limit_of_any v count plan xs ys sound one two (Pages none) = Pages (λ room. none (room_alike v.committed ys xs
    (touched_alike v plan ys xs two one) (touched_alike v plan xs ys one two) room))

pub touched_in_reach : TouchedInReach
touched_in_reach v own s c plan ranges same touched within =
    subst (λ (ends : Ends). AreTouched (setting_of v own) ends plan.takes (InReach (setting_of v own) s c) ranges)
    (sym same) (record {
      some = touched.some;
      reached = λ a t. elim (touched.reached a t) [
        | inl written ↦ inl (within a written)
        | inr taken ↦ inr (record { class = taken.class; behind = taken.behind; before = taken.before })
      ];
      taken = λ a t. touched.taken a (record { class = t.class; behind = t.behind; before = t.before });
    })
