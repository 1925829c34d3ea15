use Rattle.std.proofs.Common.{◌∙◌, inl, inr, refl}
use Rattle.call_tests.proofs.Plan.{fits}
use Rattle.call_tests.proofs.blocks.plan.Goals as goal

pub returns : goal.returns
returns c =
    fits _ _ _ _ _ _ _ _ _ _ c.from_vec.result c.from_vec-2.result c.from_vec-3.result
    (c.from_vec.ensures ∙ c.in_ok-from_slice.ensures.items) (c.from_vec-2.ensures ∙ c.in_ok-from_slice-2.ensures.items)
    (c.from_vec-3.ensures ∙ c.in_ok-images.ensures)
    (record { first = refl; first_len = refl; second = refl; second_len = refl })
    refl refl (inr refl) (inl refl) (inr refl)
