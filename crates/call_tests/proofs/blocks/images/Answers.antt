use Rattle.std.proofs.Common.{◌∙◌}
use Rattle.call_tests.proofs.Plan.{same_five}
use Rattle.call_tests.proofs.blocks.images.Goals as goal

pub returns : goal.returns
returns c =
    c.in-Ok.ensures.items
    ∙ same_five _ _ _ _ _ _ _ _ _ _ c.in_ok-from_slice.ensures c.in_ok-from_slice-2.ensures c.in_ok-from_slice-3.ensures
    c.in_ok-from_slice-4.ensures c.in_ok-from_slice-5.ensures
