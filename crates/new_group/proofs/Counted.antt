-- What is ahead with blocks that are taken one behind the other.
use Rattle.std.proofs.Common.{◌≡◌, ◌≢◌, ℕ, ◌+◌, ◌≤◌, arith}
use Rattle.h5_base.specs.declared.extent.MemClass.{MemClass}
use Rattle.h5_base.specs.declared.extent.MemClass.TheVariants.{Super, Tree, Raw, GlobalHeap, LocalHeap, Header}
use Rattle.block_space.specs.Plans.{all_needed, needed, number_of, rounded}
use Rattle.block_space.specs.declared.plan.Needs.{Needs}
use Rattle.plan_pieces.specs.Plan.{IsWithBlock}

-- what is needed of a class is at most all
pub needed_le : (needs : Needs) (c : MemClass) → needed needs c ≤ all_needed needs
needed_le needs Super = omega arith
needed_le needs Tree = omega arith
needed_le needs Raw = omega arith
needed_le needs GlobalHeap = omega arith
needed_le needs LocalHeap = omega arith
needed_le needs Header = omega arith

-- one block more is that many bytes more of all
pub all_more : (old new : Needs) (class : MemClass) (len : ℕ) → IsWithBlock old class len new
    → all_needed new ≡ all_needed old + rounded len
all_more old new class len is = go class is.own is.others
  where
    Rest : MemClass → Type 0
    Rest k = (d : MemClass) → number_of d ≢ number_of k → needed new d ≡ needed old d

    go : (k : MemClass) → needed new k ≡ needed old k + rounded len → Rest k
        → all_needed new ≡ all_needed old + rounded len
    go Super own others = omega (
      arith,
      own,
      others Tree (omega arith),
      others Raw (omega arith),
      others GlobalHeap (omega arith),
      others LocalHeap (omega arith),
      others Header (omega arith),
    )
    go Tree own others = omega (
      arith,
      own,
      others Super (omega arith),
      others Raw (omega arith),
      others GlobalHeap (omega arith),
      others LocalHeap (omega arith),
      others Header (omega arith),
    )
    go Raw own others = omega (
      arith,
      own,
      others Super (omega arith),
      others Tree (omega arith),
      others GlobalHeap (omega arith),
      others LocalHeap (omega arith),
      others Header (omega arith),
    )
    go GlobalHeap own others = omega (
      arith,
      own,
      others Super (omega arith),
      others Tree (omega arith),
      others Raw (omega arith),
      others LocalHeap (omega arith),
      others Header (omega arith),
    )
    go LocalHeap own others = omega (
      arith,
      own,
      others Super (omega arith),
      others Tree (omega arith),
      others Raw (omega arith),
      others GlobalHeap (omega arith),
      others Header (omega arith),
    )
    go Header own others = omega (
      arith,
      own,
      others Super (omega arith),
      others Tree (omega arith),
      others Raw (omega arith),
      others GlobalHeap (omega arith),
      others LocalHeap (omega arith),
    )
