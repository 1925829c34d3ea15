-- A line that edits is judged as its plan is.
use Rattle.std.proofs.Common.{◌≡◌, ◌⊎◌, inl, inr, ℕ, ◌+◌, ◌<◌, ◌≤◌, List, length, None, Option, sym, ap, subst, arith, IsTrue}
use Rattle.std.specs.List.{Contains}
use Rattle.h5_base.specs.declared.extent.Extent.{Extent}
use Rattle.h5_base.specs.declared.extent.MemClass.{MemClass}
use Rattle.h5_base.specs.declared.extent.MemClass.TheVariants as class
use Rattle.outside.specs.Array.{Ends}
use Rattle.outside.specs.Blocks.{Block, most_blocks}
use Rattle.outside.specs.Revisions.{Committed}
use Rattle.outside.specs.Space.{HasRoom, SpaceView}
use Rattle.block_space.specs.Plans.{FitsCatalogue, HasRoomFor, IsFirstShort, IsNoRoom, IsShort, need_of, number_of}
use Rattle.block_space.specs.declared.plan.EditPlan.{EditPlan}
use Rattle.block_space.specs.declared.plan.ReserveStop.TheVariants as stop
use Rattle.block_space.specs.declared.plan.Take.{Take}
use Rattle.object_model.specs.declared.command.Command.{Command}
use Rattle.session_model.specs.State.{Blocks as OverBlocks, IsOver, IsRevisionOver, Plan, Revision, Revisions}
use Rattle.session_model.specs.State.{Segment as OverSegment, State, is_writing, need, needs_of, view_of}
use Rattle.edit_room.specs.Judged.{Blocks, Pages, PassesALimit, Segment}
use Rattle.group_lines.specs.States.{StandsFor, plain_setting}

module _ (v : SpaceView) (s : State) (met : List Block) (stands : StandsFor (plain_setting v) v s met) (plan : EditPlan)
    (fits : FitsCatalogue met plan)
    (needs : (c : MemClass) → need_of v.regions plan.needs c ≡ need (plain_setting v) plan.takes c) where
  same_blocks : length met + plan.needs.blocks ≡ s.blocks + length plan.takes
  same_blocks = omega (arith, stands.counted, fits.blocks)

  module _ (c : Command) (p : Plan (plain_setting v) s c) (takes : p.takes ≡ plan.takes) (writes : IsTrue (is_writing c)) where
    pub over : PassesALimit v (length met) plan p.ranges → IsOver (plain_setting v) s c p
    over (Blocks many) = OverBlocks (omega (arith, many, same_blocks, ap (λ (ts : List Take). length ts) takes))
    over (Segment x has is long) = OverSegment x (subst (λ (ts : List Take). Contains ts x) (sym takes) has) is long
    over (Pages full) = Revisions writes
        (λ room. full (subst (λ (m : Option Committed). HasRoom m p.ranges) stands.told.committed room))

    pub under : ¬ IsRevisionOver s.committed p.ranges c → ¬ PassesALimit v (length met) plan p.ranges
        → ¬ IsOver (plain_setting v) s c p
    under plain passes (OverBlocks many) =
        passes (Blocks (omega (arith, many, same_blocks, ap (λ (ts : List Take). length ts) takes)))
    under plain passes (OverSegment x has is long) =
        passes (Segment x (subst (λ (ts : List Take). Contains ts x) takes has) is long)
    under plain passes (Revisions w full) = passes (Pages
        (λ room. full (subst (λ (m : Option Committed). HasRoom m p.ranges) (sym stands.told.committed) room)))
    under plain passes (Revision more) = plain more

    need_same : (d : MemClass) → need_of v.regions (needs_of p.takes) d ≡ need_of v.regions plan.needs d
    need_same d = subst (λ (ts : List Take). need_of v.regions (needs_of ts) d ≡ need_of v.regions plan.needs d) (sym takes)
        (sym (needs d))

    count_same : s.blocks + length p.takes ≡ length met + plan.needs.blocks
    count_same = omega (arith, same_blocks, ap (λ (ts : List Take). length ts) takes)

    ends_same : (d : MemClass) → s.ends d ≡ v.ends d
    ends_same d = ap (λ (e : Ends). e d) stands.told.ends

    pub has_room : HasRoomFor v (length met) plan.needs → HasRoomFor (view_of (plain_setting v) s) s.blocks (needs_of p.takes)
    has_room room = record {
      few = omega (arith, room.few, count_same);
      below = λ d. omega (arith, room.below d, need_same d, ends_same d);
    }

    pub no_room : (end need : ℕ) → IsNoRoom v (length met) plan.needs (stop.Full end need)
        → IsNoRoom (view_of (plain_setting v) s) s.blocks (needs_of p.takes) (stop.Full end need)
    no_room end most (few, d, first, end_is, need_is) = (
      omega (arith, few, count_same),
      d,
      record {
        short = omega (arith, first.short, need_same d, ends_same d);
        first = λ e before short. first.first e before (omega (arith, short, need_same e, ends_same e));
      },
      omega (arith, end_is, ends_same d),
      omega (arith, need_is, need_same d),
    )
