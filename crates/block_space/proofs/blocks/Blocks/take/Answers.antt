use Rattle.std.proofs.Common.{ℕ, ◌+◌, ◌∙◌, ap, arith, refl}
use Rattle.outside.specs.Space.{raised}
use Rattle.block_space.specs.Plans.{rounded}
use Rattle.block_space.proofs.Fresh.{kept_up, pushed_on, takes_at_end}
use Rattle.block_space.proofs.Room.{room_stays}
use Rattle.block_space.proofs.Stopped.{on_err}
use Rattle.block_space.proofs.blocks.Blocks.take.Goals as goal

pub returns-clause-found : goal.returns-clause-found
returns-clause-found g c = λ met keeps few.
    let v = g.V.Space.view c.args.self.now.space in
    takes_at_end v (g.V.Space.view c.raise.new.self) _ _ met c.args.class _
    (g.met.V.Space.sound _ c.requires.stands).regions c.requires.below c.requires.some c.end-at.ensures
    (g.met.V.Space.edited_kind _ _ c.raise.ensures.edited).regions
    (c.in_ok-raise.ensures.done.ends
    ∙ ap (λ (at : ℕ). raised v.regions v.ends c.args.class (at + rounded c.args.len)) c.end-at.ensures) refl
    (pushed_on _ _ _ _ (c.push.ensures.succeeds (omega (arith, c.requires.spare))) c.push.ensures.items) keeps few

pub returns-clause-spare : goal.returns-clause-spare
returns-clause-spare g c = omega (arith, c.push.ensures.upper_bound, c.push.ensures.capacity)

pub returns-clause-room : goal.returns-clause-room
returns-clause-room g c =
    let v = g.V.Space.view c.args.self.now.space in
    let done = c.in_ok-raise.ensures.done in
    rw done.prepared (room_stays (v.ends c.args.class) _ v.committed _ v.prepared (g.met.V.Space.sound _
    c.requires.stands).revisions
    (λ a low high. c.requires.ready.covered a low (omega (
      arith,
      high,
      c.end-at.ensures,
    ))) done.pages c.requires.ready.room)

pub returns-in_err-raise-clause-kept_still : goal.returns-in_err-raise-clause-kept_still
returns-in_err-raise-clause-kept_still g c = on_err c.from_residual.result _ (λ met.
    kept_up (g.V.Space.view c.args.self.now.space) (g.V.Space.view c.raise.new.self) _ met
    (g.met.V.Space.edited_kind _ _ c.raise.ensures.edited).regions c.raise.ensures.ends_in_part.low)
