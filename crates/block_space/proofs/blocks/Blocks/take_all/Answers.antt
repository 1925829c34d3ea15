use Rattle.std.proofs.Common.{List, map, ℕ, ◌+◌, ◌++◌, ◌∙◌, ◌<◌, drop, get_or, length, length-append, ap, subst, arith, refl}
use Rattle.h5_base.specs.declared.extent.MemClass.TheVariants.{Super}
use Rattle.h5_base.specs.declared.kinds.BlockKind.{BlockKind}
use Rattle.outside.specs.Blocks.{Block}
use Rattle.block_space.specs.Blocks.{Keeps}
use Rattle.block_space.specs.Written.{TellsAllWritten, whole_block}
use Rattle.block_space.proofs.Readied.{all_ready}
use Rattle.block_space.proofs.Stopped.{on_err}
use Rattle.block_space.proofs.Taking.{AllReady, Turn, beside_still, found_all, found_next, found_none, image_there}
use Rattle.block_space.proofs.Taking.{next_turn, risen_still, took_risen}
use Rattle.block_space.proofs.Taking.{take_below, take_ready, take_short, take_some, took_next, took_none}
use Rattle.block_space.proofs.blocks.Blocks.take_all.Given.{Over}
use Rattle.block_space.proofs.blocks.Blocks.take_all.Goals as goal
use Rattle.block_space.proofs.blocks.Blocks.take_all.Goals.{After-as_slice}

turn : (g : Over) (c : After-as_slice g) → Turn g.V.Space.tells (g.V.Space.view c.args.self.now.space) (g.V.Space.view
    c.loop-i.self.space)
    c.args.plan.now.takes (drop (length c.args.plan.now.writes) c.args.plan.now.images) c.loop-i.i
    (get_or c.as_slice-takes.result.now c.loop-i.i (record { class = Super; len = 0; kind = BlockKind.Super }))
    c.as_slice.result.now
turn g c = next_turn g.V.Space.tells (g.V.Space.view c.args.self.now.space) (g.V.Space.view c.loop-i.self.space)
    c.args.plan.now.takes c.as_slice-takes.result.now (length c.args.plan.now.writes) c.loop-i.i c.args.plan.now.images
    c.as_slice-images.result.now (get_or c.as_slice-takes.result.now c.loop-i.i (record {
      class = Super;
      len = 0;
      kind =
          BlockKind.Super;
    }))
    (record { class = Super; len = 0; kind = BlockKind.Super }) c.as_slice.result.now c.index-images-first.result
    c.as_slice-takes.ensures c.as_slice-images.ensures c.loop-i-test.true refl
    (c.as_slice.ensures ∙ c.index-images-first.is
    ∙ ap (λ (n : ℕ). get_or c.as_slice-images.result.now (n + c.loop-i.i) c.index-images-first.result)
    c.len-first.ensures)
    (g.met.V.Space.sound _ c.loop-i.invariant.stands).regions c.loop-i.invariant.took

ready : (g : Over) (c : After-as_slice g) → AllReady (g.V.Space.view c.args.self.now.space) c.args.plan.now.takes
ready g c =
    let r = c.requires.reserved in
    all_ready (g.V.Space.view c.args.self.now.space) c.args.plan.now r.0 _ r.3 (g.met.V.Space.sound _
    c.requires.stands).regions r.2

pub overflow_add-first : goal.overflow_add-first
overflow_add-first g c =
    let there : length c.args.plan.now.writes + c.loop-i.i < length c.args.plan.now.images =
    image_there _ _ _ _ _ c.loop-i.i _ c.loop-i.invariant.took
    (omega (arith, c.loop-i-test.true, ap length c.as_slice-takes.ensures)) in
    omega (arith, there, c.as_slice-images.type_inv.0, ap length c.as_slice-images.ensures, c.len-first.ensures)

pub bounds-images-first : goal.bounds-images-first
bounds-images-first g c =
    let there : length c.args.plan.now.writes + c.loop-i.i < length c.args.plan.now.images =
    image_there _ _ _ _ _ c.loop-i.i _ c.loop-i.invariant.took
    (omega (arith, c.loop-i-test.true, ap length c.as_slice-takes.ensures)) in
    omega (arith, there, ap length c.as_slice-images.ensures, c.len-first.ensures)

pub offset_bounds-images-first : goal.offset_bounds-images-first
offset_bounds-images-first g c =
    let there : length c.args.plan.now.writes + c.loop-i.i < length c.args.plan.now.images =
    image_there _ _ _ _ _ c.loop-i.i _ c.loop-i.invariant.took
    (omega (arith, c.loop-i-test.true, ap length c.as_slice-takes.ensures)) in
    omega (arith, there, c.as_slice-images.type_inv.1, ap length c.as_slice-images.ensures, c.len-first.ensures)

pub loop-i-init : goal.loop-i-init
loop-i-init g c =
    let r = c.requires.reserved in
    record {
      stands = c.requires.stands;
      edited = g.met.V.Space.edited_readied _ _ (g.met.V.Space.readied_itself _);
      steady = λ tells steady. steady;
      faults = refl;
      copies = refl;
      spare = omega arith;
      took = took_none g.V.Space.tells (g.V.Space.view c.args.self.now.space) _ _ r.3.room r.2.filled;
      found = found_none g.V.Space.view c.args.self.now c.args.plan.now.takes g.V.Space.tells
          (g.met.V.Space.sound _ c.requires.stands);
    }

pub take_with-requires-clause-some : goal.take_with-requires-clause-some
take_with-requires-clause-some g c = take_some _ _ _ _ _ _ _ _ (turn g c)

pub take_with-requires-clause-short : goal.take_with-requires-clause-short
take_with-requires-clause-short g c = take_short _ _ _ _ _ _ _ _ (turn g c)

pub take_with-requires-clause-below : goal.take_with-requires-clause-below
take_with-requires-clause-below g c = take_below _ _ _ _ _ _ _ _ (turn g c) (ready g c)

pub take_with-requires-clause-ready : goal.take_with-requires-clause-ready
take_with-requires-clause-ready g c = take_ready _ _ _ _ _ _ _ _ (turn g c) (ready g c) c.requires.reserved.3.writable

pub take_with-requires-clause-kept : goal.take_with-requires-clause-kept
take_with-requires-clause-kept g c =
    let r = c.requires.reserved in
    let found = c.loop-i.invariant.found in
    let few = r.3.fits.few in
    let count = r.2.blocks in
    let here = (turn g c).here in (
      r.0 ++ found.blocks,
      found.kept r.0 r.1 (omega (arith, few, count)),
      omega (arith, few, count, here, found.count, length-append r.0 found.blocks),
    )

pub returns-in_err-take_with-clause-in_part : goal.returns-in_err-take_with-clause-in_part
returns-in_err-take_with-clause-in_part g c = λ told.
    on_err c.from_residual.result _ (beside_still g.V.Space.tells (g.V.Space.view c.args.self.now.space) (g.V.Space.view
    c.loop-i.self.space)
    _ _ c.loop-i.i _ c.as_slice.result.now (turn g (goal.at.returns-in_err-take_with-clause-in_part g c).After-as_slice)
    (g.V.Space.view c.take_with.new.self.space) (c.in_err-take_with.ensures.in_part told) told)

pub returns-in_err-take_with-clause-edited : goal.returns-in_err-take_with-clause-edited
returns-in_err-take_with-clause-edited g c =
    g.met.V.Space.edited_further _ _ _ c.loop-i.invariant.steady c.loop-i.invariant.edited c.take_with.ensures.edited

pub loop-i-preserved : goal.loop-i-preserved
loop-i-preserved g c =
    let invariant = c.loop-i.invariant in
    let v = g.V.Space.view c.args.self.now.space in
    let mid = g.V.Space.view c.loop-i.self.space in
    let new = g.V.Space.view c.take_with.new.self.space in
    let kind = g.met.V.Space.edited_kind _ _ c.take_with.ensures.edited in
    let own = turn g (goal.at.loop-i-preserved g c).After-as_slice in
    record {
      stands = c.in_ok-take_with.ensures.stands;
      edited = g.met.V.Space.edited_further _ _ _ invariant.steady invariant.edited c.take_with.ensures.edited;
      steady = λ tells steady. c.in_ok-take_with.ensures.steady tells (invariant.steady tells steady);
      faults = c.in_ok-take_with.ensures.cause.calm (λ no. absurd cc) ∙ invariant.faults;
      copies = c.in_ok-take_with.ensures.cause.copy_calm (λ no. absurd cc) ∙ invariant.copies;
      spare = omega (arith, invariant.spare, c.take_with.ensures.spare);
      took = took_next g.V.Space.tells v mid _ _ c.loop-i.i _ c.as_slice.result.now own new kind.regions kind.writable
          c.in_ok-take_with.ensures.prepared (λ told. c.in_ok-take_with.ensures.history told)
          c.in_ok-take_with.ensures.room c.in_ok-take_with.ensures.ends
          (λ told. c.in_ok-take_with.ensures.array told);
      found = found_next g.V.Space.view c.args.self.now c.loop-i.self c.take_with.new.self g.V.Space.tells _ _
          c.loop-i.i _ _ own
          c.in_ok-take_with.ensures.ends c.in_ok-take_with.ensures.pages c.in_ok-take_with.ensures.found
          invariant.found;
    }

pub returns-clause-found : goal.returns-clause-found
returns-clause-found g c = λ met keeps.
    let r = c.requires.reserved in
    let few = r.3.fits.few in
    let found = c.loop-i.invariant.found in
    let all = found_all g.V.Space.view c.args.self.now c.loop-i.self c.args.plan.now.takes c.loop-i.i
    (omega (arith, c.loop-i-test.false, ap length c.as_slice-takes.ensures)) found in
    subst (λ ys. Keeps g.V.Space.view c.loop-i.self (met ++ ys)) all (found.kept met keeps
    (omega (arith, few, r.2.blocks, keeps.lists.count, r.1.lists.count)))

pub returns-in_err-take_with-clause-ends_in_part : goal.returns-in_err-take_with-clause-ends_in_part
returns-in_err-take_with-clause-ends_in_part g c =
    risen_still g.V.Space.tells (g.V.Space.view c.args.self.now.space) (g.V.Space.view c.loop-i.self.space)
    _ _ c.loop-i.i _ c.as_slice.result.now
    (turn g (goal.at.returns-in_err-take_with-clause-ends_in_part g c).After-as_slice)
    (g.V.Space.view c.take_with.new.self.space) c.take_with.ensures.ends_in_part

pub returns-in_err-take_with-clause-spare : goal.returns-in_err-take_with-clause-spare
returns-in_err-take_with-clause-spare g c =
    omega (
      arith,
      c.loop-i.invariant.spare,
      c.take_with.ensures.spare,
      c.loop-i-test.true,
      ap length c.as_slice-takes.ensures,
    )

pub returns-clause-ends_in_part : goal.returns-clause-ends_in_part
returns-clause-ends_in_part g c = took_risen g.V.Space.tells _ _ _ _ c.loop-i.i
    (omega (arith, c.loop-i-test.false, ap length c.as_slice-takes.ensures)) c.loop-i.invariant.took

pub returns-clause-pages : goal.returns-clause-pages
returns-clause-pages g c =
    let v = g.V.Space.view c.args.self.now.space in
    let now = g.V.Space.view c.loop-i.self.space in
    let found = c.loop-i.invariant.found in
    let all = found_all g.V.Space.view c.args.self.now c.loop-i.self c.args.plan.now.takes c.loop-i.i
    (omega (arith, c.loop-i-test.false, ap length c.as_slice-takes.ensures)) found in
    subst (λ (bs : List Block). TellsAllWritten (map whole_block bs) v.committed now.committed) all found.pages
