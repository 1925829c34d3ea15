use Rattle.std.proofs.Common.{◌∙◌, get_or, length, ap, arith, refl}
use Rattle.outside.specs.Array.{SameOutside}
use Rattle.block_space.proofs.Overlaid.{outside_after}
use Rattle.block_space.proofs.Stopped.{err_has, on_err}
use Rattle.block_space.proofs.Written.{Turn, image_long, next_turn, write_ready, wrote_next, wrote_pages, beside_still}
use Rattle.block_space.proofs.blocks.Blocks.write_all.Given.{Over}
use Rattle.block_space.proofs.blocks.Blocks.write_all.Goals as goal
use Rattle.block_space.proofs.blocks.Blocks.write_all.Goals.{After-as_slice}

turn : (g : Over) (c : After-as_slice g) → Turn g.V.Space.tells (g.V.Space.view c.args.self.now.space) (g.V.Space.view
    c.loop-i.self.space)
    c.args.plan.now.writes c.args.plan.now.images c.loop-i.i (get_or c.as_slice-writes.result.now c.loop-i.i
    c.index-writes-i.result)
    c.as_slice.result.now
turn g c = next_turn g.V.Space.tells (g.V.Space.view c.args.self.now.space) (g.V.Space.view c.loop-i.self.space)
    c.args.plan.now.writes c.as_slice-writes.result.now c.args.plan.now.images c.as_slice-images.result.now c.loop-i.i
    (get_or c.as_slice-writes.result.now c.loop-i.i c.index-writes-i.result) c.index-writes-i.result
    c.as_slice.result.now
    c.index-images-i.result c.as_slice-writes.ensures c.as_slice-images.ensures c.loop-i-test.true refl
    (c.as_slice.ensures ∙ c.index-images-i.is) c.loop-i.invariant.wrote

pub patch-requires-clause-block : goal.patch-requires-clause-block
patch-requires-clause-block g c =
    let block = c.requires.block in
    let own = turn g c in
    let lies = block.2 _ own.contained in
    let long = image_long _ _ _ _ _ _ _ _ own in
    (block.0, c.loop-i.invariant.kept block.0 block.1, (lies.0, lies.1, lies.2, omega (arith, long, lies.3)))

pub patch-requires-clause-ready : goal.patch-requires-clause-ready
patch-requires-clause-ready g c = write_ready _ _ _ _ _ _ _ _ (turn g c) c.requires.ready

pub returns-in_err-patch-clause-in_part : goal.returns-in_err-patch-clause-in_part
returns-in_err-patch-clause-in_part g c = λ told.
    let v = g.V.Space.view c.args.self.now.space in
    let mid = g.V.Space.view c.loop-i.self.space in
    let new = g.V.Space.view c.patch.new.self.space in
    let image = c.as_slice.result.now in
    let x = get_or c.as_slice-writes.result.now c.loop-i.i c.index-writes-i.result in
    on_err c.from_residual.result _ (beside_still g.V.Space.tells v mid _ _ c.loop-i.i x image
    (turn g (goal.at.returns-in_err-patch-clause-in_part g c).After-as_slice) new
    (err_has c.patch.result _ (SameOutside x.start (length image) mid.array new.array) c.in_err-patch.was
    (outside_after c.patch.result x.start (length image) image mid.array mid.array new.array (omega arith) (λ a beside.
    refl)
    (c.patch.ensures.wrote_main told) (c.patch.ensures.in_part told))) told)

pub loop-i-preserved : goal.loop-i-preserved
loop-i-preserved g c =
    let invariant = c.loop-i.invariant in
    let v = g.V.Space.view c.args.self.now.space in
    let mid = g.V.Space.view c.loop-i.self.space in
    let new = g.V.Space.view c.patch.new.self.space in
    let kind = g.met.V.Space.edited_kind _ _ c.patch.ensures.edited in
    record {
      stands = c.in_ok-patch.ensures.stands;
      edited = g.met.V.Space.edited_further _ _ _ invariant.steady invariant.edited c.patch.ensures.edited;
      steady = λ tells steady. c.in_ok-patch.ensures.steady tells (invariant.steady tells steady);
      faults = c.in_ok-patch.ensures.cause.calm (λ no. absurd cc) ∙ invariant.faults;
      copies = c.in_ok-patch.ensures.cause.copy_calm (λ no. absurd cc) ∙ invariant.copies;
      wrote = wrote_next g.V.Space.tells v mid _ _ c.loop-i.i _ c.as_slice.result.now
          (turn g (goal.at.loop-i-preserved g c).After-as_slice) new kind.writable c.in_ok-patch.ensures.done.prepared
          (λ told. (c.in_ok-patch.ensures.done.wrote told).history) c.in_ok-patch.ensures.done.pages
          c.in_ok-patch.ensures.room c.patch.ensures.ends (λ told. (c.in_ok-patch.ensures.done.wrote told).array);
      spare = c.patch.ensures.spare ∙ invariant.spare;
      kept = λ met keeps. c.patch.ensures.kept met (invariant.kept met keeps);
    }

pub returns-clause-pages : goal.returns-clause-pages
returns-clause-pages g c = wrote_pages g.V.Space.tells _ _ _ _ c.loop-i.i
    (omega (arith, c.loop-i-test.false, ap length c.as_slice-writes.ensures)) c.loop-i.invariant.wrote
