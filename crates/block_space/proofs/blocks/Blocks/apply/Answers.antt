use Rattle.std.proofs.Common.{◌≡◌, ℕ, ◌++◌, ◌∙◌, length, drop, ap, arith, subst, sym}
use Rattle.std.proofs.lemmas.List.Elements.{Contains-append_left}
use Rattle.outside.specs.Array.{Array}
use Rattle.block_space.specs.Catalogue.{blocks_of}
use Rattle.block_space.specs.Written.{raised_blocks}
use Rattle.block_space.specs.Plans.{LiesBeside, LiesBesideWrites, RisenInPart, taken_blocks, with_writes}
use Rattle.block_space.proofs.Planned.{takes_stay}
use Rattle.block_space.proofs.Pages.{tells_both}
use Rattle.block_space.proofs.Stopped.{ok_has, on_err_then, on_ok_gives}
use Rattle.block_space.proofs.blocks.Blocks.apply.Goals as goal

pub write_all-requires-clause-block : goal.write_all-requires-clause-block
write_all-requires-clause-block g c =
    let v = g.V.Space.view c.args.self.now.space in
    let r = c.requires.reserved in
    let taken = taken_blocks v.regions v.ends c.args.plan.now.takes in (
      r.0 ++ taken,
      c.in_ok-take_all.ensures.found r.0 r.1,
      λ w has.
          let lies = r.2.within w has in (lies.0, Contains-append_left r.0 taken lies.0 lies.1, lies.2, lies.3),
    )

pub write_all-requires-clause-ready : goal.write_all-requires-clause-ready
write_all-requires-clause-ready g c = λ w has.
    let v = g.V.Space.view c.args.self.now.space in
    let r = c.requires.reserved in
    record {
      writable = rw (g.met.V.Space.edited_kind _ _ c.take_all.ensures.edited).writable r.3.writable;
      covered = λ a low high. rw c.in_ok-take_all.ensures.prepared (r.3.covered.writes w has a low high);
      room = c.in_ok-take_all.ensures.room;
    }

pub returns-clause-edited : goal.returns-clause-edited
returns-clause-edited g c =
    g.met.V.Space.edited_further _ _ _ c.in_ok-take_all.ensures.steady c.take_all.ensures.edited
    c.write_all.ensures.edited

pub returns-clause-applies : goal.returns-clause-applies
returns-clause-applies g c =
    let v = g.V.Space.view c.args.self.now.space in
    let mid = g.V.Space.view c.take_all.new.self.space in
    let new = g.V.Space.view c.write_all.new.self.space in
    let plan = c.args.plan.now in
    let took = c.in_ok-take_all.ensures in
    let wrote = c.write_all.ensures in
    let r = c.write_all.result in
    record {
      done = on_ok_gives r _ (λ x is. record {
        array = λ told. ok_has r _ x is (wrote.array told)
            ∙ ap (λ (b : Array). with_writes plan.writes plan.images b) (took.array told);
        ends = wrote.ends ∙ took.ends;
        found = λ met keeps fits. wrote.kept _ (took.found met keeps);
        prepared = ok_has r _ x is wrote.prepared ∙ took.prepared;
        history = λ told. ok_has r _ x is (wrote.history told) ∙ took.history told;
        pages = tells_both (raised_blocks v.regions v.ends plan.takes) (blocks_of plan.writes) v.committed
            mid.committed new.committed took.pages (ok_has r _ x is wrote.pages);
        room = ok_has r _ x is wrote.room;
      });
      in_part = λ told. on_err_then r ((a : ℕ) → LiesBesideWrites plan.writes a → new.array a ≡ mid.array a)
          ((a : ℕ) → LiesBeside v.regions v.ends plan a → new.array a ≡ v.array a)
          (λ same a beside. same a beside.writes ∙ ap (λ (b : Array). b a) (took.array told)
          ∙ takes_stay v.regions v.ends plan.takes (drop (length plan.writes) plan.images) v.array a
          c.requires.reserved.2.filled beside.takes)
          (wrote.in_part told);
      ends_in_part = subst (RisenInPart v.regions v.ends plan.takes) (sym wrote.ends) c.take_all.ensures.ends_in_part;
      spare = omega (arith, wrote.spare, c.take_all.ensures.spare, c.requires.reserved.2.blocks);
    }
