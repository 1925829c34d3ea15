use Rattle.std.proofs.Common.{◌∷◌, [], ◌++◌, refl, ap, ◌∙◌, sym, subst, arith}
use Rattle.outside.specs.Space.{bounds_of}
use Rattle.block_space.proofs.Stopped.{if_some}
use Rattle.std.specs.List.{flat_map}
use Rattle.file_model.specs.Headers.{continued}
use Rattle.header_reader.proofs.Stops.{handed}
use Rattle.block_space.proofs.Taken.{taken}
use Rattle.header_reader.proofs.Following.{kept_none, kept_more, meets_none, meets_on, stand_next, whole_next, after_next, block_stop}
use Rattle.header_reader.proofs.walk.Walk.meet_all.Goals as goal

pub messages-init : goal.messages-init
messages-init g c = record {
  ms = [];
  stand = tt;
  whole = tt;
  here = refl;
  within = omega arith;
  meets = meets_none c.args.self.now c.requires.short;
  kept = kept_none g.V.Space.view c.args.blocks.now;
  same = refl;
}

pub returns-in_err-place-clause-refused : goal.returns-in_err-place-clause-refused
returns-in_err-place-clause-refused g c =
    let inv = c.messages.invariant in
    handed c.from_residual.result c.in_err-place.field-0.0 _ c.from_residual.ensures.1
    (λ met own keeps. if_some _ _ _
    (λ r step. block_stop _ _ met c.args.self.now c.messages.self c.args.start c.args.bytes.now c.messages.place inv.ms r (ap (λ s. bounds_of (g.V.Space.view s) own) inv.same) inv.stand inv.whole inv.here inv.meets
    c.messages-test.true (omega (arith, c.if-bytes-place-ge8.true))
    (taken g.V.Space.view c.args.blocks.now _ met (flat_map continued inv.ms) own (ap g.V.Space.view (sym inv.same))
    (inv.kept met keeps)) step)
    (c.in_err-place.ensures.refused _ own (inv.kept met keeps)))

pub messages-preserved : goal.messages-preserved
messages-preserved g c =
    let inv = c.messages.invariant in
    let found = c.in_ok-place.ensures.found in
    let m = found.0 in
    record {
      ms = inv.ms ++ m ∷ [];
      stand = stand_next c.args.start c.args.bytes.now c.messages.place inv.ms m inv.stand inv.here found.1;
      whole = whole_next c.args.start c.args.bytes.now c.messages.place inv.ms m inv.whole found.1;
      here = after_next c.messages.place c.in_ok-place.place inv.ms m inv.here found.2;
      within = c.in_ok-place.ensures.within;
      meets = meets_on c.args.self.now c.messages.self c.meet_at.new.self inv.ms (m ∷ []) inv.meets found.3;
      kept = kept_more g.V.Space.view c.args.blocks.now c.messages.blocks c.meet_at.new.blocks inv.ms m inv.kept found.4;
      same = c.meet_at.ensures.space ∙ inv.same;
    }

pub meet_at-requires-clause-stands : goal.meet_at-requires-clause-stands
meet_at-requires-clause-stands g c = subst g.V.Space.Stands (sym c.messages.invariant.same) c.requires.stands
