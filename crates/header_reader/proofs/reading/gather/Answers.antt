-- The parts of a header are met one after another; each begins with the block that waits first.
use Rattle.std.proofs.Common.{◌++◌, ◌∷◌, [], refl, ap, ◌∙◌, map}
use Rattle.header_reader.specs.Walks.{block_of}
use Rattle.header_reader.specs.declared.walk.Walk.{Walk}
use Rattle.block_space.proofs.Stopped.{if_some}
use Rattle.outside.proofs.Causes.{one_later}
use Rattle.file_model.specs.Headers.{header_blocks}
use Rattle.header_reader.proofs.Stops.{handed, handed_from}
use Rattle.block_space.proofs.Taken.{taken}
use Rattle.header_reader.proofs.Parts.{Draws, walked_none, walked_more, walked_all, walked_early, walked_stop, fewer, kept_part, read_same}
use Rattle.header_reader.proofs.reading.gather.Goals as goal

pub parts-init : goal.parts-init
parts-init g c =
    let ok = c.in_ok-walk.ensures in
    record {
      parts = [];
      walked = walked_none g.V.Space.tells _ c.args.at c.args.prefix c.in_ok-walk.walk c.requires.short ok.gathered ok.waiting ok.wanted ok.total;
      kept = λ met keeps. keeps;
      alike = g.V.Kept.reflexive _;
      calm = refl;
    }

pub returns-in_default-clause-refused : goal.returns-in_default-clause-refused
returns-in_default-clause-refused g c =
    λ told met own keeps. let inv = c.parts.invariant in rw c.malformed.ensures
    (walked_early g.V.Space.tells _ _ met c.args.at c.args.prefix inv.parts c.parts.walk c.pop_front.new.self.items told
    inv.walked c.parts-test.true c.in_default.ensures.items c.pop_front.ensures.rest
    (taken g.V.Space.view c.args.blocks.now _ met (header_blocks c.args.at c.args.prefix inv.parts) own
    (g.met.V.Space.alike _ _ inv.alike) (inv.kept met keeps)))

pub returns-in_err-read_part-clause-refused : goal.returns-in_err-read_part-clause-refused
returns-in_err-read_part-clause-refused g c =
    λ told. let inv = c.parts.invariant in
    let old = c.parts.walk in
    let mid : Walk = record old { waiting = c.pop_front.new.self } in
    let x = block_of c.in-Some.part in
    let takes : Draws old mid x = record { waiting = ap (map block_of) c.in-Some.ensures.items; messages = refl; wanted = refl; total = refl } in
    handed c.from_residual-in_err-read_part.result c.in_err-read_part.field-0.0 _ c.from_residual-in_err-read_part.ensures.1
    (λ met own keeps. if_some _ _ _
    (λ r stop. walked_stop g.V.Space.tells _ _ own met c.args.at c.args.prefix inv.parts old mid x r
    (g.met.V.Space.alike _ _ inv.alike) told inv.walked c.parts-test.true takes stop)
    (c.in_err-read_part.ensures.refused told _ own (inv.kept met keeps)))

pub parts-smaller : goal.parts-smaller
parts-smaller g c =
    let old = c.parts.walk in
    let mid : Walk = record old { waiting = c.pop_front.new.self } in
    let x = block_of c.in-Some.part in
    let takes : Draws old mid x = record { waiting = ap (map block_of) c.in-Some.ensures.items; messages = refl; wanted = refl; total = refl } in
    let found = c.in_ok-read_part.ensures.found in
    fewer old mid c.read_part.new.self x found.0 takes found.3

pub parts-preserved : goal.parts-preserved
parts-preserved g c =
    let inv = c.parts.invariant in
    let old = c.parts.walk in
    let mid : Walk = record old { waiting = c.pop_front.new.self } in
    let x = block_of c.in-Some.part in
    let takes : Draws old mid x = record { waiting = ap (map block_of) c.in-Some.ensures.items; messages = refl; wanted = refl; total = refl } in
    let ok = c.in_ok-read_part.ensures in
    let found = ok.found in
    record {
      parts = inv.parts ++ record { block = x; messages = found.0 } ∷ [];
      walked = walked_more g.V.Space.tells _ c.args.at c.args.prefix inv.parts old mid c.read_part.new.self x found.0 inv.walked takes c.parts-test.true
          (read_same g.V.Space.tells _ _ x mid.wanted found.0 (g.met.V.Space.alike _ _ inv.alike) found.1) found.2 found.3;
      kept = λ met keeps. kept_part g.V.Space.view _ _ c.args.at c.args.prefix inv.parts x found.0 met (inv.kept met keeps) found.4;
      alike = g.V.Kept.transitive _ _ _ inv.alike ok.alike;
      calm = ok.calm (λ failed. cc) ∙ inv.calm;
    }

pub returns-clause-found : goal.returns-clause-found
returns-clause-found g c = (c.parts.invariant.parts, λ told. walked_all g.V.Space.tells _ c.args.at c.args.prefix c.parts.invariant.parts c.parts.walk told c.parts.invariant.walked c.parts-test.false, c.parts.invariant.kept)

pub returns-in_err-read_part-clause-alike : goal.returns-in_err-read_part-clause-alike
returns-in_err-read_part-clause-alike g c = g.V.Kept.transitive _ _ _ c.parts.invariant.alike c.in_err-read_part.ensures.alike

pub read_part-requires-clause-stands : goal.read_part-requires-clause-stands
read_part-requires-clause-stands g c = g.met.V.Space.alike_stands _ _ c.parts.invariant.alike c.requires.stands

pub returns-in_err-read_part-clause-failed : goal.returns-in_err-read_part-clause-failed
returns-in_err-read_part-clause-failed g c =
    λ failed. one_later _ _ _ (g.met.V.Space.goes_counts _ _ (g.met.V.Space.goes_alike _ _ c.parts.invariant.alike))
    (c.read_part.ensures.failed (handed_from c.from_residual-in_err-read_part.result c.read_part.result c.in_err-read_part.field-0.0 _ c.from_residual-in_err-read_part.ensures.1 c.in_err-read_part.was failed))
