use Rattle.std.proofs.Common.{◌∙◌, sym, subst, List, ℕ}
use Rattle.block_space.specs.Blocks.{space_of}
use Rattle.std.proofs.lemmas.Result.{on_ok_weaker}
use Rattle.header_reader.specs.Walks.{AreMessages}
use Rattle.header_reader.proofs.Answered.{part_refused}
use Rattle.header_reader.proofs.walk.Walk.read_part.Goals as goal

pub meet_all-requires-clause-stands : goal.meet_all-requires-clause-stands
meet_all-requires-clause-stands g c = g.met.V.Space.alike_stands _ _ c.read_bytes.ensures.alike c.requires.stands

pub returns-clause-found : goal.returns-clause-found
returns-clause-found g c =
    on_ok_weaker c.meet_all.result
    (λ f. (
      f.0,
      λ told.
          subst (λ (bytes : List ℕ). AreMessages c.args.part.start bytes c.args.self.now.wanted f.0)
          (c.as_slice.ensures.value ∙ c.in_ok-bytes.ensures.bytes told) f.1,
      f.1.whole,
      f.2,
      λ met keeps. f.3 met (c.read_bytes.ensures.kept met keeps),
    ))
    c.meet_all.ensures.found

pub returns-clause-refused : goal.returns-clause-refused
returns-clause-refused g c = λ told.
    part_refused g.V.Space.view c.args.blocks.now c.read_bytes.new.self c.meet_all.result c.args.self.now.total c.args.part.start c.args.part.len c.args.self.now.wanted c.as_slice.result.now (g.met.V.Space.alike _ _ c.read_bytes.ensures.alike)
    c.read_bytes.ensures.kept (c.as_slice.ensures.value ∙ c.in_ok-bytes.ensures.bytes told) c.meet_all.ensures.refused

pub returns-clause-alike : goal.returns-clause-alike
returns-clause-alike g c = subst (λ s. g.V.Kept.Alike (space_of c.args.blocks.now) s) (sym c.meet_all.ensures.space) c.read_bytes.ensures.alike

pub returns-clause-failed : goal.returns-clause-failed
returns-clause-failed g c = λ failed. absurd (c.meet_all.ensures.no_fault failed)
