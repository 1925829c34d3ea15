use Rattle.std.proofs.Common.{◌≡◌, [], ◌∷◌, None, length-append, arith, refl, sym, ◌∙◌}
use Rattle.outside.specs.Blocks.{Block}
use Rattle.outside.specs.Space.{bounds_of}
use Rattle.block_space.proofs.Apart.{all_inside_push}
use Rattle.block_space.proofs.Gathered.{to_lists, from_lists, gathered, listed_same, when_done}
use Rattle.block_space.proofs.Joined.{lists_push}
use Rattle.block_space.proofs.Stopped.{inside_fits, on_err}
use Rattle.block_space.proofs.blocks.Blocks.adopt.Goals as goal

pub returns-in-Ok-clause-found : goal.returns-in-Ok-clause-found
returns-in-Ok-clause-found g c = λ met keeps.
    let block : Block = record { start = c.args.start; len = c.args.len } in
    let view = g.V.Space.view c.args.self.now.space in
    let ready = c.gather.new.self in
    let kept = gathered view c.args.self.now.catalogue ready met (c.gather.ensures.lists met) keeps in
    let free = c.in_ok-judge.ensures.free met kept in
    let ordered : ready.taken.items ≡ [] =
    when_done c.gather.result _ (sym c.is_err.ensures.value ∙ c.if-is_err.false) c.gather.ensures.ordered in
    record {
      lists = from_lists _ _ ordered (lists_push ready.entries met (to_lists ready met ordered kept.lists) c.insert.new.self
          c.args.start c.args.len c.in-Ok.ensures.updates free.begins c.in-Ok.field-0 c.in-Ok.ensures.old c.in-Ok.ensures.len
          c.requires.some free.apart);
      few = omega (arith, free.few, length-append met (block ∷ []));
      inside = λ own. all_inside_push (bounds_of view own) met block (keeps.inside own) (free.inside own);
    }

pub returns-in-Err-clause-same : goal.returns-in-Err-clause-same
returns-in-Err-clause-same g c = λ met keeps. record {
  lists = listed_same c.gather.new.self _ met c.in-Err.ensures.err refl (c.gather.ensures.lists met keeps.lists);
  few = keeps.few;
  inside = keeps.inside;
}

pub returns-in-Ok-clause-fits : goal.returns-in-Ok-clause-fits
returns-in-Ok-clause-fits g c = inside_fits (g.V.Space.view c.args.self.now.space)
    (record { start = c.args.start; len = c.args.len })
    (g.met.V.Space.sound _ c.requires.stands).regions (c.in_ok-judge.ensures.inside None)

pub returns-in_err-judge-clause-same : goal.returns-in_err-judge-clause-same
returns-in_err-judge-clause-same g c = on_err c.from_residual.result _ (λ met.
    gathered (g.V.Space.view c.args.self.now.space) c.args.self.now.catalogue _ met (c.gather.ensures.lists met))
