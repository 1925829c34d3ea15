use Rattle.std.proofs.Common.{◌∷◌, [], refl, ap, sym, inl, inr}
use Rattle.block_space.proofs.Stopped.{if_some}
use Rattle.block_space.proofs.Taken.{taken}
use Rattle.header_reader.proofs.first.no_prefix.Goals as goal

pub returns-in-Err-clause-refused : goal.returns-in-Err-clause-refused
returns-in-Err-clause-refused g c = λ met own keeps. if_some _ _ _ (λ r h. inl h) (c.in-Err.ensures.refused met own keeps)

pub returns-in-Ok-clause-refused : goal.returns-in-Ok-clause-refused
returns-in-Ok-clause-refused g c =
    λ met own keeps. rw c.malformed.ensures
    (inr (
      taken g.V.Space.view c.args.blocks.now _ met (record { start = c.args.at; len = 16 } ∷ []) own
          (ap g.V.Space.view (sym c.adopt.ensures.space)) (c.in-Ok.ensures.found met keeps),
      c.in-Ok.ensures.fits,
      refl,
    ))
