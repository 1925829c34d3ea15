use Rattle.std.proofs.Common.{ℕ, List, Option, subst, sym}
use Rattle.header_codec.specs.Layouts.{SpellsLayout}
use Rattle.header_reader.specs.Seen.{met_of}
use Rattle.header_reader.specs.Told.{Tells}
use Rattle.header_reader.specs.declared.kept.Kept.{Kept}
use Rattle.header_reader.proofs.kept.read_storage.Goals as goal

pub returns-in-Some-clause-other : goal.returns-in-Some-clause-other
returns-in-Some-clause-other c =
    λ refused l told. let here = subst (λ (p : Option Kept). Tells SpellsLayout (met_of 0x8 p) l) c.in-Some.is told in
    c.read_layout.ensures.other.0 refused l (subst (λ (b : List ℕ). SpellsLayout l b) (sym c.as_slice.ensures) here.1)
