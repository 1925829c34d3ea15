use Rattle.std.proofs.Common.{◌≡◌, ℕ, List, Option, Some, subst, sym, arith}
use Rattle.dtype.specs.Types.{SpellsType}
use Rattle.header_reader.specs.Seen.{met_of}
use Rattle.header_reader.specs.Told.{Tells}
use Rattle.header_reader.specs.declared.kept.Kept.{Kept}
use Rattle.header_reader.proofs.kept.read_elem.Goals as goal

pub returns-in-Some-clause-other : goal.returns-in-Some-clause-other
returns-in-Some-clause-other c =
    λ refused t told. let here = subst (λ (p : Option Kept). Tells SpellsType (met_of 0x3 p) t) c.in-Some.is told in
    let some : c.read_type.result ≡ Some t = c.read_type.ensures.only t (subst (λ (b : List ℕ). SpellsType t b) (sym c.as_slice.ensures) here.1) in
    grind arith
