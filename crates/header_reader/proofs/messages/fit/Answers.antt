-- All elements have few enough bytes just where there is a number of them.
use Rattle.std.proofs.Common.{◌≡◌, ℕ, Option, Some, None, true, false, sym, ◌∙◌}
use Rattle.std.specs.Option.{SomeIff, is_some}
use Rattle.header_reader.proofs.messages.fit.Goals as goal

some_holds : (o : Option ℕ) (P : Type 0) (v : ℕ) → SomeIff o P v → is_some o ≡ true → P
some_holds None P v h is = absurd (cc)
some_holds (Some x) P v h is = h.0

none_fails : (o : Option ℕ) (P : Type 0) (v : ℕ) → SomeIff o P v → is_some o ≡ false → P → ⊥
none_fails None P v h is = h
none_fails (Some x) P v h is = absurd (cc)

pub returns-then-is_some : goal.returns-then-is_some
returns-then-is_some c =
    let fits = some_holds _ _ _ c.byte_len.ensures (sym c.is_some.ensures ∙ c.if-is_some.true) in
    (λ t. record { fits = rw c.size.ensures at fits; stored = rw (c.len.ensures, c.size-then-is_some.ensures) at (c.is_of_shape.ensures.0 t) }, λ f. c.is_of_shape.ensures.1 (rw (c.len.ensures, c.size-then-is_some.ensures) f.stored))

pub returns-else-is_some : goal.returns-else-is_some
returns-else-is_some c = (λ t. absurd (cc), λ f. absurd (none_fails _ _ _ c.byte_len.ensures (sym c.is_some.ensures ∙ c.if-is_some.false) (rw c.size.ensures f.fits)))
