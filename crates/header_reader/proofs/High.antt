-- A block that passes the last address is refused beside those that were met for the same reason, however long it is.
use Rattle.file_model.proofs.NoFault.{apart_less}
use Rattle.std.proofs.Common.{ℕ, ◌+◌, ◌^◌, ◌<◌, ◌≤◌, List, [], ◌∷◌, Option, subst, arith, inl, inr}
use Rattle.std.specs.List.{Contains}
use Rattle.outside.specs.Blocks.{Block, Bounds, IsInside, AllInside, IsOverlap, IsBlockRefused, Again, Shares, Outside, OneMore}
use Rattle.outside.specs.Space.{SpaceView, AreRegions, bounds_of}
use Rattle.h5_base.specs.declared.kinds.BlockKind.{BlockKind}
use Rattle.h5_base.specs.declared.refusal.Refusal.{Refusal}
use Rattle.file_model.proofs.NoFault.{contains_cases, no_element}

inside_of : (e : Bounds) (met : List Block) (y : Block) → AllInside e met → Contains met y → IsInside e y
inside_of e [] y h c = absurd (no_element y c)
inside_of e (m ∷ ms) y h c = elim (contains_cases m ms y c) [
  | inl is ↦ subst (IsInside e) is h.0
  | inr rest ↦ inside_of e ms y h.1 rest
]

-- what lies inside ends below 2^64
ends_low : (v : SpaceView) (own : Option (List ℕ)) (y : Block) → AreRegions v.regions v.ends → IsInside (bounds_of v own) y → y.start + y.len < 2 ^ 64
ends_low v own y sound inside =
    let high = inside.2 in
    let limit = sound.high inside.0 in
    let small = sound.fits inside.0 in
    omega (arith, high, limit, small)

pub refused_less : (v : SpaceView) (own : Option (List ℕ)) (met : List Block) (at n m : ℕ) (kind : BlockKind) (r : Refusal) → AreRegions v.regions v.ends → AllInside (bounds_of v own) met → 2 ^ 64 ≤ at + m → m ≤ n
    → IsBlockRefused (bounds_of v own) met (record { start = at; len = n }) kind r → IsBlockRefused (bounds_of v own) met (record { start = at; len = m }) kind r
refused_less v own met at n m kind r sound all high le h = go h
  where
    overlap : (k : ℕ) → IsOverlap met (record { start = at; len = n }) k → IsOverlap met (record { start = at; len = m }) k
    overlap k f =
        let low = ends_low v own f.other sound (inside_of (bounds_of v own) met f.other all f.one) in
        let behind = f.share.in_second in
        record {
          other = f.other;
          one = f.one;
          share = record { greater = f.share.greater; in_first = omega (arith, low, behind, high); in_second = behind };
          least = λ y i c s. f.least y i c (record { greater = s.greater; in_first = let inside = s.in_first in omega (arith, inside, le); in_second = s.in_second });
        }

    outside : (size : ℕ) → m ≤ size → IsInside (bounds_of v own) (record { start = at; len = size }) → ⊥
    outside size more inside = let low = ends_low v own (record { start = at; len = size }) sound inside in omega (arith, low, high, more)

    go : IsBlockRefused (bounds_of v own) met (record { start = at; len = n }) kind r → IsBlockRefused (bounds_of v own) met (record { start = at; len = m }) kind r
    go (Again begins line) = Again begins line
    go (Shares k none f line) = Shares k none (overlap k f) line
    go (Outside none apart far line) = Outside none (apart_less at n m met le apart) (outside m (omega arith)) line
    go (OneMore none apart inside count line) = absurd (outside n le inside)
