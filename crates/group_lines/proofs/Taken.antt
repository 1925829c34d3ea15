-- Where the blocks lie that a list of takes takes.
use Rattle.std.proofs.Common.{◌≡◌, ℕ, suc, ◌+◌, ◌<◌, ◌≤◌, List, [], ◌∷◌, length, refl, sym, ap, subst, arith, inl, inr}
use Rattle.std.specs.List.{AllZip, Contains}
use Rattle.h5_base.specs.declared.extent.MemClass.{MemClass}
use Rattle.h5_base.specs.declared.extent.Region.{Region}
use Rattle.outside.specs.Array.{Ends}
use Rattle.outside.specs.Blocks.{Block}
use Rattle.block_space.specs.Plans.{ends_after, rounded, taken_blocks}
use Rattle.block_space.specs.declared.plan.Take.{Take}
use Rattle.block_space.proofs.Apart.{contains_cons, none_contained}
use Rattle.block_space.proofs.Ends.{EndsAsOne, raised_itself}
use Rattle.block_space.proofs.Planned.{after_up, ends_with, own_as_one, with_as_one}

-- A block that was taken: at an end, as long as asked for, and below where its region ends then.
pub record IsTakenAt (first last : Ends) (x : Take) (y : Block) : Type 0 where
  pub len : y.len ≡ x.len
  pub behind : first x.class ≤ y.start
  pub before : y.start + rounded x.len ≤ last x.class

module _ (regions : MemClass → Region) where
  taken_from : (first ends last : Ends) (ts : List Take) → ((c : MemClass) → EndsAsOne regions ends c)
      → ((c : MemClass) → first c ≤ ends c) → ((c : MemClass) → ends_after regions ends ts c ≤ last c)
      → AllZip (IsTakenAt first last) ts (taken_blocks regions ends ts)
  taken_from first ends last [] one low high = tt
  taken_from first ends last (t ∷ ts) one low high =
      let next = ends_with regions ends t in
      let next_one : (c : MemClass) → EndsAsOne regions next c = λ c. with_as_one regions ends t c (one c) in (
        record {
          len = refl;
          behind = low t.class;
          before = omega (
            arith,
            raised_itself regions ends t.class (ends t.class + rounded t.len),
            after_up regions next ts t.class (next_one t.class),
            high t.class,
          );
        },
        taken_from first next last ts next_one (λ c. omega (arith, low c, after_up regions ends (t ∷ []) c (one c))) high,
      )

  -- each block lies between the ends before and the ends behind
  pub taken_there : (ends : Ends) (ts : List Take) → ((c : MemClass) → EndsAsOne regions ends c)
      → AllZip (IsTakenAt ends (ends_after regions ends ts)) ts (taken_blocks regions ends ts)
  taken_there ends ts one =
      taken_from ends ends (ends_after regions ends ts) ts one (λ c. omega arith) (λ c. omega arith)

-- each block is as long as what takes it
pub taken_len : (regions : MemClass → Region) (ends : Ends) (ts : List Take)
    → AllZip (λ (t : Take) (y : Block). y.len ≡ t.len) ts (taken_blocks regions ends ts)
taken_len regions ends [] = tt
taken_len regions ends (t ∷ ts) = (refl, taken_len regions (ends_with regions ends t) ts)

pub taken_count : (regions : MemClass → Region) (ends : Ends) (ts : List Take)
    → length (taken_blocks regions ends ts) ≡ length ts
taken_count regions ends [] = refl
taken_count regions ends (t ∷ ts) = ap suc (taken_count regions (ends_with regions ends t) ts)

-- each block was taken by one of the takes
pub taken_one : (R : Take → Block → Type 0) (ts : List Take) (ys : List Block) (y : Block) → AllZip R ts ys
    → Contains ys y → (t : Take) × R t y
taken_one R [] [] y zip has = absurd (none_contained y has)
taken_one R [] (z ∷ zs) y zip has = absurd zip
taken_one R (t ∷ ts) [] y zip has = absurd (none_contained y has)
taken_one R (t ∷ ts) (z ∷ zs) y zip has = elim (contains_cons z zs y has) [
  | inl is ↦ (t, subst (R t) is zip.0)
  | inr later ↦ taken_one R ts zs y zip.1 later
]

pub as_long : (first last : Ends) (ts : List Take) (ys : List Block) → AllZip (IsTakenAt first last) ts ys
    → AllZip (λ (t : Take) (y : Block). y.len ≡ t.len) ts ys
as_long first last [] [] zip = tt
as_long first last [] (z ∷ zs) zip = absurd zip
as_long first last (t ∷ ts) [] zip = absurd zip
as_long first last (t ∷ ts) (z ∷ zs) zip = (zip.0.len, as_long first last ts zs zip.1)
