-- What a plan leaves as it is: the blocks below the ends that are apart from all that it writes.
use Rattle.std.proofs.Common.{◌≡◌, ◌⊎◌, inl, inr, ℕ, ◌+◌, ◌<◌, ◌≤◌, List, [], ◌∷◌, None, sym, arith}
use Rattle.std.specs.List.{Contains}
use Rattle.h5_base.specs.declared.extent.Extent.{Extent}
use Rattle.h5_base.specs.declared.extent.MemClass.{MemClass}
use Rattle.outside.specs.Array.{Array}
use Rattle.outside.specs.Blocks.{Agree, AllInside, Block, IsApart, IsInside}
use Rattle.outside.specs.Space.{AreRegions, SpaceView, bounds_of}
use Rattle.block_space.specs.Plans.{FitsCatalogue, LiesBesideTake, ends_after, planned}
use Rattle.block_space.specs.declared.plan.EditPlan.{EditPlan}
use Rattle.block_space.proofs.Apart.{each_apart}
use Rattle.block_space.proofs.Planned.{planned_stays}
use Rattle.file_model.specs.EditLaws.{AreApartFrom}
use Rattle.group_edit.specs.Edited.{WritesWithin}

module _ (v : SpaceView) (met : List Block) (plan : EditPlan) (index : List Block)
    (regions : AreRegions v.regions v.ends) (fits : FitsCatalogue met plan)
    (below : (c : MemClass) → ends_after v.regions v.ends plan.takes c ≤ (v.regions c).limit)
    (within : WritesWithin index plan) where
  -- an address of a block that is apart from the index lies in no range that is written
  beside_write : (x : Block) (a : ℕ) → IsApart x index → x.start ≤ a → a < x.start + x.len → (w : Extent)
      → Contains plan.writes w → (a < w.start) ⊎ (w.start + w.len ≤ a)
  beside_write x a apart low high w there =
      let (y, has, first, last) = within w there in
      elim (each_apart x index apart y has) [
        | inl before ↦ inl (omega (arith, before, high, first))
        | inr behind ↦ inr (omega (arith, behind, low, last))
      ]

  -- an address of a block below an end lies in no block that is taken
  beside_take : (x : Block) (a : ℕ) → IsInside (bounds_of v None) x → x.start ≤ a → a < x.start + x.len
      → (c : MemClass) → LiesBesideTake v.regions v.ends plan.takes a c
  beside_take x a (d, from, to) low high c = elim (regions.apart c d) [
    | inl one ↦ inl (omega (arith, high, to, one.1))
    | inr (inl first) ↦ inr (omega (arith, below c, first, from, low))
    | inr (inr last) ↦ inl (omega (arith, high, to, regions.high d, last, regions.low c))
  ]

  block_stays : (x : Block) → IsInside (bounds_of v None) x → IsApart x index → (a : ℕ) → x.start ≤ a
      → a < x.start + x.len → v.array a ≡ planned v.regions v.ends plan v.array a
  block_stays x inside apart a low high = sym (planned_stays v.regions v.ends met plan v.array a fits (record {
    writes = beside_write x a apart low high;
    takes = beside_take x a inside low high;
  }))

  -- blocks of the file that are apart from the index stay
  pub blocks_stay : (xs : List Block) → AllInside (bounds_of v None) xs → AreApartFrom xs index
      → Agree v.array (planned v.regions v.ends plan v.array) xs
  blocks_stay [] inside apart = tt
  blocks_stay (x ∷ xs) inside apart = (block_stays x inside.0 apart.0, blocks_stay xs inside.1 apart.1)
