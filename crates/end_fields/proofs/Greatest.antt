-- The greatest end of a region that isn't empty.
use Rattle.std.proofs.Common.{◌≡◌, ◌⊎◌, inl, inr, ℕ, ◌<◌, ◌≤◌, sym, ◌∙◌, arith}
use Rattle.h5_base.specs.declared.extent.MemClass.{MemClass}
use Rattle.h5_base.specs.declared.extent.Region.{Region}
use Rattle.outside.specs.Array.{Ends}
use Rattle.outside.specs.Revisions.{IsLogicalEnd}

module _ (regions : MemClass → Region) (ends : Ends) where
  -- the region of the class isn't empty
  abbrev pub Some : MemClass → Type 0
  Some c = (regions c).start < ends c

  -- where the region of the class isn't empty, it ends there at the latest
  abbrev pub IsBelow : ℕ → MemClass → Type 0
  IsBelow n c = Some c → ends c ≤ n

  abbrev pub IsMet : ℕ → Type 0
  IsMet n = (n ≡ 0) ⊎ ((c : MemClass) × Some c × (n ≡ ends c))

  -- there is one such number
  pub one_end : (m n : ℕ) → IsLogicalEnd regions ends m → IsLogicalEnd regions ends n → m ≡ n
  one_end m n h k = go h.met k.met
    where
      go : IsMet m → IsMet n → m ≡ n
      go (inl a) (inl b) = a ∙ sym b
      go (inl a) (inr (c, some, is)) = absurd (let low = h.above c some in omega arith)
      go (inr (c, some, is)) (inl b) = absurd (let low = k.above c some in omega arith)
      go (inr (c, some, is)) (inr (d, more, are)) =
          let low = h.above d more in let high = k.above c some in omega arith
