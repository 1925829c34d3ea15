-- A block is refused for one reason, and one that was taken isn't refused.
use Rattle.std.proofs.Common.{◌≡◌, ℕ, List, ◌∷◌, ◌++◌, sym, ◌∙◌, ap, arith}
use Rattle.h5_base.specs.declared.kinds.BlockKind.{BlockKind}
use Rattle.h5_base.specs.declared.refusal.Refusal.{Refusal}
use Rattle.h5_base.specs.declared.refusal.Refusal.TheVariants.{Overlap}
use Rattle.outside.specs.Blocks.{Block, Bounds, IsApart, IsOverlap, placed, IsBlockRefused, IsPlacedRefused, AreTaken}
use Rattle.outside.specs.Blocks.{Again, Shares, Outside, OneMore}
use Rattle.file_model.proofs.NoFault.{free_of, not_refused, placed_not_refused, apart_of, no_share}

no_overlap : (met : List Block) (x : Block) (at : ℕ) → IsOverlap met x at → IsApart x met → ⊥
no_overlap met x at over apart = no_share x over.other at over.share (apart_of x met over.other apart over.one)

pub block_one : (e : Bounds) (met : List Block) (x : Block) (kind : BlockKind) (r q : Refusal)
    → IsBlockRefused e met x kind r → IsBlockRefused e met x kind q → r ≡ q
block_one e met x kind r q (Again begins line) (Again begins' line') = line ∙ sym line'
block_one e met x kind r q (Again begins line) (Shares at new over line') = absurd (new begins)
block_one e met x kind r q (Again begins line) (Outside new apart outside line') = absurd (new begins)
block_one e met x kind r q (Again begins line) (OneMore new apart inside full line') = absurd (new begins)
block_one e met x kind r q (Shares at new over line) (Again begins line') = absurd (new begins)
block_one e met x kind r q (Shares at new over line) (Shares at' new' over' line') =
    let low = over.least over'.other at' over'.one over'.share in
    let high = over'.least over.other at over.one over.share in
    let same : at ≡ at' = omega (arith, low, high) in
    line ∙ ap Overlap same ∙ sym line'
block_one e met x kind r q (Shares at new over line) (Outside new' apart outside line') = absurd (no_overlap met x at over apart)
block_one e met x kind r q (Shares at new over line) (OneMore new' apart inside full line') = absurd (no_overlap met x at over apart)
block_one e met x kind r q (Outside new apart outside line) (Again begins line') = absurd (new begins)
block_one e met x kind r q (Outside new apart outside line) (Shares at new' over line') = absurd (no_overlap met x at over apart)
block_one e met x kind r q (Outside new apart outside line) (Outside new' apart' outside' line') = line ∙ sym line'
block_one e met x kind r q (Outside new apart outside line) (OneMore new' apart' inside full line') = absurd (outside inside)
block_one e met x kind r q (OneMore new apart inside full line) (Again begins line') = absurd (new begins)
block_one e met x kind r q (OneMore new apart inside full line) (Shares at new' over line') = absurd (no_overlap met x at over apart)
block_one e met x kind r q (OneMore new apart inside full line) (Outside new' apart' outside line') = absurd (outside inside)
block_one e met x kind r q (OneMore new apart inside full line) (OneMore new' apart' inside' full' line') = line ∙ sym line'

pub placed_one : (e : Bounds) (met : List Block) (at n : ℕ) (kind : BlockKind) (r q : Refusal)
    → IsPlacedRefused e met at n kind r → IsPlacedRefused e met at n kind q → r ≡ q
placed_one e met at n kind r q h k = block_one e met (record { start = at; len = n }) kind r q h.refused k.refused

-- what was taken isn't refused, with what follows it
pub taken_not : (e : Bounds) (met : List Block) (x : Block) (later : List Block) (kind : BlockKind) (r : Refusal)
    → AreTaken e met (x ∷ later) → IsBlockRefused e met x kind r → ⊥
taken_not e met x later kind r taken = not_refused e met x kind r (free_of e met x later taken)

pub placed_not : (e : Bounds) (met : List Block) (at n : ℕ) (later : List Block) (kind : BlockKind) (r : Refusal)
    → AreTaken e met (placed at n ++ later) → IsPlacedRefused e met at n kind r → ⊥
placed_not e met at n later kind r taken = placed_not_refused e met at n later kind r taken
