-- Takes and images in two parts.
use Rattle.std.proofs.Common.{◌≡◌, ℕ, ◌+◌, ◌≤◌, List, [], ◌∷◌, ◌++◌, length, take, drop, refl, ap, arith}
use Rattle.h5_base.specs.declared.extent.Extent.{Extent}
use Rattle.h5_base.specs.declared.extent.MemClass.{MemClass}
use Rattle.h5_base.specs.declared.extent.Region.{Region}
use Rattle.outside.specs.Array.{Array, Ends, over}
use Rattle.outside.specs.Blocks.{Block}
use Rattle.outside.specs.Space.{raised}
use Rattle.block_space.specs.Plans.{AreAsLong, AreFilled, ends_after, padded_to, rounded, with_takes}
use Rattle.block_space.specs.Plans.{with_writes}
use Rattle.block_space.specs.declared.plan.Take.{Take}
use Rattle.object_edit.specs.Joined.{TakenInParts}

-- where the regions end once a block is taken
abbrev ends_with : (MemClass → Region) → Ends → Take → Ends
ends_with regions ends t = raised regions ends t.class (ends t.class + rounded t.len)

pub taken_in_parts : TakenInParts
taken_in_parts regions ends [] us = refl
taken_in_parts regions ends (t ∷ ts) us = ap (λ (bs : List Block). record { start = ends t.class; len = t.len } ∷ bs)
    (taken_in_parts regions (ends_with regions ends t) ts us)

pub takes_in_parts : (regions : MemClass → Region) (ends : Ends) (ts us : List Take) (is js : List (List ℕ)) (b : Array)
    → AreFilled ts is
    → with_takes regions ends (ts ++ us) (is ++ js) b
    ≡ with_takes regions (ends_after regions ends ts) us js (with_takes regions ends ts is b)
takes_in_parts regions ends [] us [] js b filled = refl
takes_in_parts regions ends [] us (i ∷ is) js b filled = absurd (omega (arith, ap length filled))
takes_in_parts regions ends (t ∷ ts) us [] js b filled = absurd filled
takes_in_parts regions ends (t ∷ ts) us (i ∷ is) js b filled =
    takes_in_parts regions (ends_with regions ends t) ts us is js
    (over b (ends t.class) (padded_to (rounded t.len) i)) filled.2

pub filled_in_parts : (ts us : List Take) (is js : List (List ℕ)) → AreFilled ts is → AreFilled us js
    → AreFilled (ts ++ us) (is ++ js)
filled_in_parts [] us [] js filled rest = rest
filled_in_parts [] us (i ∷ is) js filled rest = absurd (omega (arith, ap length filled))
filled_in_parts (t ∷ ts) us [] js filled rest = absurd filled
filled_in_parts (t ∷ ts) us (i ∷ is) js filled rest =
    (filled.0, filled.1, filled_in_parts ts us is js filled.2 rest)

-- ---- images of writes: what stands behind them doesn't matter

pub as_many : (ws : List Extent) (is : List (List ℕ)) → AreAsLong ws is → length ws ≤ length is
as_many [] is long = omega arith
as_many (w ∷ ws) [] long = absurd long
as_many (w ∷ ws) (i ∷ is) long = omega (arith, as_many ws is long.1)

pub writes_alone : (ws : List Extent) (is rest : List (List ℕ)) (b : Array) → AreAsLong ws is
    → with_writes ws (take (length ws) is ++ rest) b ≡ with_writes ws is b
writes_alone [] is rest b long = refl
writes_alone (w ∷ ws) [] rest b long = absurd long
writes_alone (w ∷ ws) (i ∷ is) rest b long = writes_alone ws is rest (over b w.start i) long.1

pub long_alone : (ws : List Extent) (is rest : List (List ℕ)) → AreAsLong ws is
    → AreAsLong ws (take (length ws) is ++ rest)
long_alone [] is rest long = tt
long_alone (w ∷ ws) [] rest long = absurd long
long_alone (w ∷ ws) (i ∷ is) rest long = (long.0, long_alone ws is rest long.1)

pub behind_writes : (ws : List Extent) (is rest : List (List ℕ)) → AreAsLong ws is
    → drop (length ws) (take (length ws) is ++ rest) ≡ rest
behind_writes [] is rest long = refl
behind_writes (w ∷ ws) [] rest long = absurd long
behind_writes (w ∷ ws) (i ∷ is) rest long = behind_writes ws is rest long.1
