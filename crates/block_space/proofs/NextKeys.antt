-- The last entry of a map below an address.
use Rattle.std.proofs.Common.{◌≡◌, ℕ, ◌<◌, ◌++◌, ◌∷◌, [], List, sym}
use Rattle.std.specs.declared.option.Option.TheVariants.{Some}
use Rattle.std.specs.declared.ops.Bound.TheVariants.{Excluded, Unbounded}
use Rattle.std.specs.Cmp.{nat_cmp_is}
use Rattle.std.specs.Ordering.{nat_cmp}
use Rattle.std.specs.declared.cmp.Ordering.TheVariants.{Less}
use Rattle.std.specs.BTreeMap.{BTreeMap}
use Rattle.std.specs.BTreeMap.Range.{IsRangeOf}
use Rattle.std.proofs.lemmas.Cmp.{ranked}
use Rattle.std.proofs.lemmas.Map.Keys.{ge_from_not_lt}
use Rattle.block_space.specs.Catalogue.{IsLastBelow}

less : (x y : ℕ) → nat_cmp x y ≡ Less → x < y
less x y h = ranked x y Less (sym h)

is_less : (x y : ℕ) → x < y → nat_cmp x y ≡ Less
is_less x y h = sym (nat_cmp_is x y Less h)

pub last_of_range : (m : BTreeMap ℕ ℕ) (at : ℕ) (r t : List (ℕ × ℕ)) (e : ℕ × ℕ) → IsRangeOf nat_cmp Unbounded (Excluded at) m r → r ≡ t ++ e ∷ [] → IsLastBelow m at (Some e)
last_of_range m at r t e range is =
    let here = range.3 e t is in
    (less _ _ here.0.1, here.1, λ q below has. ge_from_not_lt _ _ (range.4 e t is q (tt, is_less _ _ below) has))
