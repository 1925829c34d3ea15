-- What is needed of a region: the sum over the classes, class by class, and the first class whose region is too short.
use Rattle.std.proofs.Common.{◌≡◌, ℕ, zero, suc, ◌+◌, ◌-◌, ◌<◌, ◌≤◌, ◌^◌, min, List, []}
use Rattle.std.proofs.Common.{◌∷◌, take, get_or, Bool, true, false, cond, sym, ◌∙◌, ap, arith, refl}
use Rattle.std.proofs.Common.{append_assoc, ◌↔◌, ◌++◌, ◌==◌, inl, inr, IsTrue, nat_lt}
use Rattle.std.proofs.lemmas.Bool.{ltb-true, lt-ltb, cases_lt, ne_eqb}
use Rattle.std.proofs.lemmas.List.{map_push, take_more, take_all, append-nil}
use Rattle.std.proofs.lemmas.Grind.{flat_map-append}
use Rattle.std.specs.List.Sorted.{IsNonDecreasingBy}
use Rattle.std.specs.List.{sum_by, flat_map, AllWithin}
use Rattle.std.proofs.lemmas.List.Sums.{sum_by_more, sum_by-le-sum_by}
use Rattle.h5_base.specs.declared.extent.Extent.{Extent}
use Rattle.h5_base.specs.declared.extent.MemClass.{MemClass}
use Rattle.h5_base.specs.declared.extent.MemClass.TheVariants.{Super, Tree, Raw, GlobalHeap, LocalHeap, Header}
use Rattle.h5_base.specs.declared.extent.Region.{Region}
use Rattle.outside.specs.Blocks.{Block}
use Rattle.outside.specs.Space.{SpaceView, AreRegions, Ascend, same_region}
use Rattle.block_space.specs.declared.plan.Needs.{Needs}
use Rattle.block_space.specs.Plans.{classes, number_of, needed, all_needed, need_of, share, new_range}
use Rattle.block_space.specs.Plans.{IsShort, IsFirstShort}
use Rattle.block_space.specs.Catalogue.{blocks_of}

-- a sum that stays at a limit, with one term more
pub clamped_more : (f : MemClass → ℕ) (i sum term next most : ℕ) → i < 6 → sum ≡ min (sum_by f (take i classes)) most
    → term ≡ f (get_or classes i Super) → next ≡ min (sum + term) most
    → next ≡ min (sum_by f (take (i + 1) classes)) most
clamped_more f i sum term next most l so is then =
    let more : sum_by f (take (i + 1) classes) ≡ sum_by f (take i classes) + f (get_or classes i Super) =
    sum_by_more f classes i Super l in
    omega arith

share_le : (b : Bool) (n : ℕ) → cond b n 0 ≤ n
share_le true n = omega arith
share_le false n = omega arith

-- a region's need is at most all
pub need_le : (regions : MemClass → Region) (needs : Needs) (c : MemClass) → need_of regions needs c ≤ all_needed needs
need_le regions needs c = sum_by-le-sum_by (share regions needs c) (needed needs) classes
    (λ d. share_le (same_region (regions d) (regions c)) (needed needs d))

-- where each class stands
place_of : (i : ℕ) → i < 6 → number_of (get_or classes i Super) ≡ i
place_of zero l = refl
place_of (suc zero) l = refl
place_of (suc (suc zero)) l = refl
place_of (suc (suc (suc zero))) l = refl
place_of (suc (suc (suc (suc zero)))) l = refl
place_of (suc (suc (suc (suc (suc zero))))) l = refl
place_of (suc (suc (suc (suc (suc (suc i)))))) l = absurd (omega arith)

-- what holds of the classes before one
before : (P : MemClass → Type 0) (i : ℕ) → AllWithin P classes 0 i → (d : MemClass) → number_of d < i → P d
before P i all Super l = all 0 Super (omega arith) l
before P i all Tree l = all 1 Super (omega arith) l
before P i all Raw l = all 2 Super (omega arith) l
before P i all GlobalHeap l = all 3 Super (omega arith) l
before P i all LocalHeap l = all 4 Super (omega arith) l
before P i all Header l = all 5 Super (omega arith) l

pub first_short : (v : SpaceView) (needs : Needs) (i : ℕ) (c : MemClass) → i < 6 → c ≡ get_or classes i Super
    → AllWithin (λ d. IsShort v needs d → ⊥) classes 0 i → IsShort v needs c → IsFirstShort v needs c
first_short v needs i c l is all short = record {
  short = short;
  first = λ d less. before (λ d. IsShort v needs d → ⊥) i all d (omega (arith, ap number_of is, place_of i l, less));
}

-- the test by which a region is too short
pub short_by : (v : SpaceView) (needs : Needs) (c : MemClass) (end limit need : ℕ)
    → end ≡ v.ends c → limit ≡ (v.regions c).limit
    → need ≡ min (need_of v.regions needs c) (2 ^ 64 - 1) → v.ends c ≤ (v.regions c).limit → all_needed needs < 2 ^ 64
    → IsTrue (nat_lt (limit - end) need) ↔ IsShort v needs c
short_by v needs c end limit need ends limits needed_here low small =
    let least : need_of v.regions needs c < 2 ^ 64 = omega (arith, need_le v.regions needs c) in (
      λ h. let l : limit - end < need = ltb-true (limit - end) need h in omega arith,
      λ short. lt-ltb (limit - end) need (omega arith),
    )

-- what is needed, where it isn't more than a limit
pub need_exact : (v : SpaceView) (needs : Needs) (c : MemClass) (need : ℕ)
    → need ≡ min (need_of v.regions needs c) (2 ^ 64 - 1)
    → all_needed needs < 2 ^ 64 → need ≡ need_of v.regions needs c
need_exact v needs c need is small = omega (arith, need_le v.regions needs c)

-- a range that has room ends below 2^64
pub range_fits : (v : SpaceView) (needs : Needs) (c : MemClass) (end need : ℕ)
    → AreRegions v.regions v.ends → end ≡ v.ends c
    → need ≡ min (need_of v.regions needs c) (2 ^ 64 - 1) → (IsShort v needs c → ⊥) → end + need < 2 ^ 64
range_fits v needs c end need sound ends is room =
    elim (cases_lt (v.regions c).limit (v.ends c + need_of v.regions needs c)) [
      | inl short ↦ absurd (room short)
      | inr le ↦ omega (arith, sound.fits c, le)
    ]

-- the ranges with that of one more class
pub range_pushed : (v : SpaceView) (needs : Needs) (c : MemClass) (old new : List Extent) (x : Extent)
    → (needed needs c ≡ 0 → ⊥) → new ≡ old ++ x ∷ [] → x.start ≡ v.ends c → x.len ≡ need_of v.regions needs c
    → blocks_of new ≡ blocks_of old ++ new_range v needs c
range_pushed v needs c old new x some is start len =
    let test : (needed needs c == 0) ≡ false = ne_eqb (needed needs c) 0 some in
    let block : Block = record { start = v.ends c; len = need_of v.regions needs c } in
    let one : new_range v needs c ≡ block ∷ [] = ap (λ (b : Bool). cond b [] (block ∷ [])) test in
    let pushed : blocks_of new ≡ blocks_of old ++ (record { start = x.start; len = x.len } ∷ []) =
    ap blocks_of is ∙ map_push (λ (y : Extent). record { start = y.start; len = y.len }) old x in
    let same : (record { start = x.start; len = x.len }) ≡ block = (λ i. record { start = start i; len = len i }) in
    pushed ∙ ap (λ (b : Block). blocks_of old ++ b ∷ []) same ∙ ap (λ (bs : List Block). blocks_of old ++ bs) (sym one)

pub ranges_more : (f : MemClass → List Block) (i : ℕ) (given old new : List Block) → i < 6
    → old ≡ given ++ flat_map f (take i classes) → new ≡ old ++ f (get_or classes i Super)
    → new ≡ given ++ flat_map f (take (i + 1) classes)
ranges_more f i given old new l before one =
    let more : flat_map f (take (i + 1) classes) ≡ flat_map f (take i classes) ++ f (get_or classes i Super) =
    ap (flat_map f) (take_more classes i Super l)
    ∙ flat_map-append f (take i classes) (get_or classes i Super ∷ [])
    ∙ ap (λ (bs : List Block). flat_map f (take i classes) ++ bs) (append-nil (f (get_or classes i Super))) in
    rw (one, before, more) (append_assoc given (flat_map f (take i classes)) (f (get_or classes i Super)))

pub ranges_all : (f : MemClass → List Block) (i : ℕ) (given old : List Block) → 6 ≤ i
    → old ≡ given ++ flat_map f (take i classes) → old ≡ given ++ flat_map f classes
ranges_all f i given old l all = all ∙ ap (λ (cs : List MemClass). given ++ flat_map f cs) (take_all i classes l)

-- ranges in order
pub ascend : (xs : List Extent) → IsNonDecreasingBy (λ (x : Extent). x.start) xs → Ascend xs
ascend [] up = tt
ascend (x ∷ []) up = tt
ascend (x ∷ y ∷ ys) up = (
  up 0 1 x (omega arith) (omega arith),
  ascend (y ∷ ys) (λ i j d le l. up (suc i) (suc j) d (omega arith) (omega arith)),
)
