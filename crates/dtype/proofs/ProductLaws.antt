-- Products of sizes, taken from the first on.
use Rattle.std.proofs.Common.{◌≡◌, ℕ, zero, suc, ◌+◌, ◌-◌, ◌*◌, ◌^◌, ◌<◌, ◌≤◌, List, [], ◌∷◌, Bool, true, false, IsTrue, ◌↔◌, length, take, drop, get_or, refl, subst, arith}
use Rattle.std.proofs.Math.Nat.{mul-le-mul_left}
use Rattle.dtype.specs.Products.{product}

-- one size more
pub product-take : (ns : List ℕ) (i : ℕ) → i < length ns → product (take (i + 1) ns) ≡ product (take i ns) * get_or ns i 0
product-take [] i lt = absurd (omega arith)
product-take (n ∷ ns) zero lt = omega arith
product-take (n ∷ ns) (suc i) lt =
    let one : suc i + 1 ≡ suc (i + 1) = omega arith in
    rw (one, product-take ns i (omega arith)) (omega arith)

pub product-split : (ns : List ℕ) (i : ℕ) → product ns ≡ product (take i ns) * product (drop i ns)
product-split ns zero = omega arith
product-split [] (suc i) = refl
product-split (n ∷ ns) (suc i) = rw (product-split ns i) (omega arith)

-- a size of 0
pub product-zero : (ns : List ℕ) (i : ℕ) → i < length ns → get_or ns i 0 ≡ 0 → product ns ≡ 0
product-zero [] i lt e = absurd (omega arith)
product-zero (n ∷ ns) zero lt e = let z : n ≡ 0 = e in rw z (omega arith)
product-zero (n ∷ ns) (suc i) lt e = rw (product-zero ns i (omega arith) e) (omega arith)

grows : (a b : ℕ) → 0 < a * b → a ≤ a * b
grows a zero h = absurd (omega arith)
grows a (suc b) h = omega arith

-- what is too much already stays so, where no size is 0
pub too_many : (ns : List ℕ) (i e : ℕ) → 0 < product ns → 2 ^ 63 - 1 < product (take i ns) * e → 2 ^ 63 - 1 < product ns * e
too_many ns i e some many =
    let parts = product-split ns i in
    let less : product (take i ns) ≤ product ns = rw parts (grows (product (take i ns)) (product (drop i ns)) (subst (λ m. 0 < m) parts some)) in
    let more = mul-le-mul_left e less in
    omega (arith, more)

-- the bytes of one size more
pub bytes-take : (ns : List ℕ) (i e total : ℕ) → i < length ns → total ≡ product (take i ns) * e → total * get_or ns i 0 ≡ product (take (i + 1) ns) * e
bytes-take ns i e total lt is = rw (product-take ns i lt, is) (omega arith)

pub past_most : (ns : List ℕ) (i e total : ℕ) → i < length ns → 0 < product ns → total ≡ product (take i ns) * e → 2 ^ 63 - 1 < total * get_or ns i 0 → 2 ^ 63 - 1 < product ns * e
past_most ns i e total lt some is many = too_many ns (i + 1) e some (subst (λ m. 2 ^ 63 - 1 < m) (bytes-take ns i e total lt is) many)

pub positive : (a b : ℕ) → 0 < a → 0 < b → 0 < a * b
positive zero b h k = absurd (omega arith)
positive (suc a) b h k = omega arith

pub some_bytes : (b : Bool) (n : ℕ) → (IsTrue b ↔ (n ≡ 0)) → b ≡ false → 0 < n
some_bytes b zero h e = let t : b ≡ true = h.1 refl in cc
some_bytes b (suc n) h e = omega arith
