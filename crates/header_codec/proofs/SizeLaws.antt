-- Sizes of 4 bytes, and the bytes that they make together.
use Rattle.std.proofs.Common.{◌≡◌, ℕ, zero, suc, ◌+◌, ◌*◌, ◌<◌, ◌≤◌, List, [], ◌∷◌, ◌++◌, length, take, get_or, All, refl, sym, arith}
use Rattle.std.proofs.Math.Nat.{mul-le-mul_left, mul-le-mul_right, mul_assoc}
use Rattle.h5_base.specs.Fields.{u32_at}
use Rattle.dtype.specs.Products.{product}
use Rattle.header_codec.specs.Layouts.{u32s_at}

-- one number more at the end
pub u32s_at-more : (b : List ℕ) (at n : ℕ) → u32s_at b at (n + 1) ≡ u32s_at b at n ++ u32_at b (at + 4 * n) ∷ []
u32s_at-more b at zero = let e : at + 4 * 0 ≡ at = omega arith in rw e refl
u32s_at-more b at (suc n) =
    let one : suc n + 1 ≡ suc (n + 1) = omega arith in
    let e : at + 4 + 4 * n ≡ at + 4 * suc n = omega arith in
    rw (one, u32s_at-more b (at + 4) n, e) refl

abbrev pub AreSome : List ℕ → Type 0
AreSome ns = All (λ n. 1 ≤ n) ns

others : (n : ℕ) (ns : List ℕ) → AreSome (n ∷ ns) → AreSome ns
others n ns h = λ k d lt. h (suc k) d (omega arith)

pub product-some : (ns : List ℕ) → AreSome ns → 1 ≤ product ns
product-some [] h = omega arith
product-some (n ∷ ns) h =
    let a : 1 ≤ n = h 0 0 (omega arith) in
    let b : n * 1 ≤ n * product ns = mul-le-mul_left n (product-some ns (others n ns h)) in
    omega arith

-- the first sizes make no more than all
pub product-take : (ns : List ℕ) (i : ℕ) → AreSome ns → product (take i ns) ≤ product ns
product-take ns zero h = product-some ns h
product-take [] (suc i) h = omega arith
product-take (n ∷ ns) (suc i) h = mul-le-mul_left n (product-take ns i (others n ns h))

pub product-more : (ns : List ℕ) (i : ℕ) → i < length ns → product (take (suc i) ns) ≡ product (take i ns) * get_or ns i 0
product-more [] i lt = absurd (omega arith)
product-more (n ∷ ns) zero lt = omega arith
product-more (n ∷ ns) (suc i) lt =
    let ih : product (take (suc i) ns) ≡ product (take i ns) * get_or ns i 0 = product-more ns i (omega arith) in
    rw ih (sym (mul_assoc n (product (take i ns)) (get_or ns i 0)))

-- a size is at most what all make
pub product-item : (ns : List ℕ) (i : ℕ) → AreSome ns → i < length ns → get_or ns i 0 ≤ product ns
product-item [] i h lt = absurd (omega arith)
product-item (n ∷ ns) zero h lt =
    let b : n * 1 ≤ n * product ns = mul-le-mul_left n (product-some ns (others n ns h)) in
    omega arith
product-item (n ∷ ns) (suc i) h lt =
    let a : 1 ≤ n = h 0 0 (omega arith) in
    let ih : get_or ns i 0 ≤ product ns = product-item ns i (others n ns h) (omega arith) in
    let b : 1 * product ns ≤ n * product ns = mul-le-mul_right (product ns) a in
    omega arith
