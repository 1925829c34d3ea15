-- Numbers in lists of bytes that are put together, and writes one after the other.
use Rattle.std.proofs.Common.{◌≡◌, ℕ, zero, suc, ◌+◌, ◌*◌, ◌^◌, ◌<◌, ◌≤◌, List, [], ◌∷◌, ◌++◌, length, take, drop, get_or, refl, sym, ap, ◌∙◌, arith, append_assoc, length-append, drop-cons, add-one}
use Rattle.std.specs.Int.{w16, w32, w64, to_le_bytes, from_le_bytes}
use Rattle.std.proofs.Math.Seq.{drop-append-add, take-suc}
use Rattle.std.proofs.lemmas.Grind.{flat_map-append}
use Rattle.std.proofs.lemmas.List.{take-append-le, drop-append-le, length-drop, drop-drop}
use Rattle.std.proofs.lemmas.Nat.{from_le_bytes-to_le_bytes_2, from_le_bytes-to_le_bytes_4, from_le_bytes-to_le_bytes_8}
use Rattle.h5_base.specs.Fields.{bytes_at, u16_at, u32_at, u64_at, u64s_at, u64s_bytes, Puts}

-- what stands in the front part
pub bytes_at-front : (xs ys : List ℕ) (at n : ℕ) → at + n ≤ length xs → bytes_at (xs ++ ys) at n ≡ bytes_at xs at n
bytes_at-front xs ys at n lt =
    let a : at ≤ length xs = omega arith in
    let k : n ≤ length (drop at xs) = omega (arith, length-drop at xs) in
    rw (drop-append-le at xs ys a, take-append-le n (drop at xs) ys k) refl

-- what stands past the front part
pub bytes_at-past : (xs ys : List ℕ) (at n : ℕ) → bytes_at (xs ++ ys) (length xs + at) n ≡ bytes_at ys at n
bytes_at-past xs ys at n = rw (drop-append-add xs ys at) refl

-- the bytes from `at` on, the first told apart
pub bytes_at-cons : (b : List ℕ) (at n : ℕ) → at < length b → bytes_at b at (suc n) ≡ get_or b at 0 ∷ bytes_at b (suc at) n
bytes_at-cons b at n lt = rw (drop-cons b at 0 lt) refl

-- the same numbers, by the bytes that they stand in
pub u16_at-front : (xs ys : List ℕ) (at : ℕ) → at + 2 ≤ length xs → u16_at (xs ++ ys) at ≡ u16_at xs at
unfolding u16_at
u16_at-front xs ys at lt = ap (from_le_bytes w16) (bytes_at-front xs ys at 2 lt)

pub u32_at-front : (xs ys : List ℕ) (at : ℕ) → at + 4 ≤ length xs → u32_at (xs ++ ys) at ≡ u32_at xs at
unfolding u32_at
u32_at-front xs ys at lt = ap (from_le_bytes w32) (bytes_at-front xs ys at 4 lt)

pub u64_at-front : (xs ys : List ℕ) (at : ℕ) → at + 8 ≤ length xs → u64_at (xs ++ ys) at ≡ u64_at xs at
unfolding u64_at
u64_at-front xs ys at lt = ap (from_le_bytes w64) (bytes_at-front xs ys at 8 lt)

pub u16_at-past : (xs ys : List ℕ) (at : ℕ) → u16_at (xs ++ ys) (length xs + at) ≡ u16_at ys at
unfolding u16_at
u16_at-past xs ys at = ap (from_le_bytes w16) (bytes_at-past xs ys at 2)

pub u32_at-past : (xs ys : List ℕ) (at : ℕ) → u32_at (xs ++ ys) (length xs + at) ≡ u32_at ys at
unfolding u32_at
u32_at-past xs ys at = ap (from_le_bytes w32) (bytes_at-past xs ys at 4)

pub u64_at-past : (xs ys : List ℕ) (at : ℕ) → u64_at (xs ++ ys) (length xs + at) ≡ u64_at ys at
unfolding u64_at
u64_at-past xs ys at = ap (from_le_bytes w64) (bytes_at-past xs ys at 8)

-- what was written is read again
pub u16_at-written : (n : ℕ) (ys : List ℕ) → n < 2 ^ 16 → u16_at (to_le_bytes w16 n ++ ys) 0 ≡ n
unfolding u16_at
u16_at-written n ys lt = from_le_bytes-to_le_bytes_2 n lt

pub u32_at-written : (n : ℕ) (ys : List ℕ) → n < 2 ^ 32 → u32_at (to_le_bytes w32 n ++ ys) 0 ≡ n
unfolding u32_at
u32_at-written n ys lt = from_le_bytes-to_le_bytes_4 n lt

pub u64_at-written : (n : ℕ) (ys : List ℕ) → n < 2 ^ 64 → u64_at (to_le_bytes w64 n ++ ys) 0 ≡ n
unfolding u64_at
u64_at-written n ys lt = from_le_bytes-to_le_bytes_8 n lt

-- one number more at the end
pub u64s_at-more : (b : List ℕ) (at step n : ℕ) → u64s_at b at step (n + 1) ≡ u64s_at b at step n ++ u64_at b (at + step * n) ∷ []
u64s_at-more b at step zero = let e : at + step * 0 ≡ at = omega arith in rw e refl
u64s_at-more b at step (suc n) =
    let one : suc n + 1 ≡ suc (n + 1) = omega arith in
    let e : at + step + step * n ≡ at + step * suc n = omega arith in
    rw (one, u64s_at-more b (at + step) step n, e) refl

-- what agrees from n on agrees from a later place on
pub drop_more : (a b : List ℕ) (n k : ℕ) → drop n a ≡ drop n b → drop (n + k) a ≡ drop (n + k) b
drop_more a b n k e = sym (drop-drop k n a) ∙ ap (drop k) e ∙ drop-drop k n b

-- a write behind a write
pub puts_more : (old mid new : List ℕ) (at n : ℕ) (xs ys : List ℕ) → n ≡ at + length xs → Puts old mid at xs → Puts mid new n ys → Puts old new at (xs ++ ys)
puts_more old mid new at n xs ys e p q =
    let k : at + length (xs ++ ys) ≡ n + length ys = omega (arith, length-append xs ys) in
    let m : n + length ys ≡ at + length xs + length ys = omega arith in
    let f : take n mid ≡ take at old ++ xs = rw e p.front in
    record {
      front = rw (k, q.front, f) (append_assoc (take at old) xs ys);
      rest = rw (k, q.rest, m) (drop_more mid old (at + length xs) (length ys) p.rest);
    }

pub length-u64s_bytes : (ns : List ℕ) → length (u64s_bytes ns) ≡ 8 * length ns
length-u64s_bytes [] = refl
length-u64s_bytes (n ∷ ns) = omega (arith, length-u64s_bytes ns, length-append (to_le_bytes w64 n) (u64s_bytes ns))

-- one number more
pub u64s_bytes-take : (ns : List ℕ) (i : ℕ) → i < length ns → u64s_bytes (take (i + 1) ns) ≡ u64s_bytes (take i ns) ++ to_le_bytes w64 (get_or ns i 0)
u64s_bytes-take ns i lt = rw (add-one, take-suc ns i 0 lt, flat_map-append) refl
