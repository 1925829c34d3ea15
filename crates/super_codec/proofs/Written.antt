-- What is written is spelled.
use Rattle.std.proofs.Common.{◌≡◌, ◌≢◌, ℕ, ◌+◌, ◌≤◌, ◌<◌, ◌^◌, Bool, true, false, List, ◌++◌, length, drop, refl, sym, arith}
use Rattle.std.specs.Prelude.{if◌then◌else◌, ◌==◌, replicate, []}
use Rattle.std.specs.Int.{w16, to_le_bytes}
use Rattle.std.proofs.lemmas.Bool.{eqb-false}
use Rattle.std.proofs.lemmas.Nat.{from_le_bytes-to_le_bytes_2, from_le_bytes-to_le_bytes_4, from_le_bytes-to_le_bytes_8}
use Rattle.h5_base.specs.Fields.{u16_at, u32_at, u64_at}
use Rattle.super_codec.specs.declared.superblock.Superblock.{Superblock}
use Rattle.super_codec.specs.Super.{Spells, Fits, InRange, super_bytes, head_bytes, rest_bytes, rest_of, chunk_k_of, super_len}

-- the block, by the test whether its version stores the third K
abbrev with_test : Superblock → Bool → List ℕ
with_test s t = head_bytes s ++ (if t then (to_le_bytes w16 s.chunk_k ++ replicate 2 0) else []) ++ rest_bytes s

rest-written : (s : Superblock) (t : Bool) → drop (if t then 28 else 24) (with_test s t) ≡ rest_bytes s
rest-written s true = refl
rest-written s false = refl

length-written : (s : Superblock) (t : Bool) → length (with_test s t) ≡ (if t then 28 else 24) + 72
length-written s true = refl
length-written s false = refl

chunk_k-written : (s : Superblock) (t : Bool) → s.chunk_k < 2 ^ 16 → (t ≡ false → s.chunk_k ≡ 32) → (if t then u16_at (with_test s t) 24 else 32) ≡ s.chunk_k
unfolding u16_at
chunk_k-written s true lt fixed = from_le_bytes-to_le_bytes_2 s.chunk_k lt
chunk_k-written s false lt fixed = sym (fixed refl)

-- a version that isn't 1 is 0
not_one : (v : ℕ) → v ≤ 1 → (v == 1) ≡ false → v ≡ 0
not_one v le e = let ne : v ≢ 1 = eqb-false v 1 e in omega arith

pub spelled : (s : Superblock) → Fits s → InRange s → Spells s (super_bytes s)
unfolding u16_at u32_at u64_at
spelled s f r =
    let t = s.version == 1 in
    let rest : rest_of (super_bytes s) ≡ rest_bytes s = rest-written s t in
    let k : chunk_k_of (super_bytes s) ≡ s.chunk_k = chunk_k-written s t r.chunk_k (λ e. f.fixed_k (not_one s.version f.version e)) in
    let len : length (super_bytes s) ≡ super_len s.version = length-written s t in
    record {
      block = record {
        signed = refl;
        version = f.version;
        whole = omega (arith, len);
        free_space_version = refl;
        root_version = refl;
        shared_version = refl;
        offsets = refl;
        lengths = refl;
        base = rw rest refl;
        leaf_k = rw (from_le_bytes-to_le_bytes_2 s.leaf_k r.leaf_k) f.leaf_k;
        internal_k = rw (from_le_bytes-to_le_bytes_2 s.internal_k r.internal_k) f.internal_k;
        chunk_k = rw k f.chunk_k;
      };
      value =
          sym
          (rw (
            rest,
            k,
            from_le_bytes-to_le_bytes_2 s.leaf_k r.leaf_k,
            from_le_bytes-to_le_bytes_2 s.internal_k r.internal_k,
            from_le_bytes-to_le_bytes_4 s.flags r.flags,
            from_le_bytes-to_le_bytes_8 s.free_at r.free_at,
            from_le_bytes-to_le_bytes_8 s.end_at r.end_at,
            from_le_bytes-to_le_bytes_8 s.driver_at r.driver_at,
            from_le_bytes-to_le_bytes_8 s.root.header_at r.header_at,
            from_le_bytes-to_le_bytes_4 s.root.cache r.cache,
            from_le_bytes-to_le_bytes_8 s.root.tree_at r.tree_at,
            from_le_bytes-to_le_bytes_8 s.root.heap_at r.heap_at,
          ) refl);
    }
