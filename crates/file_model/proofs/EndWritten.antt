-- The field of a superblock that tells the end of the file is written, and nothing else.
use Rattle.std.proofs.Common.{◌≡◌, ℕ, ◌+◌, ◌<◌, ◌≤◌, Bool, true, false, List, length, take, drop, sym, ap, subst, ◌∙◌, arith}
use Rattle.std.specs.Prelude.{◌==◌, min, slice_index, if◌then◌else◌}
use Rattle.std.specs.Int.{w16, w32, w64, to_le_bytes, from_le_bytes}
use Rattle.std.proofs.lemmas.List.FromFn.{length-map-range_with_len}
use Rattle.std.proofs.lemmas.List.{drop-drop}
use Rattle.std.proofs.lemmas.Nat.{from_le_bytes-to_le_bytes_8}
use Rattle.outside.specs.Array.{Array, bytes_of}
use Rattle.h5_base.specs.declared.extent.MemClass.TheVariants.{Super}
use Rattle.h5_base.specs.Fields.{bytes_at, u16_at, u32_at, u64_at}
use Rattle.super_codec.specs.Super.{Spells, IsK, base_at, chunk_k_of, root_in, rest_of, super_len, version_of}
use Rattle.super_codec.specs.declared.superblock.Superblock.{Superblock}
use Rattle.file_model.specs.EditLaws.{EndWritten}
use Rattle.file_model.proofs.PartBytes.{part_bytes, part_same, behind_same, byte_same}
use Rattle.file_model.proofs.FrameBytes.{Same, within_same}

base_least : (t : Bool) → 24 ≤ (if t then 28 else 24)
base_least true = omega arith
base_least false = omega arith

-- all that is looked at, but the end of the file
record Alike (x y : List ℕ) : Type 0 where
  signed : take 8 x ≡ take 8 y
  byte : (i : ℕ) → i < 15 → slice_index x i ≡ slice_index y i
  leaf_k : u16_at x 16 ≡ u16_at y 16
  internal_k : u16_at x 18 ≡ u16_at y 18
  flags : u32_at x 20 ≡ u32_at y 20
  chunk_k : u16_at x 24 ≡ u16_at y 24
  base : u64_at (rest_of x) 0 ≡ u64_at (rest_of y) 0
  free : u64_at (rest_of x) 8 ≡ u64_at (rest_of y) 8
  driver : u64_at (rest_of x) 24 ≡ u64_at (rest_of y) 24
  root : root_in (rest_of x) ≡ root_in (rest_of y)

spells_alike : (s : Superblock) (x y : List ℕ) (n : ℕ) → Alike x y → super_len (version_of y) ≤ length y → u64_at (rest_of y) 16 ≡ n → Spells s x → Spells (record s { end_at = n }) y
spells_alike s x y n a whole end h =
    let is = h.block in
    let version = a.byte 8 (omega arith) in
    let k : chunk_k_of x ≡ chunk_k_of y = λ j. if version j == 1 then a.chunk_k j else 32 in
    let last = sym end in
    record {
      block = record {
        signed = sym a.signed ∙ is.signed;
        version = subst (λ v. v ≤ 1) (a.byte 8 (omega arith)) is.version;
        whole = whole;
        free_space_version = sym (a.byte 9 (omega arith)) ∙ is.free_space_version;
        root_version = sym (a.byte 10 (omega arith)) ∙ is.root_version;
        shared_version = sym (a.byte 12 (omega arith)) ∙ is.shared_version;
        offsets = sym (a.byte 13 (omega arith)) ∙ is.offsets;
        lengths = sym (a.byte 14 (omega arith)) ∙ is.lengths;
        base = sym a.base ∙ is.base;
        leaf_k = subst IsK a.leaf_k is.leaf_k;
        internal_k = subst IsK a.internal_k is.internal_k;
        chunk_k = subst IsK k is.chunk_k;
      };
      value = ap (λ (t : Superblock). record t { end_at = n }) h.value ∙ (λ j. record {
        version = version j;
        leaf_k = a.leaf_k j;
        internal_k = a.internal_k j;
        chunk_k = k j;
        flags = a.flags j;
        free_at = a.free j;
        end_at = last j;
        driver_at = a.driver j;
        root = a.root j;
      });
    }

alike_of : (b c : Array) (m n v : ℕ) → base_at v + 72 ≤ m → base_at v + 72 ≤ n → version_of (bytes_of b 0 m) ≡ v → Same b c 0 (base_at v + 16) → Same b c (base_at v + 24) 48
    → Alike (bytes_of b 0 m) (bytes_of c 0 n)
unfolding u16_at u32_at u64_at
alike_of b c m n v le le' told front back =
    let x = bytes_of b 0 m in
    let y = bytes_of c 0 n in
    let least = base_least (v == 1) in
    let p = base_at v in
    let byte : (i : ℕ) → i < 40 → slice_index x i ≡ slice_index y i = λ i lt. byte_same b c m n i (omega arith) (omega arith) (front i (omega arith) (omega arith)) in
    let told' : version_of y ≡ v = sym (byte 8 (omega arith)) ∙ told in
    let rest : rest_of x ≡ drop p x = ap (λ w. drop (base_at w) x) told in
    let rest' : rest_of y ≡ drop p y = ap (λ w. drop (base_at w) y) told' in
    let head : (i w : ℕ) → i + w ≤ 40 → bytes_at x i w ≡ bytes_at y i w = λ i w lt. part_same b c m n i w (omega arith) (omega arith) (within_same b c i w 0 (p + 16) front (omega arith) (omega arith)) in
    let early : (i w : ℕ) → i + w ≤ 16 → bytes_at (rest_of x) i w ≡ bytes_at (rest_of y) i w = λ i w lt.
    rw (rest, rest') (behind_same b c m n p i w (omega arith) (omega arith) (within_same b c (p + i) w 0 (p + 16) front (omega arith) (omega arith))) in
    let late : (i w : ℕ) → 24 ≤ i → i + w ≤ 72 → bytes_at (rest_of x) i w ≡ bytes_at (rest_of y) i w = λ i w low lt.
    rw (rest, rest') (behind_same b c m n p i w (omega arith) (omega arith) (within_same b c (p + i) w (p + 24) 48 back (omega arith) (omega arith))) in
    let header = ap (from_le_bytes w64) (late 40 8 (omega arith) (omega arith)) in
    let cache = ap (from_le_bytes w32) (late 48 4 (omega arith) (omega arith)) in
    let tree = ap (from_le_bytes w64) (late 56 8 (omega arith) (omega arith)) in
    let heap = ap (from_le_bytes w64) (late 64 8 (omega arith) (omega arith)) in
    record {
      signed = head 0 8 (omega arith);
      byte = λ i lt. byte i (omega arith);
      leaf_k = ap (from_le_bytes w16) (head 16 2 (omega arith));
      internal_k = ap (from_le_bytes w16) (head 18 2 (omega arith));
      flags = ap (from_le_bytes w32) (head 20 4 (omega arith));
      chunk_k = ap (from_le_bytes w16) (head 24 2 (omega arith));
      base = ap (from_le_bytes w64) (early 0 8 (omega arith));
      free = ap (from_le_bytes w64) (early 8 8 (omega arith));
      driver = ap (from_le_bytes w64) (late 24 8 (omega arith) (omega arith));
      root = λ j. record { header_at = header j; cache = cache j; tree_at = tree j; heap_at = heap j };
    }

pub end_written : EndWritten
unfolding u64_at
end_written b c e f s n small h ends agree written =
    let m = min 100 (e.ends Super) in
    let k = min 100 (f.ends Super) in
    let v = s.version in
    let p = base_at v in
    let told : version_of (bytes_of b 0 m) ≡ v = ap (λ (t : Superblock). t.version) (sym h.value) in
    let whole : p + 72 ≤ length (bytes_of b 0 m) = subst (λ w. base_at w + 72 ≤ length (bytes_of b 0 m)) told h.block.whole in
    let long = length-map-range_with_len b 0 m in
    let long' = length-map-range_with_len c 0 k in
    let later : p + 24 ≡ p + 16 + 8 = omega arith in
    let alike = alike_of b c m k v (omega arith) (omega arith) told agree.0 (rw later agree.1.0) in
    let told' : version_of (bytes_of c 0 k) ≡ v = sym (alike.byte 8 (omega arith)) ∙ told in
    let fits : super_len (version_of (bytes_of c 0 k)) ≤ length (bytes_of c 0 k) = rw told' (omega arith) in
    let here : 0 + (p + 16) ≡ p + 16 = omega arith in
    let there : bytes_at (drop p (bytes_of c 0 k)) 16 8 ≡ to_le_bytes w64 n = ap (take 8) (drop-drop 16 p (bytes_of c 0 k)) ∙ part_bytes c 0 k (p + 16) 8 (omega arith) ∙ ap (λ q. bytes_of c q 8) here ∙ written in
    let end : u64_at (rest_of (bytes_of c 0 k)) 16 ≡ n = rw told' (rw there (from_le_bytes-to_le_bytes_8 n small)) in
    spells_alike s (bytes_of b 0 m) (bytes_of c 0 k) n alike fits end h
