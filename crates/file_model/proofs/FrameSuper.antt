-- A superblock is spelled by its own bytes, whatever follows them.
use Rattle.std.proofs.Common.{◌≡◌, ℕ, ◌<◌, ◌≤◌, Bool, true, false, List, ◌++◌, length, take, drop, sym, ap, subst, ◌∙◌, arith, length-append}
use Rattle.std.specs.Prelude.{◌==◌, slice_index, if◌then◌else◌}
use Rattle.std.proofs.lemmas.List.{take-append-le, drop-append-le, take-append-drop, length-drop, length-take-le, get_or_append_left}
use Rattle.h5_base.specs.Fields.{u64_at}
use Rattle.h5_base.proofs.FieldLemmas.{u16_at-front, u32_at-front, u64_at-front}
use Rattle.super_codec.specs.Super.{Spells, IsSuper, IsK, fields, root_in, super_len, base_at, version_of, rest_of}
use Rattle.super_codec.specs.declared.superblock.Superblock.{Superblock}

-- all that is looked at is the same
record Alike (x y : List ℕ) : Type 0 where
  signed : take 8 x ≡ take 8 y
  byte : (i : ℕ) → i < 15 → slice_index x i ≡ slice_index y i
  base : u64_at (rest_of x) 0 ≡ u64_at (rest_of y) 0
  value : fields x ≡ fields y

turned : (x y : List ℕ) → Alike x y → Alike y x
turned x y a = record { signed = sym a.signed; byte = λ i lt. sym (a.byte i lt); base = sym a.base; value = sym a.value }

super_from : (x y : List ℕ) → Alike x y → super_len (version_of y) ≤ length y → IsSuper x → IsSuper y
super_from x y a whole h = record {
  signed = sym a.signed ∙ h.signed;
  version = subst (λ n. n ≤ 1) (a.byte 8 (omega arith)) h.version;
  whole = whole;
  free_space_version = sym (a.byte 9 (omega arith)) ∙ h.free_space_version;
  root_version = sym (a.byte 10 (omega arith)) ∙ h.root_version;
  shared_version = sym (a.byte 12 (omega arith)) ∙ h.shared_version;
  offsets = sym (a.byte 13 (omega arith)) ∙ h.offsets;
  lengths = sym (a.byte 14 (omega arith)) ∙ h.lengths;
  base = sym a.base ∙ h.base;
  leaf_k = subst IsK (ap (λ (s : Superblock). s.leaf_k) a.value) h.leaf_k;
  internal_k = subst IsK (ap (λ (s : Superblock). s.internal_k) a.value) h.internal_k;
  chunk_k = subst IsK (ap (λ (s : Superblock). s.chunk_k) a.value) h.chunk_k;
}

spells_from : (s : Superblock) (x y : List ℕ) → Alike x y → super_len (version_of y) ≤ length y → Spells s x → Spells s y
spells_from s x y a whole h = record { block = super_from x y a whole h.block; value = h.value ∙ a.value }

base_least : (t : Bool) → 24 ≤ (if t then 28 else 24)
base_least true = omega arith
base_least false = omega arith

rest_front : (p z : List ℕ) → 24 ≤ length p → super_len (version_of p) ≤ length p → rest_of (p ++ z) ≡ rest_of p ++ z
rest_front p z some whole =
    let same : version_of (p ++ z) ≡ version_of p = get_or_append_left p z 0 8 (omega arith) in
    ap (λ (v : ℕ). drop (base_at v) (p ++ z)) same ∙ drop-append-le (base_at (version_of p)) p z (omega arith)

root_front : (r z : List ℕ) → 72 ≤ length r → root_in (r ++ z) ≡ root_in r
root_front r z whole =
    let header = u64_at-front r z 40 (omega arith) in
    let cache = u32_at-front r z 48 (omega arith) in
    let tree = u64_at-front r z 56 (omega arith) in
    let heap = u64_at-front r z 64 (omega arith) in
    λ j. record { header_at = header j; cache = cache j; tree_at = tree j; heap_at = heap j }

front_alike : (p z : List ℕ) → super_len (version_of p) ≤ length p → Alike (p ++ z) p
front_alike p z whole =
    let least = base_least (version_of p == 1) in
    let version : version_of (p ++ z) ≡ version_of p = get_or_append_left p z 0 8 (omega arith) in
    let rest = rest_front p z (omega arith) whole in
    let r = rest_of p in
    let many : 72 ≤ length r = omega (arith, length-drop (base_at (version_of p)) p) in
    let leaf = u16_at-front p z 16 (omega arith) in
    let internal = u16_at-front p z 18 (omega arith) in
    let chunk = u16_at-front p z 24 (omega arith) in
    let flags = u32_at-front p z 20 (omega arith) in
    let free : u64_at (rest_of (p ++ z)) 8 ≡ u64_at r 8 = rw rest (u64_at-front r z 8 (omega arith)) in
    let end : u64_at (rest_of (p ++ z)) 16 ≡ u64_at r 16 = rw rest (u64_at-front r z 16 (omega arith)) in
    let driver : u64_at (rest_of (p ++ z)) 24 ≡ u64_at r 24 = rw rest (u64_at-front r z 24 (omega arith)) in
    let root : root_in (rest_of (p ++ z)) ≡ root_in r = ap root_in rest ∙ root_front r z many in
    record {
      signed = take-append-le 8 p z (omega arith);
      byte = λ i lt. get_or_append_left p z 0 i (omega arith);
      base = rw rest (u64_at-front r z 0 (omega arith));
      value = λ j. record {
        version = version j;
        leaf_k = leaf j;
        internal_k = internal j;
        chunk_k = if version j == 1 then chunk j else 32;
        flags = flags j;
        free_at = free j;
        end_at = end j;
        driver_at = driver j;
        root = root j;
      };
    }

-- a superblock is spelled by as many bytes as its version has
pub spells_same : (s : Superblock) (x y : List ℕ) → super_len s.version ≤ length y → take (super_len s.version) x ≡ take (super_len s.version) y → Spells s x → Spells s y
spells_same s x y room same h =
    let n = super_len s.version in
    let p = take n y in
    let told : s.version ≡ version_of x = ap (λ (t : Superblock). t.version) h.value in
    let least = base_least (s.version == 1) in
    let long : length p ≡ n = length-take-le n y room in
    let parts : p ++ drop n x ≡ x = ap (λ (q : List ℕ). q ++ drop n x) (sym same) ∙ take-append-drop n x in
    let first : Spells s (p ++ drop n x) = subst (λ b. Spells s b) (sym parts) h in
    let version : s.version ≡ version_of p = ap (λ (t : Superblock). t.version) first.value ∙ get_or_append_left p (drop n x) 0 8 (omega arith) in
    let whole : super_len (version_of p) ≤ length p = subst (λ v. super_len v ≤ length p) version (omega arith) in
    let own = spells_from s (p ++ drop n x) p (front_alike p (drop n x) whole) whole first in
    let alike = front_alike p (drop n y) whole in
    let more : super_len (version_of (p ++ drop n y)) ≤ length (p ++ drop n y) =
    subst (λ v. super_len v ≤ length (p ++ drop n y)) (sym (alike.byte 8 (omega arith))) (omega (arith, length-append p (drop n y))) in
    subst (λ b. Spells s b) (take-append-drop n y) (spells_from s p (p ++ drop n y) (turned (p ++ drop n y) p alike) more own)
