-- Signed bytes in which nothing is wrong are a superblock.
use Rattle.std.proofs.Common.{◌≡◌, ℕ, ◌+◌, ◌≤◌, take, Bool, true, false, ◌&&◌, ◌||◌, List, length, refl, sym, subst, arith}
use Rattle.std.specs.Prelude.{if◌then◌else◌, ◌==◌, nat_le, slice_index}
use Rattle.std.specs.declared.option.Option.{Option}
use Rattle.std.specs.declared.option.Option.TheVariants.{Some, None}
use Rattle.std.proofs.lemmas.Bool.{le-leb, leb-true, eqb-true, and_parts}
use Rattle.std.proofs.lemmas.Slice.Eq.{bytes_eq-Decides}
use Rattle.h5_base.specs.declared.What.{What}
use Rattle.h5_base.specs.Fields.{u16_at, u64_at}
use Rattle.super_codec.specs.Super.{IsSuper, HasRest, IsK, is_signed, is_wrong, is_k, unsupported_of, version_of, rest_of, base_at, has_wrong_version, has_wrong_sizes, has_wrong_base, has_wrong_k, has_wrong_k_at, signature, Fits, Spells, fields}
use Rattle.super_codec.specs.declared.superblock.Superblock.{Superblock}

-- nothing is told: the first test fails, and the others tell nothing
first_none : (t : Bool) (w : What) (o : Option What) → (if t then Some w else o) ≡ None → (t ≡ false) × (o ≡ None)
first_none true w o e = cc
first_none false w o e = (refl, e)

or_none : (a b : Bool) → (a || b) ≡ false → (a ≡ false) × (b ≡ false)
or_none true b e = cc
or_none false b e = (refl, e)

-- a field that is there and isn't wrong is good
good_there : (b : List ℕ) (at size : ℕ) (good : Bool) → is_wrong b at size good ≡ false → at + size ≤ length b → good ≡ true
good_there b at size true e h = refl
good_there b at size false e h = let t = le-leb (at + size) (length b) h in cc

IsK_good : (k : ℕ) → is_k k ≡ true → IsK k
IsK_good k e = let p = and_parts (nat_le 1 k) (nat_le k 1024) e in (leb-true 1 k p.0, leb-true k 1024 p.1)

-- the place of the base address is one of two
base_at-least : (t : Bool) → 24 ≤ (if t then 28 else 24)
base_at-least true = omega arith
base_at-least false = omega arith

-- the third K, stored or not
chunk_good : (b : List ℕ) (t : Bool) → (t && has_wrong_k_at b 24) ≡ false → 26 ≤ length b → IsK (if t then u16_at b 24 else 32)
chunk_good b true e h = IsK_good (u16_at b 24) (good_there b 24 2 (is_k (u16_at b 24)) e h)
chunk_good b false e h = (omega arith, omega arith)

pub judged : (b : List ℕ) → is_signed b ≡ true → unsupported_of b ≡ None → HasRest b → IsSuper b
judged b signed none rest =
    let version = first_none (has_wrong_version b) _ _ none in
    let sizes = first_none (has_wrong_sizes b) _ _ version.1 in
    let base = first_none (has_wrong_base b) _ _ sizes.1 in
    let k = first_none (has_wrong_k b) _ _ base.1 in
    let size = or_none _ _ sizes.0 in
    let ks = or_none _ _ k.0 in
    let first_ks = or_none _ _ ks.0 in
    let least = base_at-least (version_of b == 1) in
    let whole = rest.whole in
    record {
      signed = (bytes_eq-Decides (take 8 b) signature).0 signed;
      version = leb-true (version_of b) 1 (good_there b 8 1 _ version.0 (omega arith));
      whole = rest.whole;
      free_space_version = rest.free_space_version;
      root_version = rest.root_version;
      shared_version = rest.shared_version;
      offsets = eqb-true (slice_index b 13) 8 (good_there b 13 1 _ size.0 (omega arith));
      lengths = eqb-true (slice_index b 14) 8 (good_there b 14 1 _ size.1 (omega arith));
      base = eqb-true (u64_at (rest_of b) 0) 0 (good_there b (base_at (version_of b)) 8 _ base.0 (omega arith));
      leaf_k = IsK_good (u16_at b 16) (good_there b 16 2 _ first_ks.0 (omega arith));
      internal_k = IsK_good (u16_at b 18) (good_there b 18 2 _ first_ks.1 (omega arith));
      chunk_k = chunk_good b (version_of b == 1) ks.1 (omega arith);
    }

super_fits : (b : List ℕ) → IsSuper b → Fits (fields b)
super_fits b h = record {
  version = h.version;
  leaf_k = h.leaf_k;
  internal_k = h.internal_k;
  chunk_k = h.chunk_k;
  fixed_k = λ (e : version_of b ≡ 0). rw e refl;
}

abbrev IsFit : Superblock → Type 0
IsFit s = Fits s

-- what is spelled can be written
pub spelled_fits : (s : Superblock) (b : List ℕ) → Spells s b → Fits s
spelled_fits s b h = subst IsFit (sym h.value) (super_fits b h.block)
