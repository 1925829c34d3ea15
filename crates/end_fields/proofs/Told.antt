-- What the end field tells once it is read or written.
use Rattle.std.proofs.Common.{◌≡◌, ℕ, ◌+◌, ◌-◌, ◌^◌, ◌<◌, List, [], ◌∷◌, length, get_or, refl, sym}
use Rattle.std.proofs.Common.{◌∙◌, ap, subst, arith}
use Rattle.std.proofs.Common.{Result, Ok, Err, OnOk}
use Rattle.std.specs.Int.{w64, to_le_bytes, from_le_bytes}
use Rattle.std.proofs.lemmas.Bool.Decides.{nat_tests}
use Rattle.std.proofs.lemmas.List.{ext_get_or}
use Rattle.std.proofs.lemmas.List.FromFn.{get_or-map-range_with_len, length-map-range_with_len}
use Rattle.std.proofs.lemmas.Nat.{from_le_bytes-to_le_bytes_8}
use Rattle.h5_base.specs.Fields.{u64_at}
use Rattle.outside.specs.Array.{Array, bytes_of, over, SameOutside}
use Rattle.outside.specs.Space.{SpaceView}
use Rattle.outside.specs.Revisions.{IsLogicalEnd}
use Rattle.file_model.specs.EditLaws.{end_place}
use Rattle.session_model.specs.EndFields.{number_at}
use Rattle.block_space.specs.Written.{TellsAllWritten}
use Rattle.block_space.proofs.Overlaid.{over_outside}
use Rattle.end_fields.specs.Field.{IsNumber, IsTold, PutsEnd, TellsEnd, field_of}

-- what was read is what stands there
pub number_read : (b : Array) (at : ℕ) (bs : List ℕ) (n : ℕ) → bs ≡ bytes_of b at 8 → n ≡ u64_at bs 0
    → n ≡ number_at b at
number_read b at bs n here is = is ∙ ap (λ (s : List ℕ). u64_at s 0) here

pub spelled_read : (b : Array) (at : ℕ) (bs : List ℕ) (n : ℕ) → bs ≡ bytes_of b at 8 → n ≡ u64_at bs 0
    → to_le_bytes w64 n ≡ bs → n < 2 ^ 64 → IsNumber b at
spelled_read b at bs n here is spelled small =
    let told = number_read b at bs n here is in
    record {
      small = subst (λ (m : ℕ). m < 2 ^ 64) told small;
      bytes = sym here ∙ sym spelled ∙ ap (to_le_bytes w64) told;
    }

over_inside : (b : Array) (at : ℕ) (bytes : List ℕ) (k : ℕ) → k < length bytes
    → over b at bytes (at + k) ≡ get_or bytes (at + k - at) 0
over_inside b at bytes k below = grind (arith, nat_tests)

-- bytes that were just written are there
over_there : (b : Array) (at : ℕ) (bytes : List ℕ) → bytes_of (over b at bytes) at (length bytes) ≡ bytes
over_there b at bytes =
    let long = length-map-range_with_len (over b at bytes) at (length bytes) in
    ext_get_or 0 (bytes_of (over b at bytes) at (length bytes)) bytes long (λ k below.
    let least : k < length bytes = omega (arith, below, long) in
    let back : at + k - at ≡ k = omega arith in
    get_or-map-range_with_len (over b at bytes) at (length bytes) k (at + k) 0 least refl
    ∙ over_inside b at bytes k least ∙ ap (λ (j : ℕ). get_or bytes j 0) back)

pub number_over : (b : Array) (at n : ℕ) → n < 2 ^ 64 → number_at (over b at (to_le_bytes w64 n)) at ≡ n
unfolding u64_at
number_over b at n small =
    ap (from_le_bytes w64) (over_there b at (to_le_bytes w64 n)) ∙ from_le_bytes-to_le_bytes_8 n small

pub spelled_over : (b : Array) (at n : ℕ) → n < 2 ^ 64 → IsNumber (over b at (to_le_bytes w64 n)) at
spelled_over b at n small =
    let is = number_over b at n small in
    record {
      small = subst (λ (m : ℕ). m < 2 ^ 64) (sym is) small;
      bytes = over_there b at (to_le_bytes w64 n) ∙ ap (to_le_bytes w64) (sym is);
    }

-- the end was written
pub tells_over : (version n : ℕ) (v w : SpaceView) → n < 2 ^ 64 → IsLogicalEnd v.regions v.ends n
    → w.array ≡ over v.array (end_place version) (to_le_bytes w64 n) → w.history ≡ v.history → TellsEnd version v w
tells_over version n v w small end array history =
    let at = end_place version in
    let number = number_over v.array at n small in
    record {
      told = subst (λ (b : Array). IsTold version v b) (sym array)
          (subst (λ (m : ℕ). IsLogicalEnd v.regions v.ends m) (sym number) end);
      spelled = subst (λ (b : Array). IsNumber b at) (sym array) (spelled_over v.array at n small);
      stays = subst (λ (b : Array). SameOutside at 8 v.array b) (sym array)
          (over_outside v.array at (to_le_bytes w64 n));
      history = history;
    }

pub main_over : (version n : ℕ) (v w : SpaceView) → n < 2 ^ 64 → IsLogicalEnd v.regions v.ends n
    → w.array ≡ over v.array (end_place version) (to_le_bytes w64 n) → IsTold version v w.array
main_over version n v w small end array =
    subst (λ (b : Array). IsTold version v b) (sym array)
    (subst (λ (m : ℕ). IsLogicalEnd v.regions v.ends m) (sym (number_over v.array (end_place version) n small)) end)

-- nothing was written
pub puts_none : (version : ℕ) (v w : SpaceView) → v ≡ w → IsTold version v v.array
    → IsNumber v.array (end_place version) → PutsEnd version v w
puts_none version v w alike told spelled =
    subst (λ (u : SpaceView). PutsEnd version v u) alike (record {
      tells = record { told = told; spelled = spelled; stays = λ a out. refl; history = refl };
      right = λ again. refl;
      pages = λ wrong. absurd (wrong told);
    })

-- the field was written behind a read
pub puts_one : (version : ℕ) (v m w : SpaceView) → v ≡ m → ¬ IsTold version v v.array → TellsEnd version m w
    → TellsAllWritten (field_of version ∷ []) m.committed w.committed → PutsEnd version v w
puts_one version v m w alike wrong tells pages =
    subst (λ (u : SpaceView). PutsEnd version u w) (sym alike) (record {
      tells = tells;
      right = λ told. absurd (wrong (subst (λ (u : SpaceView). IsTold version u u.array) (sym alike) told));
      pages = λ still. pages;
    })

pub both_ok : {T E : Type 0} (r : Result T E) (P Q R : Type 0) → (P → Q → R) → OnOk r P → OnOk r Q → OnOk r R
both_ok (Ok x) P Q R f p q = f p q
both_ok (Err e) P Q R f p q = tt
