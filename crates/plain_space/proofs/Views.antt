-- What a space over a file tells after a write and with another length, and what its views tell of the file.
use Rattle.std.proofs.Common.{ℕ, ◌≡◌, ◌≢◌, ◌<◌, ◌≤◌, ◌+◌, ◌-◌, ◌^◌, Bool, IsTrue, Option, Some, None, List, length, drop, replicate, refl, sym, ◌∙◌, ap, arith, inl, inr}
use Rattle.std.proofs.lemmas.Bool.{cases_eq}
use Rattle.std.proofs.lemmas.Option.{none-some, same_Some}
use Rattle.outside.specs.Causes.{Counts}
use Rattle.h5_base.specs.declared.extent.Extent.{Extent}
use Rattle.h5_base.specs.declared.extent.MemClass.{MemClass}
use Rattle.outside.specs.Array.{Array, array_of, over, SameOutside}
use Rattle.outside.specs.Files.{written, resized}
use Rattle.outside.specs.Space.{Wrote, new_bytes}
use Rattle.outside.specs.Store.{View}
use Rattle.plain_space.specs.File.{array_in, faults_of, file_in, seen, view_of}
use Rattle.std.proofs.lemmas.List.{length-replicate}
use Rattle.plain_space.proofs.Bytes.{over-unique}
use Rattle.plain_space.proofs.Seen.{seen-written, seen-longer, same_bytes}

pub array_told : (tells : Bool) (file : List ℕ) → IsTrue tells → array_in tells file ≡ array_of (seen file)
array_told tells file told = ap (λ (t : Bool). array_in t file) told

-- the file of an id, where the names have stayed
file_after : (v w : View) (id : ℕ) (bytes : List ℕ) → w.names ≡ v.names → w.files (v.names id) ≡ bytes → file_in w id ≡ bytes
file_after v w id bytes names file = ap (λ (n : ℕ → List ℕ). w.files (n id)) names ∙ file

pub wrote : (tells : Bool) (v w : View) (id end at : ℕ) (prepared : List Extent) (bytes : List ℕ) → IsTrue tells → w.names ≡ v.names
    → w.files (v.names id) ≡ written at bytes (v.files (v.names id)) → at + length bytes ≤ 2 ^ 48
    → Wrote at bytes (view_of tells v id end prepared) (view_of tells w id end prepared)
wrote tells v w id end at prepared bytes told names file low = record {
  array = array_told tells (file_in w id) told
      ∙ ap (λ (l : List ℕ). array_of (seen l)) (file_after v w id (written at bytes (file_in v id)) names file)
      ∙ seen-written (2 ^ 48) at bytes (file_in v id) low
      ∙ ap (λ a. over a at bytes) (sym (array_told tells (file_in v id) told));
  history = refl;
}

pub raised_to : (tells : Bool) (v w : View) (id old end : ℕ) (prepared : List Extent) (class : MemClass) → IsTrue tells
    → w.names ≡ v.names
    → w.files (v.names id) ≡ resized end (v.files (v.names id)) → old ≡ length (seen (file_in v id)) → old < end
    → end ≤ 2 ^ 48
    → Wrote old (new_bytes (λ c. old) class end) (view_of tells v id old prepared) (view_of tells w id end prepared)
raised_to tells v w id old end prepared class told names file size up low = record {
  array = array_told tells (file_in w id) told
      ∙ ap (λ (l : List ℕ). array_of (seen l)) (file_after v w id (resized end (file_in v id)) names file)
      ∙ seen-longer (2 ^ 48) old end (file_in v id) size up low
      ∙ ap (λ a. over a old (replicate (end - old) 0)) (sym (array_told tells (file_in v id) told));
  history = refl;
}

-- a raise to the end as it is
pub raised_nowhere : (tells : Bool) (v : View) (id old end : ℕ) (prepared : List Extent) (class : MemClass) → end ≡ old
    → Wrote old (new_bytes (λ c. old) class end) (view_of tells v id old prepared) (view_of tells v id old prepared)
raised_nowhere tells v id old end prepared class same = record {
  array = over-unique (array_in tells (file_in v id)) (array_in tells (file_in v id)) old (replicate (end - old) 0)
      (λ k lt. absurd (omega (arith, lt, same, length-replicate {A = ℕ} (end - old) 0))) (λ k h. refl);
  history = refl;
}

-- the arrays that are told agree outside a range where those of the files do
pub told_outside : (tells : Bool) (v w : View) (id at n : ℕ) → IsTrue tells → w.names ≡ v.names
    → SameOutside at n (array_of (seen (file_in v id))) (array_of (seen (w.files (v.names id))))
    → SameOutside at n (array_in tells (file_in v id)) (array_in tells (file_in w id))
told_outside tells v w id at n told names same k h =
    ap (λ (b : Array). b k) (array_told tells (file_in w id) told)
    ∙ ap (λ (l : List ℕ). array_of (seen l) k) (file_after v w id (w.files (v.names id)) names refl)
    ∙ same k h
    ∙ ap (λ (b : Array). b k) (sym (array_told tells (file_in v id) told))

-- the same file, where all that is told of it is the same
pub told_same : (tells : Bool) (v w : View) (i j : ℕ) → IsTrue tells → j ≡ i → array_in tells (file_in w j) ≡ array_in tells (file_in v i)
    → drop (2 ^ 48) (file_in w i) ≡ drop (2 ^ 48) (file_in v i) → length (file_in w i) ≡ length (file_in v i) → file_in w i ≡ file_in v i
told_same tells v w i j told same array behind size = same_bytes (2 ^ 48) (file_in v i) (file_in w i)
    (sym (array_told tells (file_in w i) told) ∙ ap (λ (k : ℕ). array_in tells (file_in w k)) (sym same) ∙ array ∙ array_told tells (file_in v i) told)
    behind size

-- all counts of a store are as they were, where those of the other files and that of the file are
pub counts_same : (v w : View) (i j : ℕ) → j ≡ i → ((k : Option ℕ) → k ≢ Some i → w.counts k ≡ v.counts k)
    → faults_of w j ≡ faults_of v i → (k : Option ℕ) → w.counts k ≡ v.counts k
counts_same v w i j same others calm None = others None (none-some i)
counts_same v w i j same others calm (Some k) = elim (cases_eq k i) [
  | inl is ↦
      ap (λ (n : ℕ). w.counts (Some n)) (is ∙ sym same) ∙ ap (λ (c : Counts). c k) calm
      ∙ ap (λ (n : ℕ). v.counts (Some n)) (sym is)
  | inr other ↦ others (Some k) (λ is. other (same_Some k i is))
]
