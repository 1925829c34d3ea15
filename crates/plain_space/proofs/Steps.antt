-- How a space over a file stands, and where it came from, after a call on its store.
use Rattle.std.proofs.Common.{ℕ, ◌≡◌, ◌<◌, ◌≤◌, ◌+◌, ◌^◌, min, Bool, IsTrue, List, length, Some, sym, ◌∙◌, ap, subst, arith}
use Rattle.std.proofs.lemmas.List.{length-take}
use Rattle.outside.specs.Files.{Files, Snapshot, InFile, Follows, Torn, Cut, WrittenInPart, written}
use Rattle.outside.specs.Store.{View, Calls, Passes}
use Rattle.plain_space.specs.CameFrom.{CameFrom, touches_call}
use Rattle.plain_space.specs.File.{file_in, IsOpen}
use Rattle.plain_space.specs.Plain.{id_of, end_of}
use Rattle.plain_space.specs.declared.space.PlainSpace.{PlainSpace}
use Rattle.plain_space.proofs.Seen.{in_part, part_length, part_behind, none_behind, seen_whole}

-- the length of the file decides where it ends
pub is_open : (tells : Bool) (v w : View) (id end : ℕ) → 0 < length (v.names id) → w.names ≡ v.names → (IsTrue tells → end ≡ min (length (w.files (v.names id))) (2 ^ 48)) → IsOpen tells w id end
is_open tells v w id end given names size = record {
  given = subst (λ (n : ℕ → List ℕ). 0 < length (n id)) (sym names) given;
  length_is = λ told. omega (arith, size told, length-take (2 ^ 48) (file_in w id), ap (λ (n : ℕ → List ℕ). length (w.files (n id))) names);
}

-- the file reaches to the end
reaches : (tells : Bool) (v : View) (id end : ℕ) → IsOpen tells v id end → IsTrue tells → end ≤ length (file_in v id)
reaches tells v id end stands told = omega (arith, stands.length_is told, length-take (2 ^ 48) (file_in v id))

-- what a write inside a file leaves, done or not
pub done_in_part : (tells : Bool) (v w : View) (id end at : ℕ) (bytes : List ℕ) → IsOpen tells v id end → at + length bytes ≤ end → IsTrue tells
    → w.files (v.names id) ≡ written at bytes (file_in v id) → WrittenInPart at (length bytes) (file_in v id) (w.files (v.names id))
done_in_part tells v w id end at bytes stands inside told is =
    let Part : List ℕ → Type 0 = λ g. WrittenInPart at (length bytes) (file_in v id) g in
    subst Part (sym is) (in_part at bytes (file_in v id) (omega (arith, reaches tells v id end stands told)))

pub open_still : (tells : Bool) (v w : View) (id end at n : ℕ) → IsOpen tells v id end → at + n ≤ end → w.names ≡ v.names
    → (IsTrue tells → WrittenInPart at n (file_in v id) (w.files (v.names id))) → IsOpen tells w id end
open_still tells v w id end at n stands inside names part = is_open tells v w id end stands.given names (λ told.
    let same : length (w.files (v.names id)) ≡ length (file_in v id) = part_length at n (file_in v id) (w.files (v.names id)) (omega (arith, reaches tells v id end stands told)) (part told) in
    omega (arith, same, stands.length_is told, length-take (2 ^ 48) (file_in v id)))

pub came_written : {S : Type 0} (tells tells_images : Bool) (Failed : Type 0) (readings : List Files) (at n : ℕ) (v w : View) (lv lw : Files → Type 0) (pv pw : Snapshot → Type 0) (a b : PlainSpace S)
    → id_of b ≡ id_of a → end_of b ≡ end_of a → IsOpen tells v (id_of a) (end_of a) → at + n ≤ end_of a → end_of a ≤ 2 ^ 48
    → Calls tells (Some (id_of a)) Failed (λ q. q ≡ v.names (id_of a)) v w → w.names ≡ v.names → w.ids ≡ v.ids
    → (IsTrue tells → WrittenInPart at n (file_in v (id_of a)) (w.files (v.names (id_of a))))
    → (IsTrue tells_images → Follows (InFile (v.names (id_of a)) (Torn at n)) lv lw) → (IsTrue tells_images → Passes readings w lw pv pw)
    → CameFrom tells tells_images v w lv lw pv pw a b
came_written tells tells_images Failed readings at n v w lv lw pv pw a b id end stands inside low call names ids part follows passes = record {
  id = id;
  up = omega (arith, end);
  same_length = λ told same. ap (λ (f : ℕ → List ℕ). length (w.files (f (id_of a)))) names ∙ part_length at n (file_in v (id_of a)) (w.files (v.names (id_of a))) (inside_file told) (part told);
  store = touches_call tells tells_images (id_of a) Failed (Torn at n) readings v w lv lw pv pw call names ids
      (λ told. part_behind (2 ^ 48) at n (file_in v (id_of a)) (w.files (v.names (id_of a))) (omega arith) (inside_file told) (part told)) follows passes;
}
  where
    inside_file : IsTrue tells → at + n ≤ length (file_in v (id_of a))
    inside_file told = omega (arith, inside, reaches tells v (id_of a) (end_of a) stands told)

-- a raise to another end
pub came_raised : {S : Type 0} (tells tells_images : Bool) (Failed : Type 0) (readings : List Files) (v w : View) (lv lw : Files → Type 0) (pv pw : Snapshot → Type 0) (a b : PlainSpace S)
    → id_of b ≡ id_of a → IsOpen tells v (id_of a) (end_of a) → end_of a < end_of b → end_of b ≤ 2 ^ 48
    → Calls tells (Some (id_of a)) Failed (λ q. q ≡ v.names (id_of a)) v w → w.names ≡ v.names → w.ids ≡ v.ids
    → (IsTrue tells → length (w.files (v.names (id_of a))) ≤ end_of b)
    → (IsTrue tells_images → Follows (InFile (v.names (id_of a)) (Cut (end_of b))) lv lw) → (IsTrue tells_images → Passes readings w lw pv pw)
    → CameFrom tells tells_images v w lv lw pv pw a b
came_raised tells tells_images Failed readings v w lv lw pv pw a b id stands up low call names ids short follows passes = record {
  id = id;
  up = omega (arith, up);
  same_length = λ told same. absurd (omega (arith, up, same));
  store = touches_call tells tells_images (id_of a) Failed (Cut (end_of b)) readings v w lv lw pv pw call names ids
      (λ told. none_behind (2 ^ 48) (file_in v (id_of a)) (w.files (v.names (id_of a)))
      (omega (arith, up, low, seen_whole (2 ^ 48) (end_of a) (file_in v (id_of a)) (stands.length_is told) (omega (arith, up, low))))
      (omega (arith, low, short told))) follows passes;
}
