-- When one space over a file came from another by calls that change nothing, and that alike spaces tell the same.
-- Cited by `PlainSpace`.
use Rattle.std.specs.Prelude.{◌≡◌, ℕ, ◌^◌, ◌<◌, ◌≤◌, Bool, true, false, IsTrue, List, Some, length}
use Rattle.std.proofs.Common.{refl, sym, ◌∙◌, inl, ap, subst, arith}
use Rattle.h5_base.specs.declared.extent.Extent.{Extent}
use Rattle.std.proofs.lemmas.Option.{none-some}
use Rattle.outside.specs.Files.{Files, Snapshot}
use Rattle.outside.specs.Store.{View, Goes}
use Rattle.outside.specs.Space.{IsSound}
use Rattle.outside.proofs.Goes.{goes_nowhere, goes_on, over_on}
use Rattle.plain_space.specs.File.{array_in, file_in, seen, view_of, Looks, IsOpen, RestsIn}
use Rattle.plain_space.specs.Plain.{id_of, end_of, prepared_of}
use Rattle.plain_space.specs.declared.space.PlainSpace.{PlainSpace}

-- The file, its end and the ranges given are the same, and the store was only looked at.
pub record IsAlike {S : Type 0} (tells tells_images : Bool) (v w : View) (leaves new_leaves : Files
    → Type 0) (past new_past : Snapshot → Type 0) (a b : PlainSpace S) : Type 0 where
  pub id : id_of b ≡ id_of a
  pub end : end_of b ≡ end_of a
  pub prepared : prepared_of b ≡ prepared_of a
  pub store : Looks tells tells_images (id_of a) v w leaves new_leaves past new_past

pub looks_nowhere : (tells tells_images : Bool) (id : ℕ) (v : View) (leaves : Files → Type 0) (past : Snapshot → Type 0)
    → Looks tells tells_images id v v leaves leaves past past
looks_nowhere tells tells_images id v leaves past = record {
  names = refl;
  ids = refl;
  goes = goes_nowhere tells (λ _. ⊥) v;
  others = λ k other. refl;
  fewer = λ told c left. left;
  since = λ told. record { now = λ c left. (c, left, λ q other. refl); since = λ s was. inl was };
}

pub looks_on : (tells tells_images : Bool) (id : ℕ) (u v w : View) (lu lv lw : Files → Type 0) (pu pv pw : Snapshot
    → Type 0)
    → Looks tells tells_images id u v lu lv pu pv → Looks tells tells_images id v w lv lw pv pw
    → Looks tells tells_images id u w lu lw pu pw
looks_on tells tells_images id u v w lu lv lw pu pv pw first second = record {
  names = second.names ∙ first.names;
  ids = second.ids ∙ first.ids;
  goes = goes_on tells (λ _. ⊥) u v w first.goes second.goes;
  others = λ k other. second.others k other ∙ first.others k other;
  fewer = λ told c left. first.fewer told c (second.fewer told c left);
  since = λ told. over_on (λ _. ⊥) lu lv lw pu pv pw (first.since told) (second.since told);
}

looks_at : (tells tells_images : Bool) (i j : ℕ) (v w : View) (lv lw : Files → Type 0) (pv pw : Snapshot → Type 0)
    → i ≡ j
    → Looks tells tells_images i v w lv lw pv pw → Looks tells tells_images j v w lv lw pv pw
looks_at tells tells_images i j v w lv lw pv pw same looks = record {
  names = looks.names;
  ids = looks.ids;
  goes = looks.goes;
  others = λ k other. looks.others k (λ is. other (is ∙ ap Some same));
  fewer = looks.fewer;
  since = looks.since;
}

pub alike_itself : {S : Type 0} (tells tells_images : Bool) (v : View) (leaves : Files → Type 0) (past : Snapshot
    → Type 0) (a : PlainSpace S)
    → IsAlike tells tells_images v v leaves leaves past past a a
alike_itself tells tells_images v leaves past a =
    record { id = refl; end = refl; prepared = refl; store = looks_nowhere tells tells_images (id_of a) v leaves past }

pub alike_on : {S : Type 0} (tells tells_images : Bool) (u v w : View) (lu lv lw : Files → Type 0) (pu pv pw : Snapshot
    → Type 0) (a b c : PlainSpace S)
    → IsAlike tells tells_images u v lu lv pu pv a b → IsAlike tells tells_images v w lv lw pv pw b c
    → IsAlike tells tells_images u w lu lw pu pw a c
alike_on tells tells_images u v w lu lv lw pu pv pw a b c first second = record {
  id = second.id ∙ first.id;
  end = second.end ∙ first.end;
  prepared = second.prepared ∙ first.prepared;
  store = looks_on tells tells_images (id_of a) u v w lu lv lw pu pv pw first.store
      (looks_at tells tells_images (id_of b) (id_of a) v w lv lw pv pw first.id second.store);
}

-- what isn't told may differ
same_array : (tells : Bool) (f g : List ℕ) → (IsTrue tells → f ≡ g) → array_in tells f ≡ array_in tells g
same_array true f g same = ap (array_in true) (same refl)
same_array false f g same = refl

-- a file that was only looked at is as it was
pub same_file : (tells : Bool) (v w : View) (i j : ℕ) → w.names ≡ v.names → Goes tells (λ _. ⊥) v w → j ≡ i
    → IsTrue tells → file_in w j ≡ file_in v i
same_file tells v w i j names goes id told = (λ k. w.files (names k (id k)))
    ∙ goes.others told (v.names i) (λ changed. changed)

pub view_alike : {S : Type 0} (tells tells_images : Bool) (v w : View) (lv lw : Files → Type 0) (pv pw : Snapshot
    → Type 0) (a b : PlainSpace S)
    → IsAlike tells tells_images v w lv lw pv pw a b
    → view_of tells v a.id.n a.end a.prepared.items ≡ view_of tells w b.id.n b.end b.prepared.items
view_alike tells tells_images v w lv lw pv pw a b alike =
    let array = same_array tells (file_in w b.id.n) (file_in v a.id.n)
    (same_file tells v w a.id.n b.id.n alike.store.names alike.store.goes alike.id) in
    sym (λ k. record (view_of tells v a.id.n (alike.end k) (alike.prepared k)) { array = array k })

-- it stands as before
pub stands_alike : {S : Type 0} (tells tells_images : Bool) (v w : View) (lv lw : Files → Type 0) (pv pw : Snapshot
    → Type 0) (a b : PlainSpace S)
    → IsAlike tells tells_images v w lv lw pv pw a b → IsOpen tells v a.id.n a.end → IsOpen tells w b.id.n b.end
stands_alike tells tells_images v w lv lw pv pw a b alike stands = record {
  given = subst (λ (n : List ℕ). 0 < length n) (sym ((λ k. alike.store.names k b.id.n) ∙ ap v.names alike.id))
      stands.given;
  length_is = λ told. alike.end ∙ stands.length_is told
      ∙ ap (λ (f : List ℕ). length (seen f))
      (sym (same_file tells v w a.id.n b.id.n alike.store.names alike.store.goes alike.id told));
}

-- and rests as before
pub rests_alike : {S : Type 0} (tells tells_images : Bool) (v w : View) (lv lw : Files → Type 0) (pv pw : Snapshot
    → Type 0) (a b : PlainSpace S)
    → IsAlike tells tells_images v w lv lw pv pw a b → RestsIn tells tells_images v lv a.id.n
    → RestsIn tells tells_images w lw b.id.n
rests_alike tells tells_images v w lv lw pv pw a b alike rests told images honest c left =
    let was = rests told images (subst IsTrue alike.store.goes.honest honest) c (alike.store.fewer images c left) in
    let named : w.names b.id.n ≡ v.names a.id.n = (λ k. w.names (alike.id k)) ∙ (λ k. alike.store.names k a.id.n) in
    (λ k. c (named k)) ∙ was
    ∙ sym (same_file tells v w a.id.n b.id.n alike.store.names alike.store.goes alike.id told)

-- what a space over one file tells is sound
pub is_sound : (tells : Bool) (v : View) (id end : ℕ) (prepared : List Extent) → end ≤ 2 ^ 48
    → IsSound tells (view_of tells v id end prepared)
is_sound tells v id end prepared short = record {
  regions = record {
    low = λ c. omega arith;
    high = λ c. short;
    small = λ c. omega arith;
    fits = λ c. omega arith;
    apart = λ c d. inl (refl, refl);
  };
  revisions = λ c has. absurd (none-some c has);
  counted = λ told c has. absurd (none-some c has);
}
