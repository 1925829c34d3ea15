-- When one space over a file came from another by calls.
-- Cited by `PlainSpace`, and by its callers.
use Rattle.std.specs.Prelude.{◌≡◌, ℕ, ◌^◌, ◌≤◌, Bool, IsTrue, List, length, drop, Some}
use Rattle.std.proofs.Common.{refl, sym, ◌∙◌, inl, inr, ⊎_elim, ap, subst, arith}
use Rattle.outside.specs.Causes.{NoneFell}
use Rattle.outside.specs.Files.{Files, Snapshot, InFile, Follows}
use Rattle.outside.specs.Store.{View, Calls, Goes, GoesOver, Passes}
use Rattle.outside.specs.declared.store.FileId.{FileId}
use Rattle.outside.proofs.Goes.{goes_on, goes_call, over_on, over_call, over_quiet}
use Rattle.plain_space.specs.File.{file_in, faults_of, IsOpen, RestsIn, Looks, Touches}
use Rattle.plain_space.specs.Plain.{store_of, id_of, end_of}
use Rattle.plain_space.specs.Alike.{IsAlike, same_file, looks_nowhere}
use Rattle.plain_space.specs.declared.space.PlainSpace.{PlainSpace}

-- It has the same file, and nothing else of the store has changed. The end never falls, and where it stayed, so did the
-- length of the file.
pub record CameFrom {S : Type 0} (tells tells_images : Bool) (v w : View) (leaves new_leaves : Files
    → Type 0) (past new_past : Snapshot → Type 0) (a b : PlainSpace S) : Type 0 where
  pub id : id_of b ≡ id_of a
  pub up : end_of a ≤ end_of b
  pub same_length : IsTrue tells → end_of b ≡ end_of a → length (file_in w (id_of a)) ≡ length (file_in v (id_of a))
  pub store : Touches tells tells_images (id_of a) v w leaves new_leaves past new_past

pub goes_within : (tells : Bool) (P Q : List ℕ → Type 0) (v w : View) → ((q : List ℕ) → P q → Q q) → Goes tells P v w
    → Goes tells Q v w
goes_within tells P Q v w within goes = record {
  names = goes.names;
  counts = goes.counts;
  moment = goes.moment;
  honest = goes.honest;
  others = λ told q other. goes.others told q (λ changed. other (within q changed));
}

pub over_within : (P Q : List ℕ → Type 0) (lv lw : Files → Type 0) (pv pw : Snapshot → Type 0) → ((q : List ℕ)
    → P q → Q q)
    → GoesOver P lv lw pv pw → GoesOver Q lv lw pv pw
over_within P Q lv lw pv pw within over = record {
  now = λ c left. let d = over.now c left in (d.0, d.1, λ q other. d.2 q (λ changed. other (within q changed)));
  since = λ s was. ⊎_elim inl (λ d. inr (d.0, d.1, λ q other. d.2 q (λ changed. other (within q changed))))
      (over.since s was);
}

pub touches_looks : (tells tells_images : Bool) (id : ℕ) (v w : View) (lv lw : Files → Type 0) (pv pw : Snapshot
    → Type 0)
    → Looks tells tells_images id v w lv lw pv pw → Touches tells tells_images id v w lv lw pv pw
touches_looks tells tells_images id v w lv lw pv pw looks = record {
  names = looks.names;
  ids = looks.ids;
  goes = goes_within tells (λ q. ⊥) (λ q. q ≡ v.names id) v w (λ q changed. absurd changed) looks.goes;
  others = looks.others;
  unseen = λ told. ap (drop (2 ^ 48)) (same_file tells v w id id looks.names looks.goes refl told);
  since = λ told. over_within (λ q. ⊥) (λ q. q ≡ v.names id) lv lw pv pw (λ q changed. absurd changed)
      (looks.since told);
}

-- a call that may change the bytes of the file that are seen
pub touches_call : (tells tells_images : Bool) (id : ℕ) (Failed : Type 0) (step : List ℕ → List ℕ
    → Type 0) (readings : List Files) (v w : View) (lv lw : Files → Type 0) (pv pw : Snapshot → Type 0)
    → Calls tells (Some id) Failed (λ q. q ≡ v.names id) v w → w.names ≡ v.names → w.ids ≡ v.ids
    → (IsTrue tells → drop (2 ^ 48) (w.files (v.names id)) ≡ drop (2 ^ 48) (file_in v id))
    → (IsTrue tells_images → Follows (InFile (v.names id) step) lv lw)
    → (IsTrue tells_images → Passes readings w lw pv pw)
    → Touches tells tells_images id v w lv lw pv pw
touches_call tells tells_images id Failed step readings v w lv lw pv pw call names ids unseen follows passes = record {
  names = names;
  ids = ids;
  goes = goes_call tells (Some id) Failed (λ q. q ≡ v.names id) (λ q. q ≡ v.names id) v w call names
      (λ q changed. changed);
  others = call.counts;
  unseen = λ told. ap (λ (n : ℕ → List ℕ). drop (2 ^ 48) (w.files (n id))) names ∙ unseen told;
  since = λ told. over_call (v.names id) step readings w lv lw pv pw (follows told) (passes told);
}

-- a call that changes no file
pub touches_quiet : (tells tells_images : Bool) (id : ℕ) (Failed : Type 0) (readings : List Files) (v w : View)
    (lv lw : Files → Type 0) (pv pw : Snapshot → Type 0)
    → Calls tells (Some id) Failed (λ q. ⊥) v w → w.names ≡ v.names → w.ids ≡ v.ids
    → (IsTrue tells_images → (c : Files) → lw c → lv c) → (IsTrue tells_images → Passes readings w lw pv pw)
    → Touches tells tells_images id v w lv lw pv pw
touches_quiet tells tells_images id Failed readings v w lv lw pv pw call names ids fewer passes = record {
  names = names;
  ids = ids;
  goes = goes_call tells (Some id) Failed (λ q. ⊥) (λ q. q ≡ v.names id) v w call names (λ q changed. absurd changed);
  others = call.counts;
  unseen = λ told. ap (λ (n : ℕ → List ℕ). drop (2 ^ 48) (w.files (n id))) names
      ∙ ap (drop (2 ^ 48)) (call.others told (v.names id) (λ changed. changed));
  since = λ told. over_quiet (λ q. q ≡ v.names id) readings w lv lw pv pw (fewer told) (passes told);
}

touches_on : (tells tells_images : Bool) (i j : ℕ) (u v w : View) (lu lv lw : Files → Type 0) (pu pv pw : Snapshot
    → Type 0) → j ≡ i
    → Touches tells tells_images i u v lu lv pu pv → Touches tells tells_images j v w lv lw pv pw
    → Touches tells tells_images i u w lu lw pu pw
touches_on tells tells_images i j u v w lu lv lw pu pv pw same first second =
    let file : v.names j ≡ u.names i = (λ k. first.names k (same k)) in
    let within : (q : List ℕ) → q ≡ v.names j → q ≡ u.names i = λ q changed. changed ∙ file in
    record {
      names = second.names ∙ first.names;
      ids = second.ids ∙ first.ids;
      goes = goes_on tells (λ q. q ≡ u.names i) u v w first.goes
          (goes_within tells (λ q. q ≡ v.names j) (λ q. q ≡ u.names i) v w within second.goes);
      others = λ k other. second.others k (λ is. other (is ∙ ap Some same)) ∙ first.others k other;
      unseen = λ told. ap (λ (k : ℕ). drop (2 ^ 48) (file_in w k)) (sym same) ∙ second.unseen told
          ∙ ap (λ (k : ℕ). drop (2 ^ 48) (file_in v k)) same ∙ first.unseen told;
      since = λ told. over_on (λ q. q ≡ u.names i) lu lv lw pu pv pw (first.since told)
          (over_within (λ q. q ≡ v.names j) (λ q. q ≡ u.names i) lv lw pv pw within (second.since told));
    }

pub came_alike : {S : Type 0} (tells tells_images : Bool) (v w : View) (lv lw : Files → Type 0) (pv pw : Snapshot
    → Type 0) (a b : PlainSpace S)
    → IsAlike tells tells_images v w lv lw pv pw a b → CameFrom tells tells_images v w lv lw pv pw a b
came_alike tells tells_images v w lv lw pv pw a b alike = record {
  id = alike.id;
  up = omega (arith, alike.end);
  same_length = λ told same. ap (λ (f : List ℕ). length f)
      (same_file tells v w (id_of a) (id_of a) alike.store.names alike.store.goes refl told);
  store = touches_looks tells tells_images (id_of a) v w lv lw pv pw alike.store;
}

pub came_on : {S : Type 0} (tells tells_images : Bool) (u v w : View) (lu lv lw : Files → Type 0) (pu pv pw : Snapshot
    → Type 0) (a b c : PlainSpace S)
    → CameFrom tells tells_images u v lu lv pu pv a b → CameFrom tells tells_images v w lv lw pv pw b c
    → CameFrom tells tells_images u w lu lw pu pw a c
came_on tells tells_images u v w lu lv lw pu pv pw a b c first second = record {
  id = second.id ∙ first.id;
  up = omega (arith, first.up, second.up);
  same_length = λ told same. length_on told (omega (arith, first.up, second.up)) (omega (arith, first.up, second.up));
  store = touches_on tells tells_images (id_of a) (id_of b) u v w lu lv lw pu pv pw first.id first.store second.store;
}
  where
    length_on : IsTrue tells → end_of b ≡ end_of a → end_of c ≡ end_of b
        → length (file_in w (id_of a)) ≡ length (file_in u (id_of a))
    length_on told same further = ap (λ (k : ℕ). length (file_in w k)) (sym first.id) ∙ second.same_length told further
        ∙ ap (λ (k : ℕ). length (file_in v k)) first.id ∙ first.same_length told same

-- no count falls
pub came_counts : {S : Type 0} (tells tells_images : Bool) (v w : View) (lv lw : Files → Type 0) (pv pw : Snapshot
    → Type 0) (a b : PlainSpace S)
    → CameFrom tells tells_images v w lv lw pv pw a b → NoneFell (faults_of v a.id.n) (faults_of w b.id.n)
came_counts tells tells_images v w lv lw pv pw a b came k =
    subst (λ (i : ℕ). v.counts (Some a.id.n) ≤ w.counts (Some i)) (sym came.id)
    (came.store.goes.counts (Some (id_of a)))

-- ---- what is prepared

-- the same file of the same store, with the same end
pub record IsReadied {S : Type 0} (a b : PlainSpace S) : Type 0 where
  pub store : store_of b ≡ store_of a
  pub id : b.id ≡ a.id
  pub end : end_of b ≡ end_of a

pub readied_itself : {S : Type 0} (a : PlainSpace S) → IsReadied a a
readied_itself a = record { store = refl; id = refl; end = refl }

-- a store, an id and an end
record Parts (S : Type 0) : Type 0 where
  pub store : S
  pub id : ℕ
  pub end : ℕ

abbrev parts_of : {S : Type 0} → PlainSpace S → Parts S
parts_of a = record { store = store_of a; id = id_of a; end = end_of a }

parts_same : {S : Type 0} (a b : PlainSpace S) → IsReadied a b → parts_of a ≡ parts_of b
parts_same a b h = sym (λ k. record { store = h.store k; id = (h.id k).n; end = h.end k })

pub stands_readied : {S : Type 0} (tells : Bool) (view : S → View) (a b : PlainSpace S) → IsReadied a b
    → IsOpen tells (view (store_of a)) (id_of a) (end_of a) → IsOpen tells (view (store_of b)) (id_of b) (end_of b)
stands_readied tells view a b h stands =
    subst (λ (p : Parts _). IsOpen tells (view p.store) p.id p.end) (parts_same a b h) stands

pub rests_readied : {S : Type 0} (tells tells_images : Bool) (view : S → View) (leaves : S → Files → Type 0)
    (a b : PlainSpace S) → IsReadied a b
    → RestsIn tells tells_images (view (store_of a)) (leaves (store_of a)) (id_of a)
    → RestsIn tells tells_images (view (store_of b)) (leaves (store_of b)) (id_of b)
rests_readied tells tells_images view leaves a b h rests =
    subst (λ (p : Parts _). RestsIn tells tells_images (view p.store) (leaves p.store) p.id) (parts_same a b h) rests

pub came_readied : {S : Type 0} (tells tells_images : Bool) (view : S → View) (leaves : S → Files → Type 0) (past : S
    → Snapshot → Type 0) (a b : PlainSpace S) → IsReadied a b
    → CameFrom tells tells_images (view (store_of a)) (view (store_of b)) (leaves (store_of a)) (leaves (store_of b))
    (past (store_of a)) (past (store_of b)) a b
came_readied tells tells_images view leaves past a b h = record {
  id = ap (λ (i : FileId). i.n) h.id;
  up = omega (arith, h.end);
  same_length = λ told same. ap (λ s. length (file_in (view s) (id_of a))) h.store;
  store = subst (λ s. Touches tells tells_images (id_of a) (view (store_of a)) (view s) (leaves (store_of a)) (leaves s)
      (past (store_of a)) (past s)) (sym h.store)
      (touches_looks tells tells_images (id_of a) (view (store_of a)) (view (store_of a)) (leaves (store_of a))
      (leaves (store_of a)) (past (store_of a)) (past (store_of a))
      (looks_nowhere tells tells_images (id_of a) (view (store_of a)) (leaves (store_of a)) (past (store_of a))));
}
