-- What a store in memory holds is sound.
use Rattle.std.proofs.Common.{◌≡◌, ℕ, ◌<◌, length, refl, sym, ◌∙◌, Result, Ok, Err, IfOk, OnOk, OnErr, List, [], ◌∷◌, ◌++◌, Option, Some, take, drop, ap, subst, true, None, inl, inr, arith}
use Rattle.std.proofs.lemmas.Bool.{cases_lt}
use Rattle.std.proofs.lemmas.List.{length-map}
use Rattle.outside.specs.declared.store.FileId.{FileId}
use Rattle.outside.specs.declared.store.FileStop.{FileStop}
use Rattle.outside.specs.declared.store.FileStop.TheVariants.{NoMemory, Failed}
use Rattle.outside.specs.Store.{Gives, SameIds, Calls}
use Rattle.file_ids.specs.Ids.{place_of, counts_of}
use Rattle.file_ids.proofs.PlaceLemmas.{place_of-le, last_default}
use Rattle.mem_store.specs.declared.given.Fail.{Fail}
use Rattle.mem_store.specs.declared.given.Room.{Room}
use Rattle.mem_store.specs.declared.table.Entry.{Entry}
use Rattle.mem_store.specs.declared.memory.MemStore.{MemStore}
use Rattle.mem_store.specs.Table.{lens_of, no_calls}
use Rattle.mem_store.specs.Held.{Held, IsSound, IsNew, nothing, view, asked, with_new, after_file_fault}
use Rattle.mem_store.specs.Memory.{held}
use Rattle.mem_store.proofs.CutLemmas.{length-cut}
use Rattle.mem_store.proofs.ViewLemmas.{gives, same_ids, file_call_ok, file_call_failed, file_call_none}

pub sound : (m : MemStore) → IsSound (held m)
sound m = record {
  ids = m.sound;
  each = length-cut (lens_of m.table.entries.items) m.table.bytes.items ∙ length-map m.table.entries.items (λ (e : Entry). e.len) ∙ m.each;
}

pub has_content : (m : MemStore) (i : ℕ) → i < length (held m).ids.names → i < length (held m).contents
has_content m i lt = omega (arith, (sound m).each)

pub IsNew-nothing : (fails : List Fail) (room : Room) → IsNew (nothing fails room)
IsNew-nothing fails room = record { faults = faults; made = λ i. refl; calls = refl; written = refl }
  where
    faults : (k : Option ℕ) → counts_of 0 [] k ≡ 0
    faults None = refl
    faults (Some i) = refl

-- a file that is given at first
pub IsNew-more : (name bytes : List ℕ) (h : Held) → IsNew h → IsNew (with_new name bytes h)
IsNew-more name bytes h new = record {
  faults = faults;
  made = λ i. last_default h.tallies i no_calls ∙ new.made i;
  calls = new.calls;
  written = new.written;
}
  where
    faults : (k : Option ℕ) → counts_of h.ids.own (h.ids.faults ++ 0 ∷ []) k ≡ 0
    faults None = new.faults None
    faults (Some i) = last_default h.ids.faults i 0 ∙ new.faults (Some i)

-- what `file` says of what is held
pub record Asked (name : List ℕ) (a b : Held) (r : Result FileId FileStop) : Type 0 where
  pub named : 0 < length name
  pub id : IfOk r (λ id. id.n ≡ place_of name a.ids.names)
  pub known : OnOk r (place_of name a.ids.names < length a.ids.names → b ≡ asked a)
  pub new : OnOk r (place_of name a.ids.names ≡ length a.ids.names → b ≡ with_new name [] (asked a))
  pub failed : r ≡ Err Failed → b ≡ after_file_fault a
  pub no_memory : r ≡ Err NoMemory → b ≡ asked a

pub asked_gives : (name : List ℕ) (a b : Held) (r : Result FileId FileStop) → IsSound a → Asked name a b r → IfOk r (λ id. Gives name id.n (view a) (view b))
asked_gives name a b (Ok id) sound is = gives name id.n a b sound is.named is.id is.known is.new
asked_gives name a b (Err e) sound is = tt

pub asked_same : (name : List ℕ) (a b : Held) (r : Result FileId FileStop) → Asked name a b r → OnErr r (SameIds (view a) (view b))
asked_same name a b (Ok id) is = tt
asked_same name a b (Err NoMemory) is = same_ids a b (ap (λ (h : Held). h.ids.names) (is.no_memory refl))
asked_same name a b (Err Failed) is = same_ids a b (ap (λ (h : Held). h.ids.names) (is.failed refl))

pub asked_calls : (name : List ℕ) (a b : Held) (r : Result FileId FileStop) → IsSound a → Asked name a b r → Calls true None (r ≡ Err Failed) (λ _. ⊥) (view a) (view b)
asked_calls name a b (Ok id) sound is = file_call_ok _ name a b (λ same. (cc)) sound is.known is.new
asked_calls name a b (Err NoMemory) sound is = file_call_none _ a b (λ same. (cc)) (is.no_memory refl)
asked_calls name a b (Err Failed) sound is = file_call_failed _ a b refl (is.failed refl)

-- a fact of a value that an equal list has
pub if_len : {E : Type 0} (r : Result ℕ E) (f g : List ℕ) → g ≡ f → IfOk r (λ n. n ≡ length f) → IfOk r (λ n. n ≡ length g)
if_len r f g is fact = subst (λ (l : List ℕ). IfOk r (λ n. n ≡ length l)) (sym is) fact

pub if_part : {E : Type 0} (r : Result ℕ E) (size at : ℕ) (out f g : List ℕ) → g ≡ f → IfOk r (λ n. take n out ≡ take size (drop at f)) → IfOk r (λ n. take n out ≡ take size (drop at g))
if_part r size at out f g is fact = subst (λ (l : List ℕ). IfOk r (λ n. take n out ≡ take size (drop at l))) (sym is) fact

-- a name that is not known has the place behind the last
pub on_new : {T E : Type 0} (name : List ℕ) (names : List (List ℕ)) (P : Type 0) (r : Result T E) → OnOk r (place_of name names ≡ length names → P) → OnOk r ((¬ (place_of name names < length names)) → P)
on_new name names P (Ok x) fact = λ unknown. fact (elim (cases_lt (place_of name names) (length names)) [ inl known ↦ absurd (unknown known) | inr past ↦ omega (arith, place_of-le names name) ])
on_new name names P (Err e) fact = tt
