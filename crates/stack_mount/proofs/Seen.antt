-- What the calls that open a file leave of its store.
use Rattle.std.proofs.Common.{◌≡◌, ℕ, ◌<◌, Bool, IsTrue, List, length, Option, Some, None, sym, ◌∙◌, ap, subst, inl, inr}
use Rattle.std.proofs.lemmas.Bool.{cases_eq}
use Rattle.outside.proofs.Causes.{rose_later}
use Rattle.outside.proofs.Goes.{goes_on, over_on, over_quiet}
use Rattle.outside.specs.Causes.{Rose}
use Rattle.outside.specs.Files.{Files, Snapshot}
use Rattle.outside.specs.Store.{View, Calls, Gives, Passes, NoneRose}
use Rattle.plain_space.specs.File.{Looks}
use Rattle.stack_mount.specs.Mounted.{IsOnlySeen, IsCountOf, FileRose}

-- an id that is given keeps the names of those that were
pub names_given : (name : List ℕ) (id : ℕ) (a b : View) → Gives name id a b → (i : ℕ) → 0 < length (a.names i) → b.names i ≡ a.names i
names_given name id a b gives i some = elim (cases_eq i id) [
  | inl is ↦
      let was : a.names id ≡ name = gives.was (subst (λ (n : ℕ). 0 < length (a.names n)) is some) in
      ap b.names is ∙ gives.named ∙ sym was ∙ ap a.names (sym is)
  | inr other ↦ gives.others i other
]

-- a count of the file is one still, where the names have stayed
count_still : (file : List ℕ) (a b : View) (k : Option ℕ) → b.names ≡ a.names → IsCountOf file a k → IsCountOf file b k
count_still file a b None names is = tt
count_still file a b (Some i) names is = ap (λ (n : ℕ → List ℕ). n i) names ∙ is

-- a call of `file`
pub seen_call : (tells tells_images : Bool) (file : List ℕ) (Failed : Type 0) (readings : List Files) (a b : View)
    (la lb : Files → Type 0) (pa pb : Snapshot → Type 0) → Calls tells None Failed (λ _. ⊥) a b
    → ((i : ℕ) → 0 < length (a.names i) → b.names i ≡ a.names i) → (IsTrue tells_images → (c : Files) → lb c → la c)
    → (IsTrue tells_images → Passes readings b lb pa pb)
    → IsOnlySeen tells tells_images file a b la lb pa pb
seen_call tells tells_images file Failed readings a b la lb pa pb call names fewer passes = record {
  goes = record { names = names; counts = call.later; moment = call.moment; honest = call.honest; others = call.others };
  others = λ k other. call.counts k (λ is. other (subst (λ (j : Option ℕ). IsCountOf file b j) (sym is) tt));
  fewer = fewer;
  since = λ told. over_quiet (λ q. ⊥) readings b la lb pa pb (fewer told) (passes told);
}

-- and what looks at the file after it
pub seen_on : (tells tells_images : Bool) (file : List ℕ) (id : ℕ) (a b c : View) (la lb lc : Files → Type 0)
    (pa pb pc : Snapshot → Type 0) → b.names id ≡ file → IsOnlySeen tells tells_images file a b la lb pa pb
    → Looks tells tells_images id b c lb lc pb pc → IsOnlySeen tells tells_images file a c la lc pa pc
seen_on tells tells_images file id a b c la lb lc pa pb pc named first looks = record {
  goes = goes_on tells (λ q. ⊥) a b c first.goes looks.goes;
  others = λ k other.
      let here : IsCountOf file c (Some id) = ap (λ (n : ℕ → List ℕ). n id) looks.names ∙ named in
      looks.others k (λ is. other (subst (λ (j : Option ℕ). IsCountOf file c j) (sym is) here))
      ∙ first.others k (λ was. other (count_still file b c k looks.names was));
  fewer = λ told x left. first.fewer told x (looks.fewer told x left);
  since = λ told. over_on (λ q. ⊥) la lb lc pa pb pc (first.since told) (looks.since told);
}

-- ---- counts

pub counts_on : (a b c : View) → NoneRose a b → NoneRose b c → NoneRose a c
counts_on a b c first second k = second k ∙ first k

-- the count of the file rose while it was looked at
pub looked_rose : (tells tells_images : Bool) (file : List ℕ) (i j : ℕ) (a b c : View) (la lb lc : Files → Type 0)
    (pa pb pc : Snapshot → Type 0) → b.names i ≡ file → j ≡ i → IsOnlySeen tells tells_images file a b la lb pa pb
    → Looks tells tells_images i b c lb lc pb pc → Rose (b.counts (Some i)) (c.counts (Some j)) → FileRose file a c
looked_rose tells tells_images file i j a b c la lb lc pa pb pc named same first looks rose = (
  Some i,
  ap (λ (n : ℕ → List ℕ). n i) looks.names ∙ named,
  rose_later (a.counts (Some i)) (b.counts (Some i)) (c.counts (Some i)) (first.goes.counts (Some i))
      (subst (λ (n : ℕ). Rose (b.counts (Some i)) (c.counts (Some n))) same rose),
)
