-- How a run of calls goes on.
use Rattle.std.proofs.Common.{◌≡◌, ℕ, ◌<◌, Bool, List, length, Option, refl, sym, ◌∙◌, ap, subst, arith}
use Rattle.std.proofs.Common.{inl, inr, ⊎_elim}
use Rattle.outside.specs.Files.{Files, Snapshot, InFile, Follows}
use Rattle.outside.specs.Store.{View, Calls, Goes, SomeRose, Passes, Agrees, GoesOver}

pub goes_nowhere : (tells : Bool) (Changed : List ℕ → Type 0) (v : View) → Goes tells Changed v v
goes_nowhere tells Changed v = record {
  names = λ i given. refl;
  counts = λ k. omega arith;
  moment = omega arith;
  honest = refl;
  others = λ told q other. refl;
}

-- one call more
pub goes_on : (tells : Bool) (Changed : List ℕ → Type 0) (a b c : View) → Goes tells Changed a b → Goes tells Changed b c → Goes tells Changed a c
goes_on tells Changed a b c first second = record {
  names = λ i given.
      let same = first.names i given in
      let still : 0 < length (b.names i) = subst (λ (n : List ℕ). 0 < length n) (sym same) given in
      second.names i still ∙ same;
  counts = λ k. omega (arith, first.counts k, second.counts k);
  moment = omega (arith, first.moment, second.moment);
  honest = second.honest ∙ first.honest;
  others = λ told q other. second.others told q other ∙ first.others told q other;
}

-- a call that gives no id
pub goes_call : (tells : Bool) (own : Option ℕ) (Failed : Type 0) (This Changed : List ℕ → Type 0) (a b : View)
    → Calls tells own Failed This a b → b.names ≡ a.names → ((q : List ℕ) → This q → Changed q) → Goes tells Changed a b
goes_call tells own Failed This Changed a b call names within = record {
  names = λ i given. ap (λ (f : ℕ → List ℕ). f i) names;
  counts = call.later;
  moment = omega (arith, call.moment);
  honest = call.honest;
  others = λ told q other. call.others told q (λ this. other (within q this));
}

pub rose_then : (tells : Bool) (Changed : List ℕ → Type 0) (a b c : View) → SomeRose a b → Goes tells Changed b c → SomeRose a c
rose_then tells Changed a b c rose next = (rose.0, omega (arith, rose.1, next.counts rose.0))

pub then_rose : (tells : Bool) (Changed : List ℕ → Type 0) (a b c : View) → Goes tells Changed a b → SomeRose b c → SomeRose a c
then_rose tells Changed a b c first rose = (rose.0, omega (arith, rose.1, first.counts rose.0))

-- The same of images.
pub over_on : (Changed : List ℕ → Type 0) (la lb lc : Files → Type 0) (pa pb pc : Snapshot → Type 0) → GoesOver Changed la lb pa pb → GoesOver Changed lb lc pb pc → GoesOver Changed la lc pa pc
over_on Changed la lb lc pa pb pc first second = record {
  now = λ c left.
      let b = second.now c left in
      let d = first.now b.0 b.1 in
      (d.0, d.1, λ q other. b.2 q other ∙ d.2 q other);
  since = λ s past. ⊎_elim (first.since s) (λ b. let d = first.now b.0 b.1 in inr (d.0, d.1, λ q other. b.2 q other ∙ d.2 q other)) (second.since s past);
}

-- a call that changes one file
pub over_call : (name : List ℕ) (step : List ℕ → List ℕ → Type 0) (readings : List Files) (now : View) (la lb : Files → Type 0) (pa pb : Snapshot → Type 0)
    → Follows (InFile name step) la lb → Passes readings now lb pa pb → GoesOver (λ q. q ≡ name) la lb pa pb
over_call name step readings now la lb pa pb follows passes = record {
  now = from;
  since = λ s past. ⊎_elim inl (λ new. inr (from s.image new.0.image)) (passes.nothing_else s past);
}
  where
    from : (c : Files) → lb c → (d : Files) × la d × Agrees (λ q. q ≡ name) d c
    from c left = let d = follows c left in (d.0, d.1, λ q other. d.2.others q other)

-- a call that changes none
pub over_quiet : (Changed : List ℕ → Type 0) (readings : List Files) (now : View) (la lb : Files → Type 0) (pa pb : Snapshot → Type 0)
    → ((c : Files) → lb c → la c) → Passes readings now lb pa pb → GoesOver Changed la lb pa pb
over_quiet Changed readings now la lb pa pb fewer passes = record {
  now = from;
  since = λ s past. ⊎_elim inl (λ new. inr (from s.image new.0.image)) (passes.nothing_else s past);
}
  where
    from : (c : Files) → lb c → (d : Files) × la d × Agrees Changed d c
    from c left = (c, fewer c left, λ q other. refl)
