-- Parts that are taken one after the other, and what is refused behind a part that was taken.
use Rattle.std.proofs.Common.{◌≡◌, ℕ, ◌<◌, List, [], ◌∷◌, ◌++◌, Option, Result, Ok, Err, IfErr, IfSome, IsErrAnd, IsErrOf, sym, subst}
use Rattle.std.proofs.lemmas.List.{append_assoc, append-nil}
use Rattle.std.proofs.lemmas.Result.{err_from_is_err_and}
use Rattle.std.specs.List.{Contains}
use Rattle.h5_base.specs.declared.refusal.Refusal.{Refusal}
use Rattle.h5_base.specs.declared.refusal.Stop.{Stop}
use Rattle.h5_base.specs.declared.refusal.Stop.TheVariants.{Failed}
use Rattle.h5_base.specs.Refusals.{refusal_of}
use Rattle.outside.specs.Blocks.{Block, Bounds, AllInside, AllSome, AreTaken}
use Rattle.outside.specs.Space.{SpaceView, bounds_of}
use Rattle.block_space.specs.Blocks.{Keeps, Refuses, Takes, space_of}
use Rattle.block_space.specs.declared.blocks.Blocks.{Blocks}
use Rattle.block_space.proofs.Apart.{contains_head, contains_tail}
use Rattle.block_space.proofs.Stopped.{if_some}

-- the stop that a `?` hands on
pub handed : {T : Type 0} (r : Result T Stop) (stop : Stop) (P : Stop → Type 0) → IsErrAnd r (λ y. y ≡ stop) → P stop → IfErr r P
handed r stop P is h =
    let q = err_from_is_err_and r is in
    subst (λ (x : Result _ Stop). IfErr x P) (sym q.1) (subst P (sym q.2) h)

-- a fault that a `?` hands on
pub failed_on : {T : Type 0} (r : Result T Stop) (stop : Stop) (P : Type 0) → IsErrAnd r (λ y. y ≡ stop) → (stop ≡ Failed → P) → IsErrOf r Failed → P
failed_on (Ok x) stop P is f failed = absurd is
failed_on (Err y) stop P is f failed = f (cc)

module _ {V : Type 0} (view : V → SpaceView) where
  pub takes_none : (s : Blocks V) (P : List Block → Type 0) → P [] → Takes view s s P
  takes_none s P h = λ met keeps. ([], h, subst (Keeps view s) (sym (append-nil met)) keeps)

  pub takes_then : (a b c : Blocks V) (P Q R : List Block → Type 0) → Takes view a b P → Takes view b c Q → ((xs ys : List Block) → P xs → Q ys → R (xs ++ ys)) → Takes view a c R
  takes_then a b c P Q R first next join = λ met keeps.
      let x = first met keeps in
      let y = next (met ++ x.0) x.2 in
      (x.0 ++ y.0, join x.0 y.0 x.1 y.1, subst (Keeps view c) (append_assoc met x.0 y.0) y.2)

  pub takes_as : (a b : Blocks V) (P Q : List Block → Type 0) → Takes view a b P → ((xs : List Block) → P xs → Q xs) → Takes view a b Q
  takes_as a b P Q took f = λ met keeps. let x = took met keeps in (x.0, f x.0 x.1, x.2)

  pub refuses_as : (a : Blocks V) (R Q : Bounds → List Block → Refusal → Type 0) (stop : Stop) → Refuses view a R stop → ((e : Bounds) (met : List Block) (r : Refusal) → R e met r → Q e met r) → Refuses view a Q stop
  refuses_as a R Q stop refused f = λ met own keeps.
      let e = bounds_of (view (space_of a)) own in
      if_some (refusal_of stop) (R e met) (Q e met) (f e met) (refused met own keeps)

  -- what is refused after a part was taken
  pub refuses_then : (a b : Blocks V) (P : List Block → Type 0) (R Q : Bounds → List Block → Refusal → Type 0) (stop : Stop) → view (space_of a) ≡ view (space_of b) → Takes view a b P → Refuses view b R stop
      → ((met : List Block) (own : Option (List ℕ)) (xs : List Block) (r : Refusal) → P xs → Keeps view b (met ++ xs) → R (bounds_of (view (space_of a)) own) (met ++ xs) r → Q (bounds_of (view (space_of a)) own) met r)
      → Refuses view a Q stop
  refuses_then a b P R Q stop same took refused f = λ met own keeps.
      let x = took met keeps in
      let e = bounds_of (view (space_of a)) own in
      if_some (refusal_of stop) (R e (met ++ x.0)) (Q e met) (λ r h. f met own x.0 r x.1 x.2 h)
      (subst (λ (v : SpaceView). IfSome (refusal_of stop) (R (bounds_of v own) (met ++ x.0))) (sym same) (refused (met ++ x.0) own x.2))
