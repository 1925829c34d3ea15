-- What follows from the outcome of a call on the catalogue: for a block that may be empty, and for the call behind it.
use Rattle.std.proofs.Common.{◌≡◌, zero, suc, ◌==◌, false, ℕ, ◌+◌, ◌<◌, ◌^◌, List, [], ◌∷◌, ◌++◌, Option, Some, None, Result, Ok, Err}
use Rattle.std.proofs.Common.{IfOk, IfErr, OnOk, OnErr, IfSome, refl, subst, arith}
use Rattle.std.proofs.lemmas.Bool.{ne_eqb}
use Rattle.h5_base.specs.declared.kinds.BlockKind.{BlockKind}
use Rattle.h5_base.specs.declared.refusal.Stop.{Stop}
use Rattle.h5_base.specs.Refusals.{refusal_of}
use Rattle.outside.specs.Blocks.{Block, Bounds, IsInside, IsBlockRefused, IsPlacedRefused, placed}
use Rattle.outside.specs.Space.{SpaceView, AreRegions, bounds_of}
use Rattle.block_space.specs.Blocks.{Keeps}
use Rattle.block_space.specs.declared.blocks.Blocks.{Blocks}

pub if_some : {A : Type 0} (o : Option A) (P Q : A → Type 0) → ((a : A) → P a → Q a) → IfSome o P → IfSome o Q
if_some None P Q f h = tt
if_some (Some a) P Q f h = f a h

pub if_err : {T E : Type 0} (r : Result T E) (P Q : E → Type 0) → ((e : E) → P e → Q e) → IfErr r P → IfErr r Q
if_err (Ok x) P Q f h = h
if_err (Err e) P Q f h = f e h

pub on_ok : {T E : Type 0} (r : Result T E) (P : Type 0) → P → OnOk r P
on_ok (Ok x) P h = h
on_ok (Err e) P h = tt

pub on_err : {T E : Type 0} (r : Result T E) (P : Type 0) → P → OnErr r P
on_err (Ok x) P h = tt
on_err (Err e) P h = h

-- what is shown of each value that was answered
pub on_ok_gives : {T E : Type 0} (r : Result T E) (P : Type 0) → ((x : T) → r ≡ Ok x → P) → OnOk r P
on_ok_gives (Ok x) P h = h x refl
on_ok_gives (Err e) P h = tt

pub ok_has : {T E : Type 0} (r : Result T E) (P : Type 0) (x : T) → r ≡ Ok x → OnOk r P → P
ok_has r P x is h = subst (λ s. OnOk s P) is h

-- a block that lies inside ends below 2^64
pub inside_fits : (v : SpaceView) (x : Block) → AreRegions v.regions v.ends → IsInside (bounds_of v None) x
    → x.start + x.len < 2 ^ 64
inside_fits v x sound inside =
    let high = inside.2 in
    let limit = sound.high inside.0 in
    let small = sound.fits inside.0 in
    omega (arith, high, limit, small)

pub refused_placed : (e : Bounds) (met : List Block) (at len : ℕ) (kind : BlockKind) (stop : Stop) → 0 < len
    → IfSome (refusal_of stop) (IsBlockRefused e met (record { start = at; len = len }) kind)
    → IfSome (refusal_of stop) (IsPlacedRefused e met at len kind)
refused_placed e met at len kind stop some h =
    if_some (refusal_of stop) (IsBlockRefused e met (record { start = at; len = len }) kind)
    (IsPlacedRefused e met at len kind) (λ r x. record { some = some; refused = x }) h

-- what is kept by a call is kept by the next
pub then_kept : {V T : Type 0} (view : V → SpaceView) (old mid new : Blocks V) (xs : List Block) (r : Result T Stop)
    → ((met : List Block) → Keeps view old met → Keeps view mid (met ++ xs)) → ((met : List Block)
    → Keeps view mid met → Keeps view new met)
    → OnOk r ((met : List Block) → Keeps view old met → Keeps view new (met ++ xs))
then_kept view old mid new xs r first next = on_ok r ((met : List Block) → Keeps view old met
    → Keeps view new (met ++ xs)) (λ met keeps. next (met ++ xs) (first met keeps))

-- a block that isn't empty has its place
pub found_placed : {V T : Type 0} (view : V → SpaceView) (old new : Blocks V) (at len : ℕ) (r : Result T Stop) → 0 < len
    → OnOk r ((met : List Block) → Keeps view old met → Keeps view new (met ++ record { start = at; len = len } ∷ []))
    → OnOk r ((met : List Block) → Keeps view old met → Keeps view new (met ++ placed at len))
found_placed view old new at zero r some h = absurd (omega arith)
found_placed view old new at (suc n) r some h =
    let e : (suc n == 0) ≡ false = ne_eqb (suc n) 0 (λ z. omega arith) in rw e h

pub all_placed : {V T : Type 0} (view : V
    → SpaceView) (old : Blocks V) (at len : ℕ) (kind : BlockKind) (r : Result T Stop) → 0 < len
    → IfErr r (λ stop. (met : List Block) (own : Option (List ℕ)) → Keeps view old met
    → IfSome (refusal_of stop) (IsBlockRefused (bounds_of (view old.space) own) met
    (record { start = at; len = len }) kind))
    → IfErr r (λ stop. (met : List Block) (own : Option (List ℕ)) → Keeps view old met
    → IfSome (refusal_of stop) (IsPlacedRefused (bounds_of (view old.space) own) met at len kind))
all_placed view old at len kind (Ok x) some h = h
all_placed view old at len kind (Err stop) some h = λ met own keeps. refused_placed (bounds_of
    (view old.space) own) met at len kind stop some (h met own keeps)

pub on_ok_then : {T E : Type 0} (r : Result T E) (P Q : Type 0) → (P → Q) → OnOk r P → OnOk r Q
on_ok_then (Ok x) P Q f h = f h
on_ok_then (Err e) P Q f h = h

pub if_ok : {T E : Type 0} (r : Result T E) (P Q : T → Type 0) → ((x : T) → P x → Q x) → IfOk r P → IfOk r Q
if_ok (Ok x) P Q f h = f x h
if_ok (Err e) P Q f h = h

pub on_err_then : {T E : Type 0} (r : Result T E) (P Q : Type 0) → (P → Q) → OnErr r P → OnErr r Q
on_err_then (Ok x) P Q f h = h
on_err_then (Err e) P Q f h = f h

pub err_has : {T E : Type 0} (r : Result T E) (e : E) (P : Type 0) → r ≡ Err e → OnErr r P → P
err_has {T} {E} r e P is h = subst (λ (s : Result T E). OnErr s P) is h
