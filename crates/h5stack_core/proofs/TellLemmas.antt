-- What is known of how an action ended holds of how that is told: as the same, or as want of memory for the line of a refusal.
use Rattle.std.proofs.Common.{◌≡◌, ◌⊎◌, ℕ, ◌<◌, ◌^◌, Bool, IsTrue, List, [], length, Result, Ok, refl, sym, ◌∙◌, ap, subst, arith, inl, inr}
use Rattle.outside.specs.Causes.{Rose}
use Rattle.outside.specs.Store.{SomeRose}
use Rattle.object_model.specs.Step.{Plain}
use Rattle.h5stack_core.specs.Complete.{CanBeDone, IsCalm, IsScripted, IsToBeRefused}
use Rattle.h5stack_core.specs.Create.{Creates, LeftByCreate}
use Rattle.h5stack_core.specs.Endings.{IsRefusal, IfNothingDone, EndsDone, EndsRefused}
use Rattle.h5stack_core.specs.Files.{Opens, IsRefusedFile}
use Rattle.h5stack_core.specs.Script.{Runs, Transcript, Answers}
use Rattle.h5stack_core.specs.Stores.{Telling, Moment}
use Rattle.h5stack_core.specs.declared.asked.Asked.{Asked}
use Rattle.h5stack_core.specs.declared.asked.Asked.TheVariants.{Create, Run}
use Rattle.h5stack_core.specs.declared.words.WordFault.{WordFault}
use Rattle.h5_base.specs.declared.refusal.Refusal.{Refusal}
use Rattle.h5stack_core.specs.declared.ending.Ending.{Ending}
use Rattle.h5stack_core.specs.declared.ending.Ending.TheVariants.{Done, SomeNot, Words, Store, Refused, Input, Output, Memory, ScriptMemory, Limit}
use Rattle.h5stack_core.proofs.FileLemmas.{opens_refused_by_none}

-- the ending that is told, of the one that came
abbrev pub IsToldAs : Ending → Ending → Type 0
IsToldAs ending told = (told ≡ ending) ⊎ (IsRefusal ending × (told ≡ Memory))

-- what is so by an ending, and of want of memory too
pub told_on : (P : Ending → Type 0) (ending told : Ending) → IsToldAs ending told → P ending → (IsRefusal ending → P Memory) → P told
told_on P ending told (inl same) h other = subst P (sym same) h
told_on P ending told (inr (refusal, same)) h other = subst P (sym same) (other refusal)

-- an ending other than want of memory is the one that came
pub told_same : (ending told wanted : Ending) → IsToldAs ending told → told ≡ wanted → (wanted ≡ Memory → ⊥) → ending ≡ wanted
told_same ending told wanted (inl same) is other = cc
told_same ending told wanted (inr (refusal, same)) is other = let at : wanted ≡ Memory = cc in absurd (other at)

refusal_kept : (X : Type 0) (e : Ending) → IsRefusal e → IfNothingDone e X → X
refusal_kept X Done refusal h = absurd refusal
refusal_kept X SomeNot refusal h = absurd refusal
refusal_kept X (Words fault) refusal h = h
refusal_kept X Store refusal h = absurd refusal
refusal_kept X (Refused why) refusal h = h
refusal_kept X Input refusal h = absurd refusal
refusal_kept X Output refusal h = absurd refusal
refusal_kept X Memory refusal h = absurd refusal
refusal_kept X ScriptMemory refusal h = absurd refusal
refusal_kept X Limit refusal h = absurd refusal

pub told_nothing : (X : Type 0) (ending told : Ending) → IsToldAs ending told → IfNothingDone ending X → IfNothingDone told X
told_nothing X ending told is h = told_on (λ e. IfNothingDone e X) ending told is h (λ refusal. refusal_kept X ending refusal h)

pub told_words : (fault : WordFault) (ending told : Ending) → IsToldAs ending told → ending ≡ Words fault → (told ≡ Words fault) ⊎ (told ≡ Memory)
told_words fault ending told (inl same) is = inl (same ∙ is)
told_words fault ending told (inr (refusal, same)) is = inr same

pub told_create : (tells : Telling) (file : List ℕ) (before after : Moment) (prints : Bool) (old new : List ℕ) (ending told : Ending) → IsToldAs ending told
    → Creates tells file before after prints old new ending → Creates tells file before after prints old new told
told_create tells file before after prints old new ending told is h =
    told_on (Creates tells file before after prints old new) ending told is h (λ refusal. record { kept = h.kept; rested = h.rested; images = h.images; left = tt })

pub told_script : (tells : Telling) (file : List ℕ) (before after : Moment) (O : Plain → Type 0) (R : Refusal → Type 0) (x : Transcript) (ending told : Ending) → IsToldAs ending told
    → Runs tells file before after O R x ending → Runs tells file before after O R x told
told_script tells file before after O R x ending told is h =
    told_on (Runs tells file before after O R x) ending told is h (λ refusal. record { same = h.same; images = h.images; lasts = λ files images honest. tt; rested = h.rested; answers = λ files. tt })

-- ---- completeness

create_done : (tells : Telling) (file : List ℕ) (before after : Moment) (prints : Bool) (old new : List ℕ) (o p : ℕ) (e : Ending) → IsTrue tells.files → before.view.files file ≡ []
    → (e ≡ Store → ⊥) → (e ≡ Output → ⊥) → LeftByCreate tells file before after prints old new e → EndsDone e
create_done tells file before after prints old new o p Done told empty store output h = tt
create_done tells file before after prints old new o p SomeNot told empty store output h = absurd h
create_done tells file before after prints old new o p (Words f) told empty store output h = absurd h
create_done tells file before after prints old new o p Store told empty store output h = absurd (store refl)
create_done tells file before after prints old new o p (Refused why) told empty store output h = let some = h.1 told in absurd (omega (arith, some, ap length empty))
create_done tells file before after prints old new o p Input told empty store output h = absurd h
create_done tells file before after prints old new o p Output told empty store output h = absurd (output refl)
create_done tells file before after prints old new o p Memory told empty store output h = tt
create_done tells file before after prints old new o p ScriptMemory told empty store output h = absurd h
create_done tells file before after prints old new o p Limit told empty store output h = absurd h

create_refused : (tells : Telling) (file : List ℕ) (before after : Moment) (prints : Bool) (old new : List ℕ) (e : Ending) → IsTrue tells.files → 0 < length (before.view.files file)
    → (e ≡ Store → ⊥) → LeftByCreate tells file before after prints old new e → EndsRefused e
create_refused tells file before after prints old new Done told some store h = let empty = h.0.was_empty told in absurd (omega (arith, some, ap length empty))
create_refused tells file before after prints old new SomeNot told some store h = absurd h
create_refused tells file before after prints old new (Words f) told some store h = absurd h
create_refused tells file before after prints old new Store told some store h = absurd (store refl)
create_refused tells file before after prints old new (Refused why) told some store h = tt
create_refused tells file before after prints old new Input told some store h = absurd h
create_refused tells file before after prints old new Output told some store h = let empty = h.0.was_empty told in absurd (omega (arith, some, ap length empty))
create_refused tells file before after prints old new Memory told some store h = tt
create_refused tells file before after prints old new ScriptMemory told some store h = absurd h
create_refused tells file before after prints old new Limit told some store h = absurd h

script_done : (O : Plain → Type 0) (R : Refusal → Type 0) (x : Transcript) (e : Ending) → ((r : Refusal) → R r → ⊥) → IsTrue x.reads → length x.script < 2 ^ 32
    → (e ≡ Store → ⊥) → (e ≡ Input → ⊥) → (e ≡ Output → ⊥) → Answers O R x e → EndsDone e
script_done O R x Done none told short store input output h = tt
script_done O R x SomeNot none told short store input output h = tt
script_done O R x (Words f) none told short store input output h = absurd h
script_done O R x Store none told short store input output h = absurd (store refl)
script_done O R x (Refused why) none told short store input output h = absurd (none why h)
script_done O R x Input none told short store input output h = absurd (input refl)
script_done O R x Output none told short store input output h = absurd (output refl)
script_done O R x Memory none told short store input output h = tt
script_done O R x ScriptMemory none told short store input output h = tt
script_done O R x Limit none told short store input output h = let taken = h.1 told in absurd (omega (arith, taken, short))

script_refused : (O : Plain → Type 0) (R : Refusal → Type 0) (x : Transcript) (e : Ending) → ((t : Plain) → O t → ⊥) → (e ≡ Store → ⊥) → Answers O R x e → EndsRefused e
script_refused O R x Done none store h = absurd (none h.tree h.opens)
script_refused O R x SomeNot none store h = absurd (none h.tree h.opens)
script_refused O R x (Words f) none store h = absurd h
script_refused O R x Store none store h = absurd (store refl)
script_refused O R x (Refused why) none store h = tt
script_refused O R x Input none store h = absurd (none h.tree h.opens)
script_refused O R x Output none store h = absurd (none h.tree h.opens)
script_refused O R x Memory none store h = tt
script_refused O R x ScriptMemory none store h = absurd (none h.tree h.opens)
script_refused O R x Limit none store h = absurd (none h.0.tree h.0.opens)

-- what `run` says of each action that the words may ask for
pub complete : (words : Result Asked WordFault) (tells : Telling) (before after : Moment) (x : Transcript) (i j o p : ℕ) (e : Ending)
    → ((file : List ℕ) → words ≡ Ok (Create file) → Creates tells file before after x.prints x.old x.new e)
    → ((file : List ℕ) → words ≡ Ok (Run file) → Runs tells file before after (Opens (before.view.files file)) (IsRefusedFile (before.view.files file)) x e)
    → (e ≡ Store → SomeRose before.view after.view) → (e ≡ Input → Rose i j) → (e ≡ Output → Rose o p)
    → (asked : Asked) → words ≡ Ok asked → IsTrue tells.files → CanBeDone asked before.view.files x.reads x.script → IsCalm (IsScripted (Ok asked)) before.view after.view i j o p → EndsDone e
complete words tells before after x i j o p e create script store input output (Create file) is told can calm =
    create_done tells file before after x.prints x.old x.new o p e told can (λ at. calm.store (store at)) (λ at. calm.output (output at)) (create file is).left
complete words tells before after x i j o p e create script store input output (Run file) is told (opens, reads, short) calm =
    script_done (Opens (before.view.files file)) (IsRefusedFile (before.view.files file)) x e (λ r why. opens_refused_by_none (before.view.files file) opens.0 r opens.1 why) reads short
    (λ at. calm.store (store at)) (λ at. calm.source tt (input at)) (λ at. calm.output (output at)) ((script file is).answers told)

pub complete_refused : (words : Result Asked WordFault) (tells : Telling) (before after : Moment) (x : Transcript) (e : Ending)
    → ((file : List ℕ) → words ≡ Ok (Create file) → Creates tells file before after x.prints x.old x.new e)
    → ((file : List ℕ) → words ≡ Ok (Run file) → Runs tells file before after (Opens (before.view.files file)) (IsRefusedFile (before.view.files file)) x e)
    → (e ≡ Store → SomeRose before.view after.view)
    → (asked : Asked) → words ≡ Ok asked → IsTrue tells.files → IsToBeRefused asked before.view.files → (SomeRose before.view after.view → ⊥) → EndsRefused e
complete_refused words tells before after x e create script store (Create file) is told some calm =
    create_refused tells file before after x.prints x.old x.new e told some (λ at. calm (store at)) (create file is).left
complete_refused words tells before after x e create script store (Run file) is told none calm =
    script_refused (Opens (before.view.files file)) (IsRefusedFile (before.view.files file)) x e none (λ at. calm (store at)) ((script file is).answers told)
