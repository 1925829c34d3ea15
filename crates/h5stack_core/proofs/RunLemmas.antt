-- How what was printed over an opened tree is what a run prints, and what closing the file leaves of it.
use Rattle.std.proofs.Common.{◌≡◌, ◌⊎◌, ◌≤◌, ℕ, refl, sym, subst, arith, inl, inr, ⊎_elim}
use Rattle.outside.specs.Array.{Array}
use Rattle.outside.specs.Blocks.{Bounds}
use Rattle.outside.specs.Causes.{Rose}
use Rattle.object_model.specs.Tree.{Group}
use Rattle.object_model.specs.Step.{Plain}
use Rattle.file_model.specs.Holds.{Holds, plain}
use Rattle.tree_nodes.specs.declared.tree.ObjectTree.{ObjectTree}
use Rattle.tree_nodes.specs.Entries.{superblock_of}
use Rattle.object_tree.specs.Opened.{IsOpened}
use Rattle.tree_answers.specs.Shown.{IsTreeOf}
use Rattle.tree_answers.proofs.Opened.{opened_is}
use Rattle.script_run.proofs.Parts.{answered_in_part, stopped_in_part}
use Rattle.h5stack_core.specs.Endings.{IfNothingDone}
use Rattle.h5stack_core.specs.Script.{HoldsWithin, Transcript, Ran, Stopped, CutShort, Answers, TreeAnswers, IsOfScript}
use Rattle.h5_base.specs.declared.refusal.Refusal.{Refusal}
use Rattle.h5stack_core.specs.declared.ending.Ending.{Ending}
use Rattle.h5stack_core.specs.declared.ending.Ending.TheVariants.{Done, SomeNot, Words, Store, Refused, Input, Output, Memory, ScriptMemory, Limit}

-- ---- one tree is opened, and so what is said of it is said of those that are

cut_on : (O P : Plain → Type 0) (x : Transcript) → ((t : Plain) → O t → P t) → CutShort O x → CutShort P x
cut_on O P x on c = record { tree = c.tree; opens = on c.tree c.opens; answered = c.answered }

stopped_on : (O P : Plain → Type 0) (x : Transcript) → ((t : Plain) → O t → P t) → Stopped O x → Stopped P x
stopped_on O P x on s = record { tree = s.tree; opens = on s.tree s.opens; answered = s.answered }

ran_on : (O P : Plain → Type 0) (x : Transcript) (e : Ending) → ((t : Plain) → O t → P t) → Ran O x e → Ran P x e
ran_on O P x e on r = record { tree = r.tree; opens = on r.tree r.opens; ended = r.ended; ending_is = r.ending_is; answered = r.answered; read = r.read }

pub run_on : (O P : Plain → Type 0) (Q R : Refusal → Type 0) (x : Transcript) (e : Ending) → ((t : Plain) → O t → P t) → ((r : Refusal) → Q r → R r) → Answers O Q x e → Answers P R x e
run_on O P Q R x Done on why h = ran_on O P x Done on h
run_on O P Q R x SomeNot on why h = ran_on O P x SomeNot on h
run_on O P Q R x (Words fault) on why h = absurd h
run_on O P Q R x Store on why h = ⊎_elim (λ same. inl same) (λ c. inr (cut_on O P x on c)) h
run_on O P Q R x (Refused reason) on why h = why reason h
run_on O P Q R x Input on why h = stopped_on O P x on h
run_on O P Q R x Output on why h = cut_on O P x on h
run_on O P Q R x Memory on why h = tt
run_on O P Q R x ScriptMemory on why h = cut_on O P x on h
run_on O P Q R x Limit on why h = (stopped_on O P x on h.0, h.1)

-- the tree of an opened file
opened_tree : (b : Array) (e : Bounds) (kept : ObjectTree) → IsOpened b e kept → (t : Plain) × HoldsWithin b e t × IsTreeOf kept t
opened_tree b e kept o =
    let t : Plain = plain (Group o.root o.links) in
    let holds : Holds b e t = record { super = superblock_of kept; root = o.root; links = o.links; full = o.full; tree = refl } in
    (t, record { superblock = superblock_of kept; root = o.root; links = o.links; full = o.full; within = o.within; tree = refl }, opened_is b e kept o t holds)

pub opened_run : (b : Array) (e : Bounds) (kept : ObjectTree) (R : Refusal → Type 0) (x : Transcript) (ending : Ending) → IsOpened b e kept
    → ((t : Plain) → IsTreeOf kept t → TreeAnswers t x ending) → Answers (HoldsWithin b e) R x ending
opened_run b e kept R x ending o all =
    let (t, holds, is) = opened_tree b e kept o in
    run_on (λ u. u ≡ t) (HoldsWithin b e) (λ r. ⊥) R x ending (λ u same. subst (HoldsWithin b e) (sym same) holds) (λ r h. absurd h) (all t is)

-- ---- closing

-- what was answered, and stopped, is some first part of the answers
ran_in_part : (O : Plain → Type 0) (x : Transcript) (e : Ending) → Ran O x e → CutShort O x
ran_in_part O x e r = record { tree = r.tree; opens = r.opens; answered = λ told. answered_in_part x.prints r.tree x.script r.ended x.old x.new (r.answered told) }

cut_stopped : (O : Plain → Type 0) (x : Transcript) → Stopped O x → CutShort O x
cut_stopped O x s = record { tree = s.tree; opens = s.opens; answered = λ told. stopped_in_part x.prints s.tree x.script x.left x.old x.new (s.answered told) }

in_part : (O : Plain → Type 0) (R : Refusal → Type 0) (x : Transcript) (e : Ending) → IsOfScript e → Answers O R x e → CutShort O x
in_part O R x Done of h = ran_in_part O x Done h
in_part O R x SomeNot of h = ran_in_part O x SomeNot h
in_part O R x (Words fault) of h = absurd of
in_part O R x Store of h = absurd of
in_part O R x (Refused reason) of h = absurd of
in_part O R x Input of h = cut_stopped O x h
in_part O R x Output of h = h
in_part O R x Memory of h = absurd of
in_part O R x ScriptMemory of h = h
in_part O R x Limit of h = cut_stopped O x h.0

-- a run over an opened tree, closed well or not
pub closed_run : (O : Plain → Type 0) (R : Refusal → Type 0) (x : Transcript) (ending closed : Ending) → IsOfScript ending → (closed ≡ ending) ⊎ (closed ≡ Store) → Answers O R x ending → Answers O R x closed
closed_run O R x ending closed of (inl same) h = subst (Answers O R x) (sym same) h
closed_run O R x ending closed of (inr same) h = subst (Answers O R x) (sym same) (inr (in_part O R x ending of h))

of_script_done : (X : Type 0) (e : Ending) → IsOfScript e → IfNothingDone e X
of_script_done X Done of = tt
of_script_done X SomeNot of = tt
of_script_done X (Words fault) of = absurd of
of_script_done X Store of = absurd of
of_script_done X (Refused reason) of = absurd of
of_script_done X Input of = tt
of_script_done X Output of = tt
of_script_done X Memory of = absurd of
of_script_done X ScriptMemory of = tt
of_script_done X Limit of = tt

-- where a script was answered, something was done
pub closed_done : (X : Type 0) (ending closed : Ending) → IsOfScript ending → (closed ≡ ending) ⊎ (closed ≡ Store) → IfNothingDone closed X
closed_done X ending closed of (inl same) = subst (λ (e : Ending). IfNothingDone e X) (sym same) (of_script_done X ending of)
closed_done X ending closed of (inr same) = subst (λ (e : Ending). IfNothingDone e X) (sym same) tt

pub nothing_done : (X : Type 0) (e : Ending) → X → IfNothingDone e X
nothing_done X Done h = tt
nothing_done X SomeNot h = tt
nothing_done X (Words fault) h = h
nothing_done X Store h = tt
nothing_done X (Refused reason) h = h
nothing_done X Input h = tt
nothing_done X Output h = tt
nothing_done X Memory h = h
nothing_done X ScriptMemory h = tt
nothing_done X Limit h = tt

-- an ending other than `Store` stands before the closing already
pub before_closing : (ending closed wanted : Ending) → (closed ≡ ending) ⊎ (closed ≡ Store) → closed ≡ wanted → (wanted ≡ Store → ⊥) → ending ≡ wanted
before_closing ending closed wanted (inl same) is other = cc
before_closing ending closed wanted (inr same) is other = let at : wanted ≡ Store = cc in absurd (other at)

not_store : (e : Ending) → IsOfScript e → e ≡ Store → ⊥
not_store e of is = subst IsOfScript is of

-- a fault at the closing is one of the two counts that rose then
pub closing_fault : (P Q : Type 0) (ending closed : Ending) → IsOfScript ending → (closed ≡ Store → (ending ≡ Store) ⊎ P ⊎ Q) → closed ≡ Store → P ⊎ Q
closing_fault P Q ending closed of cause is = elim (cause is) [ inl e ↦ absurd (not_store ending of e) | inr rose ↦ rose ]

pub rose_from : (a b c : ℕ) → a ≤ b → Rose b c → Rose a c
rose_from a b c le rose = omega arith
