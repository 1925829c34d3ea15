-- What a run over the space of a plain file is for the file and its store.
use Rattle.std.proofs.Common.{◌≡◌, ℕ, Bool, true, false, IsTrue, List, [], None, refl, sym, ◌∙◌, subst, inl}
use Rattle.std.specs.Str.{bytes_eq}
use Rattle.std.proofs.lemmas.Slice.Eq.{bytes_eq-Decides}
use Rattle.outside.specs.Array.{Array}
use Rattle.outside.specs.Blocks.{Bounds}
use Rattle.outside.specs.Files.{Files, Snapshot, RestsAt}
use Rattle.outside.specs.Space.{SpaceView, bounds_of}
use Rattle.outside.specs.Store.{View, Goes, GoesOver}
use Rattle.outside.proofs.Goes.{goes_on, over_on}
use Rattle.plain_space.specs.CameFrom.{goes_within, over_within}
use Rattle.object_model.specs.Step.{Plain}
use Rattle.file_model.specs.Laws.{one_region}
use Rattle.plain_space.specs.File.{file_in, view_of}
use Rattle.stack_mount.proofs.Verdicts.{one_verdict}
use Rattle.file_model.proofs.NoRefusal as tree
use Rattle.stack_mount.specs.Mounted.{IsRefused, IsAdmitted}
use Rattle.h5_base.specs.declared.refusal.Stop.{Stop}
use Rattle.h5_base.specs.declared.refusal.Stop.TheVariants as stop
use Rattle.h5stack_core.specs.Endings.{stopped}
use Rattle.h5stack_core.specs.Stores.{SameFiles}
use Rattle.h5stack_core.specs.Files.{Opens, IsRefusedFile, AtMount, InTree, array_in, end_in}
use Rattle.h5stack_core.specs.Script.{HoldsWithin, IsRefusedTree, Transcript, Answers, IfClosed}
use Rattle.h5_base.specs.declared.refusal.Refusal.{Refusal}
use Rattle.h5stack_core.specs.declared.ending.Ending.{Ending}
use Rattle.h5stack_core.specs.declared.ending.Ending.TheVariants.{Done, SomeNot, Words, Store, Refused, Input, Output, Memory, ScriptMemory, Limit}
use Rattle.h5stack_core.proofs.RunLemmas.{run_on}

bounds_seen : (view : SpaceView) (file : List ℕ) (tells : Bool) (v : View) (id end : ℕ) → view ≡ view_of tells v id end [] → end ≡ end_in file → bounds_of view None ≡ one_region (end_in file)
bounds_seen view file tells v id end is same = (λ k. bounds_of (is k) None) ∙ (λ k. one_region (same k))

-- a run over the space of a file is a run over the file
pub file_run : (view : SpaceView) (file : List ℕ) (tells : Bool) (v : View) (id end : ℕ) (x : Transcript) (e : Ending) → view ≡ view_of tells v id end [] → view.array ≡ array_in file
    → end ≡ end_in file → IsAdmitted (array_in file) (end_in file) → Answers (HoldsWithin view.array (bounds_of view None)) (IsRefusedTree view.array (bounds_of view None)) x e
    → Answers (Opens file) (IsRefusedFile file) x e
file_run view file tells v id end x e is array same admitted h =
    let bounds = bounds_seen view file tells v id end is same in
    run_on (HoldsWithin view.array (bounds_of view None)) (Opens file) (IsRefusedTree view.array (bounds_of view None)) (IsRefusedFile file) x e
    (λ t holds. record { admitted = admitted; held = subst (λ (b : Array). HoldsWithin b (one_region (end_in file)) t) array (subst (λ (f : Bounds). HoldsWithin view.array f t) bounds holds) })
    (λ r why. InTree admitted (subst (λ (b : Array). IsRefusedTree b (one_region (end_in file)) r) array (subst (λ (f : Bounds). IsRefusedTree view.array f r) bounds why)))
    h

-- a file that isn't mounted
pub unmounted_run : (file : List ℕ) (reads prints : Bool) (script old : List ℕ) (s : Stop) → ((why : Refusal) → s ≡ stop.Refused why → IsRefused (array_in file) (end_in file) why)
    → Answers (Opens file) (IsRefusedFile file) (record { reads = reads; prints = prints; script = script; left = script; old = old; new = old }) (stopped s)
unmounted_run file reads prints script old (stop.Refused why) h = AtMount (h why refl)
unmounted_run file reads prints script old stop.Failed h = inl (record { unread = refl; silent = λ told. refl })
unmounted_run file reads prints script old stop.NoMemory h = tt

-- the store after a mount and a run over the file
pub file_goes : (tells : Bool) (name : List ℕ) (id : ℕ) (u v w : View) → Goes tells (λ _. ⊥) u v → Goes tells (λ q. q ≡ v.names id) v w → v.names id ≡ name → Goes tells (λ q. q ≡ name) u w
file_goes tells name id u v w first second named =
    goes_on tells (λ q. q ≡ name) u v w (goes_within tells (λ _. ⊥) (λ q. q ≡ name) u v (λ q no. absurd no) first)
    (goes_within tells (λ q. q ≡ v.names id) (λ q. q ≡ name) v w (λ q is. is ∙ named) second)

-- and what a stop leaves of the other files
pub file_over : (name : List ℕ) (id : ℕ) (v : View) (la lb lc : Files → Type 0) (pa pb pc : Snapshot → Type 0)
    → GoesOver (λ _. ⊥) la lb pa pb → GoesOver (λ q. q ≡ v.names id) lb lc pb pc → v.names id ≡ name
    → GoesOver (λ q. q ≡ name) la lc pa pc
file_over name id v la lb lc pa pb pc first second named =
    over_on (λ q. q ≡ name) la lb lc pa pb pc
    (over_within (λ _. ⊥) (λ q. q ≡ name) la lb pa pb (λ q no. absurd no) first)
    (over_within (λ q. q ≡ v.names id) (λ q. q ≡ name) lb lc pb pc (λ q is. is ∙ named) second)

-- the file's bytes before the mount and after the run
pub same_bytes : (tells : Bool) (name : List ℕ) (id : ℕ) (u v w : View) → IsTrue tells → Goes tells (λ _. ⊥) u v → w.names ≡ v.names → v.names id ≡ name → file_in w id ≡ file_in v id → w.files name ≡ u.files name
same_bytes tells name id u v w told first names named same =
    let after : w.files name ≡ file_in w id = sym ((λ k. w.files (names k id)) ∙ (λ k. w.files (named k))) in
    after ∙ same ∙ (λ k. v.files (named k)) ∙ first.others told name (λ no. no)

-- all files are as they were where the one that may change is
pub all_same : (tells : Bool) (name : List ℕ) (u w : View) → Goes tells (λ q. q ≡ name) u w → (IsTrue tells → w.files name ≡ u.files name) → SameFiles tells u w
all_same tells name u w goes here told q = at (bytes_eq q name) refl
  where
    at : (b : Bool) → bytes_eq q name ≡ b → w.files q ≡ u.files q
    at true is = let same : q ≡ name = (bytes_eq-Decides q name).0 is in (λ k. w.files (same k)) ∙ here told ∙ sym (λ k. u.files (same k))
    at false is = goes.others told q (λ same. let yes : bytes_eq q name ≡ true = (bytes_eq-Decides q name).1 same in cc)

pub closed_on : (e : Ending) (X Y : Type 0) → (X → Y) → IfClosed e X → IfClosed e Y
closed_on Done X Y on h = on h
closed_on SomeNot X Y on h = on h
closed_on (Words fault) X Y on h = tt
closed_on Store X Y on h = tt
closed_on (Refused reason) X Y on h = tt
closed_on Input X Y on h = on h
closed_on Output X Y on h = on h
closed_on Memory X Y on h = tt
closed_on ScriptMemory X Y on h = on h
closed_on Limit X Y on h = on h

-- what rests as it reads, by the file's name
pub rests_named : (name file : List ℕ) (id : ℕ) (w : View) (leaves : Files → Type 0) → w.names id ≡ name → w.files name ≡ file → RestsAt (w.names id) (file_in w id) leaves → RestsAt name file leaves
rests_named name file id w leaves named is rests c left = (λ k. c (sym named k)) ∙ rests c left ∙ (λ k. w.files (named k)) ∙ is

-- a file that rests does so after calls that only look
pub rests_seen : (tells : Bool) (name : List ℕ) (id : ℕ) (u v : View) (lu lv : Files → Type 0) → IsTrue tells
    → Goes tells (λ _. ⊥) u v → v.names id ≡ name → ((c : Files) → lv c → lu c) → RestsAt name (u.files name) lu
    → RestsAt (v.names id) (file_in v id) lv
rests_seen tells name id u v lu lv told goes named fewer rests c left =
    (λ k. c (named k)) ∙ rests c (fewer c left) ∙ sym (goes.others told name (λ no. no)) ∙ sym (λ k. v.files (named k))

-- a file that is opened is refused by no line
pub opens_refused_by_none : (file : List ℕ) (t : Plain) (r : Refusal) → Opens file t → IsRefusedFile file r → ⊥
opens_refused_by_none file t r opens (AtMount is) = one_verdict (array_in file) (end_in file) r is opens.admitted
opens_refused_by_none file t r opens (InTree admitted why) =
    tree.not_refused_file (array_in file) (one_region (end_in file)) opens.held.superblock opens.held.root opens.held.links opens.held.full r opens.held.within why
