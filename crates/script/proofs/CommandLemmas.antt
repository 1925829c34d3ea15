-- No command is spelled where the arguments of its word aren't.
use Rattle.std.proofs.Common.{◌≡◌, ℕ, ◌<◌, Bool, true, false, IsTrue, ◌↔◌, List, [], ◌∷◌, length, Option, Some, refl, sym, ap, subst, arith}
use Rattle.std.specs.Prelude.{codes}
use Rattle.h5_base.specs.Names.{IsComment}
use Rattle.dtype.specs.declared.types.ElemType.{ElemType}
use Rattle.dtype.specs.declared.types.Value.{Value}
use Rattle.object_model.specs.declared.command.Command.{Command}
use Rattle.object_model.specs.declared.command.Command.TheVariants as command
use Rattle.script.specs.declared.paths.Leads.TheVariants.{Anywhere, ToLink, ToNewLink}
use Rattle.script.specs.Words.{IsRun, Next, next_word}
use Rattle.script.specs.Numbers.{IsSizes}
use Rattle.script.specs.Line.{IsBox, IsExtend, IsKey, IsMkdata, IsPathThat, IsValue, IsWrite, Reads}
use Rattle.script.proofs.Runs.{next_rest}
use Rattle.script.proofs.Unlike.{unlike}
use Rattle.script.proofs.ArgumentLemmas.{box_rest}
use Rattle.script.proofs.MkdataLemmas.{key_is}

pub no_mkgroup : (text : List ℕ) → ((p : List (List ℕ)) → Next (IsPathThat ToNewLink) text p [] → ⊥) → (c : Command) → Reads (codes "mkgroup") text c → ⊥
no_mkgroup text none (command.Mkgroup path) h = none path h.1
no_mkgroup text none _ h = absurd (unlike _ _ refl h.0)

pub no_ls : (text : List ℕ) → ((p : List (List ℕ)) → Next (IsPathThat Anywhere) text p [] → ⊥) → (c : Command) → Reads (codes "ls") text c → ⊥
no_ls text none (command.Ls path) h = none path h.1
no_ls text none _ h = absurd (unlike _ _ refl h.0)

pub no_stat : (text : List ℕ) → ((p : List (List ℕ)) → Next (IsPathThat Anywhere) text p [] → ⊥) → (c : Command) → Reads (codes "stat") text c → ⊥
no_stat text none (command.Stat path) h = none path h.1
no_stat text none _ h = absurd (unlike _ _ refl h.0)

pub no_rm : (text : List ℕ) → ((p : List (List ℕ)) → Next (IsPathThat ToLink) text p [] → ⊥) → (c : Command) → Reads (codes "rm") text c → ⊥
no_rm text none (command.Rm path) h = none path h.1
no_rm text none _ h = absurd (unlike _ _ refl h.0)

pub no_read : (text : List ℕ) → ((p : List (List ℕ)) (s n : List ℕ) → IsBox text p s n [] → ⊥) → (c : Command) → Reads (codes "read") text c → ⊥
no_read text none (command.Read path start count) h = none path start count h.1
no_read text none _ h = absurd (unlike _ _ refl h.0)

pub no_write : (text : List ℕ) → ((p : List (List ℕ)) (s n : List ℕ) (vs : List Value) → IsWrite text p s n vs → ⊥) → (c : Command) → Reads (codes "write") text c → ⊥
no_write text none (command.Write path start count values) h = none path start count values h.1
no_write text none _ h = absurd (unlike _ _ refl h.0)

pub no_extend : (text : List ℕ) → ((p : List (List ℕ)) (d : List ℕ) → IsExtend text p d → ⊥) → (c : Command) → Reads (codes "extend") text c → ⊥
no_extend text none (command.Extend path dims) h = none path dims h.1
no_extend text none _ h = absurd (unlike _ _ refl h.0)

pub no_commit : (text : List ℕ) → ((comment : List ℕ) → (text ≡ 32 ∷ comment) × IsComment comment → ⊥) → (c : Command) → Reads (codes "commit") text c → ⊥
no_commit text none (command.Commit comment) h = none comment h.1
no_commit text none _ h = absurd (unlike _ _ refl h.0)

pub no_mkdata : (text : List ℕ) → ((p : List (List ℕ)) (t : ElemType) (d : List ℕ) (c m : Option (List ℕ)) (f : Option Value) → IsMkdata text p t d c m f → ⊥) → (c : Command) → Reads (codes "mkdata") text c → ⊥
no_mkdata text none (command.Mkdata path t dims chunk max fill) h = none path t dims chunk max fill h.1
no_mkdata text none _ h = absurd (unlike _ _ refl h.0)

pub no_flush : (text : List ℕ) → (text ≡ [] → ⊥) → (c : Command) → Reads (codes "flush") text c → ⊥
no_flush text none command.Flush h = none h.1
no_flush text none _ h = absurd (unlike _ _ refl h.0)

-- ---- what stands behind the arguments

pub more_word : {X : Type 0} (R : List ℕ → X → Type 0) (text : List ℕ) (x : X) (rest : List ℕ) → Next R text x rest → (rest ≡ [] → ⊥) → (y : X) → Next R text y [] → ⊥
more_word R text x rest h some y g = some (sym (next_rest R R text x y rest [] h g))

pub more_box : (text : List ℕ) (p : List (List ℕ)) (s n rest : List ℕ) → IsBox text p s n rest → (rest ≡ [] → ⊥) → (q : List (List ℕ)) (a b : List ℕ) → IsBox text q a b [] → ⊥
more_box text p s n rest h some q a b g = some (sym (box_rest text p q s n a b rest [] h g))

pub bad_values : (text : List ℕ) (p : List (List ℕ)) (s n rest : List ℕ) → IsBox text p s n rest → ((vs : List Value) → IsRun IsValue rest vs → ⊥)
    → (q : List (List ℕ)) (a b : List ℕ) (vs : List Value) → IsWrite text q a b vs → ⊥
bad_values text p s n rest h none q a b vs (after, box, run) =
    none vs (subst (λ (t : List ℕ). IsRun IsValue t vs) (box_rest text p q s n a b rest after h box) run)

pub no_write_box : (text : List ℕ) → ((p : List (List ℕ)) (s n more : List ℕ) → IsBox text p s n more → ⊥) → (p : List (List ℕ)) (s n : List ℕ) (vs : List Value) → IsWrite text p s n vs → ⊥
no_write_box text none p s n vs (after, box, run) = none p s n after box

pub no_extend_path : (text : List ℕ) → ((p : List (List ℕ)) (more : List ℕ) → Next (IsPathThat Anywhere) text p more → ⊥) → (p : List (List ℕ)) (d : List ℕ) → IsExtend text p d → ⊥
no_extend_path text none p d (after, path, dims) = none p after path

pub no_extend_dims : (text : List ℕ) (q : List (List ℕ)) (rest : List ℕ) → Next (IsPathThat Anywhere) text q rest → ((d : List ℕ) → Next (IsSizes false) rest d [] → ⊥) → (p : List (List ℕ)) (d : List ℕ) → IsExtend text p d → ⊥
no_extend_dims text q rest h none p d (after, path, dims) =
    none d (subst (λ (t : List ℕ). Next (IsSizes false) t d []) (next_rest (IsPathThat Anywhere) (IsPathThat Anywhere) text q p rest after h path) dims)

pub some_left : (rest : List ℕ) → 0 < length rest → rest ≡ [] → ⊥
some_left rest lt e = let none : length rest ≡ 0 = ap length e in omega (arith, none, lt)

-- ---- tests that fail

pub refuses : (b : Bool) (P : Type 0) → (IsTrue b ↔ P) → b ≡ false → P → ⊥
refuses b P h f p = let t : b ≡ true = h.1 p in cc

pub no_fill_key : (b : Bool) (text word after : List ℕ) → Some (word, after) ≡ next_word text → (IsTrue b ↔ (word ≡ codes "fill")) → b ≡ false → IsKey (codes "fill") text → ⊥
no_fill_key b text word after e h f k = refuses b (word ≡ codes "fill") h f (key_is (codes "fill") word text after (sym e) k)
