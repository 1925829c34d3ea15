-- A line spells one command.
use Rattle.std.proofs.Common.{◌≡◌, ℕ, false, List, [], ◌∷◌, Option, Some, None, refl, sym, ap, subst, ◌∙◌}
use Rattle.std.specs.Prelude.{codes}
use Rattle.dtype.specs.declared.types.ElemType.{ElemType}
use Rattle.dtype.specs.declared.types.Value.{Value}
use Rattle.dtype.specs.declared.types.Value.TheVariants as value
use Rattle.object_model.specs.declared.command.Command.{Command}
use Rattle.object_model.specs.declared.command.Command.TheVariants as command
use Rattle.script.specs.declared.paths.Leads.{Leads}
use Rattle.script.specs.declared.paths.Leads.TheVariants.{Anywhere, ToLink, ToNewLink}
use Rattle.script.specs.Words.{IsRun, Next, next_word, rest_from}
use Rattle.script.specs.Numbers.{IsSizes}
use Rattle.script.specs.Types.{IsType}
use Rattle.script.specs.Line.{IsArguments, IsBox, IsFill, IsMkdata, IsPathThat, IsShape, IsValue, next_quoted, word_of}
use Rattle.script.specs.Script.{Means, OneCommand, OneScript, lines}
use Rattle.script.proofs.Runs.{some_is}
use Rattle.script.proofs.Unique.{IsOne, IsSome, one_each, one_next, one_path, one_run, one_sizes, one_type}
use Rattle.script.proofs.ArgumentLemmas.{one_value}
use Rattle.script.proofs.Unlike.{unlike}
use Rattle.script.proofs.MkdataLemmas.{one_sizing}

one_place : (leads : Leads) → IsOne (Next (IsPathThat leads))
one_place leads = one_next (IsPathThat leads) (λ w p q h g. one_path w p q h.path_is g.path_is)

one_list : IsOne (Next (IsSizes false))
one_list = one_next (IsSizes false) (one_sizes false)

some_value : IsSome IsValue
some_value (value.Num z) more (w, at, h) = let empty : next_word [] ≡ None = refl in let both : None ≡ Some (w, more) = sym empty ∙ at in absurd cc
some_value (value.Text bytes) more (inside, at, h) = let empty : next_quoted [] ≡ None = refl in let both : None ≡ Some (inside, more) = sym empty ∙ at in absurd cc

one_box : (text : List ℕ) (p q : List (List ℕ)) (s n a b more others : List ℕ) → IsBox text p s n more → IsBox text q a b others → (p ≡ q) × (s ≡ a) × (n ≡ b) × (others ≡ more)
one_box text p q s n a b more others h g =
    let path = one_place Anywhere text p q h.after_path g.after_path h.path_is g.path_is in
    let start = one_list h.after_path s a h.after_start g.after_start h.start_is (subst (λ (t : List ℕ). Next (IsSizes false) t a g.after_start) path.1 g.start_is) in
    let count = one_list h.after_start n b more others h.count_is (subst (λ (t : List ℕ). Next (IsSizes false) t b others) start.1 g.count_is) in
    (path.0, start.0, count.0, count.1)

fill_apart : (text after : List ℕ) → text ≡ [] → next_word text ≡ Some (codes "fill", after) → ⊥
fill_apart text after e at = let empty : next_word text ≡ None = ap next_word e in let both : None ≡ Some (codes "fill", after) = sym empty ∙ at in cc

one_fill : (t : ElemType) (text : List ℕ) (f g : Option Value) → IsFill t text f → IsFill t text g → f ≡ g
one_fill t text None None p q = refl
one_fill t text None (Some v) p (after, at, q, held) = absurd (fill_apart text after p at)
one_fill t text (Some v) None (after, at, p, held) q = absurd (fill_apart text after q at)
one_fill t text (Some v) (Some u) (a, at, p, held) (b, at', q, held') =
    let same : b ≡ a = ap (λ (x : List ℕ × List ℕ). x.1) (some_is (codes "fill", b) (codes "fill", a) (sym at' ∙ at)) in
    ap (λ (x : Value). Some x) (one_value a v u [] [] p (subst (λ (s : List ℕ). IsValue s u []) same q)).0

one_mkdata : (text : List ℕ) (p q : List (List ℕ)) (t u : ElemType) (d e : List ℕ) (c k m n : Option (List ℕ)) (f g : Option Value) → IsMkdata text p t d c m f → IsMkdata text q u e k n g
    → (p ≡ q) × (t ≡ u) × (d ≡ e) × (c ≡ k) × (m ≡ n) × (f ≡ g)
one_mkdata text p q t u d e c k m n f g x y =
    let path = one_place ToNewLink text p q x.after_path y.after_path x.path_is y.path_is in
    let kind = one_next IsType one_type x.after_path t u x.after_type y.after_type x.type_is (subst (λ (s : List ℕ). Next IsType s u y.after_type) path.1 y.type_is) in
    let size = one_sizing x.after_type d e c k m n x.after_shape y.after_shape x.shape_is.sizing (subst (λ (s : List ℕ). IsShape s e k n y.after_shape) kind.1 y.shape_is).sizing in
    let fill = one_fill t x.after_shape f g x.fill_is (subst (λ (s : List ℕ). IsFill t s g) size.3 (subst (λ (s : ElemType). IsFill s y.after_shape g) (sym kind.0) y.fill_is)) in
    (path.0, kind.0, size.0, size.1, size.2, fill)

tail_is : (a b : List ℕ) → 32 ∷ a ≡ 32 ∷ b → a ≡ b
tail_is a b s = cc

one_arguments : (text : List ℕ) (c d : Command) → word_of c ≡ word_of d → IsArguments text c → IsArguments text d → c ≡ d
one_arguments text (command.Mkgroup p) (command.Mkgroup q) e h g = ap command.Mkgroup (one_place ToNewLink text p q [] [] h g).0
one_arguments text (command.Mkdata p t d c m f) (command.Mkdata q u e k n g) w x y =
    let same = one_mkdata text p q t u d e c k m n f g x y in
    ap (λ z. command.Mkdata z t d c m f) same.0 ∙ ap (λ z. command.Mkdata q z d c m f) same.1 ∙ ap (λ z. command.Mkdata q u z c m f) same.2
    ∙ ap (λ z. command.Mkdata q u e z m f) same.3 ∙ ap (λ z. command.Mkdata q u e k z f) same.4 ∙ ap (command.Mkdata q u e k n) same.5
one_arguments text (command.Write p s n vs) (command.Write q a b us) e (after, box, run) (behind, box', run') =
    let same = one_box text p q s n a b after behind box box' in
    let values : vs ≡ us = one_run IsValue one_value some_value after vs us run (subst (λ (t : List ℕ). IsRun IsValue t us) same.3 run') in
    ap (λ z. command.Write z s n vs) same.0 ∙ ap (λ z. command.Write q z n vs) same.1 ∙ ap (λ z. command.Write q a z vs) same.2 ∙ ap (command.Write q a b) values
one_arguments text (command.Read p s n) (command.Read q a b) e h g =
    let same = one_box text p q s n a b [] [] h g in
    ap (λ z. command.Read z s n) same.0 ∙ ap (λ z. command.Read q z n) same.1 ∙ ap (command.Read q a) same.2
one_arguments text (command.Ls p) (command.Ls q) e h g = ap command.Ls (one_place Anywhere text p q [] [] h g).0
one_arguments text (command.Stat p) (command.Stat q) e h g = ap command.Stat (one_place Anywhere text p q [] [] h g).0
one_arguments text (command.Extend p d) (command.Extend q k) e (after, path, dims) (behind, path', dims') =
    let same = one_place Anywhere text p q after behind path path' in
    let sizes = one_list after d k [] [] dims (subst (λ (t : List ℕ). Next (IsSizes false) t k []) same.1 dims') in
    ap (λ z. command.Extend z d) same.0 ∙ ap (command.Extend q) sizes.0
one_arguments text (command.Rm p) (command.Rm q) e h g = ap command.Rm (one_place ToLink text p q [] [] h g).0
one_arguments text command.Flush command.Flush e h g = refl
one_arguments text (command.Commit p) (command.Commit q) e h g = ap command.Commit (tail_is p q (sym h.0 ∙ g.0))
one_arguments text (command.Mkgroup path) _ e h g = absurd (unlike _ _ refl e)
one_arguments text (command.Mkdata path t dims chunk max fill) _ e h g = absurd (unlike _ _ refl e)
one_arguments text (command.Write path start count values) _ e h g = absurd (unlike _ _ refl e)
one_arguments text (command.Read path start count) _ e h g = absurd (unlike _ _ refl e)
one_arguments text (command.Ls path) _ e h g = absurd (unlike _ _ refl e)
one_arguments text (command.Stat path) _ e h g = absurd (unlike _ _ refl e)
one_arguments text (command.Extend path dims) _ e h g = absurd (unlike _ _ refl e)
one_arguments text (command.Rm path) _ e h g = absurd (unlike _ _ refl e)
one_arguments text command.Flush _ e h g = absurd (unlike _ _ refl e)
one_arguments text (command.Commit comment) _ e h g = absurd (unlike _ _ refl e)

pub one_command : OneCommand
one_command line c d h g = one_arguments (rest_from 32 line) c d (sym h.spelled.0 ∙ g.spelled.0) h.spelled.1 g.spelled.1

one_meaning : (line : List ℕ) (c d : Option Command) → Means line c → Means line d → c ≡ d
one_meaning line None None h g = refl
one_meaning line None (Some d) h g = absurd (h d g)
one_meaning line (Some c) None h g = absurd (g c h)
one_meaning line (Some c) (Some d) h g = ap (λ (x : Command). Some x) (one_command line c d h g)

pub one_script : OneScript
one_script bytes = one_each Means one_meaning (lines bytes)
