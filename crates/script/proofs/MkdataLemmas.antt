-- What can't be spelled of a new dataset where a part can't.
use Rattle.std.proofs.Common.{◌≡◌, ℕ, Bool, true, false, List, [], Option, Some, None, refl, sym, ap, subst, ◌∙◌}
use Rattle.std.specs.Prelude.{codes, ◌&&◌}
use Rattle.dtype.specs.Values.{CanHold}
use Rattle.dtype.specs.declared.types.ElemType.{ElemType}
use Rattle.dtype.specs.declared.types.Value.{Value}
use Rattle.script.specs.declared.paths.Leads.TheVariants.{ToNewLink}
use Rattle.script.specs.Words.{Next, next_word}
use Rattle.script.specs.Numbers.{IsSizes}
use Rattle.script.specs.Types.{IsType}
use Rattle.script.specs.Line.{IsFill, IsKey, IsMkdata, IsOption, IsPathThat, IsShape, IsSizing, IsValue, is_chunk, is_maximum}
use Rattle.script.proofs.Runs.{some_is, next_rest}
use Rattle.script.proofs.Unique.{one_next, one_sizes, one_type}

-- ---- an option

pub key_is : (key word text after : List ℕ) → next_word text ≡ Some (word, after) → IsKey key text → word ≡ key
key_is key word text after e (more, at) = ap (λ (p : List ℕ × List ℕ). p.0) (some_is (word, after) (key, more) (sym e ∙ at))

pub no_key_here : (key text : List ℕ) → None ≡ next_word text → IsKey key text → ⊥
no_key_here key text e (more, at) = let both : None ≡ Some (key, more) = e ∙ at in cc

pub no_option : (m : Bool) (key text after : List ℕ) → next_word text ≡ Some (key, after) → ((ns more : List ℕ) → Next (IsSizes m) after ns more → ⊥)
    → (d : Option (List ℕ)) (more : List ℕ) → IsOption m key text d more → ⊥
no_option m key text after e none None more h = h.0 (after, e)
no_option m key text after e none (Some ns) more (other, at, h) =
    let same : other ≡ after = ap (λ (p : List ℕ × List ℕ). p.1) (some_is (key, other) (key, after) (sym at ∙ e)) in
    none ns more (subst (λ (t : List ℕ). Next (IsSizes m) t ns more) same h)

pub one_option : (m : Bool) (key text : List ℕ) (x y : Option (List ℕ)) (more others : List ℕ) → IsOption m key text x more → IsOption m key text y others → (x ≡ y) × (others ≡ more)
one_option m key text None None more others h g = (refl, sym g.1 ∙ h.1)
one_option m key text None (Some ys) more others h (after, at, g) = absurd (h.0 (after, at))
one_option m key text (Some xs) None more others (after, at, h) g = absurd (g.0 (after, at))
one_option m key text (Some xs) (Some ys) more others (a, at, h) (b, at', g) =
    let same : b ≡ a = ap (λ (p : List ℕ × List ℕ). p.1) (some_is (key, b) (key, a) (sym at' ∙ at)) in
    let one = one_next (IsSizes m) (one_sizes m) a xs ys more others h (subst (λ (t : List ℕ). Next (IsSizes m) t ys others) same g) in
    (ap (λ (ns : List ℕ). Some ns) one.0, one.1)

-- ---- sizes

abbrev Dimensions : List ℕ → List ℕ → List ℕ → Type 0
Dimensions text dims more = Next (IsSizes false) text dims more

abbrev Chunks : List ℕ → Option (List ℕ) → List ℕ → Type 0
Chunks text chunk more = IsOption false (codes "chunk") text chunk more

abbrev Maxima : List ℕ → Option (List ℕ) → List ℕ → Type 0
Maxima text max more = IsOption true (codes "max") text max more

one_dimensions : (text x y more others : List ℕ) → Dimensions text x more → Dimensions text y others → (x ≡ y) × (others ≡ more)
one_dimensions = one_next (IsSizes false) (one_sizes false)

pub one_sizing : (text d e : List ℕ) (c k m n : Option (List ℕ)) (more others : List ℕ) → IsSizing text d c m more → IsSizing text e k n others → (d ≡ e) × (c ≡ k) × (m ≡ n) × (others ≡ more)
one_sizing text d e c k m n more others h g =
    let a = one_dimensions text d e h.after_dims g.after_dims h.dims_are g.dims_are in
    let b = one_option false (codes "chunk") h.after_dims c k h.after_chunk g.after_chunk h.chunk_is (subst (λ (t : List ℕ). Chunks t k g.after_chunk) a.1 g.chunk_is) in
    let o = one_option true (codes "max") h.after_chunk m n more others h.max_is (subst (λ (t : List ℕ). Maxima t n others) b.1 g.max_is) in
    (a.0, b.0, o.0, o.1)

abbrev NoSizing : List ℕ → Type 0
NoSizing text = (d : List ℕ) (c m : Option (List ℕ)) (more : List ℕ) → IsSizing text d c m more → ⊥

pub no_dims : (text : List ℕ) → ((d more : List ℕ) → Dimensions text d more → ⊥) → NoSizing text
no_dims text none d c m more h = none d h.after_dims h.dims_are

pub no_chunk : (text dims t : List ℕ) → Dimensions text dims t → ((c : Option (List ℕ)) (more : List ℕ) → Chunks t c more → ⊥) → NoSizing text
no_chunk text dims t is none d c m more h =
    let a = one_dimensions text dims d t h.after_dims is h.dims_are in
    none c h.after_chunk (subst (λ (u : List ℕ). Chunks u c h.after_chunk) a.1 h.chunk_is)

pub no_max : (text dims t u : List ℕ) (chunk : Option (List ℕ)) → Dimensions text dims t → Chunks t chunk u → ((m : Option (List ℕ)) (more : List ℕ) → Maxima u m more → ⊥) → NoSizing text
no_max text dims t u chunk is has none d c m more h =
    let a = one_dimensions text dims d t h.after_dims is h.dims_are in
    let b = one_option false (codes "chunk") t chunk c u h.after_chunk has (subst (λ (v : List ℕ). Chunks v c h.after_chunk) a.1 h.chunk_is) in
    none m more (subst (λ (v : List ℕ). Maxima v m more) b.1 h.max_is)

abbrev NoShape : List ℕ → Type 0
NoShape text = (d : List ℕ) (c m : Option (List ℕ)) (more : List ℕ) → IsShape text d c m more → ⊥

pub no_sizing : (text : List ℕ) → NoSizing text → NoShape text
no_sizing text none d c m more h = none d c m more h.sizing

abbrev fit : List ℕ → (chunk max : Option (List ℕ)) → Bool
fit dims chunk max = is_chunk dims chunk && is_maximum dims chunk max

pub unfit : (text dims more : List ℕ) (chunk max : Option (List ℕ)) → IsSizing text dims chunk max more → fit dims chunk max ≡ false → NoShape text
unfit text dims more chunk max is bad d c m others h =
    let a = one_sizing text dims d chunk c max m more others is h.sizing in
    let same : fit d c m ≡ fit dims chunk max = ap (λ x. fit x c m) (sym a.0) ∙ ap (λ x. fit dims x m) (sym a.1) ∙ ap (fit dims chunk) (sym a.2) in
    let good : fit d c m ≡ true = rw (h.chunk_fits, h.max_fits) refl in
    absurd cc

both_true : (a b : Bool) → (a && b) ≡ true → (a ≡ true) × (b ≡ true)
both_true true b e = (refl, e)
both_true false b e = absurd cc

pub fitting : (text dims more : List ℕ) (chunk max : Option (List ℕ)) → IsSizing text dims chunk max more → fit dims chunk max ≡ true → IsShape text dims chunk max more
fitting text dims more chunk max is good =
    let both = both_true (is_chunk dims chunk) (is_maximum dims chunk max) good in
    record { sizing = is; chunk_fits = both.0; max_fits = both.1 }

-- ---- the fill value

pub no_fill_word : (t : ElemType) (text : List ℕ) → (text ≡ [] → ⊥) → (IsKey (codes "fill") text → ⊥) → (f : Option Value) → IsFill t text f → ⊥
no_fill_word t text some none None h = some h
no_fill_word t text some none (Some v) (after, at, h, held) = none (after, at)

pub no_fill_value : (t : ElemType) (text after : List ℕ) → (text ≡ [] → ⊥) → next_word text ≡ Some (codes "fill", after) → ((v : Value) → IsValue after v [] → CanHold t v → ⊥) → (f : Option Value) → IsFill t text f → ⊥
no_fill_value t text after some e none None h = some h
no_fill_value t text after some e none (Some v) (other, at, h, held) =
    let same : other ≡ after = ap (λ (p : List ℕ × List ℕ). p.1) (some_is (codes "fill", other) (codes "fill", after) (sym at ∙ e)) in
    none v (subst (λ (u : List ℕ). IsValue u v []) same h) held

-- ---- all arguments

abbrev pub NoMkdata : List ℕ → Type 0
NoMkdata text = (p : List (List ℕ)) (t : ElemType) (d : List ℕ) (c m : Option (List ℕ)) (f : Option Value) → IsMkdata text p t d c m f → ⊥

abbrev Made : List ℕ → List (List ℕ) → List ℕ → Type 0
Made text p more = Next (IsPathThat ToNewLink) text p more

pub no_path : (text : List ℕ) → ((p : List (List ℕ)) (more : List ℕ) → Made text p more → ⊥) → NoMkdata text
no_path text none p t d c m f h = none p h.after_path h.path_is

path_rest : (text : List ℕ) (p q : List (List ℕ)) (more others : List ℕ) → Made text p more → Made text q others → others ≡ more
path_rest = next_rest (IsPathThat ToNewLink) (IsPathThat ToNewLink)

pub no_type : (text u : List ℕ) (q : List (List ℕ)) → Made text q u → ((t : ElemType) (more : List ℕ) → Next IsType u t more → ⊥) → NoMkdata text
no_type text u q is none p t d c m f h =
    let same = path_rest text q p u h.after_path is h.path_is in
    none t h.after_type (subst (λ (v : List ℕ). Next IsType v t h.after_type) same h.type_is)

one_kind : (text : List ℕ) (s t : ElemType) (more others : List ℕ) → Next IsType text s more → Next IsType text t others → (s ≡ t) × (others ≡ more)
one_kind = one_next IsType one_type

pub no_shape : (text u v : List ℕ) (q : List (List ℕ)) (s : ElemType) → Made text q u → Next IsType u s v → NoShape v → NoMkdata text
no_shape text u v q s is has none p t d c m f h =
    let same = path_rest text q p u h.after_path is h.path_is in
    let kind = one_kind u s t v h.after_type has (subst (λ (w : List ℕ). Next IsType w t h.after_type) same h.type_is) in
    none d c m h.after_shape (subst (λ (w : List ℕ). IsShape w d c m h.after_shape) kind.1 h.shape_is)

pub no_fill : (text u v w e : List ℕ) (q : List (List ℕ)) (s : ElemType) (k n : Option (List ℕ)) → Made text q u → Next IsType u s v → IsShape v e k n w → ((f : Option Value) → IsFill s w f → ⊥) → NoMkdata text
no_fill text u v w e q s k n is has shape none p t d c m f h =
    let same = path_rest text q p u h.after_path is h.path_is in
    let kind = one_kind u s t v h.after_type has (subst (λ (x : List ℕ). Next IsType x t h.after_type) same h.type_is) in
    let size = one_sizing v e d k c n m w h.after_shape shape.sizing (subst (λ (x : List ℕ). IsShape x d c m h.after_shape) kind.1 h.shape_is).sizing in
    none f (subst (λ (x : List ℕ). IsFill s x f) size.3 (subst (λ (x : ElemType). IsFill x h.after_shape f) (sym kind.0) h.fill_is))
