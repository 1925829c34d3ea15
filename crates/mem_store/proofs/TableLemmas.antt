-- What one changed entry, or one more, leaves of a table.
use Rattle.std.proofs.Common.{◌≡◌, ℕ, zero, suc, ◌+◌, ◌-◌, ◌<◌, ◌≤◌, List, [], ◌∷◌, ◌++◌, length, map, take, drop, sum, get_or, set, refl, sym, ◌∙◌, ap, arith, length-append}
use Rattle.std.proofs.lemmas.List.{map-set, map-append, length-map, length-take, length-drop}
use Rattle.std.proofs.Math.Seq.{map-set_same}
use Rattle.mem_store.specs.declared.table.Entry.{Entry}
use Rattle.mem_store.specs.Table.{lens_of, contents_of, cut}
use Rattle.mem_store.proofs.CutLemmas.{cut-set, get_or-cut, cut-append, sum-append, sum-set, sum_part}

pub ruleset table_steps = (map-set, map-set_same)

pub map_at : {B : Type 0} (f : Entry → B) (es : List Entry) (i : ℕ) (b : B) (d : Entry) → i < length es → get_or (map f es) i b ≡ f (get_or es i d)
map_at f [] i b d lt = absurd (omega arith)
map_at f (e ∷ es) zero b d lt = refl
map_at f (e ∷ es) (suc i) b d lt = map_at f es i b d (omega arith)

relaid_length : (b x : List ℕ) (s len : ℕ) → s + len ≤ length b → length (take s b ++ x ++ drop (s + len) b) ≡ s + length x + (length b - (s + len))
relaid_length b x s len within =
    omega (arith, length-append (take s b ++ x) (drop (s + len) b), length-append (take s b) x, length-take s b, length-drop (s + len) b)

pub len_at : (es : List Entry) (i : ℕ) (e : Entry) → i < length es → e ≡ get_or es i e → e.len ≡ get_or (lens_of es) i 0
len_at es i e lt is = ap (λ (x : Entry). x.len) is ∙ sym (map_at (λ (x : Entry). x.len) es i 0 e lt)

-- one entry's bytes are others, and its length is theirs
pub contents-relaid : (es : List Entry) (e : Entry) (b b1 x : List ℕ) (i s len : ℕ) → i < length es → sum (lens_of es) ≡ length b
    → s ≡ sum (take i (lens_of es)) → len ≡ get_or (lens_of es) i 0 → e.len ≡ length x → b1 ≡ take s b ++ x ++ drop (s + len) b
    → contents_of (set es i e) b1 ≡ set (contents_of es b) i x
contents-relaid es e b b1 x i s len lt full start here size is =
    (λ j. cut (map-set (λ (y : Entry). y.len) es i e j) (is j))
    ∙ (λ j. cut (set (lens_of es) i (size j)) (take (start j) b ++ x ++ drop (start j + here j) b))
    ∙ cut-set (lens_of es) b i x (rw length-map lt) (omega (arith, full))

pub sum-relaid : (es : List Entry) (e : Entry) (b b1 x : List ℕ) (i s len : ℕ) → i < length es → sum (lens_of es) ≡ length b
    → s ≡ sum (take i (lens_of es)) → len ≡ get_or (lens_of es) i 0 → e.len ≡ length x → b1 ≡ take s b ++ x ++ drop (s + len) b
    → sum (lens_of (set es i e)) ≡ length b1
sum-relaid es e b b1 x i s len lt full start here size is =
    let lt' : i < length (lens_of es) = rw length-map lt in
    let whole : length b1 ≡ s + length x + (length b - (s + len)) = ap length is ∙ relaid_length b x s len (omega (arith, sum_part (lens_of es) i lt')) in
    ap sum (map-set (λ (y : Entry). y.len) es i e) ∙ omega (arith, sum-set (lens_of es) i e.len lt', sum_part (lens_of es) i lt')

pub content_at : (es : List Entry) (b : List ℕ) (i s len : ℕ) → i < length es → s ≡ sum (take i (lens_of es)) → len ≡ get_or (lens_of es) i 0
    → take len (drop s b) ≡ get_or (contents_of es b) i []
content_at es b i s len lt start here =
    (λ j. take (here j) (drop (start j) b)) ∙ sym (get_or-cut (lens_of es) b i (rw length-map lt))

-- one file more
pub contents-added : (es : List Entry) (e : Entry) (b x : List ℕ) → e.len ≡ length x → sum (lens_of es) ≡ length b → contents_of (es ++ e ∷ []) (b ++ x) ≡ contents_of es b ++ x ∷ []
contents-added es e b x size full =
    (λ j. cut (map-append (λ (y : Entry). y.len) es (e ∷ []) j) (b ++ x))
    ∙ (λ j. cut (lens_of es ++ size j ∷ []) (b ++ x))
    ∙ cut-append (lens_of es) b x full

pub sum-added : (es : List Entry) (e : Entry) (b x : List ℕ) → e.len ≡ length x → sum (lens_of es) ≡ length b → sum (lens_of (es ++ e ∷ [])) ≡ length (b ++ x)
sum-added es e b x size full =
    ap sum (map-append (λ (y : Entry). y.len) es (e ∷ []))
    ∙ omega (arith, sum-append (lens_of es) e.len, length-append b x)
