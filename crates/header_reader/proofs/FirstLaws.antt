-- The first messages of a list with one message more.
use Rattle.std.proofs.Common.{◌≡◌, ◌≢◌, ℕ, ◌==◌, Bool, true, false, List, [], ◌∷◌, ◌++◌, Option, Some, None, Result}
use Rattle.std.proofs.Common.{OnOk, if◌then◌else◌, refl, sym, ap, subst, ne_eqb, ◌∙◌}
use Rattle.std.specs.Prelude.{is_some}
use Rattle.std.proofs.lemmas.Result.{on_ok_weaker}
use Rattle.file_model.specs.Headers.{Met}
use Rattle.file_model.specs.Objects.{first_of, has}
use Rattle.header_reader.specs.Firsts.{Firsts}
use Rattle.header_reader.specs.Seen.{or_first}
use Rattle.header_reader.specs.Gathered.{Gathers}

-- what a place keeps, and whether a type was met, with one message more
abbrev pub placed : ℕ → Option Met → Met → Option Met
placed kind o m = if m.kind == kind then or_first o m else o

abbrev pub noted : ℕ → Bool → Met → Bool
noted kind b m = if m.kind == kind then true else b

placed-some : (kind : ℕ) (f m : Met) → placed kind (Some f) m ≡ Some f
placed-some kind f m = elim (m.kind == kind) as (λ b. (if b then Some f else Some f) ≡ Some f) [ true ↦ refl | false ↦ refl ]

first-more : (kind : ℕ) (ms : List Met) (m : Met) → first_of kind (ms ++ m ∷ []) ≡ placed kind (first_of kind ms) m
first-more kind [] m = refl
first-more kind (f ∷ ms) m =
    elim (f.kind == kind) as (λ b. (if b then Some f else first_of kind (ms ++ m ∷ [])) ≡ placed kind (if b then Some f else first_of kind ms) m) [
      | true ↦ sym (placed-some kind f m)
      | false ↦ first-more kind ms m
    ]

some-placed : (kind : ℕ) (o : Option Met) (m : Met) → is_some (placed kind o m) ≡ noted kind (is_some o) m
some-placed kind None m = elim (m.kind == kind) as (λ b. is_some (if b then Some m else None) ≡ (if b then true else false)) [ true ↦ refl | false ↦ refl ]
some-placed kind (Some f) m = elim (m.kind == kind) as (λ b. is_some (if b then Some f else Some f) ≡ (if b then true else true)) [ true ↦ refl | false ↦ refl ]

has-more : (kind : ℕ) (ms : List Met) (m : Met) → has kind (ms ++ m ∷ []) ≡ noted kind (has kind ms) m
has-more kind ms m = ap is_some (first-more kind ms m) ∙ some-placed kind (first_of kind ms) m

abbrev pub with_met : Firsts → Met → Firsts
with_met f m = record {
  space = placed 0x1 f.space m;
  elem = placed 0x3 f.elem m;
  fill = placed 0x5 f.fill m;
  layout = placed 0x8 f.layout m;
  table = placed 0x11 f.table m;
  old_fill = noted 0x4 f.old_fill m;
  files = noted 0x7 f.files m;
  filters = noted 0xB f.filters m;
}

pub gathers-more : (f g : Firsts) (ms : List Met) (m : Met) → g ≡ with_met f m → Gathers f ms → Gathers g (ms ++ m ∷ [])
gathers-more f g ms m e h =
    subst (λ (x : Firsts). Gathers x (ms ++ m ∷ [])) (sym e) (
    record {
      space = ap (λ o. placed 0x1 o m) h.space ∙ sym (first-more 0x1 ms m);
      elem = ap (λ o. placed 0x3 o m) h.elem ∙ sym (first-more 0x3 ms m);
      fill = ap (λ o. placed 0x5 o m) h.fill ∙ sym (first-more 0x5 ms m);
      layout = ap (λ o. placed 0x8 o m) h.layout ∙ sym (first-more 0x8 ms m);
      table = ap (λ o. placed 0x11 o m) h.table ∙ sym (first-more 0x11 ms m);
      old_fill = ap (λ b. noted 0x4 b m) h.old_fill ∙ sym (has-more 0x4 ms m);
      files = ap (λ b. noted 0x7 b m) h.files ∙ sym (has-more 0x7 ms m);
      filters = ap (λ b. noted 0xB b m) h.filters ∙ sym (has-more 0xB ms m);
    }
    )

-- ---- each type that counts

abbrev pub met : ℕ → ℕ → ℕ → List ℕ → Met
met kind flags at body = record { kind = kind; flags = flags; at = at; body = body }

pub met_as : (v f g : Firsts) (ms : List Met) (kind n flags at : ℕ) (body : List ℕ) → v ≡ f → kind ≡ n
    → g ≡ with_met v (met n flags at body) → Gathers f ms → Gathers g (ms ++ met kind flags at body ∷ [])
met_as v f g ms kind n flags at body see k e h =
    gathers-more v g ms (met kind flags at body) (e ∙ ap (λ x. with_met v (met x flags at body)) (sym k))
    (subst (λ (x : Firsts). Gathers x ms) (sym see) h)

-- a type whose first message is kept at its place
pub kept_as : {T E : Type 0} (r : Result T E) (v f : Firsts) (put : Option Met → Firsts) (new old : ℕ → Option Met)
    (kind n flags at : ℕ) (body : List ℕ) → v ≡ f → kind ≡ n
    → put (or_first (old n) (met n flags at body)) ≡ with_met v (met n flags at body)
    → OnOk r ((k : ℕ) → new k ≡ or_first (old k) (met k flags at body))
    → OnOk r ((ms : List Met) → Gathers f ms → Gathers (put (new n)) (ms ++ met kind flags at body ∷ []))
kept_as r v f put new old kind n flags at body see k e =
    on_ok_weaker r (λ kept ms h. met_as v f (put (new n)) ms kind n flags at body see k (ap put (kept n) ∙ e) h)

-- a type that counts for none of them
pub record IsOther (kind : ℕ) : Type 0 where
  pub space : kind ≢ 0x1
  pub elem : kind ≢ 0x3
  pub fill : kind ≢ 0x5
  pub layout : kind ≢ 0x8
  pub table : kind ≢ 0x11
  pub old_fill : kind ≢ 0x4
  pub files : kind ≢ 0x7
  pub filters : kind ≢ 0xB

not_placed : (m : Met) (k : ℕ) (o : Option Met) → m.kind ≢ k → o ≡ placed k o m
not_placed m k o ne = let e : (m.kind == k) ≡ false = ne_eqb m.kind k ne in rw e refl

not_noted : (m : Met) (k : ℕ) (b : Bool) → m.kind ≢ k → b ≡ noted k b m
not_noted m k b ne = let e : (m.kind == k) ≡ false = ne_eqb m.kind k ne in rw e refl

pub met_other : (f : Firsts) (ms : List Met) (kind flags at : ℕ) (body : List ℕ) → IsOther kind → Gathers f ms
    → Gathers f (ms ++ met kind flags at body ∷ [])
met_other f ms kind flags at body other h =
    let m = met kind flags at body in
    gathers-more f f ms m
    (λ i. record {
      space = not_placed m 0x1 f.space other.space i;
      elem = not_placed m 0x3 f.elem other.elem i;
      fill = not_placed m 0x5 f.fill other.fill i;
      layout = not_placed m 0x8 f.layout other.layout i;
      table = not_placed m 0x11 f.table other.table i;
      old_fill = not_noted m 0x4 f.old_fill other.old_fill i;
      files = not_noted m 0x7 f.files other.files i;
      filters = not_noted m 0xB f.filters other.filters i;
    })
    h
