-- What the first messages tell, and what the header of which they are the first makes.
use Rattle.std.proofs.Common.{◌≡◌, ℕ, ◌≤◌, ◌==◌, true, false, List, [], ◌∷◌, length, Option, Some, None, if◌then◌else◌, refl, sym, ap, subst, eqb-true, inr, ◌∙◌}
use Rattle.std.specs.Prelude.{is_some}
use Rattle.h5_base.specs.Fields.{u64_at}
use Rattle.dtype.specs.Shapes.{SpellsShape}
use Rattle.dtype.specs.Types.{SpellsType, size_of}
use Rattle.dtype.specs.declared.types.ElemType.{ElemType}
use Rattle.dtype.specs.declared.types.Shape.{Shape}
use Rattle.header_codec.specs.Layouts.{SpellsLayout}
use Rattle.header_codec.specs.declared.types.Fill.{Fill}
use Rattle.header_codec.specs.declared.types.Fill.TheVariants as fill
use Rattle.header_codec.specs.declared.types.Layout.{Layout}
use Rattle.file_model.specs.Headers.{Met, AreWhole}
use Rattle.file_model.specs.Objects.{first_of, has, IsFirst, DataInfo, HasFill, fill_bytes, IsDataHeader, IsOtherHeader}
use Rattle.header_reader.specs.Firsts.{Firsts}
use Rattle.header_reader.specs.Told.{Tells, TellsFill, AreParts, TellsData}
use Rattle.header_reader.specs.Gathered.{Gathers, MakesNode}
use Rattle.tree_nodes.specs.declared.node.Node.{Node}
use Rattle.tree_nodes.specs.declared.node.Node.TheVariants as node

-- ---- groups

-- the first symbol table message of whole messages has two numbers
table_whole : (ms : List Met) (m : Met) → AreWhole ms → first_of 0x11 ms ≡ Some m → 16 ≤ length m.body
table_whole [] m w h = absurd (cc)
table_whole (f ∷ ms) m w h =
    (elim (f.kind == 0x11) as (λ b. (f.kind == 0x11) ≡ b → (if b then Some f else first_of 0x11 ms) ≡ Some m → 16 ≤ length m.body) [
      | true ↦ λ e same. let k : f.kind ≡ 0x11 = eqb-true f.kind 0x11 e in let here : f ≡ m = cc in
          subst (λ (x : Met). 16 ≤ length x.body) here (w.0 (inr k))
      | false ↦ λ e later. table_whole ms m w.1 later
    ]) refl h

pub group_made : (kept : Firsts) (ms : List Met) (at : ℕ) (table : Met) (n : Node) → kept.table ≡ Some table → (16 ≤ length table.body → n ≡ node.Group at (u64_at table.body 0) (u64_at table.body 8))
    → Gathers kept ms → AreWhole ms → MakesNode ms at n
group_made kept ms at table n there made h w =
    let first : first_of 0x11 ms ≡ Some table = sym h.table ∙ there in
    let e : n ≡ node.Group at (u64_at table.body 0) (u64_at table.body 8) = made (table_whole ms table w first) in
    subst (λ (x : Node). MakesNode ms at x) (sym e) (refl, record { table = table; first = first; tree_at = refl; heap_at = refl })

-- ---- datasets

abbrev FirstTells : {A : Type 0} → (A → List ℕ → Type 0) → ℕ → List Met → A → Type 0
FirstTells Spells kind ms a = (m : Met) × IsFirst kind ms m × Spells a m.body

first_tells : {A : Type 0} (Spells : A → List ℕ → Type 0) (kind : ℕ) (ms : List Met) (o : Option Met) (a : A) → o ≡ first_of kind ms → Tells Spells o a → FirstTells Spells kind ms a
first_tells Spells kind ms None a e h = absurd h
first_tells Spells kind ms (Some m) a e h = (m, record { first = sym e; here = h.0 }, h.1)

told_first : {A : Type 0} (Spells : A → List ℕ → Type 0) (kind : ℕ) (ms : List Met) (o : Option Met) (a : A) → o ≡ first_of kind ms → FirstTells Spells kind ms a → Tells Spells o a
told_first {A} Spells kind ms o a e h =
    let is : o ≡ Some h.0 = e ∙ h.1.first in
    subst (λ (x : Option Met). Tells Spells x a) (sym is) (h.1.here, h.2)

has_fill : (ms : List Met) (size : ℕ) (o : Option Met) (f : Fill) → TellsFill (has 0x4 ms) size o f → HasFill ms size o (fill_bytes size f)
has_fill ms size None f h = (h.0, ap (fill_bytes size) h.1)
has_fill ms size (Some m) f h = (h.0, (f, h.1, h.2, refl))

fill_told : (ms : List Met) (size : ℕ) (o : Option Met) (bytes : List ℕ) → HasFill ms size o bytes → (f : Fill) × TellsFill (has 0x4 ms) size o f
fill_told ms size None bytes h = (fill.Zeros, (h.0, refl))
fill_told ms size (Some m) bytes h = (h.1.0, (h.0, h.1.1, h.1.2))

no_table : (kept : Firsts) (ms : List Met) → kept.table ≡ None → Gathers kept ms → has 0x11 ms ≡ false
no_table kept ms none h = ap is_some (sym h.table ∙ none)

data_header : (kept : Firsts) (ms : List Met) (shape : Shape) (elem : ElemType) (f : Fill) (layout : Layout) → kept.table ≡ None → Gathers kept ms → AreParts kept shape elem f layout
    → IsDataHeader ms (record { shape = shape; elem = elem; fill = fill_bytes (size_of elem) f; layout = layout; filtered = kept.filters })
data_header kept ms shape elem f layout none h parts =
    let old : TellsFill (has 0x4 ms) (size_of elem) (first_of 0x5 ms) f =
    subst (λ (o : Option Met). TellsFill (has 0x4 ms) (size_of elem) o f) h.fill (subst (λ b. TellsFill b (size_of elem) kept.fill f) h.old_fill parts.filled) in
    record {
      no_table = no_table kept ms none h;
      no_files = sym h.files ∙ parts.no_files;
      space = first_tells SpellsShape 0x1 ms kept.space shape h.space parts.space;
      type = first_tells SpellsType 0x3 ms kept.elem elem h.elem parts.type;
      layout = first_tells SpellsLayout 0x8 ms kept.layout layout h.layout parts.stored;
      fill = has_fill ms (size_of elem) (first_of 0x5 ms) f old;
      fits = parts.fit.fits;
      stored = parts.fit.stored;
      filtered = h.filters;
    }

parts_told : (kept : Firsts) (ms : List Met) (i : DataInfo) → Gathers kept ms → IsDataHeader ms i → (f : Fill) × AreParts kept i.shape i.elem f i.layout
parts_told kept ms i h d =
    let f = fill_told ms (size_of i.elem) (first_of 0x5 ms) i.fill d.fill in
    let old : TellsFill kept.old_fill (size_of i.elem) kept.fill f.0 =
    subst (λ b. TellsFill b (size_of i.elem) kept.fill f.0) (sym h.old_fill) (subst (λ (o : Option Met). TellsFill (has 0x4 ms) (size_of i.elem) o f.0) (sym h.fill) f.1) in (
      f.0,
      record {
        no_files = h.files ∙ d.no_files;
        space = told_first SpellsShape 0x1 ms kept.space i.shape h.space d.space;
        type = told_first SpellsType 0x3 ms kept.elem i.elem h.elem d.type;
        stored = told_first SpellsLayout 0x8 ms kept.layout i.layout h.layout d.layout;
        filled = old;
        fit = record { fits = d.fits; stored = d.stored };
      },
    )

pub data_made : (kept : Firsts) (ms : List Met) (at : ℕ) (n : Node) → kept.table ≡ None → TellsData kept at n → Gathers kept ms → MakesNode ms at n
data_made kept ms at (node.Group header tree heap) none told h = absurd told
data_made kept ms at (node.Dataset header shape elem f layout filtered) none told h =
    (told.0, record { shape = shape; elem = elem; fill = fill_bytes (size_of elem) f; layout = layout; filtered = kept.filters }, data_header kept ms shape elem f layout none h told.1, refl, refl, refl, sym told.2, refl)
data_made kept ms at (node.Soft text) none told h = absurd told
data_made kept ms at (node.Other header) none told h = absurd told

-- ---- others

pub other_made : (kept : Firsts) (ms : List Met) → kept.table ≡ None → ((s : Shape) (t : ElemType) (f : Fill) (l : Layout) → AreParts kept s t f l → ⊥) → Gathers kept ms → IsOtherHeader ms
other_made kept ms none refused h = record {
  no_table = no_table kept ms none h;
  no_data = λ i d. let told = parts_told kept ms i h d in refused i.shape i.elem told.0 i.layout told.1;
}
