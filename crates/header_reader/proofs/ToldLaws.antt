-- First messages tell at most one dataset, whose parts fit one another.
use Rattle.std.proofs.Common.{◌≡◌, ℕ, zero, suc, ◌+◌, ◌*◌, ◌==◌, Bool, true, false, if◌then◌else◌, List, length, refl, ap, arith, Option, Some, None, sym, subst, ◌∙◌, inl, inr}
use Rattle.h5_base.specs.Fields.{u64s_at}
use Rattle.dtype.specs.Shapes.{IsShape, HasLength, SpellsShape, shape_of, rank_of, has_max}
use Rattle.dtype.specs.Types.{IsElemType, SpellsType, size_of}
use Rattle.dtype.specs.declared.types.ElemType.{ElemType}
use Rattle.dtype.specs.declared.types.Shape.{Shape}
use Rattle.dtype.proofs.TypeLaws.{type_unique}
use Rattle.header_codec.specs.Layouts.{SpellsLayout}
use Rattle.header_codec.specs.Fills.{IsOfSize}
use Rattle.header_codec.specs.Written.{IsLayout}
use Rattle.header_codec.specs.declared.types.Fill.{Fill}
use Rattle.header_codec.specs.declared.types.Layout.{Layout}
use Rattle.file_model.specs.Headers.{Met}
use Rattle.file_model.proofs.UniqueHeaders.{layout_same}
use Rattle.header_reader.specs.Firsts.{Firsts}
use Rattle.header_reader.specs.Told.{Tells, TellsFill, Fit, AreParts, IsSoundNode, TellsData}
use Rattle.tree_nodes.specs.declared.node.Node.{Node}
use Rattle.tree_nodes.specs.declared.node.Node.TheVariants as node

space_same : (o : Option Met) (s t : Shape) → Tells SpellsShape o s → Tells SpellsShape o t → s ≡ t
space_same None s t h k = absurd h
space_same (Some m) s t h k = h.1.value ∙ sym k.1.value

elem_same : (o : Option Met) (s t : ElemType) → Tells SpellsType o s → Tells SpellsType o t → s ≡ t
elem_same None s t h k = absurd h
elem_same (Some m) s t h k = type_unique s t m.body h.1 k.1

stored_same : (o : Option Met) (l n : Layout) → Tells SpellsLayout o l → Tells SpellsLayout o n → l ≡ n
stored_same None l n h k = absurd h
stored_same (Some m) l n h k = layout_same m.body l n h.1 k.1

-- a fill value that the type doesn't have
pub no_fill : (v kept : Firsts) (elem t : ElemType) (s : Shape) (f : Fill) (l : Layout) → v ≡ kept → Tells SpellsType v.elem elem → ((g : Fill) → TellsFill v.old_fill (size_of elem) v.fill g → ⊥)
    → AreParts kept s t f l → ⊥
no_fill v kept elem t s f l see told none parts =
    let here : AreParts v s t f l = subst (λ (x : Firsts). AreParts x s t f l) (sym see) parts in
    let same : t ≡ elem = elem_same v.elem t elem here.type told in
    none f (subst (λ (x : ElemType). TellsFill v.old_fill (size_of x) v.fill f) same here.filled)

-- parts that don't fit one another
pub no_fit : (v kept : Firsts) (shape s : Shape) (elem t : ElemType) (layout l : Layout) (f : Fill) → v ≡ kept → Tells SpellsShape v.space shape → Tells SpellsType v.elem elem → Tells SpellsLayout v.layout layout
    → (Fit shape elem layout → ⊥) → AreParts kept s t f l → ⊥
no_fit v kept shape s elem t layout l f see space type stored unfit parts =
    let here : AreParts v s t f l = subst (λ (x : Firsts). AreParts x s t f l) (sym see) parts in
    let a : s ≡ shape = space_same v.space s shape here.space space in
    let b : t ≡ elem = elem_same v.elem t elem here.type type in
    let d : l ≡ layout = stored_same v.layout l layout here.stored stored in
    unfit (subst (λ (x : Layout). Fit shape elem x) d (subst (λ (x : ElemType). Fit shape x l) b (subst (λ (x : Shape). Fit x t l) a here.fit)))

spelled_layout : (l : Layout) (b : List ℕ) → SpellsLayout l b → IsLayout l
spelled_layout l b (inl h) = subst IsLayout (sym h.1) tt
spelled_layout l b (inr h) = subst IsLayout (sym h.1) h.0.chunk

told_layout : (o : Option Met) (l : Layout) → Tells SpellsLayout o l → IsLayout l
told_layout None l h = absurd h
told_layout (Some m) l h = spelled_layout l m.body h.1

spelled_elem : (t : ElemType) (b : List ℕ) → SpellsType t b → IsElemType t
spelled_elem t b (inl h) = subst IsElemType (sym h.1) h.0.size
spelled_elem t b (inr h) = subst IsElemType (sym h.1) h.0.size

told_elem : (o : Option Met) (t : ElemType) → Tells SpellsType o t → IsElemType t
told_elem None t h = absurd h
told_elem (Some m) t h = spelled_elem t m.body h.1

told_fill : (old_fill : Bool) (size : ℕ) (o : Option Met) (f : Fill) → TellsFill old_fill size o f → IsOfSize size f
told_fill old_fill size None f h = subst (IsOfSize size) (sym h.1) tt
told_fill old_fill size (Some m) f h = h.2

numbers_read : (b : List ℕ) (at step n : ℕ) → length (u64s_at b at step n) ≡ n
numbers_read b at step zero = refl
numbers_read b at step (suc n) = ap suc (numbers_read b (at + step) step n)

max_read : (b : List ℕ) (n at : ℕ) (t : Bool) → HasLength n (if t then Some (u64s_at b at 8 n) else None)
max_read b n at true = numbers_read b at 8 n
max_read b n at false = tt

spelled_shape : (s : Shape) (b : List ℕ) → SpellsShape s b → IsShape s
spelled_shape s b h = subst IsShape (sym h.value) read
  where
    rank : length (u64s_at b 8 8 (rank_of b)) ≡ rank_of b
    rank = numbers_read b 8 8 (rank_of b)

    read : IsShape (shape_of b)
    read = record {
      rank = omega (arith, rank, h.space.rank);
      same_rank = subst (λ (n : ℕ). HasLength n (shape_of b).max) (sym rank) (max_read b (rank_of b) (8 + 8 * rank_of b) (has_max b == 1));
    }

told_shape : (o : Option Met) (s : Shape) → Tells SpellsShape o s → IsShape s
told_shape None s h = absurd h
told_shape (Some m) s h = spelled_shape s m.body h.1

pub sound_told : (kept : Firsts) (at : ℕ) (n : Node) → TellsData kept at n → IsSoundNode n
sound_told kept at (node.Group header tree heap) h = absurd h
sound_told kept at (node.Dataset header shape elem fill layout filtered) h = record {
  fit = h.1.fit;
  shape_is = told_shape kept.space shape h.1.space;
  elem_is = told_elem kept.elem elem h.1.type;
  fill_is = told_fill kept.old_fill (size_of elem) kept.fill fill h.1.filled;
  layout_is = told_layout kept.layout layout h.1.stored;
}
sound_told kept at (node.Soft text) h = absurd h
sound_told kept at (node.Other header) h = absurd h
