-- The greatest offset of lists that are joined, or in another order.
use Rattle.std.proofs.Common.{◌≡◌, ℕ, ◌≤◌, max, List, [], ◌∷◌, ◌++◌, length, Option, Some, None, sym, subst}
use Rattle.std.proofs.Common.{arith, inl, inr, Bool, false, ne_eqb, ◌+◌, ◌<◌, ◌==◌, if◌then◌else◌, take, get_or}
use Rattle.std.specs.List.{Contains}
use Rattle.std.specs.List.Sorted.{IsPermutation}
use Rattle.std.proofs.lemmas.Bool.{cases_lt}
use Rattle.std.proofs.lemmas.List.{take_all}
use Rattle.std.proofs.lemmas.List.Elements.{Contains-append_left, Contains-append_right, Contains-append_cases}
use Rattle.std.proofs.lemmas.List.Elements.{Contains-push, Contains-push_cases}
use Rattle.std.proofs.lemmas.List.Sorted.{Contains-permutation, IsPermutation-sym}
use Rattle.group_rows.proofs.ListLemmas.{flat_map-take}
use Rattle.std.specs.List.{flat_map}
use Rattle.node_codec.specs.Snod.{soft_value_at}
use Rattle.node_codec.specs.declared.snod.SnodEntry.{SnodEntry}
use Rattle.node_codec.specs.declared.group_node.GroupNode.{GroupNode}
use Rattle.file_model.specs.Groups.{entry_offsets, key_offsets}
use Rattle.group_heap.specs.Greatest.{IsGreatest}

pub greater_of : (os ps : List ℕ) (x y m : ℕ) → m ≡ max x y → IsGreatest os (Some x) → IsGreatest ps (Some y)
    → IsGreatest (os ++ ps) (Some m)
greater_of os ps x y m is a b = (
  elim (cases_lt x y) [
    | inl lt ↦
        let e : y ≡ m = omega arith in
        subst (Contains (os ++ ps)) e (Contains-append_right os ps y b.0)
    | inr le ↦
        let e : x ≡ m = omega arith in
        subst (Contains (os ++ ps)) e (Contains-append_left os ps x a.0)
  ],
  λ at h. elim (Contains-append_cases os ps at h) [
    | inl p ↦ omega (arith, a.1 at p)
    | inr q ↦ omega (arith, b.1 at q)
  ],
)

pub greater_left : (os ps : List ℕ) (x : ℕ) → IsGreatest os (Some x) → IsGreatest ps None
    → IsGreatest (os ++ ps) (Some x)
greater_left os ps x a none = (
  Contains-append_left os ps x a.0,
  λ at h. elim (Contains-append_cases os ps at h) [ inl p ↦ a.1 at p | inr q ↦ absurd (none at q) ],
)

pub greater_right : (os ps : List ℕ) (y : Option ℕ) → IsGreatest os None → IsGreatest ps y → IsGreatest (os ++ ps) y
greater_right os ps None none b =
    λ at h. elim (Contains-append_cases os ps at h) [ inl p ↦ none at p | inr q ↦ b at q ]
greater_right os ps (Some y) none b = (
  Contains-append_right os ps y b.0,
  λ at h. elim (Contains-append_cases os ps at h) [ inl p ↦ absurd (none at p) | inr q ↦ b.1 at q ],
)

pub greatest_none : (os : List ℕ) → os ≡ [] → IsGreatest os None
greatest_none os is = subst (λ (l : List ℕ). IsGreatest l None) (sym is) (λ at h. omega (arith, h.1))

one : (x : ℕ) → IsGreatest (x ∷ []) (Some x)
one x = (
  Contains-push [] x,
  λ at h. elim (Contains-push_cases [] x at h) [
    | inl p ↦ absurd (omega (arith, p.1))
    | inr is ↦ omega (arith, is)
  ],
)

pub greatest_soft : (e : SnodEntry) (soft m : ℕ) → e.cache ≡ 2 → soft ≡ soft_value_at e → m ≡ max e.name_at soft
    → IsGreatest (entry_offsets e) (Some m)
greatest_soft e soft m two is most =
    let both = greater_of (e.name_at ∷ []) (soft ∷ []) e.name_at soft m most (one e.name_at) (one soft) in
    let here : IsGreatest (e.name_at ∷ soft_value_at e ∷ []) (Some m) =
    subst (λ (s : ℕ). IsGreatest (e.name_at ∷ s ∷ []) (Some m)) is both in
    subst (λ (n : ℕ). IsGreatest (if n == 2 then (e.name_at ∷ soft_value_at e ∷ []) else (e.name_at ∷ [])) (Some m))
    (sym two) here

-- the keys of a node that has children
pub greatest_keys : (n : GroupNode) (keys : List ℕ) (last : Option ℕ) → (length n.children ≡ 0 → ⊥) → keys ≡ n.keys
    → IsGreatest keys last → IsGreatest (key_offsets n) last
greatest_keys n keys last some is h =
    let e : (length n.children == 0) ≡ false = ne_eqb (length n.children) 0 some in
    let here = subst (λ (l : List ℕ). IsGreatest l last) is h in
    subst (λ (b : Bool). IsGreatest (if b then [] else n.keys) last) (sym e) here

-- all entries
pub greatest_all : (es : List SnodEntry) (i : ℕ) (last : Option ℕ) → length es ≤ i
    → IsGreatest (flat_map entry_offsets (take i es)) last → IsGreatest (flat_map entry_offsets es) last
greatest_all es i last le h =
    subst (λ (l : List SnodEntry). IsGreatest (flat_map entry_offsets l) last) (take_all i es le) h

-- one entry more
pub greatest_more : (es : List SnodEntry) (i : ℕ) (d : SnodEntry) (last : Option ℕ) → i < length es
    → IsGreatest (flat_map entry_offsets (take i es) ++ entry_offsets (get_or es i d)) last
    → IsGreatest (flat_map entry_offsets (take (i + 1) es)) last
greatest_more es i d last lt h =
    subst (λ (l : List ℕ). IsGreatest l last) (sym (flat_map-take entry_offsets es i d lt)) h

pub greatest_moved : (os ps : List ℕ) (last : Option ℕ) → IsPermutation os ps → IsGreatest os last → IsGreatest ps last
greatest_moved os ps None p none =
    λ at h. none at (Contains-permutation ps os at (IsPermutation-sym os ps p) h)
greatest_moved os ps (Some last) p h = (
  Contains-permutation os ps last p h.0,
  λ at c. h.1 at (Contains-permutation ps os at (IsPermutation-sym os ps p) c),
)
