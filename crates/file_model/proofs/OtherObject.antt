-- The object of a header with another body of one message.
use Rattle.std.proofs.Common.{◌≡◌, ◌≢◌, ℕ, Bool, true, false, cond, List, [], ◌∷◌, ◌++◌, refl, sym, ap, subst, ◌∙◌, arith}
use Rattle.std.specs.Prelude.{◌==◌, Option, Some, None, is_some}
use Rattle.std.proofs.lemmas.Bool.{ne_eqb}
use Rattle.std.proofs.lemmas.Bool.Decides.{nat_tests}
use Rattle.dtype.specs.Types.{size_of}
use Rattle.header_codec.specs.Layouts.{IsOfShape}
use Rattle.file_model.specs.Headers.{Met}
use Rattle.file_model.specs.Objects.{IsFirst, HasFill, is_shared, first_of, has}
use Rattle.file_model.specs.EditLaws.{AreButOne, OtherFirst, OtherTable, OtherShape, OtherLayout}

first_behind : (k : ℕ) (xs ys : List Met) → has k xs ≡ false → first_of k (xs ++ ys) ≡ first_of k ys
first_behind k [] ys none = refl
first_behind k (x ∷ xs) ys none = go (x.kind == k) none (first_behind k xs ys)
  where
    go : (t : Bool) → is_some (cond t (Some x) (first_of k xs)) ≡ false → (has k xs ≡ false → first_of k (xs ++ ys) ≡ first_of k ys) → cond t (Some x) (first_of k (xs ++ ys)) ≡ first_of k ys
    go true none later = cc
    go false none later = later none

first_same : (k : ℕ) (xs : List Met) (m : Met) (body : List ℕ) (ys : List Met) → k ≢ m.kind → first_of k (xs ++ record m { body = body } ∷ ys) ≡ first_of k (xs ++ m ∷ ys)
first_same k [] m body ys other = let no : (m.kind == k) ≡ false = ne_eqb m.kind k (λ e. other (sym e)) in rw no refl
first_same k (x ∷ xs) m body ys other = ap (λ (o : Option Met). cond (x.kind == k) (Some x) o) (first_same k xs m body ys other)

first_here : (m : Met) (ys : List Met) → first_of m.kind (m ∷ ys) ≡ Some m
first_here m ys = let yes : (m.kind == m.kind) ≡ true = grind (arith, nat_tests) in rw yes refl

pub other_first : OtherFirst
other_first m body old new o none = (
  ap (first_of m.kind) o.are ∙ first_behind m.kind o.ahead (record m { body = body } ∷ o.behind) none ∙ first_here (record m { body = body }) o.behind,
  λ k other. ap (first_of k) o.are ∙ first_same k o.ahead m body o.behind other ∙ ap (first_of k) (sym o.were),
)

pub other_table : OtherTable
other_table m body old new o none kind = record {
  table = record m { body = body };
  first = subst (λ k. first_of k new ≡ Some (record m { body = body })) kind (other_first m body old new o none).0;
  tree_at = refl;
  heap_at = refl;
}

-- the message was the first of its type
was_first : (m : Met) (body : List ℕ) (old new : List Met) (o : AreButOne m body old new) → has m.kind o.ahead ≡ false → first_of m.kind old ≡ Some m
was_first m body old new o none = ap (first_of m.kind) o.were ∙ first_behind m.kind o.ahead (m ∷ o.behind) none ∙ first_here m o.behind

is_first : (m : Met) (body : List ℕ) (old new : List Met) (o : AreButOne m body old new) → has m.kind o.ahead ≡ false → (k : ℕ) → m.kind ≡ k → (n : Met) → IsFirst k old n
    → IsFirst k new (record m { body = body })
is_first m body old new o none k kind n first =
    let was : Some m ≡ Some n = sym (subst (λ k. first_of k old ≡ Some m) kind (was_first m body old new o none)) ∙ first.first in
    let same : m ≡ n = cc in
    record {
      first = subst (λ k. first_of k new ≡ Some (record m { body = body })) kind (other_first m body old new o none).0;
      here = ap is_shared same ∙ first.here;
    }

stays_first : (k : ℕ) (old new : List Met) (n : Met) → first_of k new ≡ first_of k old → IsFirst k old n → IsFirst k new n
stays_first k old new n same h = record { first = same ∙ h.first; here = h.here }

fill_stays : (old new : List Met) (size : ℕ) (o : Option Met) (bytes : List ℕ) → first_of 4 new ≡ first_of 4 old → HasFill old size o bytes → HasFill new size o bytes
fill_stays old new size None bytes same h = (ap is_some same ∙ h.0, h.1)
fill_stays old new size (Some m) bytes same h = h

fill_moves : (old new : List Met) (size : ℕ) (bytes : List ℕ) → first_of 4 new ≡ first_of 4 old → first_of 5 new ≡ first_of 5 old → HasFill old size (first_of 5 old) bytes
    → HasFill new size (first_of 5 new) bytes
fill_moves old new size bytes four five h = subst (λ o. HasFill new size o bytes) (sym five) (fill_stays old new size (first_of 5 old) bytes four h)

pub other_shape : OtherShape
other_shape m body old new o none kind i shape h told fits rank =
    let others = (other_first m body old new o none).1 in
    let same : (k : ℕ) → k ≢ 1 → first_of k new ≡ first_of k old = λ k apart. others k (λ e. apart (e ∙ kind)) in
    record {
      no_table = ap is_some (same 0x11 (λ e. omega arith)) ∙ h.no_table;
      no_files = ap is_some (same 0x7 (λ e. omega arith)) ∙ h.no_files;
      space = (record m { body = body }, is_first m body old new o none 1 kind h.space.0 h.space.1, told);
      type = (h.type.0, stays_first 3 old new h.type.0 (same 3 (λ e. omega arith)) h.type.1, h.type.2);
      layout = (h.layout.0, stays_first 8 old new h.layout.0 (same 8 (λ e. omega arith)) h.layout.1, h.layout.2);
      fill = fill_moves old new (size_of i.elem) i.fill (same 4 (λ e. omega arith)) (same 5 (λ e. omega arith)) h.fill;
      fits = fits;
      stored = subst (λ n. IsOfShape n (size_of i.elem) i.layout) (sym rank) h.stored;
      filtered = h.filtered ∙ ap is_some (sym (same 0xB (λ e. omega arith)));
    }

pub other_layout : OtherLayout
other_layout m body old new o none kind i layout h told stored =
    let others = (other_first m body old new o none).1 in
    let same : (k : ℕ) → k ≢ 8 → first_of k new ≡ first_of k old = λ k apart. others k (λ e. apart (e ∙ kind)) in
    record {
      no_table = ap is_some (same 0x11 (λ e. omega arith)) ∙ h.no_table;
      no_files = ap is_some (same 0x7 (λ e. omega arith)) ∙ h.no_files;
      space = (h.space.0, stays_first 1 old new h.space.0 (same 1 (λ e. omega arith)) h.space.1, h.space.2);
      type = (h.type.0, stays_first 3 old new h.type.0 (same 3 (λ e. omega arith)) h.type.1, h.type.2);
      layout = (record m { body = body }, is_first m body old new o none 8 kind h.layout.0 h.layout.1, told);
      fill = fill_moves old new (size_of i.elem) i.fill (same 4 (λ e. omega arith)) (same 5 (λ e. omega arith)) h.fill;
      fits = h.fits;
      stored = stored;
      filtered = h.filtered ∙ ap is_some (sym (same 0xB (λ e. omega arith)));
    }
