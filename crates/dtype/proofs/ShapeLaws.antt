-- A dataspace that is written is spelled.
use Rattle.std.proofs.Common.{◌≡◌, ℕ, zero, suc, ◌+◌, ◌*◌, ◌%◌, ◌^◌, ◌<◌, ◌≤◌, List, [], ◌∷◌, ◌++◌, length, refl, sym, ap, subst, ◌∙◌, arith, append_assoc, length-append}
use Rattle.std.specs.Prelude.{Option, None, Some}
use Rattle.std.specs.Int.{w64, to_le_bytes}
use Rattle.h5_base.specs.Fields.{u64s_at, u64s_bytes}
use Rattle.h5_base.proofs.FieldLemmas.{u64_at-past, u64_at-written, length-u64s_bytes}
use Rattle.dtype.specs.declared.types.Shape.{Shape}
use Rattle.dtype.specs.Shapes.{IsShape, SpellsShape, AreU64s, MaxAreU64s, shape_bytes, max_bytes, max_flag}

-- numbers past the front part
pub u64s_at-past : (xs ys : List ℕ) (at step n : ℕ) → u64s_at (xs ++ ys) (length xs + at) step n ≡ u64s_at ys at step n
u64s_at-past xs ys at step zero = refl
u64s_at-past xs ys at step (suc n) =
    let e : length xs + at + step ≡ length xs + (at + step) = omega arith in
    rw (u64_at-past xs ys at, e, u64s_at-past xs ys (at + step) step n) refl

-- what was written is read again
pub u64s_at-written : (ns ys : List ℕ) → AreU64s ns → u64s_at (u64s_bytes ns ++ ys) 0 8 (length ns) ≡ ns
u64s_at-written [] ys h = refl
u64s_at-written (n ∷ ns) ys h =
    let first : n < 2 ^ 64 = h 0 0 (omega arith) in
    let others : AreU64s ns = λ k d lt. h (suc k) d (omega arith) in
    rw (
      append_assoc (to_le_bytes w64 n) (u64s_bytes ns) ys,
      u64_at-written n (u64s_bytes ns ++ ys) first,
      u64s_at-past (to_le_bytes w64 n) (u64s_bytes ns ++ ys) 0 8 (length ns),
      u64s_at-written ns ys others,
    ) refl

-- the eight bytes before the sizes
abbrev front : ℕ → ℕ → List ℕ
front rank flags = 1 ∷ rank ∷ flags ∷ 0 ∷ 0 ∷ 0 ∷ 0 ∷ 0 ∷ []

dims_read : (rank flags : ℕ) (dims rest : List ℕ) → AreU64s dims → u64s_at ((front rank flags ++ u64s_bytes dims) ++ rest) 8 8 (length dims) ≡ dims
dims_read rank flags dims rest h =
    rw (append_assoc (front rank flags) (u64s_bytes dims) rest, u64s_at-past (front rank flags) (u64s_bytes dims ++ rest) 0 8 (length dims))
    (u64s_at-written dims rest h)

max_read : (rank flags : ℕ) (dims max rest : List ℕ) → AreU64s max → length max ≡ length dims → u64s_at ((front rank flags ++ u64s_bytes dims) ++ (u64s_bytes max ++ rest)) (8 + 8 * length dims) 8 (length dims) ≡ max
max_read rank flags dims max rest h e =
    let at : 8 + 8 * length dims ≡ length (front rank flags ++ u64s_bytes dims) + 0 = omega (arith, length-u64s_bytes dims, length-append (front rank flags) (u64s_bytes dims)) in
    rw (at, u64s_at-past (front rank flags ++ u64s_bytes dims) (u64s_bytes max ++ rest) 0 8 (length dims), ← e)
    (u64s_at-written max rest h)

abbrev shape : List ℕ → Option (List ℕ) → Shape
shape dims max = record { dims = dims; max = max }

plain_spelled : (dims rest : List ℕ) → length dims ≤ 32 → AreU64s dims → SpellsShape (shape dims None) ((front (length dims) 0 ++ u64s_bytes dims) ++ rest)
plain_spelled dims rest rank d = record {
  space = record {
    whole = omega (arith, length-append (u64s_bytes dims) rest, length-u64s_bytes dims);
    version = refl;
    rank = rank;
    unpermuted = refl;
  };
  value = sym (ap (λ ds. shape ds None) (dims_read (length dims) 0 dims rest d));
}

bounded_spelled : (dims max rest : List ℕ) → length dims ≤ 32 → length max ≡ length dims → AreU64s dims → AreU64s max → SpellsShape (shape dims (Some max)) ((front (length dims) 1 ++ u64s_bytes dims) ++ (u64s_bytes max ++ rest))
bounded_spelled dims max rest rank e d m = record {
  space = record {
    whole =
        omega
        (arith, e, length-append (u64s_bytes dims) (u64s_bytes max ++ rest), length-append (u64s_bytes max) rest, length-u64s_bytes dims, length-u64s_bytes max);
    version = refl;
    rank = rank;
    unpermuted = refl;
  };
  value =
      sym
      (ap (λ ds. shape ds (Some max)) (dims_read (length dims) 1 dims (u64s_bytes max ++ rest) d))
      ∙ sym (ap (λ ms. shape (u64s_at ((front (length dims) 1 ++ u64s_bytes dims) ++ (u64s_bytes max ++ rest)) 8 8 (length dims)) (Some ms)) (max_read (length dims) 1 dims max rest m e));
}

by_max : (dims rest : List ℕ) (max : Option (List ℕ)) → IsShape (shape dims max) → AreU64s dims → MaxAreU64s max → SpellsShape (shape dims max) ((front (length dims) (max_flag max) ++ u64s_bytes dims) ++ (max_bytes max ++ rest))
by_max dims rest None h d m = plain_spelled dims rest h.rank d
by_max dims rest (Some max) h d m = bounded_spelled dims max rest h.rank h.same_rank d m

-- also where more bytes follow
pub shape_spelled : (s : Shape) → IsShape s → AreU64s s.dims → MaxAreU64s s.max → (rest : List ℕ) → SpellsShape s (shape_bytes s ++ rest)
shape_spelled s h d m rest =
    let low : length s.dims % 256 ≡ length s.dims = omega (arith, h.rank) in
    let P : ℕ → Type 0 = λ rank. SpellsShape s ((front rank (max_flag s.max) ++ u64s_bytes s.dims) ++ (max_bytes s.max ++ rest)) in
    rw (append_assoc (front (length s.dims % 256) (max_flag s.max) ++ u64s_bytes s.dims) (max_bytes s.max) rest)
    (subst P (sym low) (by_max s.dims rest s.max h d m))

-- bytes spell one shape
pub shape_unique : (s t : Shape) (b : List ℕ) → SpellsShape s b → SpellsShape t b → s ≡ t
shape_unique s t b p q = p.value ∙ sym q.value
