-- The data of each message that is written tell its value, also with the zeros behind them.
use Rattle.std.proofs.Common.{◌≡◌, ℕ, zero, suc, ◌+◌, ◌*◌, ◌%◌, ◌^◌, ◌<◌, ◌≤◌, false, List, [], ◌∷◌, ◌++◌, length, get_or, All, refl, sym, ap, subst, ◌∙◌, arith, append_assoc, append-nil, length-append, inl, inr}
use Rattle.std.specs.Prelude.{◌==◌, replicate, flat_map, Option, None, Some}
use Rattle.std.specs.Int.{w32, w64, to_le_bytes}
use Rattle.std.proofs.Math.Seq.{take-append_seam}
use Rattle.std.proofs.lemmas.Bool.{ne_eqb}
use Rattle.std.proofs.lemmas.List.{get_or_append_left, get_or_default}
use Rattle.std.proofs.lemmas.Nat.{from_le_bytes-to_le_bytes_4, from_le_bytes-to_le_bytes_8}
use Rattle.h5_base.specs.Fields.{u16_at, u32_at, u64_at, u64s_bytes}
use Rattle.h5_base.proofs.FieldLemmas.{u16_at-front, u32_at-front, u32_at-past, u32_at-written, length-u64s_bytes}
use Rattle.dtype.specs.declared.types.Shape.{Shape}
use Rattle.dtype.specs.declared.types.ElemType.{ElemType}
use Rattle.dtype.specs.Products.{product}
use Rattle.dtype.specs.Shapes.{IsShape, SpellsShape, shape_bytes, max_bytes, max_flag, HasLength}
use Rattle.dtype.specs.Types.{IsClass, IsInt, IsText, SpellsType, int_of, text_of}
use Rattle.header_codec.specs.declared.types.Fill.{Fill}
use Rattle.header_codec.specs.declared.types.Fill.TheVariants.{Zeros, Value}
use Rattle.header_codec.specs.declared.types.Layout.{Layout}
use Rattle.header_codec.specs.declared.types.Layout.TheVariants.{Contiguous, Chunked}
use Rattle.header_codec.specs.Fills.{SpellsFill}
use Rattle.header_codec.specs.Layouts.{SpellsLayout, IsChunk, u32s_at}
use Rattle.header_codec.specs.Written.{filled, padding, IsFillValue, fill_bytes, alloc_time, value_bytes, layout_bytes}
use Rattle.header_codec.proofs.SizeLaws.{product-item}

-- ---- dataspaces

-- a dataspace has a multiple of 8 bytes, and not many
pub record IsShort (body : List ℕ) : Type 0 where
  pub multiple : length body % 8 ≡ 0
  pub short : length body ≤ 520

short_by_max : (dims : List ℕ) (max : Option (List ℕ)) (front : List ℕ) → length front ≡ 8 → length dims ≤ 32 → HasLength (length dims) max → IsShort (front ++ u64s_bytes dims ++ max_bytes max)
short_by_max dims None front f few same =
    let e : length (front ++ u64s_bytes dims ++ []) ≡ 8 + 8 * length dims = omega (arith, length-append (front ++ u64s_bytes dims) [], length-append front (u64s_bytes dims), length-u64s_bytes dims) in
    record { multiple = omega arith; short = omega arith }
short_by_max dims (Some max) front f few same =
    let e : length (front ++ u64s_bytes dims ++ u64s_bytes max) ≡ 8 + 8 * length dims + 8 * length max = omega (arith, length-append (front ++ u64s_bytes dims) (u64s_bytes max), length-append front (u64s_bytes dims), length-u64s_bytes dims, length-u64s_bytes max) in
    record { multiple = omega arith; short = omega arith }

pub shape_short : (s : Shape) → IsShape s → IsShort (shape_bytes s)
shape_short s h = short_by_max s.dims s.max (1 ∷ length s.dims % 256 ∷ max_flag s.max ∷ 0 ∷ 0 ∷ 0 ∷ 0 ∷ 0 ∷ []) refl h.rank h.same_rank

-- what has a multiple of 8 bytes isn't filled
pub filled-multiple : (body : List ℕ) → length body % 8 ≡ 0 → filled body ≡ body
filled-multiple body e = let none : padding (length body) ≡ 0 = omega arith in rw none (append-nil body)

abbrev Spelled : Shape → List ℕ → Type 0
Spelled s b = SpellsShape s b

pub shape_filled : (s : Shape) → IsShape s → SpellsShape s (shape_bytes s) → SpellsShape s (filled (shape_bytes s))
shape_filled s h told = subst (Spelled s) (sym (filled-multiple (shape_bytes s) (shape_short s h).multiple)) told

-- ---- datatypes: what follows isn't looked at

class_longer : (b z : List ℕ) (class whole : ℕ) → 2 ≤ whole → IsClass b class whole → IsClass (b ++ z) class whole
class_longer b z class whole le h =
    let there = h.whole_there in
    let e : get_or (b ++ z) 0 0 ≡ get_or b 0 0 = get_or_append_left b z 0 0 (omega arith) in
    record {
      whole_there = omega (arith, length-append b z);
      class_is = rw e h.class_is;
      oldest = rw e h.oldest;
      newest = rw e h.newest;
    }

int_longer : (b z : List ℕ) → IsInt b → IsInt (b ++ z) × (int_of (b ++ z) ≡ int_of b)
int_longer b z h =
    let there = h.class.whole_there in
    let bits : get_or (b ++ z) 1 0 ≡ get_or b 1 0 = get_or_append_left b z 0 1 (omega arith) in
    let size : u32_at (b ++ z) 4 ≡ u32_at b 4 = u32_at-front b z 4 (omega arith) in
    let offset : u16_at (b ++ z) 8 ≡ u16_at b 8 = u16_at-front b z 8 (omega arith) in
    let precision : u16_at (b ++ z) 10 ≡ u16_at b 10 = u16_at-front b z 10 (omega arith) in (
      record {
        class = class_longer b z 0 12 (omega arith) h.class;
        size = rw size h.size;
        padding = rw bits h.padding;
        offset = rw offset h.offset;
        precision = rw (size, precision) h.precision;
      },
      rw (size, bits) refl,
    )

text_longer : (b z : List ℕ) → IsText b → IsText (b ++ z) × (text_of (b ++ z) ≡ text_of b)
text_longer b z h =
    let there = h.class.whole_there in
    let bits : get_or (b ++ z) 1 0 ≡ get_or b 1 0 = get_or_append_left b z 0 1 (omega arith) in
    let size : u32_at (b ++ z) 4 ≡ u32_at b 4 = u32_at-front b z 4 (omega arith) in (
      record {
        class = class_longer b z 3 8 (omega arith) h.class;
        size = rw size h.size;
        padding = rw bits h.padding;
        charset = rw bits h.charset;
      },
      rw (size, bits) refl,
    )

pub type_longer : (t : ElemType) (b z : List ℕ) → SpellsType t b → SpellsType t (b ++ z)
type_longer t b z h =
    elim h [
      | inl i ↦ let l = int_longer b z i.0 in inl (l.0, i.1 ∙ sym l.1)
      | inr i ↦ let l = text_longer b z i.0 in inr (l.0, i.1 ∙ sym l.1)
    ]

-- ---- fill values

abbrev IsAllocTime : ℕ → Type 0
IsAllocTime time = (1 ≤ time) × (time ≤ 3)

fill_with : (time : ℕ) (f : Fill) (z : List ℕ) → IsFillValue f → IsAllocTime time → SpellsFill f (fill_bytes time (value_bytes f) ++ z)
unfolding u32_at
fill_with time Zeros z h t = record {
  fill = record { whole = omega arith; version = refl; earliest = t.0; latest = t.1; defined = omega arith };
  value = refl;
}
fill_with time (Value v) z h t =
    let lt : length v < 2 ^ 32 = omega (arith, h.1) in
    let len = from_le_bytes-to_le_bytes_4 (length v) lt in
    let some : (length v == 0) ≡ false = ne_eqb (length v) 0 (λ e. absurd (omega (arith, e, h.0))) in
    record {
      fill = record {
        whole = rw len (omega (arith, length-append v z));
        version = refl;
        earliest = t.0;
        latest = t.1;
        defined = omega arith;
      };
      value = sym (rw (len, some) (ap (λ x. Value x) (take-append_seam v z)));
    }

a_time : (l : Layout) → IsAllocTime (alloc_time l)
a_time (Contiguous at len) = (omega arith, omega arith)
a_time (Chunked tree sizes) = (omega arith, omega arith)

pub fill_spelled : (l : Layout) (f : Fill) → IsFillValue f → SpellsFill f (filled (fill_bytes (alloc_time l) (value_bytes f)))
fill_spelled l f h = fill_with (alloc_time l) f (replicate (padding (length (fill_bytes (alloc_time l) (value_bytes f)))) 0) h (a_time l)

-- ---- layouts

-- numbers past the front part
u32s_at-past : (xs ys : List ℕ) (at n : ℕ) → u32s_at (xs ++ ys) (length xs + at) n ≡ u32s_at ys at n
u32s_at-past xs ys at zero = refl
u32s_at-past xs ys at (suc n) =
    let e : length xs + at + 4 ≡ length xs + (at + 4) = omega arith in
    rw (u32_at-past xs ys at, e, u32s_at-past xs ys (at + 4) n) refl

abbrev pub AreU32s : List ℕ → Type 0
AreU32s ns = All (λ n. n < 2 ^ 32) ns

-- what was written is read again
u32s_at-written : (ns ys : List ℕ) → AreU32s ns → u32s_at (flat_map (to_le_bytes w32) ns ++ ys) 0 (length ns) ≡ ns
u32s_at-written [] ys h = refl
u32s_at-written (n ∷ ns) ys h =
    let first : n < 2 ^ 32 = h 0 0 (omega arith) in
    let others : AreU32s ns = λ k d lt. h (suc k) d (omega arith) in
    rw (
      append_assoc (to_le_bytes w32 n) (flat_map (to_le_bytes w32) ns) ys,
      u32_at-written n (flat_map (to_le_bytes w32) ns ++ ys) first,
      u32s_at-past (to_le_bytes w32 n) (flat_map (to_le_bytes w32) ns ++ ys) 0 (length ns),
      u32s_at-written ns ys others,
    ) refl

pub length-u32s : (ns : List ℕ) → length (flat_map (to_le_bytes w32) ns) ≡ 4 * length ns
length-u32s [] = refl
length-u32s (n ∷ ns) = omega (arith, length-u32s ns, length-append (to_le_bytes w32 n) (flat_map (to_le_bytes w32) ns))

-- the sizes of a chunk are numbers of 32 bits
pub chunk_sizes : (sizes : List ℕ) → IsChunk sizes → AreU32s sizes
chunk_sizes sizes h =
    λ k d lt. let e : get_or sizes k d ≡ get_or sizes k 0 = get_or_default sizes k d 0 lt in let le : get_or sizes k 0 ≤ product sizes = product-item sizes k h.some lt in omega (arith, h.bytes)

contiguous_with : (at len : ℕ) (z : List ℕ) → at < 2 ^ 64 → len < 2 ^ 64 → SpellsLayout (Contiguous at len) (layout_bytes (Contiguous at len) ++ z)
unfolding u64_at
contiguous_with at len z a l =
    inl (record { whole = omega arith; version = refl; class = refl }, sym (rw (from_le_bytes-to_le_bytes_8 at a, from_le_bytes-to_le_bytes_8 len l) refl))

-- the bytes before the sizes
abbrev front : ℕ → ℕ → List ℕ
front tree n = (3 ∷ 2 ∷ n ∷ []) ++ to_le_bytes w64 tree

sizes_there : (tree : ℕ) (sizes z : List ℕ) → AreU32s sizes → u32s_at (layout_bytes (Chunked tree sizes) ++ z) 11 (length sizes) ≡ sizes
sizes_there tree sizes z h =
    rw (append_assoc (front tree (length sizes)) (flat_map (to_le_bytes w32) sizes) z, u32s_at-past (front tree (length sizes)) (flat_map (to_le_bytes w32) sizes ++ z) 0 (length sizes))
    (u32s_at-written sizes z h)

tree_there : (tree : ℕ) (sizes z : List ℕ) → tree < 2 ^ 64 → u64_at (layout_bytes (Chunked tree sizes) ++ z) 3 ≡ tree
unfolding u64_at
tree_there tree sizes z t = from_le_bytes-to_le_bytes_8 tree t

chunked_with : (tree : ℕ) (sizes z : List ℕ) → tree < 2 ^ 64 → IsChunk sizes → SpellsLayout (Chunked tree sizes) (layout_bytes (Chunked tree sizes) ++ z)
chunked_with tree sizes z t h =
    let there = sizes_there tree sizes z (chunk_sizes sizes h) in
    inr (
      record {
        head = record {
          whole = omega (arith, length-append (flat_map (to_le_bytes w32) sizes) z, length-u32s sizes);
          version = refl;
          class = refl;
          few = h.most_rank;
        };
        chunk = rw there h;
      },
      sym (rw (there, tree_there tree sizes z t) refl),
    )

pub contiguous_spelled : (at len : ℕ) → at < 2 ^ 64 → len < 2 ^ 64 → SpellsLayout (Contiguous at len) (filled (layout_bytes (Contiguous at len)))
contiguous_spelled at len a l = contiguous_with at len (replicate (padding 18) 0) a l

pub chunked_spelled : (tree : ℕ) (sizes : List ℕ) → tree < 2 ^ 64 → IsChunk sizes → SpellsLayout (Chunked tree sizes) (filled (layout_bytes (Chunked tree sizes)))
chunked_spelled tree sizes t h = chunked_with tree sizes (replicate (padding (length (layout_bytes (Chunked tree sizes)))) 0) t h
