-- Offsets in order: lists that are joined, and keys beside them.
use Rattle.std.proofs.Common.{Ordering, Less, Equal, Greater, ◌≡◌, ℕ, Bool, true, false, IsTrue, List, [], ◌∷◌, ◌++◌, refl}
use Rattle.std.specs.Ordering.{is_lt, nat_cmp}
use Rattle.std.specs.Cmp.Lexicographic.{slice_cmp}
use Rattle.std.proofs.lemmas.Cmp.{nat_list_cmp_total, tied_itself}
use Rattle.file_model.specs.Chunks.{Chunk, comes_before, AreAscending, IsAbove, IsAtMost}

less : (o : Ordering) → IsTrue (is_lt o) → o ≡ Less
less Less h = refl
less Equal h = cc
less Greater h = cc

-- the order of offsets is transitive
pub before_trans : (xs ys zs : List ℕ) → IsTrue (comes_before xs ys) → IsTrue (comes_before ys zs) → IsTrue (comes_before xs zs)
before_trans xs ys zs a b =
    let e : slice_cmp nat_cmp xs zs ≡ Less = nat_list_cmp_total.trans xs ys zs (less (slice_cmp nat_cmp xs ys) a) (less (slice_cmp nat_cmp ys zs) b) in
    rw e refl

pub not_before_itself : (xs : List ℕ) → comes_before xs xs ≡ false
not_before_itself xs =
    let e : slice_cmp nat_cmp xs xs ≡ Equal = tied_itself nat_list_cmp_total xs in
    rw e refl

-- what is before one that isn't before a third isn't either
pub stays_behind : (xs ys zs : List ℕ) → IsTrue (comes_before xs ys) → comes_before xs zs ≡ false → comes_before ys zs ≡ false
stays_behind xs ys zs a b = go (comes_before ys zs) refl
  where
    go : (t : Bool) → comes_before ys zs ≡ t → comes_before ys zs ≡ false
    go false e = e
    go true e = absurd (let c = before_trans xs ys zs a e in cc)

-- ---- keys beside ascending offsets

pub at_most_all : (key : List ℕ) (c : Chunk) (cs : List Chunk) → AreAscending (c ∷ cs) → comes_before c.offset key ≡ false → IsAtMost key (c ∷ cs)
at_most_all key c [] h first = (first, tt)
at_most_all key c (d ∷ ds) h first = (first, at_most_all key d ds h.1 (stays_behind c.offset d.offset key h.0 first))

pub above_all : (key : List ℕ) (front : List Chunk) (final : Chunk) → AreAscending (front ++ final ∷ []) → IsTrue (comes_before final.offset key) → IsAbove key (front ++ final ∷ [])
above_all key [] final h last = (last, tt)
above_all key (c ∷ []) final h last = (before_trans c.offset final.offset key h.0 last, (last, tt))
above_all key (c ∷ d ∷ cs) final h last =
    let rest = above_all key (d ∷ cs) final h.1 last in
    (before_trans c.offset d.offset key h.0 rest.0, rest)

pub above_last : (key : List ℕ) (front : List Chunk) (final : Chunk) → IsAbove key (front ++ final ∷ []) → IsTrue (comes_before final.offset key)
above_last key [] final h = h.0
above_last key (c ∷ cs) final h = above_last key cs final h.1

-- ---- lists that are joined

pub joined : (front : List Chunk) (final head : Chunk) (tail : List Chunk) → AreAscending (front ++ final ∷ []) → AreAscending (head ∷ tail) → IsTrue (comes_before final.offset head.offset) → AreAscending ((front ++ final ∷ []) ++ head ∷ tail)
joined [] final head tail a b between = (between, b)
joined (c ∷ []) final head tail a b between = (a.0, joined [] final head tail a.1 b between)
joined (c ∷ d ∷ cs) final head tail a b between = (a.0, joined (d ∷ cs) final head tail a.1 b between)

pub between : (front : List Chunk) (final head : Chunk) (tail : List Chunk) → AreAscending ((front ++ final ∷ []) ++ head ∷ tail) → IsTrue (comes_before final.offset head.offset)
between [] final head tail h = h.0
between (c ∷ []) final head tail h = between [] final head tail h.1
between (c ∷ d ∷ cs) final head tail h = between (d ∷ cs) final head tail h.1

-- one chunk more, which a key is before that is above the others
pub one_more : (key : List ℕ) (cs : List Chunk) (c : Chunk) → AreAscending cs → IsAbove c.offset cs → AreAscending (cs ++ c ∷ [])
one_more key [] c h above = (tt, tt)
one_more key (d ∷ []) c h above = (above.0, (tt, tt))
one_more key (d ∷ e ∷ cs) c h above = (h.0, one_more key (e ∷ cs) c h.1 above.1)

pub above_more : (key : List ℕ) (cs : List Chunk) (c : Chunk) → IsAbove c.offset cs → IsTrue (comes_before c.offset key) → IsAbove key (cs ++ c ∷ [])
above_more key [] c h last = (last, tt)
above_more key (d ∷ cs) c h last = (before_trans d.offset c.offset key h.0 last, above_more key cs c h.1 last)
