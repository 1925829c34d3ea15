-- What lies apart from all that a plan writes and takes stays.
use Rattle.std.proofs.Common.{◌≡◌, ◌⊎◌, inl, inr, ℕ, ◌+◌, ◌%◌, ◌<◌, ◌≤◌, List, [], ◌∷◌, ◌++◌, length, drop, refl, sym}
use Rattle.std.proofs.Common.{◌∙◌, subst, arith}
use Rattle.std.specs.List.{All, Contains}
use Rattle.std.proofs.lemmas.List.Elements.{All-head, All-tail}
use Rattle.h5_base.specs.declared.extent.Extent.{Extent}
use Rattle.h5_base.specs.declared.extent.MemClass.{MemClass}
use Rattle.h5_base.specs.declared.extent.Region.{Region}
use Rattle.outside.specs.Array.{Array, Ends, over}
use Rattle.outside.specs.Blocks.{Block, Agree, AllApart, AreApart, IsApart}
use Rattle.outside.specs.Space.{raised}
use Rattle.block_space.specs.Plans.{AreFilled, FitsCatalogue, padded_to, planned, rounded, taken_blocks, with_takes}
use Rattle.block_space.specs.declared.plan.EditPlan.{EditPlan}
use Rattle.block_space.specs.declared.plan.Take.{Take}
use Rattle.block_space.proofs.Apart.{contains_cons, contains_head, contains_tail, none_contained}
use Rattle.block_space.proofs.Overlaid.{over_outside, padded_length}
use Rattle.block_space.proofs.Planned.{filled_short, writes_stay}
use Rattle.file_model.proofs.FrameBytes.{Same}

-- ---- lists of blocks that are apart

apart_left : (x : Block) (xs ys : List Block) → IsApart x (xs ++ ys) → IsApart x xs
apart_left x [] ys h = tt
apart_left x (y ∷ xs) ys h = (h.0, apart_left x xs ys h.1)

apart_right : (x : Block) (xs ys : List Block) → IsApart x (xs ++ ys) → IsApart x ys
apart_right x [] ys h = h
apart_right x (y ∷ xs) ys h = apart_right x xs ys h.1

apart_skip : (x : Block) (xs ys zs : List Block) → IsApart x (xs ++ (ys ++ zs)) → IsApart x (xs ++ zs)
apart_skip x [] ys zs h = apart_right x ys zs h
apart_skip x (y ∷ xs) ys zs h = (h.0, apart_skip x xs ys zs h.1)

pub all_left : (xs ys : List Block) → AllApart (xs ++ ys) → AllApart xs
all_left [] ys h = tt
all_left (x ∷ xs) ys h = (apart_left x xs ys h.0, all_left xs ys h.1)

pub all_right : (xs ys : List Block) → AllApart (xs ++ ys) → AllApart ys
all_right [] ys h = h
all_right (x ∷ xs) ys h = all_right xs ys h.1

-- those in between left out
pub all_skip : (xs ys zs : List Block) → AllApart (xs ++ (ys ++ zs)) → AllApart (xs ++ zs)
all_skip [] ys zs h = all_right ys zs h
all_skip (x ∷ xs) ys zs h = (apart_skip x xs ys zs h.0, all_skip xs ys zs h.1)

-- each of the first is apart from all of the others
pub across : (xs ys : List Block) → AllApart (xs ++ ys) → (x : Block) → Contains xs x → IsApart x ys
across [] ys all x there = absurd (none_contained x there)
across (z ∷ zs) ys all x there = elim (contains_cons z zs x there) [
  | inl e ↦ subst (λ (w : Block). IsApart w ys) e (apart_right z zs ys all.0)
  | inr later ↦ across zs ys all.1 x later
]

pub across_left : (xs ys zs : List Block) → AllApart (xs ++ (ys ++ zs)) → (x : Block) → Contains xs x → IsApart x ys
across_left xs ys zs all x there = apart_left x ys zs (across xs (ys ++ zs) all x there)

-- ---- bytes that stay

-- a block whose length is a multiple of 8
abbrev pub IsWholeTake : Take → Type 0
IsWholeTake t = t.len % 8 ≡ 0

beside : (x y : Block) (a : ℕ) → AreApart x y → x.start ≤ a → a < x.start + x.len
    → (a < y.start) ⊎ (y.start + y.len ≤ a)
beside x y a (inl before) low high = inl (omega arith)
beside x y a (inr behind) low high = inr (omega arith)

whole : (n : ℕ) → n % 8 ≡ 0 → rounded n ≡ n
whole n eights = omega (arith, eights)

takes_beside : (regions : MemClass → Region) (ends : Ends) (ts : List Take) (images : List (List ℕ)) (b : Array)
    (x : Block) → All IsWholeTake ts → AreFilled ts images → IsApart x (taken_blocks regions ends ts)
    → Same b (with_takes regions ends ts images b) x.start x.len
takes_beside regions ends [] images b x wholes filled apart a low high = refl
takes_beside regions ends (t ∷ ts) [] b x wholes filled apart a low high = refl
takes_beside regions ends (t ∷ ts) (i ∷ is) b x wholes filled apart a low high =
    let block : Block = record { start = ends t.class; len = t.len } in
    let bytes = padded_to (rounded t.len) i in
    let eights = whole t.len (All-head IsWholeTake t ts wholes) in
    let long : length bytes ≡ t.len = padded_length (rounded t.len) i (omega (arith, eights, filled_short t i filled.1))
    ∙ eights in
    let out : (a < ends t.class) ⊎ (ends t.class + length bytes ≤ a) = subst (λ (n : ℕ). (a < ends t.class)
    ⊎ (ends t.class + n ≤ a)) (sym long) (beside x block a apart.0 low high) in
    sym (over_outside b (ends t.class) bytes a out)
    ∙ takes_beside regions (raised regions ends t.class (ends t.class + rounded t.len)) ts is
    (over b (ends t.class) bytes) x (All-tail IsWholeTake t ts wholes) filled.2 apart.1 a low high

-- the range of a write
abbrev pub range_of : Extent → Block
range_of w = record { start = w.start; len = w.len }

module _ (regions : MemClass → Region) (ends : Ends) (met : List Block) (plan : EditPlan) (b : Array)
    (fits : FitsCatalogue met plan) (wholes : All IsWholeTake plan.takes) where
  plan_beside : (x : Block) → IsApart x (taken_blocks regions ends plan.takes)
      → ((w : Extent) → Contains plan.writes w → AreApart x (range_of w))
      → Same b (planned regions ends plan b) x.start x.len
  plan_beside x apart writes a low high =
      let images = drop (length plan.writes) plan.images in
      takes_beside regions ends plan.takes images b x wholes fits.filled apart a low high
      ∙ sym (writes_stay plan.writes plan.images (with_takes regions ends plan.takes images b) a fits.as_long
      (λ w has. beside x (range_of w) a (writes w has) low high))

  pub agree_beside : (xs : List Block)
      → ((x : Block) → Contains xs x → IsApart x (taken_blocks regions ends plan.takes))
      → ((x : Block) → Contains xs x → (w : Extent) → Contains plan.writes w → AreApart x (range_of w))
      → Agree b (planned regions ends plan b) xs
  agree_beside [] apart writes = tt
  agree_beside (x ∷ xs) apart writes = (
    plan_beside x (apart x (contains_head x xs)) (writes x (contains_head x xs)),
    agree_beside xs (λ y has. apart y (contains_tail x xs y has)) (λ y has. writes y (contains_tail x xs y has)),
  )

-- a block that is apart from another is apart from a range within that
pub narrowed : (x y w : Block) → AreApart y x → y.start ≤ w.start → w.start + w.len ≤ y.start + y.len → AreApart x w
narrowed x y w (inl before) low high = inr (omega arith)
narrowed x y w (inr behind) low high = inl (omega arith)
