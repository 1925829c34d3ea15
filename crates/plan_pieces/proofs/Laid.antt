-- An array with images laid over it, one after the other.
use Rattle.std.proofs.Common.{◌≡◌, ◌⊎◌, inl, inr, ℕ, ◌+◌, ◌-◌, ◌<◌, ◌≤◌, List, [], ◌∷◌, ◌++◌, length, get_or, refl, sym}
use Rattle.std.proofs.Common.{◌∙◌, ap, subst, arith}
use Rattle.std.specs.List.{Contains, AllByRecursion}
use Rattle.std.specs.List.Sorted.{IsPermutation}
use Rattle.std.proofs.lemmas.Bool.Decides.{nat_tests}
use Rattle.std.proofs.lemmas.List.{ext_get_or}
use Rattle.std.proofs.lemmas.List.FromFn.{get_or-map-range_with_len, length-map-range_with_len}
use Rattle.std.proofs.lemmas.List.Elements.{All-from_recursion, recursion_from_All}
use Rattle.std.proofs.lemmas.List.Sorted.{All-permutation}
use Rattle.outside.specs.Array.{Array, bytes_of, over}
use Rattle.outside.specs.Blocks.{Block, AreApart, IsApart, AllApart, Agree}
use Rattle.block_space.proofs.Apart.{contains_cons, contains_head, contains_tail, none_contained}
use Rattle.block_space.proofs.Overlaid.{over_outside}
use Rattle.file_model.proofs.FrameBytes.{Same, bytes_same}
use Rattle.plan_pieces.specs.declared.image.Image.{Image}
use Rattle.plan_pieces.specs.Images.{HaveImages, image_block, image_blocks}

abbrev pub laid : Array → List Image → Array
laid b [] = b
laid b (i ∷ is) = laid (over b i.at i.bytes) is

pub laid_both : (b : Array) (is js : List Image) → laid b (is ++ js) ≡ laid (laid b is) js
laid_both b [] js = refl
laid_both b (i ∷ is) js = laid_both (over b i.at i.bytes) is js

over_inside : (b : Array) (at : ℕ) (bytes : List ℕ) (k : ℕ) → k < length bytes
    → over b at bytes (at + k) ≡ get_or bytes (at + k - at) 0
over_inside b at bytes k below = grind (arith, nat_tests)

-- bytes that were just written are there
over_there : (b : Array) (at : ℕ) (bytes : List ℕ) → bytes_of (over b at bytes) at (length bytes) ≡ bytes
over_there b at bytes =
    let long = length-map-range_with_len (over b at bytes) at (length bytes) in
    ext_get_or 0 (bytes_of (over b at bytes) at (length bytes)) bytes long (λ k below.
    let least : k < length bytes = omega (arith, below, long) in
    let back : at + k - at ≡ k = omega arith in
    get_or-map-range_with_len (over b at bytes) at (length bytes) k (at + k) 0 least refl
    ∙ over_inside b at bytes k least ∙ ap (λ (j : ℕ). get_or bytes j 0) back)

beside : (x y : Block) (a : ℕ) → AreApart x y → x.start ≤ a → a < x.start + x.len → (a < y.start) ⊎ (y.start + y.len ≤ a)
beside x y a (inl before) low high = inl (omega arith)
beside x y a (inr behind) low high = inr (omega arith)

-- what is apart from the images stays
pub laid_outside : (b : Array) (is : List Image) (x : Block) → IsApart x (image_blocks is)
    → Same b (laid b is) x.start x.len
laid_outside b [] x apart a low high = refl
laid_outside b (i ∷ is) x apart a low high =
    sym (over_outside b i.at i.bytes a (beside x (image_block i) a apart.0 low high))
    ∙ laid_outside (over b i.at i.bytes) is x apart.1 a low high

-- images that are apart all stand
pub have_laid : (b : Array) (is : List Image) → AllApart (image_blocks is) → HaveImages (laid b is) is
have_laid b [] apart = tt
have_laid b (i ∷ is) apart =
    let first = over b i.at i.bytes in (
      sym (bytes_same first (laid first is) i.at (length i.bytes) (laid_outside first is (image_block i) apart.0))
          ∙ over_there b i.at i.bytes,
      have_laid first is apart.1,
    )

apart_behind : (x : Block) (xs ys : List Block) → IsApart x (xs ++ ys) → IsApart x ys
apart_behind x [] ys apart = apart
apart_behind x (z ∷ zs) ys apart = apart_behind x zs ys apart.1

-- and so do those that stood before, apart from them
pub have_both : (b : Array) (same is : List Image) → AllApart (image_blocks same ++ image_blocks is) → HaveImages b same
    → HaveImages (laid b is) (same ++ is)
have_both b [] is apart have = have_laid b is apart
have_both b (s ∷ ss) is apart have = (
  sym (bytes_same b (laid b is) s.at (length s.bytes) (laid_outside b is (image_block s)
      (apart_behind (image_block s) (image_blocks ss) (image_blocks is) apart.0)))
      ∙ have.0,
  have_both b ss is apart.1 have.1,
)

-- ---- in any order

Stands : Array → Image → Type 0
Stands b i = bytes_of b i.at (length i.bytes) ≡ i.bytes

have_each : (b : Array) (is : List Image) → HaveImages b is → AllByRecursion (Stands b) is
unfolding Stands
have_each b [] have = tt
have_each b (i ∷ is) have = (have.0, have_each b is have.1)

each_have : (b : Array) (is : List Image) → AllByRecursion (Stands b) is → HaveImages b is
unfolding Stands
each_have b [] have = tt
each_have b (i ∷ is) have = (have.0, each_have b is have.1)

-- images that stand do so in any order
pub have_order : (b : Array) (is js : List Image) → IsPermutation is js → HaveImages b is → HaveImages b js
have_order b is js moved have = each_have b js (recursion_from_All (Stands b) js
    (All-permutation (Stands b) is js moved (All-from_recursion (Stands b) is (have_each b is have))))

have_one : (b : Array) (is : List Image) (i : Image) → Contains is i → HaveImages b is
    → bytes_of b i.at (length i.bytes) ≡ i.bytes
have_one b [] i has have = absurd (none_contained i has)
have_one b (j ∷ js) i has have = elim (contains_cons j js i has) [
  | inl e ↦ subst (λ (x : Image). bytes_of b x.at (length x.bytes) ≡ x.bytes) e have.0
  | inr later ↦ have_one b js i later have.1
]

agree_one : (b c : Array) (is : List Image) (i : Image) → Contains is i → Agree b c (image_blocks is)
    → Same b c i.at (length i.bytes)
agree_one b c [] i has agree = absurd (none_contained i has)
agree_one b c (j ∷ js) i has agree = elim (contains_cons j js i has) [
  | inl e ↦ subst (λ (x : Image). Same b c x.at (length x.bytes)) e agree.0
  | inr later ↦ agree_one b c js i later agree.1
]

-- images that stand in b do so in c, which agrees with b there
pub have_same : (b c : Array) (old writes same : List Image) → HaveImages b old → Agree b c (image_blocks writes)
    → ((i : Image) → Contains same i → Contains old i) → ((i : Image) → Contains same i → Contains writes i)
    → HaveImages c same
have_same b c old writes [] have agree stand written = tt
have_same b c old writes (s ∷ ss) have agree stand written =
    let here = contains_head s ss in (
      sym (bytes_same b c s.at (length s.bytes) (agree_one b c writes s (written s here) agree))
          ∙ have_one b old s (stand s here) have,
      have_same b c old writes ss have agree (λ i has. stand i (contains_tail s ss i has))
          (λ i has. written i (contains_tail s ss i has)),
    )
