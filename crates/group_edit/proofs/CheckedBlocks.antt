-- Checks of blocks one after the other.
use Rattle.std.proofs.Common.{◌≡◌, inl, inr, ℕ, ◌+◌, ◌<◌, List, [], ◌∷◌, ◌++◌, Result, Ok, Err}
use Rattle.std.proofs.Common.{map, take, drop, get_or, length, refl, sym, ◌∙◌, ap, subst, arith}
use Rattle.std.specs.List.{Contains, flat_map}
use Rattle.std.specs.Result.{IsErrAnd}
use Rattle.std.proofs.lemmas.List.Elements.{Contains-append_cases, Contains-append_left, Contains-append_right}
use Rattle.std.proofs.lemmas.List.Elements.{at_from_Contains}
use Rattle.std.proofs.lemmas.Grind.{flat_map-append}
use Rattle.std.proofs.lemmas.List.{append-nil, take-append-drop, take_more}
use Rattle.outside.specs.Blocks.{Block}
use Rattle.outside.specs.Space.{SpaceView}
use Rattle.block_space.specs.Blocks.{Keeps, space_of}
use Rattle.block_space.specs.declared.blocks.Blocks.{Blocks}
use Rattle.block_space.specs.declared.plan.PlanStop.{PlanStop}
use Rattle.block_space.specs.declared.plan.PlanStop.TheVariants as stop
use Rattle.group_rows.specs.Gathering.{IsMalformed}
use Rattle.group_edit.specs.Checked.{AreAmong, Checks}

-- what checks that were passed leave
pub record Passed {V : Type 0} (view : V → SpaceView) (old new : Blocks V) (xs : List Block) : Type 0 where
  pub among : (met : List Block) → Keeps view old met → AreAmong xs met
  pub kept : (met : List Block) → Keeps view old met → Keeps view new met
  pub space : space_of new ≡ space_of old

module _ {V : Type 0} (view : V → SpaceView) where
  pub passed_ok : (old new : Blocks V) (xs : List Block) (u : Unit) → Checks view old new xs (Ok u)
      → Passed view old new xs
  passed_ok old new xs u h = record { among = h.passed; kept = h.kept; space = h.space }

  pub is_passed : (old new : Blocks V) (xs : List Block) (u : Unit) → Passed view old new xs
      → Checks view old new xs (Ok u)
  is_passed old new xs u h = record {
    passed = h.among;
    refused = λ met keeps among. tt;
    kept = h.kept;
    space = h.space;
    calm = λ failed. cc;
  }

  pub passed_none : (old : Blocks V) → Passed view old old []
  passed_none old = record {
    among = λ met keeps x there. absurd (omega (arith, (at_from_Contains [] x there).1));
    kept = λ met keeps. keeps;
    space = refl;
  }

  pub passed_on : (old mid new : Blocks V) (xs ys : List Block) → Passed view old mid xs → Passed view mid new ys
      → Passed view old new (xs ++ ys)
  passed_on old mid new xs ys first next = record {
    among = λ met keeps x there. elim (Contains-append_cases xs ys x there) [
      | inl left ↦ first.among met keeps x left
      | inr right ↦ next.among met (first.kept met keeps) x right
    ];
    kept = λ met keeps. next.kept met (first.kept met keeps);
    space = next.space ∙ first.space;
  }

  -- the last check
  pub checks_on : (old mid new : Blocks V) (xs ys : List Block) (r : Result Unit PlanStop) → Passed view old mid xs
      → Checks view mid new ys r → Checks view old new (xs ++ ys) r
  checks_on old mid new xs ys (Ok u) first next =
      is_passed old new (xs ++ ys) u (passed_on old mid new xs ys first (passed_ok mid new ys u next))
  checks_on old mid new xs ys (Err e) first next = record {
    passed = tt;
    refused = λ met keeps among. next.refused met (first.kept met keeps)
        (λ x there. among x (Contains-append_right xs ys x there));
    kept = λ met keeps. next.kept met (first.kept met keeps);
    space = next.space ∙ first.space;
    calm = next.calm;
  }

  -- a check of some of the blocks that wasn't passed
  pub handed : (old mid new : Blocks V) (xs ys zs : List Block) (r : Result Unit PlanStop) (e : PlanStop)
      → IsErrAnd r (λ x. x ≡ e) → Passed view old mid xs → Checks view mid new ys (Err e) → AreAmong ys zs
      → Checks view old new zs r
  handed old mid new xs ys zs (Ok u) e is first next sub = absurd is
  handed old mid new xs ys zs (Err x) e is first next sub = record {
    passed = tt;
    refused = λ met keeps among. subst (λ s. ¬ IsMalformed s) (sym is)
        (next.refused met (first.kept met keeps) (λ y there. among y (sub y there)));
    kept = λ met keeps. next.kept met (first.kept met keeps);
    space = next.space ∙ first.space;
    calm = λ failed. let same : x ≡ stop.Failed = cc in next.calm (ap Err (sym is ∙ same));
  }

-- ---- which blocks were checked

pub left_among : (xs ys : List Block) → AreAmong xs (xs ++ ys)
left_among xs ys x there = Contains-append_left xs ys x there

pub first_among : (xs ys zs : List Block) → AreAmong xs (xs ++ ys ++ zs)
first_among xs ys zs x there = Contains-append_left (xs ++ ys) zs x (Contains-append_left xs ys x there)

pub middle_among : (xs ys zs : List Block) → AreAmong ys (xs ++ ys ++ zs)
middle_among xs ys zs x there = Contains-append_left (xs ++ ys) zs x (Contains-append_right xs ys x there)

-- the blocks of one more, and of all
pub row_next : {A : Type 0} (f : A → List Block) (xs : List A) (i : ℕ) (d : A) → i < length xs
    → flat_map f (take (i + 1) xs) ≡ flat_map f (take i xs) ++ f (get_or xs i d)
row_next f xs i d below = ap (flat_map f) (take_more xs i d below)
    ∙ flat_map-append f (take i xs) (get_or xs i d ∷ [])
    ∙ ap (λ l. flat_map f (take i xs) ++ l) (append-nil (f (get_or xs i d)))

pub row_among : {A : Type 0} (f : A → List Block) (xs : List A) (i : ℕ) (d : A) → i < length xs
    → AreAmong (f (get_or xs i d)) (flat_map f xs)
row_among f xs i d below x there =
    let front = Contains-append_right (flat_map f (take i xs)) (f (get_or xs i d)) x there in
    let taken = subst (λ l. Contains l x) (sym (row_next f xs i d below)) front in
    let all = Contains-append_left (flat_map f (take (i + 1) xs)) (flat_map f (drop (i + 1) xs)) x taken in
    subst (λ l. Contains l x) (sym (flat_map-append f (take (i + 1) xs) (drop (i + 1) xs))
    ∙ ap (flat_map f) (take-append-drop (i + 1) xs)) all

-- blocks of one length, each alone
pub each_alone : (f : ℕ → Block) (xs : List ℕ) → flat_map (λ x. f x ∷ []) xs ≡ map f xs
each_alone f [] = refl
each_alone f (x ∷ xs) = ap (λ l. f x ∷ l) (each_alone f xs)
