-- A line that was begun, from piece to piece.
use Rattle.std.proofs.Common.{◌≡◌, ◌≢◌, ℕ, suc, ◌+◌, ◌<◌, Bool, IsTrue, List, [], ◌∷◌, ◌++◌, length, take, Result, Ok, Err, refl, sym, ap, subst, ◌∙◌, arith, append_assoc, length-append, inl, inr, ◌⊎◌}
use Rattle.std.proofs.lemmas.List.{append-nil}
use Rattle.std.proofs.lemmas.List.Elements.{Contains-append_cases}
use Rattle.script_lines.specs.Lines.{most_kept, HasNoLf, IsNext}
use Rattle.script_lines.specs.declared.reader.NextLine.{NextLine}
use Rattle.script_lines.specs.declared.reader.NextLine.TheVariants.{Line, Last, End}
use Rattle.script_lines.proofs.PieceLemmas.{none_empty, kept_again}

-- some bytes without LF stand before what is held and left
pub record Begun (tells : Bool) (line held left all : List ℕ) : Type 0 where
  pub begun : List ℕ
  pub no_lf : HasNoLf begun
  pub kept : line ≡ take most_kept begun
  pub bytes : IsTrue tells → all ≡ begun ++ (held ++ left)

pub no_lf-append : (x y : List ℕ) → HasNoLf x → HasNoLf y → HasNoLf (x ++ y)
no_lf-append x y p q both = elim (Contains-append_cases x y 10 both) [ inl h ↦ p h | inr h ↦ q h ]

pub start : (tells : Bool) (held left : List ℕ) → Begun tells [] held left (held ++ left)
start tells held left = record { begun = []; no_lf = none_empty; kept = refl; bytes = λ told. refl }

-- all that is held stands in the line
pub more : (tells : Bool) (line held left all line1 : List ℕ) → Begun tells line held left all → HasNoLf held → line1 ≡ take most_kept (line ++ held) → Begun tells line1 [] left all
more tells line held left all line1 b none is = record {
  begun = b.begun ++ held;
  no_lf = no_lf-append b.begun held b.no_lf none;
  kept = is ∙ ap (λ (l : List ℕ). take most_kept (l ++ held)) b.kept ∙ kept_again most_kept b.begun held;
  bytes = λ told. b.bytes told ∙ sym (append_assoc b.begun held left);
}

-- the next piece was taken
pub filled : (tells : Bool) (line left all held1 left1 : List ℕ) → Begun tells line [] left all → (IsTrue tells → left ≡ held1 ++ left1) → Begun tells line held1 left1 all
filled tells line left all held1 left1 b is = record {
  begun = b.begun;
  no_lf = b.no_lf;
  kept = b.kept;
  bytes = λ told. b.bytes told ∙ ap (λ (l : List ℕ). b.begun ++ l) (is told);
}

-- an LF ends the line
pub line_next : (tells : Bool) (line held left all line1 front held1 : List ℕ) → Begun tells line held left all → HasNoLf front → held ≡ front ++ 10 ∷ held1 → line1 ≡ take most_kept (line ++ front)
    → IsTrue tells → IsNext Line line1 all (held1 ++ left)
line_next tells line held left all line1 front held1 b none ends is told = (
  b.begun ++ front,
  is ∙ ap (λ (l : List ℕ). take most_kept (l ++ front)) b.kept ∙ kept_again most_kept b.begun front,
  no_lf-append b.begun front b.no_lf none,
  b.bytes told ∙ ap (λ (l : List ℕ). b.begun ++ (l ++ left)) ends ∙ ap (λ (l : List ℕ). b.begun ++ l) (append_assoc front (10 ∷ held1) left) ∙ sym (append_assoc b.begun front (10 ∷ held1 ++ left)),
)

nothing_more : (tells : Bool) (line held left all : List ℕ) → (b : Begun tells line held left all) → IsTrue tells → held ++ left ≡ [] → all ≡ b.begun
nothing_more tells line held left all b told none = b.bytes told ∙ ap (λ (l : List ℕ). b.begun ++ l) none ∙ append-nil b.begun

none_kept : (begun : List ℕ) → [] ≡ take most_kept begun → begun ≡ []
none_kept [] is = refl
none_kept (x ∷ xs) is = let wrong : 0 ≡ suc (length (take 65536 xs)) = ap length is in absurd (omega arith)

no_bytes : (l : List ℕ) → length l ≡ 0 → l ≡ []
no_bytes [] is = refl
no_bytes (x ∷ xs) is = absurd (omega arith)

-- the source has ended
pub end_next : (tells : Bool) (line held left all : List ℕ) → Begun tells line held left all → IsTrue tells → held ++ left ≡ [] → line ≡ [] → IsNext End line all (held ++ left)
end_next tells line held left all b told none empty = (nothing_more tells line held left all b told none ∙ none_kept b.begun (sym empty ∙ b.kept), none)

pub last_next : (tells : Bool) (line held left all : List ℕ) → Begun tells line held left all → IsTrue tells → held ++ left ≡ [] → line ≢ [] → IsNext Last line all (held ++ left)
last_next tells line held left all b told none some =
    let is = nothing_more tells line held left all b told none in (
      b.kept ∙ ap (λ (l : List ℕ). take most_kept l) (sym is),
      subst HasNoLf (sym is) b.no_lf,
      λ empty. some (b.kept ∙ ap (λ (l : List ℕ). take most_kept l) (sym is ∙ empty)),
      none,
    )

pub length-parts : (all front rest : List ℕ) → all ≡ front ++ rest → length all ≡ length front + length rest
length-parts all front rest is = ap length is ∙ length-append front rest

-- no more came
pub stopped : (tells : Bool) (line left all held1 left1 : List ℕ) → Begun tells line [] left all → IsTrue tells → left ≡ held1 ++ left1 → held1 ≡ [] → (begun : List ℕ) × HasNoLf begun × (all ≡ begun ++ left1)
stopped tells line left all held1 left1 b told is empty =
    (b.begun, b.no_lf, b.bytes told ∙ ap (λ (l : List ℕ). b.begun ++ l) (is ∙ ap (λ (l : List ℕ). l ++ left1) empty))

-- the source has ended: a last line where one was begun
pub at_end : (tells : Bool) (line held left all line1 kept : List ℕ) (n : NextLine) → Begun tells line held left all → IsTrue tells → held ++ left ≡ [] → line1 ≡ line → kept ≡ line1
    → ((n ≡ End) × (length kept ≡ 0)) ⊎ ((n ≡ Last) × (0 < length kept)) → IsNext n line1 all (held ++ left)
at_end tells line held left all line1 kept n b told none same is (inl (ends, empty)) =
    subst (λ (m : NextLine). IsNext m line1 all (held ++ left)) (sym ends)
    (subst (λ (l : List ℕ). IsNext End l all (held ++ left)) (sym same) (end_next tells line held left all b told none (sym (is ∙ same) ∙ no_bytes kept empty)))
at_end tells line held left all line1 kept n b told none same is (inr (lasts, some)) =
    subst (λ (m : NextLine). IsNext m line1 all (held ++ left)) (sym lasts)
    (subst (λ (l : List ℕ). IsNext Last l all (held ++ left)) (sym same) (last_next tells line held left all b told none (λ empty. let z : length kept ≡ 0 = ap length (is ∙ same ∙ empty) in absurd (omega arith))))

-- what is done didn't stop
pub no_stop : {T E : Type 0} (r : Result T E) (x : T) (e : E) → r ≡ Ok x → r ≡ Err e → ⊥
no_stop r x e done stop = cc
