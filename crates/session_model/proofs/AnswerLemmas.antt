-- What the first lines over an empty file are answered.
use Rattle.std.proofs.Common.{◌≡◌, ℕ, zero, suc, ◌+◌, ◌^◌, ◌<◌, ◌≤◌, Bool, false, List, [], ◌∷◌, length, Ok, Err}
use Rattle.std.proofs.Common.{ℤ, refl, sym, ◌∙◌, ap, subst, arith}
use Rattle.std.specs.Prelude.{slice_index_or, is_some}
use Rattle.std.specs.List.{Contains}
use Rattle.h5_base.specs.declared.extent.MemClass.TheVariants as class
use Rattle.block_space.specs.declared.plan.Take.{Take}
use Rattle.block_space.specs.declared.plan.ReserveStop.TheVariants as stop
use Rattle.block_space.specs.Plans.{IsNoRoom}
use Rattle.object_model.specs.declared.answer.Answer.{Answer}
use Rattle.object_model.specs.declared.answer.Answer.TheVariants as answer
use Rattle.object_model.specs.declared.answer.Code.{Code}
use Rattle.object_model.specs.declared.answer.Code.TheVariants as code
use Rattle.object_model.specs.Step.{Plain, Reply, Gives, Commits, Outcome, step}
use Rattle.session_model.specs.TooLarge.{IsTooLarge, TooDeep, TooMany}
use Rattle.session_model.specs.State.{State, Plan, IsOver, IsUnder, Blocks, Segment, Revisions, Revision}
use Rattle.session_model.specs.State.{tree_of, view_of, stack_of, need, needs_of}
use Rattle.session_model.specs.Line.{Line, Refused, TooLarge, Over, Full as NoRoom, Done, NoTime, Makes}
use Rattle.session_model.specs.GroupFile.{empty_super, empty_tree, empty_state, one_group}
use Rattle.session_model.specs.Examples.{one_region_to, plain_file, mkgroup_g, mkgroup_takes, TwoAnswers, FullAnswer}
use Rattle.session_model.proofs.RoomLemmas.{group_takes_lem}

-- ---- the plan of the first line

takes_five : (limit : ℕ) (p : Plan (one_region_to limit) empty_state mkgroup_g) → p.takes ≡ mkgroup_takes
unfolding empty_super
takes_five limit p = (group_takes_lem p.takes).0 p.are

small_object : IsTooLarge empty_tree mkgroup_g → ⊥
small_object (TooDeep h) = let g : 32 < 1 = h in omega (arith, g)
small_object (TooMany h) = let g : 65536 < 2 = h in omega (arith, g)

small_block : (x : Take) (k : ℕ) → k < 5 → slice_index_or mkgroup_takes k x ≡ x → 16777216 < x.len → ⊥
small_block x zero low is h = let n : 40 ≡ x.len = ap (λ (y : Take). y.len) is in omega (arith, h, n)
small_block x (suc zero) low is h = let n : 544 ≡ x.len = ap (λ (y : Take). y.len) is in omega (arith, h, n)
small_block x (suc (suc zero)) low is h = let n : 32 ≡ x.len = ap (λ (y : Take). y.len) is in omega (arith, h, n)
small_block x (suc (suc (suc zero))) low is h = let n : 88 ≡ x.len = ap (λ (y : Take). y.len) is in omega (arith, h, n)
small_block x (suc (suc (suc (suc zero)))) low is h =
    let n : 328 ≡ x.len = ap (λ (y : Take). y.len) is in omega (arith, h, n)
small_block x (suc (suc (suc (suc (suc k))))) low is h = omega (arith, low)

-- no limit is passed
under : (limit : ℕ) (p : Plan (one_region_to limit) empty_state mkgroup_g)
    → IsOver (one_region_to limit) empty_state mkgroup_g p → ⊥
under limit p (Blocks h) =
    let g : 1048576 < 5 + 5 = subst (λ (ts : List Take). 1048576 < 5 + length ts) (takes_five limit p) h in
    omega (arith, g)
under limit p (Segment x has local h) =
    let g = subst (λ (ts : List Take). Contains ts x) (takes_five limit p) has in
    small_block x g.0 g.1 g.2 h
under limit p (Revisions writes h) = h tt
under limit p (Revision h) = absurd h

pub is_under : (limit : ℕ) (p : Plan (one_region_to limit) empty_state mkgroup_g)
    → IsUnder (one_region_to limit) empty_state mkgroup_g p
is_under limit p = record { asked = small_object; planned = under limit p }

-- ---- what the tree says

abbrev okay : Plain × Reply → Outcome
okay x = Ok x

ok_is : (x y : Plain × Reply) → okay x ≡ okay y → x ≡ y
ok_is x y h = cc

abbrev refuses : Code → Outcome
refuses why = Err why

not_refused : (x : Plain × Reply) (why : Code) → okay x ≡ refuses why → ⊥
not_refused x why h = cc

why_is : (x y : Code) → refuses x ≡ refuses y → x ≡ y
why_is x y h = cc

abbrev gives : Answer → Reply
gives a = Gives a

gave_is : (x a : Answer) → gives x ≡ gives a → x ≡ a
gave_is x a h = cc

abbrev commits : List ℕ → Reply
commits comment = Commits comment

no_commit : (a : Answer) (comment : List ℕ) → gives a ≡ commits comment → ⊥
no_commit a comment h = cc

-- what the five blocks need in one region
need_five : (limit : ℕ) (p : Plan (one_region_to limit) empty_state mkgroup_g)
    → need (one_region_to limit) p.takes class.Super ≡ need (one_region_to limit) mkgroup_takes class.Super
need_five limit p = ap (λ (ts : List Take). need (one_region_to limit) ts class.Super) (takes_five limit p)

abbrev NoRoomFor : (limit : ℕ) → List Take → (end need : ℕ) → Type 0
NoRoomFor limit ts end need = IsNoRoom (view_of (one_region_to limit) empty_state) 5 (needs_of ts) (stop.Full end need)

-- there is room in a plain file
roomy : (end need : ℕ) → NoRoomFor (2 ^ 48) mkgroup_takes end need → ⊥
roomy end need (few, c, first, end_is, need_is) =
    let h : 2 ^ 48 < 800 + 1032 = first.short in omega (arith, h)

-- ---- the first line

first_line : (secs : ℤ) (new : State) (a : Answer) → Line plain_file empty_state mkgroup_g secs new a
    → (a ≡ answer.Done) × (tree_of new ≡ one_group)
first_line secs new a (Refused why steps is same) = absurd (not_refused _ why steps)
first_line secs new a (TooLarge t r steps large is same) = absurd (small_object large)
first_line secs new a (Over t r p steps over is same) = absurd (under _ p over)
first_line secs new a (NoRoom t r p end need steps fine short is same) =
    absurd (roomy end need (subst (λ (ts : List Take). NoRoomFor (2 ^ 48) ts end need) (takes_five _ p) short))
first_line secs new a (Done t p goes does) =
    let e = ok_is _ _ goes.steps in
    (sym (gave_is _ a (ap (λ (x : Plain × Reply). x.1) e)), does.tree ∙ sym (ap (λ (x : Plain × Reply). x.0) e))
first_line secs new a (NoTime t comment p goes late is same) =
    absurd (no_commit _ comment (ap (λ (x : Plain × Reply). x.1) (ok_is _ _ goes.steps)))
first_line secs new a (Makes t comment p rev pages goes time one is) =
    absurd (no_commit _ comment (ap (λ (x : Plain × Reply). x.1) (ok_is _ _ goes.steps)))

-- ---- the second

-- the name is there, whether there are revisions or not
there : (r : Bool) (t : Plain) → t ≡ one_group
    → step (record { read_only = false; has_revisions = r }) t mkgroup_g ≡ Err code.Exists
there r t is = rw is refl

exists : (s : State) → tree_of s ≡ one_group → step (stack_of plain_file s) (tree_of s) mkgroup_g ≡ Err code.Exists
exists s is = there (is_some s.committed) (tree_of s) is

second_line : (s new : State) (secs : ℤ) (a : Answer) → tree_of s ≡ one_group → Line plain_file s mkgroup_g secs new a
    → a ≡ answer.No code.Exists
second_line s new secs a at (Refused why steps is same) =
    is ∙ ap answer.No (why_is why code.Exists (sym steps ∙ exists s at))
second_line s new secs a at (TooLarge t r steps large is same) = absurd (not_refused _ _ (sym steps ∙ exists s at))
second_line s new secs a at (Over t r p steps over is same) = absurd (not_refused _ _ (sym steps ∙ exists s at))
second_line s new secs a at (NoRoom t r p end need steps fine short is same) =
    absurd (not_refused _ _ (sym steps ∙ exists s at))
second_line s new secs a at (Done t p goes does) = absurd (not_refused _ _ (sym goes.steps ∙ exists s at))
second_line s new secs a at (NoTime t comment p goes late is same) =
    absurd (not_refused _ _ (sym goes.steps ∙ exists s at))
second_line s new secs a at (Makes t comment p rev pages goes time one is) =
    absurd (not_refused _ _ (sym goes.steps ∙ exists s at))

pub two_answers : TwoAnswers
two_answers new moments left answers (s, a, later, one, (t, b, last, two, end, more), all) =
    let first = first_line _ s a one in
    let second = second_line s t _ b first.1 two in
    all ∙ ap (λ (xs : List Answer). a ∷ xs) (more ∙ ap (λ (xs : List Answer). b ∷ xs) end.2 ∙ ap (λ x. x ∷ []) second)
    ∙ ap (λ x. x ∷ answer.No code.Exists ∷ []) first.0

-- ---- a region that is full

full_is : (end need : ℕ) → NoRoomFor 800 mkgroup_takes end need → answer.Full end need ≡ answer.Full 800 1032
full_is end need (few, c, first, end_is, need_is) = λ j. answer.Full (end_is j) (need_is j)

pub full_answer : FullAnswer
full_answer secs new a (Refused why steps is same) = absurd (not_refused _ why steps)
full_answer secs new a (TooLarge t r steps large is same) = absurd (small_object large)
full_answer secs new a (Over t r p steps over is same) = absurd (under _ p over)
full_answer secs new a (NoRoom t r p end need steps fine short is same) = (
  is ∙ full_is end need (subst (λ (ts : List Take). NoRoomFor 800 ts end need) (takes_five _ p) short),
  same,
)
full_answer secs new a (Done t p goes does) =
    let h : 800 + need (one_region_to 800) p.takes class.Super ≤ 800 = goes.fits.below class.Super in
    let n : need (one_region_to 800) p.takes class.Super ≡ 1032 = need_five 800 p in
    absurd (omega (arith, h, n))
full_answer secs new a (NoTime t comment p goes late is same) =
    absurd (no_commit _ comment (ap (λ (x : Plain × Reply). x.1) (ok_is _ _ goes.steps)))
full_answer secs new a (Makes t comment p rev pages goes time one is) =
    absurd (no_commit _ comment (ap (λ (x : Plain × Reply). x.1) (ok_is _ _ goes.steps)))
