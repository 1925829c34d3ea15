-- Laws of lines.
use Rattle.std.proofs.Common.{◌≡◌, ℕ, Bool, true, false, not, ◌&&◌, ◌==◌, List, [], ◌∷◌, ◌++◌, length, is_none}
use Rattle.std.proofs.Common.{Result, Ok, Err, ℤ, refl, sym, ◌∙◌, ap, subst}
use Rattle.std.specs.List.{list_all}
use Rattle.dtype.specs.Products.{product}
use Rattle.object_model.specs.declared.command.Command.{Command}
use Rattle.object_model.specs.declared.command.Command.TheVariants as command
use Rattle.object_model.specs.declared.answer.Answer.{Answer}
use Rattle.object_model.specs.declared.answer.Answer.TheVariants as answer
use Rattle.object_model.specs.declared.answer.Code.{Code}
use Rattle.object_model.specs.declared.answer.Code.TheVariants as code
use Rattle.object_model.specs.Boxes.{all_le, same_rank}
use Rattle.object_model.specs.Data.{fits_box}
use Rattle.object_model.specs.Tree.{Group, Leaf, Name, child, walk, last_of, dir_of, ◌>>=◌}
use Rattle.object_model.specs.Step.{Plain, Dataset, Soft, Other, Stack, Reply, Gives, Commits, Outcome, can_hold}
use Rattle.object_model.specs.Step.{data_of, links_of, stat_of, new_group, new_data, unless, add, step}
use Rattle.outside.specs.Array.{Array, Ends}
use Rattle.file_model.specs.Holds.{HoldsFull}
use Rattle.file_model.proofs.UniqueTree.{one_full}
use Rattle.session_model.specs.State.{Setting, State, IsHeld, bounds, stack_of, tree_of}
use Rattle.session_model.specs.Line.{Refused, TooLarge, Over, Full, Done, NoTime, Makes, is_done}
use Rattle.session_model.specs.Runs.{AnswersAll, moments_after}
use Rattle.session_model.specs.Laws.{KeepsState, AnswersJoin, HoldsOn, OneState}

-- a step that went on
went : {X Y : Type 0} (r : Result X Code) (f : X → Result Y Code) (y : Y) → (r >>= f) ≡ Ok y → (x : X) × (r ≡ Ok x)
    × (f x ≡ Ok y)
went (Ok x) f y h = (x, refl, h)
went (Err e) f y h = cc

-- a refusal that didn't come
passed : {X : Type 0} (bad : Bool) (why : Code) (r : Result X Code) (x : X) → unless bad why r ≡ Ok x → r ≡ Ok x
passed true why r x h = cc
passed false why r x h = h

abbrev replies : Plain → Reply → Outcome
replies t r = Ok (t, r)

abbrev okay : Plain × Reply → Outcome
okay x = Ok x

ok_is : (x y : Plain × Reply) → okay x ≡ okay y → x ≡ y
ok_is x y h = cc

abbrev gives : Answer → Reply
gives a = Gives a

gave_is : (x a : Answer) → gives x ≡ gives a → x ≡ a
gave_is x a h = cc

gave : (t new : Plain) (x a : Answer) → is_done x ≡ true → replies t (Gives x) ≡ replies new (Gives a)
    → is_done a ≡ true
gave t new x a done h =
    let is = gave_is x a (ap (λ (y : Plain × Reply). y.1) (ok_is _ _ h)) in subst (λ y. is_done y ≡ true) is done

abbrev commits : List ℕ → Reply
commits comment = Commits comment

no_reply : (comment : List ℕ) (a : Answer) → commits comment ≡ gives a → ⊥
no_reply comment a h = cc

stat_done : (t : Plain) → is_done (stat_of t) ≡ true
stat_done (Group g ls) = refl
stat_done (Leaf (Dataset d)) = refl
stat_done (Leaf (Soft text)) = refl
stat_done (Leaf Other) = refl

added : (p : List Name) (object t new : Plain) (a : Answer) → add p object t ≡ Ok (new, Gives a) → is_done a ≡ true
added p object t new a h =
    let dir = went (walk t (dir_of p)) _ (new, Gives a) h in
    let ls = went (links_of dir.0) _ (new, Gives a) dir.2 in
    gave _ new answer.Done a refl (passed _ _ _ _ ls.2)

-- what the tree answers is no refusal
pub answers_done : (s : Stack) (t new : Plain) (c : Command) (a : Answer) → step s t c ≡ Ok (new, Gives a)
    → is_done a ≡ true
answers_done s t new (command.Mkgroup p) a h = added p new_group t new a (passed _ _ _ _ h)
answers_done s t new (command.Mkdata p elem dims chunk max fill) a h =
    added p (Leaf (Dataset (new_data elem dims chunk max fill))) t new a (passed _ _ _ _ h)
answers_done s t new (command.Write p start count values) a h =
    let node = went (walk t p) _ (new, Gives a) (passed _ _ _ _ h) in
    let d = went (data_of node.0) _ (new, Gives a) node.2 in
    let inside =
    passed (not (fits_box d.0 start count && length values == product count)) code.Range _ (new, Gives a) d.2 in
    let held = passed (not (list_all (can_hold d.0.elem) values)) code.WrongType _ (new, Gives a) inside in
    gave _ new answer.Done a refl held
answers_done s t new (command.Read p start count) a h =
    let node = went (walk t p) _ (new, Gives a) h in
    let d = went (data_of node.0) _ (new, Gives a) node.2 in
    gave t new _ a refl (passed _ _ _ _ d.2)
answers_done s t new (command.Ls p) a h =
    let node = went (walk t p) _ (new, Gives a) h in
    let ls = went (links_of node.0) _ (new, Gives a) node.2 in
    gave t new _ a refl ls.2
answers_done s t new (command.Stat p) a h =
    let node = went (walk t p) _ (new, Gives a) h in
    gave t new (stat_of node.0) a (stat_done node.0) node.2
answers_done s t new (command.Extend p dims) a h =
    let node = went (walk t p) _ (new, Gives a) (passed _ _ _ _ h) in
    let d = went (data_of node.0) _ (new, Gives a) node.2 in
    let free = passed (is_none d.0.chunk) code.Fixed _ (new, Gives a) d.2 in
    let ranked = passed (not (same_rank dims d.0.dims)) code.Range _ (new, Gives a) free in
    let grows = passed (not (all_le d.0.dims dims)) code.Shrink _ (new, Gives a) ranked in
    let fits = passed (not (all_le dims d.0.max)) code.Range _ (new, Gives a) grows in
    gave _ new answer.Done a refl fits
answers_done s t new (command.Rm p) a h =
    let dir = went (walk t (dir_of p)) _ (new, Gives a) (passed _ _ _ _ h) in
    let old = went (child dir.0 (last_of p)) _ (new, Gives a) dir.2 in
    gave _ new answer.Done a refl (passed _ _ _ _ old.2)
answers_done s t new command.Flush a h = gave t new answer.Done a refl (passed _ _ _ _ h)
answers_done s t new (command.Commit comment) a h =
    let writable = passed s.read_only code.ReadOnly _ (new, Gives a) h in
    let kept = passed (not s.has_revisions) code.NoOnion _ (new, Gives a) writable in
    absurd (no_reply comment a (ap (λ (y : Plain × Reply). y.1) (ok_is (t, Commits comment) (new, Gives a) kept)))

both : (b : Bool) → b ≡ true → b ≡ false → ⊥
both b is isnt = let h : true ≡ false = sym is ∙ isnt in cc

pub keeps_state : KeepsState
keeps_state k s new c secs a (Refused why steps is same) refused = same
keeps_state k s new c secs a (TooLarge t r steps large is same) refused = same
keeps_state k s new c secs a (Over t r p steps over is same) refused = same
keeps_state k s new c secs a (Full t r p end need steps under short is same) refused = same
keeps_state k s new c secs a (Done t p goes does) refused =
    absurd (both _ (answers_done (stack_of k s) (tree_of s) t c a goes.steps) refused)
keeps_state k s new c secs a (NoTime t comment p goes late is same) refused = same
keeps_state k s new c secs a (Makes t comment p rev pages goes time one is) refused =
    absurd (both _ (ap is_done is) refused)

join : (a : Answer) (all later more : List Answer) → all ≡ a ∷ later → all ++ more ≡ a ∷ later ++ more
join a all later more h = ap (λ (xs : List Answer). xs ++ more) h

pub answers_join : AnswersJoin
answers_join given k s middle new moments between left [] later xs ys first then =
    rw (first.2) (subst (λ (m : List ℤ). AnswersAll given k s m later new left ys) first.1
    (subst (λ (u : State). AnswersAll given k u between later new left ys) first.0 then))
answers_join given k s middle new moments between left (line ∷ more) later xs ys
    (next, a, rest, one, others, are) then = (
      next,
      a,
      rest ++ ys,
      one,
      answers_join given k next middle new
          (moments_after line moments) between left more later rest ys others then,
      join a xs rest ys are,
    )

-- ---- what a line keeps

held_still : (k : Setting) (s new : State) → new ≡ s → IsHeld k s → IsHeld k new
held_still k s new same held = subst (λ (u : State). IsHeld k u) (sym same) held

pub holds_on : HoldsOn
holds_on k s new c secs a (Refused why steps is same) held = held_still k s new same held
holds_on k s new c secs a (TooLarge t r steps large is same) held = held_still k s new same held
holds_on k s new c secs a (Over t r p steps over is same) held = held_still k s new same held
holds_on k s new c secs a (Full t r p end need steps under short is same) held = held_still k s new same held
holds_on k s new c secs a (Done t p goes does) held = does.held
holds_on k s new c secs a (NoTime t comment p goes late is same) held = held_still k s new same held
holds_on k s new c secs a (Makes t comment p rev pages goes time one is) held = one.held

pub one_state : OneState
one_state k s r held_s held_r array ends =
    one_full s.array (bounds k s.ends) s.super r.super s.root r.root s.links r.links held_s there
  where
    there : HoldsFull s.array (bounds k s.ends) r.super r.root r.links
    there = subst (λ (b : Array). HoldsFull b (bounds k s.ends) r.super r.root r.links) (sym array)
        (subst (λ (e : Ends). HoldsFull r.array (bounds k e) r.super r.root r.links) (sym ends) held_r)
