-- The lines of a script that are answered so far, from line to line.
use Rattle.std.proofs.Common.{◌≡◌, ℕ, suc, ◌+◌, ◌^◌, ◌<◌, Bool, true, false, cond, IsTrue, List, [], ◌∷◌, ◌++◌, length, take, Option, refl, sym, ap, subst, ◌∙◌, arith, append_assoc, length-append}
use Rattle.std.specs.Prelude.{◌&&◌}
use Rattle.std.specs.List.{AllZip, list_all}
use Rattle.std.proofs.lemmas.Grind.{flat_map-append}
use Rattle.std.proofs.lemmas.List.{map-append, append-nil}
use Rattle.std.proofs.lemmas.List.Folds.{list_all-append}
use Rattle.object_model.specs.declared.answer.Answer.{Answer}
use Rattle.object_model.specs.declared.command.Command.{Command}
use Rattle.object_model.specs.Step.{Plain}
use Rattle.script_lines.specs.Written.{WrittenInPart}
use Rattle.script.specs.Print.{answer_text, text}
use Rattle.script.specs.Script.{Means, lines, without_empty_last}
use Rattle.script.specs.Words.{split_on}
use Rattle.script_lines.specs.Lines.{HasNoLf, IsNext, most_kept}
use Rattle.script_lines.specs.declared.reader.NextLine.{NextLine}
use Rattle.script_lines.specs.declared.reader.NextLine.TheVariants.{Line, Last}
use Rattle.tree_answers.specs.Answers.{answer_to, answers_to, is_done}
use Rattle.script_run.specs.declared.stop.Ended.{Ended}
use Rattle.script_run.specs.declared.stop.Ended.TheVariants.{AllDone, SomeNot}
use Rattle.script_run.specs.Run.{ended_of, after, lines_ended, without_last, IsAnswered, IsStopped, AreCut, IsInPart, IsLineAnswered, IsLineCut}
use Rattle.script_run.proofs.LineSplits.{split_whole, split_line, split_some, keeps_front, lines_line, lines_last, without_last-push, AllZip-push_pair, means_kept}

-- Some lines were answered, and `ahead` is still to be read: the script is cut behind them.
pub record SoFar (prints : Bool) (t : Plain) (script ahead : List ℕ) (ended : Ended) (old new : List ℕ) : Type 0 where
  pub done : List ℕ
  pub some : List (List ℕ)
  pub script_is : script ≡ done ++ ahead
  pub splits : (x : List ℕ) → split_on 10 (done ++ x) ≡ some ++ split_on 10 x
  pub commands : List (Option Command)
  pub read : AllZip Means some commands
  pub ended_is : ended ≡ ended_of (answers_to t commands)
  pub printed : IsTrue prints → new ≡ old ++ text (answers_to t commands)

pub start : (prints : Bool) (t : Plain) (script old : List ℕ) → SoFar prints t script script AllDone old old
start prints t script old = record {
  done = [];
  some = [];
  script_is = refl;
  splits = λ x. refl;
  commands = [];
  read = tt;
  ended_is = refl;
  printed = λ told. sym (append-nil old);
}

-- ---- one line more

answers-push : (t : Plain) (cs : List (Option Command)) (c : Option Command) → answers_to t (cs ++ c ∷ []) ≡ answers_to t cs ++ answer_to t c ∷ []
answers-push t cs c = map-append (answer_to t) cs (c ∷ [])

text-append : (xs ys : List Answer) → text (xs ++ ys) ≡ text xs ++ text ys
text-append xs ys = flat_map-append (λ a. answer_text a ++ 10 ∷ []) xs ys

after-both : (all one : Bool) → cond (all && (one && true)) AllDone SomeNot ≡ cond one (cond all AllDone SomeNot) SomeNot
after-both true true = refl
after-both true false = refl
after-both false true = refl
after-both false false = refl

ended-push : (xs : List Answer) (a : Answer) → after (ended_of xs) (is_done a) ≡ ended_of (xs ++ a ∷ [])
ended-push xs a = sym (ap (λ (b : Bool). cond b AllDone SomeNot) (list_all-append is_done xs (a ∷ [])) ∙ after-both (list_all is_done xs) (is_done a))

printed_more : (t : Plain) (cs : List (Option Command)) (c : Option Command) (old mid new : List ℕ) → mid ≡ old ++ text (answers_to t cs) → new ≡ mid ++ text (answer_to t c ∷ [])
    → new ≡ old ++ text (answers_to t (cs ++ c ∷ []))
printed_more t cs c old mid new is next =
    next
    ∙ ap (λ (l : List ℕ). l ++ text (answer_to t c ∷ [])) is
    ∙ append_assoc old (text (answers_to t cs)) (text (answer_to t c ∷ []))
    ∙ ap (λ (l : List ℕ). old ++ l) (sym (text-append (answers_to t cs) (answer_to t c ∷ [])) ∙ ap text (sym (answers-push t cs c)))

ended_more : (t : Plain) (cs : List (Option Command)) (c : Option Command) (ended now : Ended) → ended ≡ ended_of (answers_to t cs) → now ≡ after ended (is_done (answer_to t c))
    → now ≡ ended_of (answers_to t (cs ++ c ∷ []))
ended_more t cs c ended now is next =
    next
    ∙ ap (λ (e : Ended). after e (is_done (answer_to t c))) is
    ∙ ended-push (answers_to t cs) (answer_to t c)
    ∙ ap ended_of (sym (answers-push t cs c))

behind : (done l x : List ℕ) → (done ++ (l ++ 10 ∷ [])) ++ x ≡ done ++ (l ++ 10 ∷ x)
behind done l x = append_assoc done (l ++ 10 ∷ []) x ∙ ap (λ (y : List ℕ). done ++ y) (append_assoc l (10 ∷ []) x)

pub line_more : (prints : Bool) (t : Plain) (script ahead rest kept : List ℕ) (ended now : Ended) (old mid new : List ℕ)
    → SoFar prints t script ahead ended old mid → IsNext Line kept ahead rest → IsLineAnswered prints t kept ended now mid new → SoFar prints t script rest now old new
line_more prints t script ahead rest kept ended now old mid new s (l, keeps, none, is) a = record {
  done = s.done ++ (l ++ 10 ∷ []);
  some = s.some ++ l ∷ [];
  script_is = s.script_is ∙ ap (λ (x : List ℕ). s.done ++ x) is ∙ sym (behind s.done l rest);
  splits = λ x.
      ap (split_on 10) (behind s.done l x)
      ∙ s.splits (l ++ 10 ∷ x)
      ∙ ap (λ (ws : List (List ℕ)). s.some ++ ws) (split_line l x none)
      ∙ sym (append_assoc s.some (l ∷ []) (split_on 10 x));
  commands = s.commands ++ a.command ∷ [];
  read = AllZip-push_pair Means s.some s.commands l a.command s.read (means_kept l a.command (subst (λ (k : List ℕ). Means k a.command) keeps a.means));
  ended_is = ended_more t s.commands a.command ended now s.ended_is a.now_is;
  printed = λ told. printed_more t s.commands a.command old mid new (s.printed told) (a.printed told);
}

-- ---- the end

lines_so_far : (prints : Bool) (t : Plain) (script ahead : List ℕ) (ended : Ended) (old new : List ℕ) → (s : SoFar prints t script ahead ended old new) → lines script ≡ s.some ++ lines ahead
lines_so_far prints t script ahead ended old new s =
    ap lines s.script_is ∙ ap without_empty_last (s.splits ahead) ∙ keeps_front s.some (split_on 10 ahead) (split_some ahead)

pub all_answered : (prints : Bool) (t : Plain) (script ahead : List ℕ) (ended : Ended) (old new : List ℕ) → SoFar prints t script ahead ended old new → ahead ≡ [] → length script < 2 ^ 32
    → IsAnswered prints t script ended old new
all_answered prints t script ahead ended old new s none short =
    let are : lines script ≡ s.some = lines_so_far prints t script ahead ended old new s ∙ ap (λ (x : List ℕ). s.some ++ lines x) none ∙ append-nil s.some in record {
      commands = s.commands;
      read = subst (λ (ls : List (List ℕ)). AllZip Means ls s.commands) (sym are) s.read;
      short = short;
      ended_is = s.ended_is;
      printed = s.printed;
    }

pub last_answered : (prints : Bool) (t : Plain) (script ahead rest kept : List ℕ) (ended now : Ended) (old mid new : List ℕ)
    → SoFar prints t script ahead ended old mid → IsNext Last kept ahead rest → IsLineAnswered prints t kept ended now mid new → length script < 2 ^ 32 → IsAnswered prints t script now old new
last_answered prints t script ahead rest kept ended now old mid new s (keeps, none, some, is) a short =
    let are : lines script ≡ s.some ++ ahead ∷ [] = lines_so_far prints t script ahead ended old mid s ∙ ap (λ (ls : List (List ℕ)). s.some ++ ls) (lines_last ahead none some) in record {
      commands = s.commands ++ a.command ∷ [];
      read = subst (λ (ls : List (List ℕ)). AllZip Means ls (s.commands ++ a.command ∷ [])) (sym are)
          (AllZip-push_pair Means s.some s.commands ahead a.command s.read (means_kept ahead a.command (subst (λ (k : List ℕ). Means k a.command) keeps a.means)));
      short = short;
      ended_is = ended_more t s.commands a.command ended now s.ended_is a.now_is;
      printed = λ told. printed_more t s.commands a.command old mid new (s.printed told) (a.printed told);
    }

-- ---- stops

pub stopped : (prints : Bool) (t : Plain) (script ahead left begun : List ℕ) (ended : Ended) (old new : List ℕ) → SoFar prints t script ahead ended old new → HasNoLf begun → ahead ≡ begun ++ left
    → IsStopped prints t script left old new
stopped prints t script ahead left begun ended old new s none is =
    let are : lines_ended (s.done ++ begun) ≡ s.some =
    ap without_last (s.splits begun ∙ ap (λ (ws : List (List ℕ)). s.some ++ ws) (split_whole begun none)) ∙ without_last-push s.some begun in record {
      taken = s.done ++ begun;
      script_is = s.script_is ∙ ap (λ (x : List ℕ). s.done ++ x) is ∙ sym (append_assoc s.done begun left);
      commands = s.commands;
      read = subst (λ (ls : List (List ℕ)). AllZip Means ls s.commands) (sym are) s.read;
      printed = s.printed;
    }

whole_printed : (answers : List Answer) (old new : List ℕ) → new ≡ old ++ text answers → AreCut answers old new
whole_printed answers old new is = record {
  whole = answers;
  last = [];
  are = sym (append-nil answers);
  one = omega arith;
  part = (0, omega arith, is ∙ sym (append-nil (old ++ text answers)));
}

pub in_part : (prints : Bool) (t : Plain) (script ahead : List ℕ) (ended : Ended) (old mid new : List ℕ) → SoFar prints t script ahead ended old mid → (IsTrue prints → new ≡ mid)
    → IsInPart prints t script old new
in_part prints t script ahead ended old mid new s same = record {
  some = s.some;
  rest = lines ahead;
  lines_are = lines_so_far prints t script ahead ended old mid s;
  commands = s.commands;
  read = s.read;
  printed = λ told. whole_printed (answers_to t s.commands) old new (same told ∙ s.printed told);
}

cut_at : (prints : Bool) (t : Plain) (script ahead l kept : List ℕ) (others : List (List ℕ)) (ended : Ended) (old mid new : List ℕ) → SoFar prints t script ahead ended old mid
    → lines ahead ≡ l ∷ others → kept ≡ take most_kept l → IsLineCut prints t kept mid new → IsInPart prints t script old new
cut_at prints t script ahead l kept others ended old mid new s are keeps a = record {
  some = s.some ++ l ∷ [];
  rest = others;
  lines_are = lines_so_far prints t script ahead ended old mid s ∙ ap (λ (ls : List (List ℕ)). s.some ++ ls) are ∙ sym (append_assoc s.some (l ∷ []) others);
  commands = s.commands ++ a.command ∷ [];
  read = AllZip-push_pair Means s.some s.commands l a.command s.read (means_kept l a.command (subst (λ (k : List ℕ). Means k a.command) keeps a.means));
  printed = λ told. record {
    whole = answers_to t s.commands;
    last = answer_to t a.command ∷ [];
    are = answers-push t s.commands a.command;
    one = omega arith;
    part = subst (λ (x : List ℕ). WrittenInPart (text (answer_to t a.command ∷ [])) x new) (s.printed told) (a.printed told);
  };
}

pub cut_line : (prints : Bool) (t : Plain) (script ahead rest kept : List ℕ) (ended : Ended) (old mid new : List ℕ) → SoFar prints t script ahead ended old mid
    → IsNext Line kept ahead rest → IsLineCut prints t kept mid new → IsInPart prints t script old new
cut_line prints t script ahead rest kept ended old mid new s (l, keeps, none, is) a =
    cut_at prints t script ahead l kept (lines rest) ended old mid new s (ap lines is ∙ lines_line l rest none) keeps a

pub cut_last : (prints : Bool) (t : Plain) (script ahead rest kept : List ℕ) (ended : Ended) (old mid new : List ℕ) → SoFar prints t script ahead ended old mid
    → IsNext Last kept ahead rest → IsLineCut prints t kept mid new → IsInPart prints t script old new
cut_last prints t script ahead rest kept ended old mid new s (keeps, none, some, is) a =
    cut_at prints t script ahead ahead kept [] ended old mid new s (lines_last ahead none some) keeps a

-- fewer bytes than the limit were taken, and none is left
pub short_script : (held left : List ℕ) (taken total : ℕ) → taken + length left ≡ total → held ++ left ≡ [] → taken < 2 ^ 32 → total < 2 ^ 32
short_script held left taken total counted none few =
    let empty : length held + length left ≡ 0 = sym (length-append held left) ∙ ap length none in omega arith

pub none_left : (held left : List ℕ) → held ++ left ≡ [] → left ≡ []
none_left [] left none = none
none_left (x ∷ held) left none = let wrong : suc (length (held ++ left)) ≡ 0 = ap length none in absurd (omega arith)

-- what came next, as far as it is kept
pub next_at : (n m : NextLine) (kept line ahead rest : List ℕ) → IsNext n kept ahead rest → n ≡ m → line ≡ kept → IsNext m line ahead rest
next_at n m kept line ahead rest next same is =
    subst (λ (l : List ℕ). IsNext m l ahead rest) (sym is) (subst (λ (k : NextLine). IsNext k kept ahead rest) same next)
