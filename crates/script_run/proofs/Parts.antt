-- What was answered whole, or until the reading stopped, is some first part of a script's answers.
use Rattle.std.proofs.Common.{◌≡◌, ℕ, true, false, cond, List, [], ◌∷◌, ◌++◌, refl, sym, ap, ◌∙◌, arith, append-nil}
use Rattle.std.specs.Prelude.{◌==◌}
use Rattle.object_model.specs.declared.answer.Answer.{Answer}
use Rattle.script.specs.Print.{text}
use Rattle.script.specs.Script.{lines, without_empty_last}
use Rattle.script.specs.Words.{split_on, onto_first}
use Rattle.tree_answers.specs.Answers.{answers_to}
use Rattle.script_run.specs.Run.{AreCut, without_last, lines_ended}
use Rattle.script_run.specs.Laws.{AnsweredInPart, StoppedInPart}
use Rattle.script_run.proofs.LineSplits.{AreSome, Some_parts, split_some, keeps_front}

-- ---- answers that are printed whole

whole_cut : (answers : List Answer) (old new : List ℕ) → new ≡ old ++ text answers → AreCut answers old new
whole_cut answers old new is = record {
  whole = answers;
  last = [];
  are = sym (append-nil answers);
  one = omega arith;
  part = (0, omega arith, is ∙ sym (append-nil (old ++ text answers)));
}

pub answered_in_part : AnsweredInPart
answered_in_part prints t script ended old new a = record {
  some = lines script;
  rest = [];
  lines_are = sym (append-nil (lines script));
  commands = a.commands;
  read = a.read;
  printed = λ told. whole_cut (answers_to t a.commands) old new (a.printed told);
}

-- ---- lines of some first bytes

some_first : (x : ℕ) (ws : List (List ℕ)) → AreSome ws → AreSome (onto_first x ws)
some_first x [] some = Some_parts (x ∷ []) []
some_first x (w ∷ ws) some = Some_parts (x ∷ w) ws

-- what stands behind the last LF goes on
onto_rest : (x : ℕ) (ws rest : List (List ℕ)) → AreSome ws → AreSome rest
    → (more : List (List ℕ)) × AreSome more × (onto_first x (without_last ws ++ rest) ≡ without_last (onto_first x ws) ++ more)
onto_rest x [] rest some also = elim some [ ]
onto_rest x (w ∷ []) rest some also = (onto_first x rest, some_first x rest also, refl)
onto_rest x (w ∷ v ∷ vs) rest some also = (rest, also, refl)

drops_later : (w : List ℕ) (ws : List (List ℕ)) → AreSome ws → without_last (w ∷ ws) ≡ w ∷ without_last ws
drops_later w [] some = elim some [ ]
drops_later w (v ∷ vs) some = refl

split_front : (bytes more : List ℕ) → (rest : List (List ℕ)) × AreSome rest × (split_on 10 (bytes ++ more) ≡ lines_ended bytes ++ rest)
split_front [] more = (split_on 10 more, split_some more, refl)
split_front (x ∷ xs) more =
    let (rest, some, is) = split_front xs more in
    elim (x == 10) as (λ t. (r : List (List ℕ)) × AreSome r × (cond t ([] ∷ split_on 10 (xs ++ more)) (onto_first x (split_on 10 (xs ++ more))) ≡ without_last (cond t ([] ∷ split_on 10 xs) (onto_first x (split_on 10 xs))) ++ r)) [
      | true ↦ (rest, some, ap (λ (ws : List (List ℕ)). [] ∷ ws) is ∙ ap (λ (ws : List (List ℕ)). ws ++ rest) (sym (drops_later [] (split_on 10 xs) (split_some xs))))
      | false ↦ let (r, also, same) = onto_rest x (split_on 10 xs) rest (split_some xs) some in (r, also, ap (onto_first x) is ∙ same)
    ]

pub stopped_in_part : StoppedInPart
stopped_in_part prints t script left old new s =
    let (rest, some, is) = split_front s.taken left in
    record {
      some = lines_ended s.taken;
      rest = without_empty_last rest;
      lines_are = ap lines s.script_is ∙ ap without_empty_last is ∙ keeps_front (lines_ended s.taken) rest some;
      commands = s.commands;
      read = s.read;
      printed = λ told. whole_cut (answers_to t s.commands) old new (s.printed told);
    }
