-- Worked runs over the empty file.
use Rattle.std.proofs.Common.{◌≡◌, ℕ, true, false, List, [], ◌∷◌, ◌++◌, length, None, Some, ℤ, refl, sym, ◌∙◌, ap}
use Rattle.std.proofs.Common.{subst, inl, lit≤, append-nil}
use Rattle.std.specs.Prelude.{codes}
use Rattle.outside.specs.Blocks.{Block}
use Rattle.object_model.specs.Step.{Gives}
use Rattle.object_model.specs.declared.answer.Answer.TheVariants as answer
use Rattle.file_model.specs.Limits.{IsWithinLimits}
use Rattle.session_model.specs.State.{setting_of}
use Rattle.session_model.specs.Runs.{ClosesFile, Did, AreCut, NextLine}
use Rattle.session_model.specs.GroupFile.{empty_bytes, empty_super, empty_tree, empty_state}
use Rattle.session_model.specs.GroupFile.{group_root, new_root, group_links, group_state, flushed_super}
use Rattle.session_model.specs.GroupFile.{one_group}
use Rattle.session_model.specs.Examples.{plain_file, mkgroup_g}
use Rattle.session_model.specs.RunExamples.{empty_view, EmptyBegins, IsOneGroup, flushed_left, WholeRun}
use Rattle.session_model.specs.RunExamples.{StoppedRun, CutRun, FaultRun}
use Rattle.session_model.proofs.EmptyFile.{empty_full, root_short, heap_small, all, all_are}
use Rattle.session_model.proofs.RunLemmas.{right_end}
use Rattle.session_model.proofs.GroupLine.{group_line, plan, goes, one, ranges_are}
use Rattle.session_model.proofs.GroupLine.{stays as group_stays}
use Rattle.session_model.proofs.FlushLine.{flushed_full, stays, of_field}

within : IsWithinLimits empty_bytes all empty_tree
within = record {
  depth = lit≤ tt;
  objects = lit≤ tt;
  block_count = lit≤ tt;
  parts = (root_short, heap_small, tt);
}

pub empty_begins : EmptyBegins
empty_begins = record {
  told = record { array = refl; ends = refl; committed = refl; history = refl };
  fresh = tt;
  held = empty_full;
  within = subst (λ (bs : List Block). IsWithinLimits empty_bytes bs empty_tree) all_are within;
  blocks = ap (λ (bs : List Block). length bs) all_are;
  idle = refl;
}

-- ---- the line is done

did : (script line : List ℕ) (moments : List ℤ) → IsOneGroup script line
    → Did (λ c. true) (setting_of empty_view None) empty_state moments script
did script line moments spells = record {
  done = line ∷ [];
  rest = [];
  lines_are = spells.one;
  commands = Some mkgroup_g ∷ [];
  read = (spells.means, tt);
  state = group_state;
  later = moments;
  answers = answer.Done ∷ [];
  answered = (group_state, answer.Done, [], group_line _, (refl, refl, refl), refl);
}

version_is : empty_super.version ≡ 0
unfolding empty_super
version_is = refl

no_edit : true ≡ false → ⊥
no_edit h = cc

closed : ClosesFile plain_file group_state flushed_left
unfolding empty_super group_root new_root
closed = record {
  held = record { super = flushed_super; root = group_root; links = group_links; full = flushed_full; tree = refl };
  ends = refl;
  fields = λ edited. right_end empty_super version_is;
  stays = λ a out. stays a (λ hit. out (inl (of_field a hit)));
  idle = λ idle. absurd (no_edit idle);
}

pub whole_run : WholeRun
unfolding did
whole_run script line old spells moments = record {
  begun = empty_state;
  begins = empty_begins;
  did = did script line moments spells;
  ends = (refl, refl, closed);
}

pub stopped_run : StoppedRun
unfolding did
stopped_run script line taken unread old spells all_is ended moments = record {
  begun = empty_state;
  begins = empty_begins;
  did = did script line moments spells;
  ends = (record { taken = taken; script_is = all_is; done_is = sym ended }, refl, closed);
}

cut : (old : List ℕ) → AreCut (answer.Done ∷ []) old (old ++ codes "o")
cut old = record {
  whole = [];
  last = answer.Done ∷ [];
  are = refl;
  one = lit≤ tt;
  part = (1, lit≤ tt, ap (λ (xs : List ℕ). xs ++ codes "o") (sym (append-nil old)));
}

pub cut_run : CutRun
unfolding did
cut_run script line old spells moments = record {
  begun = empty_state;
  begins = empty_begins;
  did = did script line moments spells;
  ends = (cut old, closed);
}

-- ---- the store fails within it

uncut : (old : List ℕ) → AreCut [] old old
uncut old = record {
  whole = [];
  last = [];
  are = refl;
  one = lit≤ tt;
  part = (0, lit≤ tt, sym (append-nil (old ++ []) ∙ append-nil old));
}

pub fault_run : FaultRun
fault_run script line old spells moments = record {
  begun = empty_state;
  begins = empty_begins;
  did = record {
    done = [];
    rest = line ∷ [];
    lines_are = spells.one;
    commands = [];
    read = tt;
    state = empty_state;
    later = moments;
    answers = [];
    answered = (refl, refl, refl);
  };
  ends = (
    uncut old,
    record {
      next = one;
      would = NextLine line [] mkgroup_g plan one_group (Gives answer.Done) refl spells.means refl goes ranges_are;
      stays = λ a far out. group_stays a out;
    },
  );
}
