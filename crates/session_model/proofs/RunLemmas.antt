-- A run over an empty script, and the end field of a file.
use Rattle.std.proofs.Common.{◌≡◌, ℕ, true, false, List, [], Option, Some, None, refl, sym, ◌∙◌, ap, subst}
use Rattle.std.proofs.Common.{inr, lit<, lit≤, append-nil}
use Rattle.std.specs.Prelude.{IsTrue}
use Rattle.std.specs.Int.{w64, to_le_bytes}
use Rattle.h5_base.specs.declared.extent.MemClass.TheVariants as class
use Rattle.h5_base.specs.Fields.{u64_at}
use Rattle.outside.specs.Array.{Array, Ends, over}
use Rattle.outside.specs.Revisions.{IsLogicalEnd, Committed}
use Rattle.outside.specs.Space.{SpaceView}
use Rattle.super_codec.specs.declared.superblock.Superblock.{Superblock}
use Rattle.file_model.specs.EditLaws.{end_place}
use Rattle.file_model.specs.Holds.{Holds}
use Rattle.session_model.specs.EndFields.{number_at}
use Rattle.session_model.specs.State.{State, IsHeld, bounds, setting_of, tree_of}
use Rattle.session_model.specs.Runs.{Begins, ClosesFile, Closes, Left}
use Rattle.session_model.specs.Laws.{RunsNothing}
use Rattle.session_model.specs.GroupFile.{group_bytes}
use Rattle.session_model.specs.Examples.{plain_file, RightEnd}

abbrev left_of : SpaceView → Left
left_of v = record { array = v.array; ends = v.ends; revisions = [] }

-- what a state holds
holds_of : (v : SpaceView) (own : Option (List ℕ)) (s : State) → IsHeld (setting_of v own) s
    → Holds s.array (bounds (setting_of v own) s.ends) (tree_of s)
holds_of v own s held = record { super = s.super; root = s.root; links = s.links; full = held; tree = refl }

not_edited : (s : State) → s.edited ≡ false → IsTrue s.edited → ⊥
not_edited s idle edited = let h : false ≡ true = sym idle ∙ edited in cc

file : (v : SpaceView) (own : Option (List ℕ)) (s : State) → Begins v own s
    → ClosesFile (setting_of v own) s (left_of v)
file v own s begins =
    let k = setting_of v own in
    record {
      held = subst (λ (b : Array). Holds b (bounds k v.ends) (tree_of s)) begins.told.array
          (subst (λ (e : Ends). Holds s.array (bounds k e) (tree_of s)) begins.told.ends
          (holds_of v own s begins.held));
      ends = sym begins.told.ends;
      fields = λ edited. absurd (not_edited s begins.idle edited);
      stays = λ a out. ap (λ (b : Array). b a) (sym begins.told.array);
      idle = λ idle. sym begins.told.array;
    }

closes : (v : SpaceView) (own : Option (List ℕ)) (s : State) → v.committed ≡ None → Begins v own s
    → Closes (setting_of v own) s s.committed (left_of v)
closes v own s none begins =
    subst (λ (m : Option Committed). Closes (setting_of v own) s m (left_of v)) (sym (begins.told.committed ∙ none))
    (file v own s begins)

pub runs_nothing : RunsNothing
runs_nothing given v own s moments old none begins = record {
  begun = s;
  begins = begins;
  did = record {
    done = [];
    rest = [];
    lines_are = refl;
    commands = [];
    read = tt;
    state = s;
    later = moments;
    answers = [];
    answered = (refl, refl, refl);
  };
  ends = (refl, sym (append-nil old), closes v own s none begins);
}

-- ---- the end field

told : number_at (over group_bytes 40 (to_le_bytes w64 1832)) 40 ≡ 1832
unfolding u64_at
told = refl

stands : (s : Superblock) → s.version ≡ 0 → end_place s.version ≡ 40
stands s version = ap (λ n. end_place n) version

pub logical : IsLogicalEnd plain_file.regions (λ c. 1832) 1832
logical = record { above = λ c some. lit≤ tt; met = inr (class.Super, lit< tt, refl) }

pub right_end : RightEnd
right_end s version = record {
  end = subst (λ n. IsLogicalEnd plain_file.regions (λ c. 1832) n)
      (sym (ap (λ at. number_at (over group_bytes 40 (to_le_bytes w64 1832)) at) (stands s version) ∙ told)) logical;
  members = λ tells. absurd (no_own tells.own_is);
}
  where
    no_own : {own : List ℕ} → None ≡ Some own → ⊥
    no_own h = cc
