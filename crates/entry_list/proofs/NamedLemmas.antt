-- The entry at a name's place has the name where one of the links has it.
use Rattle.std.proofs.Common.{◌≡◌, ◌↔◌, ℕ, ◌<◌, ◌≤◌, Bool, true, false, IsTrue, List, [], ◌∷◌, length, get_or, sym, ◌∙◌}
use Rattle.std.proofs.Common.{subst, arith}
use Rattle.std.specs.Bool.{Decides}
use Rattle.std.proofs.lemmas.List.{get_or_default}
use Rattle.node_codec.specs.declared.snod.SnodEntry.{SnodEntry}
use Rattle.object_model.specs.Tree.{Name, AreOrdered}
use Rattle.file_model.specs.Groups.{AreLinks, Found, HasText}
use Rattle.file_model.specs.RefusedGroups.{names_of}
use Rattle.file_model.proofs.UniqueGroups.{text_same}
use Rattle.entry_list.specs.Places.{HasName, IsNamedAt, IsPlace}
use Rattle.entry_list.proofs.OrderLaws.{name_found}
use Rattle.entry_list.proofs.PlaceLemmas.{links_length, name_at, name_stands}

-- a text that stands somewhere is this name exactly where the two are equal
pub same_text : (s : List ℕ) (at : ℕ) (text name : List ℕ) → HasText s at text → (r : Bool)
    → Decides r (text ≡ name) → IsTrue r ↔ HasText s at name
same_text s at text name h r is =
    (λ yes. subst (HasText s at) (is.0 yes) h, λ has. is.1 (text_same s at text name h has))

module _ (s : List ℕ) (es : List SnodEntry) (n : ℕ) (name : Name) (fs : List Found) (links : AreLinks s es fs) where
  -- one of the links has the name of the entry at a place
  pub named_has : (e : SnodEntry) → n < length es → HasText s (get_or es n e).name_at name → Found → HasName fs name
  named_has e within h d =
      let lt : n < length fs = omega (arith, within, links_length s es fs links) in
      record {
        link = get_or fs n d;
        one = (n, lt, get_or_default fs n (get_or fs n d) d lt);
        is = text_same s (get_or es n e).name_at (name_at fs d n) name (name_stands s es fs n e d links within) h;
      }

  -- and where one has it, the entry at its place does
  pub has_named : AreOrdered (names_of fs) → IsPlace fs name n → HasName fs name → IsNamedAt s es n name
  has_named ordered place there =
      let d = there.link in
      let is = name_found fs name n d ordered place there in
      let lt : n < length es = omega (arith, is.0, links_length s es fs links) in
      record {
        within = lt;
        text = λ e. subst (HasText s (get_or es n e).name_at) is.1 (name_stands s es fs n e d links lt);
      }

  pub told_there : AreOrdered (names_of fs) → IsPlace fs name n → n < length es → (e : SnodEntry) → (r : Bool)
      → (IsTrue r ↔ HasText s (get_or es n e).name_at name) → IsTrue r ↔ HasName fs name
  told_there ordered place within e r is = (
    λ yes. named_has e within (is.0 yes) (some fs (omega (arith, within, links_length s es fs links))),
    λ has. is.1 ((has_named ordered place has).text e),
  )
    where
      some : (gs : List Found) → 0 < length gs → Found
      some [] lt = absurd (omega (arith, lt))
      some (g ∷ gs) lt = g

  -- past the last entry no link has the name
  pub told_past : AreOrdered (names_of fs) → IsPlace fs name n → length es ≤ n → (r : Bool) → r ≡ false
      → IsTrue r ↔ HasName fs name
  told_past ordered place past r is = (
    λ yes. absurd (no_both (sym is ∙ yes)),
    λ has. absurd (omega (arith, past, (has_named ordered place has).within)),
  )
    where
      no_both : false ≡ true → ⊥
      no_both e = cc
