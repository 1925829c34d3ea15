-- What is known of the parent to which a name is added, and from which one is removed.
use Rattle.std.proofs.Common.{◌≡◌, Bool, true, false, cond, List, Option, Some, None, Result, Ok, Err, refl, sym, ◌∙◌, ap, subst}
use Rattle.object_model.specs.declared.answer.Code.{Code}
use Rattle.object_model.specs.declared.answer.Code.TheVariants.{Absent}
use Rattle.object_model.specs.Tree.{Group, Leaf, Name, child, dir_of, find, last_of, walk}
use Rattle.file_model.specs.Holds.{Full, FullLinks, GroupAt}
use Rattle.tree_places.specs.Places.{has_children, lacking, loosely, to_add, to_remove}

-- the path leads to this group, in which the last name leads somewhere
pub record IsLoose (t : Full) (p : List Name) (parent : GroupAt) (below : FullLinks) : Type 0 where
  pub walked : walk t (dir_of p) ≡ Ok (Group parent below)
  pub child_is : Full
  pub found : find below (last_of p) ≡ Some child_is

pub record IsLacking (t : Full) (p : List Name) (parent : GroupAt) (below : FullLinks) : Type 0 where
  pub walked : walk t (dir_of p) ≡ Ok (Group parent below)
  pub none : find below (last_of p) ≡ None

abbrev Found : FullLinks → Name → Type 0
Found below n = (u : Full) × (find below n ≡ Some u)

loose_found : (g : GroupAt) (ls : FullLinks) (n : Name) (r : Full) → loosely (Group g ls) n ≡ Ok r
    → Found ls n × (Group g ls ≡ r)
loose_found g ls n r is = go (find ls n) refl
  where
    go : (o : Option Full) → find ls n ≡ o → Found ls n × (Group g ls ≡ r)
    go None none = let stop : loosely (Group g ls) n ≡ Err Absent = rw none refl in cc
    go (Some u) there = ((u, there), chosen (has_children u) refl)
      where
        chosen : (b : Bool) → has_children u ≡ b → Group g ls ≡ r
        chosen true some = let stop = rw (there, some) at is in cc
        chosen false none = let on = rw (there, none) at is in cc

pub removed_from : (t : Full) (p : List Name) (parent : GroupAt) (below : FullLinks)
    → to_remove t p ≡ Ok (Group parent below) → IsLoose t p parent below
removed_from t p parent below is = go (walk t (dir_of p)) refl
  where
    go : (r : Result Full Code) → walk t (dir_of p) ≡ r → IsLoose t p parent below
    go (Err code) there = let stop = rw there at is in cc
    go (Ok (Leaf l)) there = let stop = rw there at is in cc
    go (Ok (Group g ls)) there =
        let on : loosely (Group g ls) (last_of p) ≡ Ok (Group parent below) = rw there at is in
        let (found, same) = loose_found g ls (last_of p) (Group parent below) on in
        let links : ls ≡ below = cc in
        record {
          walked = there ∙ ap Ok same;
          child_is = found.0;
          found = subst (λ (l : FullLinks). find l (last_of p) ≡ Some found.0) links found.1;
        }

pub added_to : (t : Full) (p : List Name) (parent : GroupAt) (below : FullLinks)
    → to_add t p ≡ Ok (Group parent below) → IsLacking t p parent below
added_to t p parent below is = go (walk t (dir_of p)) refl
  where
    open_in : (g : GroupAt) (ls : FullLinks) → walk t (dir_of p) ≡ Ok (Group g ls) → (o : Option Full)
        → find ls (last_of p) ≡ o → lacking (Group g ls) (last_of p) ≡ Ok (Group parent below)
        → IsLacking t p parent below
    open_in g ls there (Some u) some on = let stop = rw some at on in cc
    open_in g ls there None none on =
        let same : Ok (Group g ls) ≡ Ok (Group parent below) = rw none at on in
        let links : ls ≡ below = cc in
        record {
          walked = there ∙ same;
          none = subst (λ (l : FullLinks). find l (last_of p) ≡ None) links none;
        }

    go : (r : Result Full Code) → walk t (dir_of p) ≡ r → IsLacking t p parent below
    go (Err code) there = let stop = rw there at is in cc
    go (Ok (Leaf l)) there = let stop = rw there at is in cc
    go (Ok (Group g ls)) there = open_in g ls there (find ls (last_of p)) refl (rw there at is)
