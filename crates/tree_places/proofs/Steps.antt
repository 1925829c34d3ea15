-- What a new link, and one that is removed, come to in the tree of objects.
use Rattle.std.proofs.Common.{◌≡◌, Bool, true, false, List, Option, Some, None, is_some, Result, Ok, Err, ok_or}
use Rattle.std.proofs.Common.{if◌then◌else◌, refl, sym, ap, ◌∙◌}
use Rattle.std.specs.Option.{option_map}
use Rattle.object_model.specs.declared.answer.Answer.TheVariants as answer
use Rattle.object_model.specs.declared.answer.Code.{Code}
use Rattle.object_model.specs.declared.answer.Code.TheVariants.{ReadOnly, Exists, Absent, NotEmpty}
use Rattle.object_model.specs.Tree.{Group, Leaf, Empty, Link, Name, find, child, walk, edit, relink, insert, remove}
use Rattle.object_model.specs.Tree.{dir_of, last_of, ◌>>=◌}
use Rattle.object_model.specs.Step.{Plain, Outcome, Gives, has_links, links_of, unless, add}
use Rattle.file_model.specs.Holds.{Full, GroupAt, plain}
use Rattle.file_model.proofs.LinkEdits.{edit_there, plain_find, plain_insert, plain_remove, plain_walk, plain_change}
use Rattle.tree_places.specs.Places.{regroup, add_place, remove_place, has_children, lacking, loosely}
use Rattle.tree_places.specs.Laws.{AddIs, AddStep, RemoveStep, AddThere, RemoveThere}

-- ---- without places

plain_added : (f : GroupAt → GroupAt) (n : Name) (new u : Full)
    → plain (regroup f (λ ls. insert ls n new) u) ≡ relink (λ ls. insert ls n (plain new)) (plain u)
plain_added f n new (Group g ls) = ap (Group tt) (plain_insert ls n new)
plain_added f n new (Leaf l) = refl

plain_removed : (f : GroupAt → GroupAt) (n : Name) (u : Full)
    → plain (regroup f (λ ls. remove ls n) u) ≡ relink (λ ls. remove ls n) (plain u)
plain_removed f n (Group g ls) = ap (Group tt) (plain_remove ls n)
plain_removed f n (Leaf l) = refl

add_plain : (f : GroupAt → GroupAt) (p : List Name) (new t : Full)
    → plain (add_place f p new t) ≡ edit (dir_of p) (relink (λ ls. insert ls (last_of p) (plain new))) (plain t)
add_plain f p new t = plain_change (dir_of p) _ (relink (λ ls. insert ls (last_of p) (plain new))) t
    (λ u w. plain_added f (last_of p) new u)

remove_plain : (f : GroupAt → GroupAt) (p : List Name) (t : Full)
    → plain (remove_place f p t) ≡ edit (dir_of p) (relink (λ ls. remove ls (last_of p))) (plain t)
remove_plain f p t = plain_change (dir_of p) _ (relink (λ ls. remove ls (last_of p))) t (λ u w. plain_removed f
    (last_of p) u)

-- ---- one link more

abbrev done : Plain → Outcome
done t = Ok (t, Gives answer.Done)

added_at : (n : Name) (u : Full) (x y : Plain) → x ≡ y
    → (links_of (plain u) >>= λ ls. unless (is_some (find ls n)) Exists (done x)) ≡ (lacking u n >>= λ dir. done y)
added_at n (Leaf l) x y same = refl
added_at n (Group g ls) x y same = rw (plain_find ls n) (go (find ls n))
  where
    go : (o : Option Full) → unless (is_some (option_map plain o)) Exists (done x) ≡
        ((if is_some o then Err Exists else Ok (Group g ls)) >>= λ dir. done y)
    go None = ap done same
    go (Some v) = refl

pub add_is : AddIs
add_is f p new t = rw (plain_walk (dir_of p) t) (go (walk t (dir_of p)))
  where
    go : (r : Result Full Code) → ((r >>= λ u. Ok (plain u)) >>= λ dir. links_of dir >>= λ ls. unless (is_some
        (find ls (last_of p))) Exists (done (edit (dir_of p) (relink (λ old. insert old (last_of p) (plain new)))
        (plain t))))
        ≡ ((r >>= λ dir. lacking dir (last_of p)) >>= λ dir. done (plain (add_place f p new t)))
    go (Err code) = refl
    go (Ok u) = added_at (last_of p) u _ _ (sym (add_plain f p new t))

pub add_step : AddStep
add_step s f p new t fresh =
    ap (unless s.read_only ReadOnly) (ap (λ (x : Plain). add p x (plain t)) (sym fresh) ∙ add_is f p new t)

-- ---- one link fewer

plain_child : (u : Full) (n : Name) → child (plain u) n ≡ (child u n >>= λ v. Ok (plain v))
plain_child (Leaf l) n = refl
plain_child (Group g ls) n = rw (plain_find ls n) (go (find ls n))
  where
    go : (o : Option Full) → ok_or (option_map plain o) Absent ≡ (ok_or o Absent >>= λ v. Ok (plain v))
    go None = refl
    go (Some v) = refl

plain_children : (u : Full) → has_links (plain u) ≡ has_children u
plain_children (Group g Empty) = refl
plain_children (Group g (Link n t ls)) = refl
plain_children (Leaf l) = refl

removed_at : (n : Name) (u : Full) (x y : Plain) → x ≡ y
    → (child (plain u) n >>= λ old. unless (has_links old) NotEmpty (done x)) ≡ (loosely u n >>= λ dir. done y)
removed_at n u x y same = rw (plain_child u n) (go (child u n))
  where
    chosen : (b : Bool) → unless b NotEmpty (done x) ≡ ((if b then Err NotEmpty else Ok u) >>= λ dir. done y)
    chosen true = refl
    chosen false = ap done same

    go : (r : Result Full Code) → ((r >>= λ v. Ok (plain v)) >>= λ old. unless (has_links old) NotEmpty (done x)) ≡
        ((r >>= λ old. if has_children old then Err NotEmpty else Ok u) >>= λ dir. done y)
    go (Err code) = refl
    go (Ok v) = ap (λ (b : Bool). unless b NotEmpty (done x)) (plain_children v) ∙ chosen (has_children v)

pub remove_step : RemoveStep
remove_step s f p t = ap (unless s.read_only ReadOnly) (rw (plain_walk (dir_of p) t) (go (walk t (dir_of p))))
  where
    go : (r : Result Full Code) → ((r >>= λ u. Ok (plain u)) >>= λ dir. child dir (last_of p) >>= λ old. unless
        (has_links old) NotEmpty (done (edit (dir_of p) (relink (λ ls. remove ls (last_of p))) (plain t))))
        ≡ ((r >>= λ dir. loosely dir (last_of p)) >>= λ dir. done (plain (remove_place f p t)))
    go (Err code) = refl
    go (Ok u) = removed_at (last_of p) u _ _ (sym (remove_plain f p t))

-- ---- at the path's parent

pub add_there : AddThere
add_there f p new t g ls w = edit_there (dir_of p) (regroup f (λ l. insert l (last_of p) new)) t (Group g ls) w

pub remove_there : RemoveThere
remove_there f p t g ls w = edit_there (dir_of p) (regroup f (λ l. remove l (last_of p))) t (Group g ls) w
