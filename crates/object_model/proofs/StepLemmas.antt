-- The laws of the step of a command.
use Rattle.std.proofs.Common.{◌≡◌, ℕ, Bool, true, false, not, ◌&&◌, ◌==◌, List, length, map, Option, Some, None, is_some, is_none, Result, Ok, Err, refl, sym, ◌∙◌, ap, subst, arith}
use Rattle.std.specs.List.{list_all}
use Rattle.std.proofs.lemmas.List.{length-map}
use Rattle.std.proofs.lemmas.Bool.Decides.{nat_tests}
use Rattle.dtype.specs.Products.{product}
use Rattle.dtype.specs.Values.{encoding}
use Rattle.dtype.specs.declared.types.Value.{Value}
use Rattle.object_model.specs.declared.command.Command.TheVariants as command
use Rattle.object_model.specs.declared.answer.Answer.TheVariants as answer
use Rattle.object_model.specs.declared.answer.Code.{Code}
use Rattle.object_model.specs.declared.answer.Code.TheVariants.{ReadOnly, Filtered, Range, WrongType, Fixed, Shrink, NotEmpty, NoOnion}
use Rattle.object_model.specs.Boxes.{all_le, same_rank}
use Rattle.object_model.specs.Data.{Data, fits_box, read_box, write_box, grow}
use Rattle.object_model.specs.Tree.{Group, Leaf, Name, find, child, walk, edit, relink, insert, remove, dir_of, last_of, IsOrdered, ◌>>=◌}
use Rattle.object_model.specs.Step.{Plain, PlainLinks, Object, Dataset, Soft, Other, Stack, Reply, Gives, Commits, Outcome, can_hold, data_of, links_of, has_links, new_group, new_data, joined, unless, add, step}
use Rattle.object_model.specs.Laws.{KeepsOrder, ListsNewGroup, FindsInserted, FindsOthers, AnswersWritten}
use Rattle.object_model.proofs.TreeLemmas.{walk-edit, find-insert_same, find-insert_other}
use Rattle.object_model.proofs.OrderLemmas.{ordered-edit, ordered-add, ordered-remove_link}
use Rattle.object_model.proofs.BoxLemmas.{and_both}
use Rattle.object_model.proofs.DataLemmas.{reads_written}

-- a step that went on
went : {X Y : Type 0} (r : Result X Code) (f : X → Result Y Code) (y : Y) → (r >>= f) ≡ Ok y → (x : X) × (r ≡ Ok x) × (f x ≡ Ok y)
went (Ok x) f y h = (x, refl, h)
went (Err e) f y h = cc

-- and what it went on with
goes : {X Y : Type 0} (r : Result X Code) (x : X) (f : X → Result Y Code) → r ≡ Ok x → (r >>= f) ≡ f x
goes (Ok a) x f h = let is : a ≡ x = cc in ap f is
goes (Err e) x f h = cc

-- a refusal that didn't come
passed : {X : Type 0} (bad : Bool) (code : Code) (r : Result X Code) (x : X) → unless bad code r ≡ Ok x → (bad ≡ false) × (r ≡ Ok x)
passed true code r x h = cc
passed false code r x h = (refl, h)

pub group_of : (t : Plain) (ls : PlainLinks) → links_of t ≡ Ok ls → t ≡ Group tt ls
group_of (Group g ls) ks h = let e : ls ≡ ks = cc in ap (Group tt) e
group_of (Leaf l) ks h = cc

abbrev okay : {X : Type 0} → X → Result X Code
okay x = Ok x

ok_is : {X : Type 0} (a b : X) → okay a ≡ okay b → a ≡ b
ok_is a b h = cc

none_of : {X : Type 0} (o : Option X) → is_some o ≡ false → o ≡ None
none_of None h = refl
none_of (Some x) h = cc

-- what a new link comes to
record Added (p : List Name) (new t after : Plain) (r : Reply) : Type 0 where
  dir : Plain
  ls : PlainLinks
  leads : walk t (dir_of p) ≡ Ok dir
  group : links_of dir ≡ Ok ls
  free : find ls (last_of p) ≡ None
  is : after ≡ edit (dir_of p) (relink (λ old. insert old (last_of p) new)) t

added : (p : List Name) (new t after : Plain) (r : Reply) → add p new t ≡ Ok (after, r) → Added p new t after r
added p new t after r h =
    let a = went (walk t (dir_of p)) _ (after, r) h in
    let b = went (links_of a.0) _ (after, r) a.2 in
    let c = passed _ _ _ _ b.2 in
    record {
      dir = a.0;
      ls = b.0;
      leads = a.1;
      group = b.1;
      free = none_of _ c.0;
      is = ap (λ (x : Plain × Reply). x.0) (sym (ok_is _ _ c.1));
    }

ordered-added : (p : List Name) (new t after : Plain) (r : Reply) → IsOrdered new → IsOrdered t → add p new t ≡ Ok (after, r) → IsOrdered after
ordered-added p new t after r fresh o h =
    let a = added p new t after r h in
    subst IsOrdered (sym a.is)
    (ordered-edit (dir_of p) (relink (λ old. insert old (last_of p) new)) t
    (λ u leads ou. let e : u ≡ a.dir = ok_is _ _ (sym leads ∙ a.leads) in ordered-add (last_of p) new u tt a.ls (e ∙ group_of a.dir a.ls a.group) a.free fresh ou)
    o)

ordered-leaf : (p : List Name) (object : Object) (t : Plain) → IsOrdered t → IsOrdered (edit p (λ _. Leaf object) t)
ordered-leaf p object t o = ordered-edit p (λ _. Leaf object) t (λ u leads ou. tt) o

abbrev leaves : Plain → Reply → Outcome
leaves t r = Ok (t, r)

same_tree : (t after : Plain) (r s : Reply) → IsOrdered t → leaves t s ≡ leaves after r → IsOrdered after
same_tree t after r s o h = subst IsOrdered (ap (λ (x : Plain × Reply). x.0) (ok_is _ _ h)) o

-- a dataset whose elements are reached isn't filtered, and stays so
reached : (t : Plain) (d : Data) → data_of t ≡ Ok d → (t ≡ Leaf (Dataset d)) × (d.filtered ≡ false)
reached (Group g ls) d h = cc
reached (Leaf (Soft text)) d h = cc
reached (Leaf Other) d h = cc
reached (Leaf (Dataset e)) d h = let a = passed e.filtered Filtered (Ok e) d h in let is : e ≡ d = ok_is _ _ a.1 in (ap (λ (x : Data). Leaf (Dataset x)) is, sym (ap (λ (x : Data). x.filtered) is) ∙ a.0)

not_false : (b : Bool) → not b ≡ false → b ≡ true
not_false true h = refl
not_false false h = cc

-- what a done write comes to
record Written (s : Stack) (t new : Plain) (p : List Name) (start count : List ℕ) (values : List Value) : Type 0 where
  node : Plain
  old : Data
  leads : walk t p ≡ Ok node
  data_is : data_of node ≡ Ok old
  inside : (fits_box old start count && length values == product count) ≡ true
  is : new ≡ edit p (λ _. Leaf (Dataset (write_box old start count (map (encoding old.elem) values)))) t

written : (s : Stack) (t new : Plain) (p : List Name) (start count : List ℕ) (values : List Value) (r : Reply) → step s t (command.Write p start count values) ≡ Ok (new, r)
    → Written s t new p start count values
written s t new p start count values r h =
    let a = passed s.read_only ReadOnly _ (new, r) h in
    let b = went (walk t p) _ (new, r) a.1 in
    let c = went (data_of b.0) _ (new, r) b.2 in
    let f = passed (not (fits_box c.0 start count && length values == product count)) Range _ (new, r) c.2 in
    let g = passed (not (list_all (can_hold c.0.elem) values)) WrongType _ (new, r) f.1 in
    record {
      node = b.0;
      old = c.0;
      leads = b.1;
      data_is = c.1;
      inside = not_false _ f.0;
      is = ap (λ (x : Plain × Reply). x.0) (sym (ok_is _ _ g.1));
    }

pub keeps_order : KeepsOrder
keeps_order s t new (command.Mkgroup p) r o h = let a = passed s.read_only ReadOnly (add p new_group t) (new, r) h in ordered-added p new_group t new r (tt, tt) o a.1
keeps_order s t new (command.Mkdata p elem dims chunk max fill) r o h =
    let made : Plain = Leaf (Dataset (new_data elem dims chunk max fill)) in
    let a = passed s.read_only ReadOnly (add p made t) (new, r) h in
    ordered-added p made t new r tt o a.1
keeps_order s t new (command.Write p start count values) r o h =
    let w = written s t new p start count values r h in
    subst IsOrdered (sym w.is) (ordered-leaf p (Dataset (write_box w.old start count (map (encoding w.old.elem) values))) t o)
keeps_order s t new (command.Read p start count) r o h =
    let b = went (walk t p) _ (new, r) h in
    let c = went (data_of b.0) _ (new, r) b.2 in
    let d = passed (not (fits_box c.0 start count)) Range _ (new, r) c.2 in
    same_tree t new r _ o d.1
keeps_order s t new (command.Ls p) r o h =
    let b = went (walk t p) _ (new, r) h in
    let c = went (links_of b.0) _ (new, r) b.2 in
    same_tree t new r _ o c.2
keeps_order s t new (command.Stat p) r o h =
    let b = went (walk t p) _ (new, r) h in
    same_tree t new r _ o b.2
keeps_order s t new (command.Extend p dims) r o h =
    let a = passed s.read_only ReadOnly _ (new, r) h in
    let b = went (walk t p) _ (new, r) a.1 in
    let c = went (data_of b.0) _ (new, r) b.2 in
    let d = passed (is_none c.0.chunk) Fixed _ (new, r) c.2 in
    let e = passed (not (same_rank dims c.0.dims)) Range _ (new, r) d.1 in
    let f = passed (not (all_le c.0.dims dims)) Shrink _ (new, r) e.1 in
    let g = passed (not (all_le dims c.0.max)) Range _ (new, r) f.1 in
    same_tree (edit p (λ _. Leaf (Dataset (grow c.0 dims))) t) new r (Gives answer.Done) (ordered-leaf p (Dataset (grow c.0 dims)) t o) g.1
keeps_order s t new (command.Rm p) r o h =
    let a = passed s.read_only ReadOnly _ (new, r) h in
    let b = went (walk t (dir_of p)) _ (new, r) a.1 in
    let c = went (child b.0 (last_of p)) _ (new, r) b.2 in
    let d = passed (has_links c.0) NotEmpty _ (new, r) c.2 in
    same_tree (edit (dir_of p) (relink (λ ls. remove ls (last_of p))) t) new r (Gives answer.Done)
    (ordered-edit (dir_of p) (relink (λ ls. remove ls (last_of p))) t (λ u leads ou. ordered-remove_link (last_of p) u ou) o) d.1
keeps_order s t new command.Flush r o h = let a = passed s.read_only ReadOnly (leaves t (Gives answer.Done)) (new, r) h in same_tree t new r (Gives answer.Done) o a.1
keeps_order s t new (command.Commit comment) r o h =
    let a = passed s.read_only ReadOnly (unless (not s.has_revisions) NoOnion (leaves t (Commits comment))) (new, r) h in
    let b = passed (not s.has_revisions) NoOnion (leaves t (Commits comment)) (new, r) a.1 in
    same_tree t new r (Commits comment) o b.1

pub lists_new_group : ListsNewGroup
lists_new_group s t new p r ls h is =
    let a = passed s.read_only ReadOnly (add p new_group t) (new, r) h in
    let b = added p new_group t new r a.1 in
    let same : walk new (dir_of p) ≡ Ok (relink (λ old. insert old (last_of p) new_group) b.dir) =
    ap (λ (x : Plain). walk x (dir_of p)) b.is ∙ walk-edit (dir_of p) (relink (λ old. insert old (last_of p) new_group)) t b.dir b.leads in
    let reads : (walk t (dir_of p) >>= links_of) ≡ okay b.ls = goes (walk t (dir_of p)) b.dir links_of b.leads ∙ b.group in
    let here : okay b.ls ≡ okay ls = sym reads ∙ is in
    let links : b.dir ≡ Group tt ls = group_of b.dir b.ls b.group ∙ ap (Group tt) (ok_is _ _ here) in
    rw (same, links) refl

pub finds_inserted : FindsInserted
finds_inserted ls n u h = find-insert_same ls n u h

pub finds_others : FindsOthers
finds_others ls n q u apart = find-insert_other ls n q u apart

-- a box of a dataset that a path leads to
read-at : (s : Stack) (new : Plain) (p : List Name) (d : Data) (start count : List ℕ) (elements : List (List ℕ)) → walk new p ≡ Ok (Leaf (Dataset d)) → d.filtered ≡ false → fits_box d start count ≡ true
    → read_box d start count ≡ elements → step s new (command.Read p start count) ≡ Ok (new, Gives (answer.Values d.elem (joined elements)))
read-at s new p d start count elements leads unfiltered inside reads =
    goes (walk new p) (Leaf (Dataset d)) (λ node. data_of node >>= found) leads
    ∙ (λ j. unless (unfiltered j) Filtered (Ok d) >>= found)
    ∙ (λ j. unless (not (inside j)) Range (answered (reads j)))
  where
    answered : List (List ℕ) → Outcome
    answered es = Ok (new, Gives (answer.Values d.elem (joined es)))

    found : Data → Outcome
    found e = unless (not (fits_box e start count)) Range (Ok (new, Gives (answer.Values e.elem (joined (read_box e start count)))))

pub answers_written : AnswersWritten
answers_written s t new p start count values r d h is =
    let w = written s t new p start count values r h in
    let reads : (walk t p >>= data_of) ≡ okay w.old = goes (walk t p) w.node data_of w.leads ∙ w.data_is in
    let same : w.old ≡ d = ok_is _ _ (sym reads ∙ is) in
    answered w d same
  where
    answered : (w : Written s t new p start count values) (d : Data) → w.old ≡ d
        → step s new (command.Read p start count) ≡ Ok (new, Gives (answer.Values d.elem (joined (map (encoding d.elem) values))))
    answered w d same =
        let filtered = (reached w.node w.old w.data_is).1 in
        let both = and_both (fits_box w.old start count) (length values == product count) w.inside in
        let elements : List (List ℕ) = map (encoding w.old.elem) values in
        let many : length values ≡ product count = grind (arith, nat_tests, both.1) in
        let e : length elements ≡ product count = length-map values (encoding w.old.elem) ∙ many in
        let made : Data = write_box w.old start count elements in
        let leads : walk new p ≡ Ok (Leaf (Dataset made)) =
        ap (λ (x : Plain). walk x p) w.is ∙ walk-edit p (λ _. Leaf (Dataset made)) t w.node w.leads in
        read-at s new p made start count elements leads filtered both.0 (reads_written w.old start count elements both.0 e)
        ∙ ap (λ (x : Data). Ok (new, Gives (answer.Values x.elem (joined (map (encoding x.elem) values))))) same
