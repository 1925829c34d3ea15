-- What an object tree shows, before and after a call.
use Rattle.std.proofs.Common.{◌≡◌, ◌≢◌, ℕ, ◌+◌, ◌-◌, Bool, true, false, cond, List, [], ◌∷◌, get_or, Option, Some, None, Result, Ok, refl, sym, ap, ◌∙◌, subst, inl, inr, arith}
use Rattle.std.specs.Prelude.{IsSome}
use mir.Val.{bool_byte}
use Rattle.slab.specs.Slab.{Slab, get, HasRoomFor}
use Rattle.object_model.specs.declared.answer.Code.{Code}
use Rattle.object_model.specs.Tree.{Group, Leaf, Empty, Link, Name, same_name, walk, edit, relink, insert, remove, find, AreOrdered, AreOrderedBelow, IsOrdered}
use Rattle.object_model.proofs.OrderLemmas.{ordered-edit, ordered-add, ordered-remove_link}
use Rattle.tree_nodes.specs.declared.node.Node.{Node}
use Rattle.tree_nodes.specs.declared.node.Node.TheVariants as node
use Rattle.tree_nodes.specs.declared.node.NodeId.{NodeId}
use Rattle.tree_nodes.specs.declared.node.ChildLink.{ChildLink}
use Rattle.tree_nodes.specs.declared.entry.Entry.{Entry}
use Rattle.tree_nodes.specs.declared.tree.ObjectTree.{ObjectTree}
use Rattle.tree_nodes.specs.Nodes.{Kept, bare, is_group, is_dataset, is_object, objects_at, child_link, link_names, find_link, insert_link, remove_link}
use Rattle.tree_nodes.specs.Slots.{kept_in, objects_in, IsRoomy, IsRoomyAt}
use Rattle.tree_nodes.specs.Entries.{root_of, object_count, superblock_of, entry_of, LacksLink, HasLooseLink, Has, HasDataset, HasRoom, Same, Inserts, Removes, Sets}
use Rattle.tree_nodes.specs.Shown.{Placed, Keyed, KeyedLinks, Shows, key_of, node_of, single, child_links, links_of, kept_of, child_id, on_leaf, HasKey, AreDistinct, AreKept}
use Rattle.std.specs.Option.{option_map}
use Rattle.tree_nodes.proofs.SlotLemmas.{kept_get, entry_kept}
use Rattle.tree_nodes.proofs.SlotLemmas as Slots
use Rattle.tree_nodes.proofs.EditLemmas.{first_step, own_key, found_key, walked_key, key-edit, kept_same, kept_found, kept_edit, kept_walked, distinct_edit, distinct_walked, objects-edit}
use Rattle.tree_nodes.proofs.ChangeLemmas.{kept_first, kept_key, ordered_links, child-links, key-single, has-single, kept-single, distinct-single, objects-single, ordered-single, with_link, key-with_link, kept-with_link, distinct-with_link, has-with_link, objects-with_link, without_link, kept-without_link, distinct-without_link, has-without_link, objects-without_link, objects_loose, child_at, key-on_leaf, has-on_leaf, kept-on_leaf, distinct-on_leaf, objects-on_leaf, ordered-on_leaf, dataset_no_group}

-- ---- what is shown of a node

pub entry_shown : (kept : ObjectTree) (t u : Keyed) (p : List Name) → Shows kept t → walk t p ≡ Ok u → entry_of kept (key_of u) ≡ Some (kept_of u)
entry_shown kept t u p shows w = kept_first (entry_of kept) u (kept_walked (entry_of kept) p t u w shows.nodes)

ordered_found : (ls : KeyedLinks) (n : Name) (v : Keyed) → find ls n ≡ Some v → AreOrderedBelow ls → IsOrdered v
ordered_found Empty n v is o = absurd cc
ordered_found (Link m t rest) n v is o =
    (elim (same_name m n) as (λ b. cond b (Some t) (find rest n) ≡ Some v → IsOrdered v) [
      | true ↦ λ q. let here : t ≡ v = cc in subst (λ (y : Keyed). IsOrdered y) here o.0
      | false ↦ λ q. ordered_found rest n v q o.1
    ]) is

walked_ordered : (p : List Name) (t u : Keyed) → walk t p ≡ Ok u → IsOrdered t → IsOrdered u
walked_ordered [] t u w o = let here : t ≡ u = cc in subst (λ (y : Keyed). IsOrdered y) here o
walked_ordered (n ∷ ns) (Leaf x) u w o = absurd cc
walked_ordered (n ∷ ns) (Group x ls) u w o = let (v, is, next) = first_step x ls n ns u w in walked_ordered ns v u next (ordered_found ls n v is o.1)

-- what holds of what is kept under a key holds of the tree's node there
pub of_shown : (kept : ObjectTree) (key : ℕ) (Q : Kept → Type 0) → ((e : Kept) → entry_of kept key ≡ Some e → Q e) → (t u : Keyed) (p : List Name) → Shows kept t → walk t p ≡ Ok u → key_of u ≡ key → Q (kept_of u)
of_shown kept key Q q t u p shows w same = q (kept_of u) (ap (entry_of kept) (sym same) ∙ entry_shown kept t u p shows w)

pub of_shown_ordered : (kept : ObjectTree) (key : ℕ) (Q : Kept → Type 0) → ((e : Kept) → entry_of kept key ≡ Some e → AreOrdered (link_names e.links) → Q e) → (t u : Keyed) (p : List Name) → Shows kept t → walk t p ≡ Ok u → key_of u ≡ key → Q (kept_of u)
of_shown_ordered kept key Q q t u p shows w same = q (kept_of u) (ap (entry_of kept) (sym same) ∙ entry_shown kept t u p shows w) (ordered_links u (walked_ordered p t u w shows.ordered))

-- ---- entries

entries_in : (kept : ObjectTree) (k : ℕ) → entry_of kept k ≡ kept_in kept.nodes k
unfolding entry_of
entries_in kept k = refl

pub same_entry : (old new : ObjectTree) (k : ℕ) → kept_in new.nodes k ≡ kept_in old.nodes k → entry_of new k ≡ entry_of old k
unfolding entry_of
same_entry old new k same = same

pub entry_is : (kept : ObjectTree) (k : ℕ) (o : Option Kept) → kept_in kept.nodes k ≡ o → entry_of kept k ≡ o
unfolding entry_of
entry_is kept k o is = is

pub in_entry : (kept : ObjectTree) (k : ℕ) (o : Option Kept) → entry_of kept k ≡ o → kept_in kept.nodes k ≡ o
unfolding entry_of
in_entry kept k o is = is

-- ---- nothing changes

pub shows_same : (old new : ObjectTree) → Same old new → (t : Keyed) → Shows old t → Shows new t
shows_same old new same t shows = record {
  root = shows.root ∙ ap (λ (i : NodeId). i.key) (sym same.root);
  nodes = kept_same (entry_of old) (entry_of new) t (λ k _. same.entries k) shows.nodes;
  ordered = shows.ordered;
  distinct = shows.distinct;
  objects = shows.objects ∙ sym same.objects;
}

-- ---- a node more

pub inserts : (old new : ObjectTree) (mid : Slab Entry) (id : NodeId) (name : Name) (key : ℕ) (n : Node)
    → superblock_of new ≡ superblock_of old → root_of new ≡ root_of old → object_count new ≡ object_count old + objects_at n
    → get old.nodes key ≡ None → kept_in mid key ≡ Some (bare n) → ((k : ℕ) → k ≢ key → get mid k ≡ get old.nodes k)
    → ((e : Kept) → kept_in mid id.key ≡ Some e → AreOrdered (link_names e.links) → find_link e.links name ≡ None → kept_in new.nodes id.key ≡ Some (record { node = e.node; links = insert_link e.links (child_link name key) }))
    → ((k : ℕ) → k ≢ id.key → kept_in new.nodes k ≡ kept_in mid k)
    → LacksLink old id name → Inserts old new id.key name key n
inserts old new mid id name key n superblock root objects fresh made beside linked others lacks =
    let vacant : entry_of old key ≡ None = entry_is old key None (kept_get old.nodes key None fresh) in
    let apart : id.key ≢ key = λ same. let both : Some lacks.0 ≡ None = sym lacks.1 ∙ ap (entry_of old) same ∙ vacant in absurd cc in
    record {
      superblock = superblock;
      root = root;
      fresh = vacant;
      made = entry_is new key (Some (bare n)) (others key (λ x. apart (sym x)) ∙ made);
      linked = λ e is o.
          let group : kept_in mid id.key ≡ Some e = Slots.kept_same old.nodes mid id.key id.key (beside id.key apart) ∙ in_entry old id.key (Some e) is in
          let same : lacks.0 ≡ e = let both : Some lacks.0 ≡ Some e = sym lacks.1 ∙ is in cc in
          let none : find_link e.links name ≡ None = subst (λ (x : Kept). find_link x.links name ≡ None) same lacks.3 in
          entry_is new id.key _ (linked e group o none);
      others = λ k not_id not_key. entry_is new k _ (others k not_id ∙ Slots.kept_same old.nodes mid k k (beside k not_key)) ∙ sym (entries_in old k);
      objects = objects;
    }

abbrev okay : Keyed → Result Keyed Code
okay t = Ok t

ok_is : (t u : Keyed) → okay t ≡ okay u → t ≡ u
ok_is t u h = cc

abbrev pub id_of : Keyed → NodeId
id_of y = record { key = key_of y }

pub no_child : (r : Option Keyed) → option_map id_of r ≡ None → r ≡ None
no_child None q = refl
no_child (Some y) q = absurd cc

same_walk : (t v u : Keyed) (p : List Name) → walk t p ≡ Ok v → walk t p ≡ Ok u → v ≡ u
same_walk t v u p a b = ok_is v u (sym a ∙ b)

ordered_link : (name : Name) (key : ℕ) (n : Node) (v u : Keyed) → v ≡ u → child_id u name ≡ None → IsOrdered v → IsOrdered (with_link name (single key n) v)
ordered_link name key n (Leaf x) u is none o = tt
ordered_link name key n (Group x ls) u is none o = ordered-add name (single key n) (Group x ls) x ls refl (no_child (find ls name) (subst (λ (y : Keyed). child_id y name ≡ None) (sym is) none)) (ordered-single key n) o

shows_link : (old new : ObjectTree) (id : NodeId) (name : Name) (key : ℕ) (n : Node) (t u : Keyed) (p : List Name) → Shows old t → walk t p ≡ Ok u → key_of u ≡ id.key
    → is_group (node_of u) ≡ true → child_id u name ≡ None → Inserts old new id.key name key n → Shows new (edit p (with_link name (single key n)) t)
shows_link old new id name key n t u p shows w same isg none ins =
    let f = with_link name (single key n) in
    let kept : AreKept (entry_of old) u = kept_walked (entry_of old) p t u w shows.nodes in
    let distinct : AreDistinct u = distinct_walked p t u w shows.distinct in
    let entry : entry_of old id.key ≡ Some (kept_of u) = ap (entry_of old) (sym same) ∙ entry_shown old t u p shows w in
    let linked : entry_of new (key_of u) ≡ Some (record { node = node_of u; links = insert_link (links_of u) (child_link name key) }) = ap (entry_of new) same ∙ ins.linked (kept_of u) entry (ordered_links u (walked_ordered p t u w shows.ordered)) in
    let strange : (k : ℕ) → HasKey t k → k ≢ key = λ k has x. kept_key (entry_of old) t k shows.nodes has (ap (entry_of old) x ∙ ins.fresh) in
    let others : (k : ℕ) → HasKey t k → k ≢ key_of u → entry_of new k ≡ entry_of old k = λ k has apart. ins.others k (λ x. apart (x ∙ sym same)) (strange k has) in
    let unknown : (k : ℕ) → HasKey (single key n) k → HasKey t k → ⊥ = λ k a b. strange k b (sym (has-single key n k a)) in
    let inner = kept-with_link (entry_of old) (entry_of new) name key n u isg kept distinct ins.made linked (λ k has. others k (walked_key p t u k w has)) in
    let sums = objects-edit f p t u w in
    let more = objects-with_link name (single key n) u isg (entry_of old) kept in
    let one = objects-single key n in
    let counted = shows.objects in
    let grown = ins.objects in
    record {
      root = key-edit p f t u w (key-with_link name (single key n) u) ∙ shows.root ∙ ap (λ (i : NodeId). i.key) (sym ins.root);
      nodes = kept_edit (entry_of old) (entry_of new) f p t u w shows.nodes shows.distinct (key-with_link name (single key n) u) inner (λ k has apart. others k has (λ x. apart (subst (HasKey u) (sym x) (own_key u))));
      ordered = ordered-edit p f t (λ v leads o. ordered_link name key n v u (same_walk t v u p leads w) none o) shows.ordered;
      distinct = distinct_edit f p t u w shows.distinct (distinct-with_link name (single key n) u distinct (distinct-single key n) (λ k a b. unknown k a (walked_key p t u k w b)))
          (λ k a. elim (has-with_link name (single key n) u k a) [ inl old_key ↦ inl old_key | inr new_key ↦ inr (unknown k new_key) ]);
      objects = omega (arith, sums, more, one, counted, grown);
    }

pub shows_inserts : (old new : ObjectTree) (id : NodeId) (name : Name) (key : ℕ) (n : Node) → LacksLink old id name → Inserts old new id.key name key n
    → (t u : Keyed) (p : List Name) → Shows old t → walk t p ≡ Ok u → key_of u ≡ id.key → Shows new (edit p (relink (λ ls. insert ls name (single key n))) t)
shows_inserts old new id name key n lacks ins t u p shows w same =
    let entry : entry_of old id.key ≡ Some (kept_of u) = ap (entry_of old) (sym same) ∙ entry_shown old t u p shows w in
    let is : lacks.0 ≡ kept_of u = let both : Some lacks.0 ≡ Some (kept_of u) = sym lacks.1 ∙ entry in cc in
    let isg : is_group (node_of u) ≡ true = subst (λ (x : Kept). is_group x.node ≡ true) is lacks.2 in
    let none : child_id u name ≡ None = sym (child-links u name) ∙ subst (λ (x : Kept). find_link x.links name ≡ None) is lacks.3 in
    shows_link old new id name key n t u p shows w same isg none ins

-- ---- room

pub room_node : (kept : ObjectTree) (id : NodeId) → HasRoom kept id → HasRoomFor kept.nodes 1
unfolding HasRoom
room_node kept id room = room.node

pub room_link : (kept : ObjectTree) (id : NodeId) (mid : Slab Entry) (key : ℕ) (name : Name) → HasRoom kept id → LacksLink kept id name → get kept.nodes key ≡ None → ((k : ℕ) → k ≢ key → get mid k ≡ get kept.nodes k) → IsRoomy (get mid id.key)
unfolding HasRoom
room_link kept id mid key name room lacks fresh beside =
    let apart : id.key ≢ key = λ same. let both : Some lacks.0 ≡ None = sym lacks.1 ∙ ap (entry_of kept) same ∙ entry_is kept key None (kept_get kept.nodes key None fresh) in absurd cc in
    subst IsRoomy (sym (beside id.key apart)) room.link

pub has_room : (kept : ObjectTree) (id : NodeId) → IsRoomyAt kept.nodes id.key → HasRoom kept id
unfolding HasRoom
has_room kept id room = room

pub byte_is : (b c : Bool) → b ≡ c → bool_byte b ≡ cond c 1 0
byte_is b c same = subst (λ (x : Bool). bool_byte b ≡ cond x 1 0) same (elim b as (λ x. bool_byte x ≡ cond x 1 0) [ true ↦ refl | false ↦ refl ])

pub no_entry : (kept : ObjectTree) (id : NodeId) → Has kept id → get kept.nodes id.key ≡ None → ⊥
no_entry kept id has none =
    let gone : entry_of kept id.key ≡ None = entry_is kept id.key None (kept_get kept.nodes id.key None none) in
    let both : IsSome {T = Kept} None = subst (λ (o : Option Kept). IsSome o) gone has in
    cc

pub entry_got : (kept : ObjectTree) (key : ℕ) (d : Entry) → get kept.nodes key ≡ Some d → entry_of kept key ≡ Some (entry_kept d)
entry_got kept key d is = entry_is kept key (Some (entry_kept d)) (kept_get kept.nodes key (Some d) is)

pub child_shown : (kept : ObjectTree) (id : NodeId) (name : Name) (r : Option NodeId) → ((e : Kept) → entry_of kept id.key ≡ Some e → AreOrdered (link_names e.links) → r ≡ find_link e.links name)
    → (t u : Keyed) (p : List Name) → Shows kept t → walk t p ≡ Ok u → key_of u ≡ id.key → r ≡ child_id u name
child_shown kept id name r look t u p shows w same = of_shown_ordered kept id.key (λ e. r ≡ find_link e.links name) look t u p shows w same ∙ child-links u name

pub same_tree : (old new : ObjectTree) → superblock_of new ≡ superblock_of old → root_of new ≡ root_of old → object_count new ≡ object_count old → ((k : ℕ) → kept_in new.nodes k ≡ kept_in old.nodes k) → Same old new
same_tree old new superblock root objects kept = record {
  superblock = superblock;
  root = root;
  entries = λ k. same_entry old new k (kept k);
  objects = objects;
}

-- ---- a node fewer

shows_unlink : (old new : ObjectTree) (id : NodeId) (name : Name) (t : Keyed) (p : List Name) (x : Placed) (ls : KeyedLinks) (v : Keyed) → Shows old t → walk t p ≡ Ok (Group x ls) → x.key ≡ id.key
    → find ls name ≡ Some v → links_of v ≡ [] → Removes old new id.key name (key_of v) → Shows new (edit p (without_link name) t)
shows_unlink old new id name t p x ls v shows w same is none rem =
    let u = Group x ls in
    let f = without_link name in
    let kept : AreKept (entry_of old) u = kept_walked (entry_of old) p t u w shows.nodes in
    let distinct : AreDistinct u = distinct_walked p t u w shows.distinct in
    let entry : entry_of old id.key ≡ Some (kept_of u) = ap (entry_of old) (sym same) ∙ entry_shown old t u p shows w in
    let linked : entry_of new x.key ≡ Some (record { node = x.node; links = remove_link (child_links ls) name }) = ap (entry_of new) same ∙ rem.linked (kept_of u) entry in
    let others : (k : ℕ) → k ≢ x.key → k ≢ key_of v → entry_of new k ≡ entry_of old k = λ k a b. rem.others k (λ e. a (e ∙ sym same)) b in
    let child : HasKey u (key_of v) = inr (found_key ls name v (key_of v) is (own_key v)) in
    let inner = kept-without_link (entry_of old) (entry_of new) name x ls v is kept distinct linked others in
    let sums = objects-edit f p t u w in
    let fewer = objects-without_link name x ls v is in
    let loose = objects_loose v none in
    let counted = shows.objects in
    let left = rem.objects (kept_of v) (kept_first (entry_of old) v (kept_found (entry_of old) ls name v is kept.2)) in
    record {
      root = key-edit p f t u w refl ∙ shows.root ∙ ap (λ (i : NodeId). i.key) (sym rem.root);
      nodes = kept_edit (entry_of old) (entry_of new) f p t u w shows.nodes shows.distinct refl inner
          (λ k has apart. others k (λ e. apart (inl (sym e))) (λ e. apart (subst (HasKey u) (sym e) child)));
      ordered = ordered-edit p f t (λ y leads o. ordered-remove_link name y o) shows.ordered;
      distinct = distinct_edit f p t u w shows.distinct (distinct-without_link name x ls distinct) (λ k a. inl (has-without_link name x ls k a));
      objects = omega (arith, sums, fewer, loose, counted, left);
    }

shows_loose : (old new : ObjectTree) (id : NodeId) (name : Name) (t : Keyed) (p : List Name) (x : Placed) (ls : KeyedLinks) (v : Keyed) (child : NodeId) (n : Node) → Shows old t → walk t p ≡ Ok (Group x ls) → x.key ≡ id.key
    → find ls name ≡ Some v → key_of v ≡ child.key → entry_of old child.key ≡ Some (bare n) → Removes old new id.key name child.key → Shows new (edit p (without_link name) t)
shows_loose old new id name t p x ls v child n shows w same leads key loose rem =
    let kept : AreKept (entry_of old) (Group x ls) = kept_walked (entry_of old) p t (Group x ls) w shows.nodes in
    let there : entry_of old (key_of v) ≡ Some (kept_of v) = kept_first (entry_of old) v (kept_found (entry_of old) ls name v leads kept.2) in
    let both : Some (bare n) ≡ Some (kept_of v) = sym loose ∙ ap (entry_of old) (sym key) ∙ there in
    let is : bare n ≡ kept_of v = cc in
    shows_unlink old new id name t p x ls v shows w same leads (sym (ap (λ (e : Kept). e.links) is)) (subst (Removes old new id.key name) (sym key) rem)

shows_found : (old new : ObjectTree) (id : NodeId) (name : Name) (t u : Keyed) (p : List Name) (child : NodeId) (n : Node) → Shows old t → walk t p ≡ Ok u → key_of u ≡ id.key
    → child_id u name ≡ Some child → entry_of old child.key ≡ Some (bare n) → Removes old new id.key name child.key → Shows new (edit p (without_link name) t)
shows_found old new id name t (Leaf x) p child n shows w same is loose rem = absurd cc
shows_found old new id name t (Group x ls) p child n shows w same is loose rem =
    let (v, leads, key) = child_at ls name child is in
    shows_loose old new id name t p x ls v child n shows w same leads key loose rem

pub shows_removes : (old new : ObjectTree) (id : NodeId) (name : Name) → HasLooseLink old id name
    → ((e : Kept) (child : NodeId) → entry_of old id.key ≡ Some e → AreOrdered (link_names e.links) → find_link e.links name ≡ Some child → Removes old new id.key name child.key)
    → (t u : Keyed) (p : List Name) → Shows old t → walk t p ≡ Ok u → key_of u ≡ id.key → Shows new (edit p (relink (λ ls. remove ls name)) t)
shows_removes old new id name has rem t u p shows w same =
    let entry : entry_of old id.key ≡ Some (kept_of u) = ap (entry_of old) (sym same) ∙ entry_shown old t u p shows w in
    let is : has.group ≡ kept_of u = let both : Some has.group ≡ Some (kept_of u) = sym has.at ∙ entry in cc in
    let found : find_link (links_of u) name ≡ Some has.child = subst (λ (e : Kept). find_link e.links name ≡ Some has.child) is has.found in
    shows_found old new id name t u p has.child has.node shows w same (sym (child-links u name) ∙ found) has.loose
    (rem (kept_of u) has.child entry (ordered_links u (walked_ordered p t u w shows.ordered)) found)

pub removes : (old new : ObjectTree) (mid : Slab Entry) (id : NodeId) (name : Name) (r : NodeId) (b : Bool) → HasLooseLink old id name
    → superblock_of new ≡ superblock_of old → root_of new ≡ root_of old → object_count new + cond b 1 0 ≡ object_count old
    → ((e : Kept) → kept_in old.nodes id.key ≡ Some e → AreOrdered (link_names e.links) → Some r ≡ find_link e.links name)
    → ((e : Kept) → kept_in old.nodes id.key ≡ Some e → AreOrdered (link_names e.links) → kept_in mid id.key ≡ Some (record { node = e.node; links = remove_link e.links name }))
    → ((k : ℕ) → k ≢ id.key → kept_in mid k ≡ kept_in old.nodes k)
    → kept_in new.nodes r.key ≡ None → ((k : ℕ) → k ≢ r.key → kept_in new.nodes k ≡ kept_in mid k) → ((e : Kept) → kept_in mid r.key ≡ Some e → b ≡ is_object e.node)
    → (e : Kept) (child : NodeId) → entry_of old id.key ≡ Some e → AreOrdered (link_names e.links) → find_link e.links name ≡ Some child → Removes old new id.key name child.key
removes old new mid id name r b has superblock root objects found unlinked beside gone others was e child is o leads =
    let here : kept_in old.nodes id.key ≡ Some e = in_entry old id.key (Some e) is in
    let met : Some r ≡ Some child = found e here o ∙ leads in
    let same : r ≡ child = cc in
    let one : has.group ≡ e = let both : Some has.group ≡ Some e = sym has.at ∙ is in cc in
    let other : Some has.child ≡ Some r = sym has.found ∙ ap (λ (x : Kept). find_link x.links name) one ∙ leads ∙ sym met in
    let chosen : has.child ≡ r = cc in
    let loose : entry_of old r.key ≡ Some (bare has.node) = ap (λ (i : NodeId). entry_of old i.key) (sym chosen) ∙ has.loose in
    let apart : r.key ≢ id.key = λ x.
    let both : Some (bare has.node) ≡ Some e = sym loose ∙ ap (entry_of old) x ∙ is in
    let empty : bare has.node ≡ e = cc in
    let none : find_link e.links name ≡ None = ap (λ (y : Kept). find_link y.links name) (sym empty) in
    let clash : Some child ≡ None = sym leads ∙ none in
    absurd cc in
    let done : Removes old new id.key name r.key = record {
      superblock = superblock;
      root = root;
      gone = entry_is new r.key None gone;
      linked = λ f at.
          let alike : e ≡ f = let both : Some e ≡ Some f = sym is ∙ at in cc in
          entry_is new id.key _ (others id.key (λ x. apart (sym x)) ∙ subst (λ (y : Kept). kept_in mid id.key ≡ Some (record { node = y.node; links = remove_link y.links name })) alike (unlinked e here o));
      others = λ k not_id not_key. entry_is new k _ (others k not_key ∙ beside k not_id) ∙ sym (entries_in old k);
      objects = λ f at.
          let known : b ≡ is_object f.node = was f (beside r.key apart ∙ in_entry old r.key (Some f) at) in
          let number : cond b 1 0 ≡ objects_at f.node = ap (λ (x : Bool). cond x 1 0) known in
          omega (arith, objects, number);
    } in
    subst (λ (i : NodeId). Removes old new id.key name i.key) same done

-- ---- another node at a leaf

pub sets : (old new : ObjectTree) (key : ℕ) (f : Node → Node) → superblock_of new ≡ superblock_of old → root_of new ≡ root_of old → object_count new ≡ object_count old
    → ((e : Kept) → kept_in old.nodes key ≡ Some e → kept_in new.nodes key ≡ Some (record { node = f e.node; links = e.links })) → ((k : ℕ) → k ≢ key → kept_in new.nodes k ≡ kept_in old.nodes k) → Sets old new key f
sets old new key f superblock root objects changed others = record {
  superblock = superblock;
  root = root;
  changed = λ e is. entry_is new key _ (changed e (in_entry old key (Some e) is));
  others = λ k apart. same_entry old new k (others k apart);
  objects = objects;
}

pub shows_sets : (old new : ObjectTree) (id : NodeId) (f : Node → Node) → ((n : Node) → is_group (f n) ≡ is_group n) → ((n : Node) → objects_at (f n) ≡ objects_at n) → HasDataset old id → Sets old new id.key f
    → (t u : Keyed) (p : List Name) → Shows old t → walk t p ≡ Ok u → key_of u ≡ id.key → Shows new (edit p (on_leaf f) t)
shows_sets old new id f kind weight has set t u p shows w same =
    let g = on_leaf f in
    let entry : entry_of old id.key ≡ Some (kept_of u) = ap (entry_of old) (sym same) ∙ entry_shown old t u p shows w in
    let is : has.0 ≡ kept_of u = let both : Some has.0 ≡ Some (kept_of u) = sym has.1 ∙ entry in cc in
    let leaf : is_group (node_of u) ≡ false = dataset_no_group (node_of u) (subst (λ (e : Kept). is_dataset e.node ≡ true) is has.2) in
    let changed : entry_of new (key_of u) ≡ Some (record { node = f (node_of u); links = links_of u }) = ap (entry_of new) same ∙ set.changed (kept_of u) entry in
    let kept : AreKept (entry_of old) u = kept_walked (entry_of old) p t u w shows.nodes in
    let inner = kept-on_leaf (entry_of old) (entry_of new) f u leaf (kind (node_of u) ∙ leaf) kept changed in
    let sums = objects-edit g p t u w in
    let equal = objects-on_leaf f u (weight (node_of u)) in
    let counted = shows.objects in
    let stays = set.objects in
    record {
      root = key-edit p g t u w (key-on_leaf f u) ∙ shows.root ∙ ap (λ (i : NodeId). i.key) (sym set.root);
      nodes = kept_edit (entry_of old) (entry_of new) g p t u w shows.nodes shows.distinct (key-on_leaf f u) inner (λ k has_key apart. set.others k (λ e. apart (subst (HasKey u) (same ∙ sym e) (own_key u))));
      ordered = ordered-edit p g t (λ y leads o. ordered-on_leaf f y o) shows.ordered;
      distinct = distinct_edit g p t u w shows.distinct (distinct-on_leaf f u (distinct_walked p t u w shows.distinct)) (λ k a. inl (has-on_leaf f u k a));
      objects = omega (arith, sums, equal, counted, stays);
    }

-- a name that is there is found
pub finds_none : (old : ObjectTree) (id : NodeId) (name : Name) (r : Option NodeId) → r ≡ None → ((e : Kept) → kept_in old.nodes id.key ≡ Some e → AreOrdered (link_names e.links) → r ≡ find_link e.links name)
    → (e : Kept) (child : NodeId) → entry_of old id.key ≡ Some e → AreOrdered (link_names e.links) → find_link e.links name ≡ Some child → ⊥
finds_none old id name r none found e child is o leads = let both : None ≡ Some child = sym none ∙ found e (in_entry old id.key (Some e) is) o ∙ leads in absurd cc

pub counted_less : (now mid new objects gone : ℕ) (b : Bool) → objects ≡ now → mid ≡ now → new + cond b 1 0 ≡ mid → gone ≡ bool_byte b → (objects - gone) + cond b 1 0 ≡ objects
counted_less now mid new objects gone b is same left byte =
    let number : gone ≡ cond b 1 0 = byte ∙ byte_is b b refl in
    omega (arith, is, same, left, number)

-- ---- a new tree

pub one_object : (n : Node) → is_group n ≡ true → objects_at n ≡ 1
one_object (node.Group header tree heap) is = refl
one_object (node.Dataset header shape elem fill layout filtered) is = absurd cc
one_object (node.Soft text) is = absurd cc
one_object (node.Other header) is = absurd cc

pub counted_new : (s s' : Slab Entry) (n : Node) → is_group n ≡ true → s.slots ≡ [] → objects_in s'.slots ≡ objects_in s.slots + objects_at n → 1 ≡ objects_in s'.slots
unfolding objects_in
counted_new s s' n is empty sums =
    let none : objects_in s.slots ≡ 0 = ap objects_in empty in
    let one = one_object n is in
    omega (arith, none, one, sums)

pub none_in : (s : Slab Entry) (k : ℕ) → s.slots ≡ [] → get s k ≡ None
none_in s k empty = ap (λ (xs : List (Option Entry)). get_or xs k None) empty

pub new_others : (kept : ObjectTree) (s : Slab Entry) (key : ℕ) → s.slots ≡ [] → ((k : ℕ) → k ≢ key → get kept.nodes k ≡ get s k) → (k : ℕ) → k ≢ key → entry_of kept k ≡ None
new_others kept s key empty others k apart = entry_is kept k None (kept_get kept.nodes k None (others k apart ∙ none_in s k empty))

pub shows_new : (kept : ObjectTree) (key : ℕ) (n : Node) → is_group n ≡ true → (root_of kept).key ≡ key → object_count kept ≡ 1 → entry_of kept key ≡ Some (bare n) → Shows kept (single key n)
shows_new kept key n is root objects made = record {
  root = key-single key n ∙ sym root;
  nodes = kept-single (entry_of kept) key n made;
  ordered = ordered-single key n;
  distinct = distinct-single key n;
  objects = objects-single key n ∙ one_object n is ∙ sym objects;
}

-- ---- what the calls ask for

pub has_shown : (kept : ObjectTree) (id : NodeId) (t u : Keyed) (p : List Name) → Shows kept t → walk t p ≡ Ok u → key_of u ≡ id.key → Has kept id
has_shown kept id t u p shows w same = subst (λ (o : Option Kept). IsSome o) (sym (ap (entry_of kept) (sym same) ∙ entry_shown kept t u p shows w)) refl

pub lacks_shown : (kept : ObjectTree) (id : NodeId) (t : Keyed) (p : List Name) (x : Placed) (ls : KeyedLinks) (name : Name) → Shows kept t → walk t p ≡ Ok (Group x ls) → x.key ≡ id.key → find ls name ≡ None → LacksLink kept id name
lacks_shown kept id t p x ls name shows w same none =
    let u = Group x ls in
    let first : AreKept (entry_of kept) u = kept_walked (entry_of kept) p t u w shows.nodes in
    (kept_of u, ap (entry_of kept) (sym same) ∙ entry_shown kept t u p shows w, first.0, child-links u name ∙ ap (option_map id_of) none)

pub loose_shown : (kept : ObjectTree) (id : NodeId) (t : Keyed) (p : List Name) (x : Placed) (ls : KeyedLinks) (v : Keyed) (name : Name) → Shows kept t → walk t p ≡ Ok (Group x ls) → x.key ≡ id.key → find ls name ≡ Some v → links_of v ≡ []
    → HasLooseLink kept id name
loose_shown kept id t p x ls v name shows w same leads none =
    let u = Group x ls in
    let first : AreKept (entry_of kept) u = kept_walked (entry_of kept) p t u w shows.nodes in
    record {
      group = kept_of u;
      at = ap (entry_of kept) (sym same) ∙ entry_shown kept t u p shows w;
      child = id_of v;
      found = child-links u name ∙ ap (option_map id_of) leads;
      node = node_of v;
      loose = kept_first (entry_of kept) v (kept_found (entry_of kept) ls name v leads first.2) ∙ ap (λ (l : List ChildLink). Some (record { node = node_of v; links = l })) none;
    }

pub dataset_shown : (kept : ObjectTree) (id : NodeId) (t u : Keyed) (p : List Name) → Shows kept t → walk t p ≡ Ok u → key_of u ≡ id.key → is_dataset (node_of u) ≡ true → HasDataset kept id
dataset_shown kept id t u p shows w same is = (kept_of u, ap (entry_of kept) (sym same) ∙ entry_shown kept t u p shows w, is)

-- what `child` answers is in the tree
pub child_kept : (kept : ObjectTree) (t : Keyed) (p : List Name) (x : Placed) (ls : KeyedLinks) (name : Name) (child : NodeId) → Shows kept t → walk t p ≡ Ok (Group x ls) → child_id (Group x ls) name ≡ Some child
    → (v : Keyed) × (find ls name ≡ Some v) × (entry_of kept child.key ≡ Some (kept_of v))
child_kept kept t p x ls name child shows w is =
    let (v, leads, key) = child_at ls name child is in
    let first : AreKept (entry_of kept) (Group x ls) = kept_walked (entry_of kept) p t (Group x ls) w shows.nodes in
    (v, leads, ap (entry_of kept) (sym key) ∙ kept_first (entry_of kept) v (kept_found (entry_of kept) ls name v leads first.2))
