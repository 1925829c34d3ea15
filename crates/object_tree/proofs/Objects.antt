-- One object that was read, with all below it.
use Rattle.std.proofs.Common.{◌≡◌, ◌≢◌, ℕ, zero, suc, ◌+◌, ◌-◌, ◌<◌, ◌≤◌, true, List, [], ◌++◌, Option, Some, None, IfSome, refl, sym, ◌∙◌, ap, subst, arith, inl, inr}
use Rattle.std.proofs.lemmas.List.{append_assoc, append-nil}
use Rattle.outside.specs.Array.{Array}
use Rattle.outside.specs.Blocks.{Block, Bounds, AreTaken}
use Rattle.outside.proofs.Taken.{taken_both}
use Rattle.outside.specs.Space.{SpaceView}
use Rattle.block_space.specs.Blocks.{Keeps}
use Rattle.block_space.specs.declared.blocks.Blocks.{Blocks}
use Rattle.h5_base.specs.declared.refusal.Stop.{Stop}
use Rattle.h5_base.specs.Refusals.{refusal_of}
use Rattle.block_space.proofs.Stopped.{if_some}
use Rattle.object_model.specs.Tree.{Group, Leaf, Name}
use Rattle.file_model.specs.Groups.{Ks, Target, Header, Text, HasLinks}
use Rattle.file_model.specs.Holds.{GroupAt, LeafAt, DataLeaf, SoftLeaf, OtherLeaf, Full, FullLinks, IsGroup, founds, blocks_in, blocks_of}
use Rattle.file_model.specs.Limits.{IsSmallHeap, leaf_objects}
use Rattle.h5_base.specs.declared.refusal.Refusal.{Refusal}
use Rattle.file_model.specs.RefusedGroups.{IsTableRefused}
use Rattle.file_model.specs.RefusedTree.{AreLinksRefused, IsRefusedWith, InTable, InLinks, IsObjectRefused}
use Rattle.tree_nodes.specs.declared.node.Node.{Node}
use Rattle.tree_nodes.specs.declared.node.Node.TheVariants as node
use Rattle.tree_nodes.specs.declared.tree.ObjectTree.{ObjectTree}
use Rattle.tree_nodes.specs.Nodes.{Kept, bare, is_group, objects_at}
use Rattle.tree_nodes.specs.Entries.{entry_of, Inserts}
use Rattle.tree_nodes.specs.Shown.{KeyedLinks, single, HasKey, HasKeyBelow}
use Rattle.object_tree.specs.declared.growing.Table.{Table}
use Rattle.object_tree.specs.Opened.{IsGroupNode, IsLeafNode, Matches}
use Rattle.object_tree.specs.Grown.{Grows, Adds, IsBareGroup, IsLeafFound, IsNodeFound, AreOpened, IsOpenedAt, IsGroupRefused, table_of}
use Rattle.object_tree.proofs.NodesFound.{short_of, was_read}

-- ---- soft links

pub soft_opened : (b : Array) (ks : Ks) (levels : ℕ) (key : ℕ) (text : List ℕ) → IsOpenedAt b ks levels (Text text) (single key (node.Soft text)) (Leaf (SoftLeaf text))
soft_opened b ks levels key text = record { held = tt; target_is = refl; fits = tt; depth = omega arith; same = refl }

pub soft_opened_to : (b : Array) (ks : Ks) (levels : ℕ) (key : ℕ) (text : List ℕ) (target : Target) → Text text ≡ target → IsOpenedAt b ks levels target (single key (node.Soft text)) (Leaf (SoftLeaf text))
soft_opened_to b ks levels key text target is = subst (λ (x : Target). IsOpenedAt b ks levels x (single key (node.Soft text)) (Leaf (SoftLeaf text))) is (soft_opened b ks levels key text)

pub keeps_none : {V : Type 0} (view : V → SpaceView) (blocks : Blocks V) (met : List Block) → Keeps view blocks met → Keeps view blocks (met ++ [])
keeps_none view blocks met h = subst (Keeps view blocks) (sym (append-nil met)) h

-- ---- objects that are no groups

leaf_one : (l : LeafAt) → leaf_objects l ≤ 1
leaf_one (DataLeaf d) = omega arith
leaf_one (SoftLeaf text) = omega arith
leaf_one (OtherLeaf o) = omega arith

leaf_is : (b : Array) (ks : Ks) (at : ℕ) (n : Node) (own : List Block) → IsNodeFound b ks at n own → table_of n ≡ None → IsLeafFound b ks at n own
leaf_is b ks at (node.Group header tree heap) own f none = absurd cc
leaf_is b ks at (node.Dataset header shape elem fill layout filtered) own f none = f
leaf_is b ks at (node.Soft text) own f none = absurd f
leaf_is b ks at (node.Other header) own f none = f

leaf_same : (n : Node) (key : ℕ) (l : LeafAt) → table_of n ≡ None → IsLeafNode n l → Matches (single key n) (Leaf l)
leaf_same (node.Group header tree heap) key l none h = absurd cc
leaf_same (node.Dataset header shape elem fill layout filtered) key l none h = h
leaf_same (node.Soft text) key l none h = h
leaf_same (node.Other header) key l none h = h

pub leaf_opened : {V : Type 0} (view : V → SpaceView) (new : Blocks V) (b : Array) (ks : Ks) (levels at key : ℕ) (n : Node) (met own : List Block) → 1 ≤ levels → table_of n ≡ None → IsNodeFound b ks at n own → Keeps view new (met ++ own)
    → (u : Full) × IsOpenedAt b ks levels (Header at) (single key n) u × Keeps view new (met ++ blocks_of u)
leaf_opened view new b ks levels at key n met own some none f keeps =
    let l = leaf_is b ks at n own f none in (
      Leaf l.0,
      record { held = l.2; target_is = l.3; fits = l.5; depth = omega (arith, leaf_one l.0, some); same = leaf_same n key l.0 none l.1 },
      subst (λ (bs : List Block). Keeps view new (met ++ bs)) (sym l.4) keeps,
    )

-- ---- groups

some_table : (a c : Table) → Some a ≡ Some c → a ≡ c
some_table a c h = cc

pub group_node : (n : Node) (tree heap : ℕ) → table_of n ≡ Some (record { tree_at = tree; heap_at = heap })
    → (header : ℕ) × (n ≡ node.Group header tree heap)
group_node (node.Group header t h) tree heap is =
    let same = some_table (record { tree_at = t; heap_at = h }) (record { tree_at = tree; heap_at = heap }) is in
    (header, ap (λ (x : Table). node.Group header x.tree_at x.heap_at) same)
group_node (node.Dataset header shape elem fill layout filtered) tree heap is = absurd cc
group_node (node.Soft text) tree heap is = absurd cc
group_node (node.Other header) tree heap is = absurd cc

pub table_group : (n : Node) (tree heap : ℕ) → table_of n ≡ Some (record { tree_at = tree; heap_at = heap }) → is_group n ≡ true
table_group n tree heap is = let g = group_node n tree heap is in ap is_group g.1

pub table_object : (n : Node) (tree heap : ℕ) → table_of n ≡ Some (record { tree_at = tree; heap_at = heap }) → objects_at n ≡ 1
table_object n tree heap is = let g = group_node n tree heap is in ap objects_at g.1

not_none : (a : Kept) → Some a ≡ None → ⊥
not_none a h = cc

pub bare_group : (old mid : ObjectTree) (group : ℕ) (name : Name) (key : ℕ) (n : Node) → Inserts old mid group name key n → is_group n ≡ true → IsBareGroup mid key
bare_group old mid group name key n h g = record { node = n; group = g; bare_is = h.made }

pub group_objects : (n : Node) → is_group n ≡ true → objects_at n ≡ 1
group_objects (node.Group header tree heap) h = refl
group_objects (node.Dataset header shape elem fill layout filtered) h = absurd cc
group_objects (node.Soft text) h = absurd cc
group_objects (node.Other header) h = absurd cc

-- What a new group needs of the group that it was linked in: it has an entry there, before and after.
pub record IsThere (old mid : ObjectTree) (group : ℕ) : Type 0 where
  pub before : Kept
  pub before_is : entry_of old group ≡ Some before
  pub after : Kept
  pub after_is : entry_of mid group ≡ Some after

-- a new group with all its links
pub adds_group : (old mid new : ObjectTree) (group : ℕ) (name : Name) (key : ℕ) (n : Node) (kls : KeyedLinks) → IsThere old mid group → Inserts old mid group name key n → is_group n ≡ true → Grows mid new key kls
    → Adds old new group name (Group (record { key = key; node = n }) kls)
adds_group old mid new group name key n kls there ins isg grows = record {
  superblock = grows.superblock ∙ ins.superblock;
  root = grows.root ∙ ins.root;
  linked = λ x is ordered. grows.others group apart below ∙ ins.linked x is ordered;
  kept = (isg, grows.here n ins.made, grows.kept);
  distinct = ((λ own. not_none (bare n) (sym ins.made ∙ grows.fresh key own)), grows.distinct);
  fresh = fresh;
  others = λ k not away. grows.others k (λ is. away (inl (sym is))) (λ x. away (inr x)) ∙ ins.others k not (λ is. away (inl (sym is)));
  objects = let one = group_objects n isg in let before = ins.objects in let after = grows.objects in omega (arith, one, before, after);
}
  where
    apart : group ≢ key
    apart is = not_none there.before (sym there.before_is ∙ ap (entry_of old) is ∙ ins.fresh)

    below : HasKeyBelow kls group → ⊥
    below x = not_none there.after (sym there.after_is ∙ grows.fresh group x)

    fresh : (k : ℕ) → HasKey (Group (record { key = key; node = n }) kls) k → entry_of old k ≡ None
    fresh k (inl is) = ap (entry_of old) (sym is) ∙ ins.fresh
    fresh k (inr x) =
        sym (ins.others k (λ is. below (subst (HasKeyBelow kls) is x)) (λ is. not_none (bare n) (sym ins.made ∙ ap (entry_of mid) (sym is) ∙ grows.fresh k x))) ∙ grows.fresh k x

pub group_opened : {V : Type 0} (view : V → SpaceView) (new : Blocks V) (b : Array) (ks : Ks) (levels at key tree heap : ℕ) (n : Node) (kls : KeyedLinks) (met own index : List Block) (ls : FullLinks) → 1 ≤ levels → table_of n ≡ Some (record { tree_at = tree; heap_at = heap })
    → IsNodeFound b ks at n own → HasLinks b ks tree heap (founds ls) index → IsSmallHeap b heap → AreOpened b ks (levels - 1) kls ls → Keeps view new ((met ++ own) ++ (index ++ blocks_in ls))
    → (u : Full) × IsOpenedAt b ks levels (Header at) (Group (record { key = key; node = n }) kls) u × Keeps view new (met ++ blocks_of u)
group_opened view new b ks levels at key tree heap n kls met own index ls some table f links small opened keeps =
    let found = group_node n tree heap table in
    let (prefix, parts, header, told, at_is, own_is, short) = subst (λ (x : Node). IsNodeFound b ks at x own) found.1 f in
    let g : GroupAt = record { header_at = at; tree_at = tree; heap_at = heap; own = own ++ index } in
    let group : IsGroup b ks g (founds ls) =
    record { prefix = prefix; parts = parts; header = header; table = told; index = index; links = links; blocks = ap (λ (l : List Block). l ++ index) own_is } in
    let blocks : (met ++ own) ++ (index ++ blocks_in ls) ≡ met ++ ((own ++ index) ++ blocks_in ls) =
    append_assoc met own (index ++ blocks_in ls) ∙ ap (λ (l : List Block). met ++ l) (sym (append_assoc own index (blocks_in ls))) in (
      Group g ls,
      record {
        held = (group, opened.held);
        target_is = refl;
        fits = (short_of b at prefix parts header short, small, opened.fit);
        depth = omega (arith, opened.depth, some);
        same = (subst (λ (x : Node). IsGroupNode x g) (sym found.1) (at_is, refl, refl), opened.same);
      },
      subst (Keeps view new) blocks keeps,
    )

-- ---- refusals

pub refused_at : (b : Array) (e : Bounds) (ks : Ks) (levels objects : ℕ) (met : List Block) (at : ℕ) (r : Refusal) → 1 ≤ levels → IsRefusedWith (IsObjectRefused b e ks (levels - 1)) b e ks (levels - 1) objects met at r → IsObjectRefused b e ks levels objects met at r
refused_at b e ks zero objects met at r some x = absurd (omega (arith, some))
refused_at b e ks (suc levels) objects met at r some x = let same : suc levels - 1 ≡ levels = omega arith in subst (λ (n : ℕ). IsRefusedWith (IsObjectRefused b e ks n) b e ks n objects met at r) same x

pub all_refused_at : (b : Array) (e : Bounds) (ks : Ks) (levels objects : ℕ) (met : List Block) (at : ℕ) (stop : Stop) → 1 ≤ levels → IfSome (refusal_of stop) (IsRefusedWith (IsObjectRefused b e ks (levels - 1)) b e ks (levels - 1) objects met at)
    → IfSome (refusal_of stop) (IsObjectRefused b e ks levels objects met at)
all_refused_at b e ks levels objects met at stop some x =
    if_some (refusal_of stop) (IsRefusedWith (IsObjectRefused b e ks (levels - 1)) b e ks (levels - 1) objects met at) (IsObjectRefused b e ks levels objects met at) (λ r y. refused_at b e ks levels objects met at r some y) x

-- a group whose header was read is refused for its table, or below it
pub group_below : (b : Array) (e : Bounds) (ks : Ks) (levels objects count at tree heap : ℕ) {header : ℕ} (met own : List Block) (r : Refusal) → objects < 65536 → AreTaken e met own
    → IsNodeFound b ks at (node.Group header tree heap) own → count ≡ objects + 1
    → IsGroupRefused b e ks levels count (met ++ own) tree heap r → IsRefusedWith (IsObjectRefused b e ks levels) b e ks levels objects met at r
group_below b e ks levels objects count at tree heap met own r few taken f counted (inl y) =
    InTable f.0 f.1 tree heap few (was_read b e met own at f.0 f.1 f.2 f.5 f.6 taken) f.3 (subst (λ (l : List Block). IsTableRefused b e ks (met ++ l) tree heap r) f.5 y)
group_below b e ks levels objects count at tree heap met own r few taken f counted (inr (fs, index, links, behind, small, y)) =
    let g : GroupAt = record { header_at = at; tree_at = tree; heap_at = heap; own = own ++ index } in
    let group : IsGroup b ks g fs = record { prefix = f.0; parts = f.1; header = f.2; table = f.3; index = index; links = links; blocks = ap (λ (l : List Block). l ++ index) f.5 } in
    let y' = subst (λ (k : ℕ). AreLinksRefused (IsObjectRefused b e ks levels) b e ks levels k ((met ++ own) ++ index) fs r) counted y in
    InLinks g fs few refl group (taken_both e met own index behind) (short_of b at f.0 f.1 f.2 f.6) small
    (subst (λ (l : List Block). AreLinksRefused (IsObjectRefused b e ks levels) b e ks levels (objects + 1) l fs r) (append_assoc met own index) y')

pub refused_counted : (b : Array) (e : Bounds) (ks : Ks) (levels told objects : ℕ) (met : List Block) (at : ℕ) (stop : Stop) → told ≡ objects → 1 ≤ levels
    → IfSome (refusal_of stop) (IsRefusedWith (IsObjectRefused b e ks (levels - 1)) b e ks (levels - 1) told met at) → IfSome (refusal_of stop) (IsObjectRefused b e ks levels objects met at)
refused_counted b e ks levels told objects met at stop same some x =
    all_refused_at b e ks levels objects met at stop some (subst (λ (k : ℕ). IfSome (refusal_of stop) (IsRefusedWith (IsObjectRefused b e ks (levels - 1)) b e ks (levels - 1) k met at)) same x)

pub group_refused : (b : Array) (e : Bounds) (ks : Ks) (levels objects count at tree heap : ℕ) (n : Node) (met own : List Block) (r : Refusal) → objects < 65536 → 1 ≤ levels → AreTaken e met own
    → table_of n ≡ Some (record { tree_at = tree; heap_at = heap }) → IsNodeFound b ks at n own → count ≡ objects + 1
    → IsGroupRefused b e ks (levels - 1) count (met ++ own) tree heap r → IsObjectRefused b e ks levels objects met at r
group_refused b e ks levels objects count at tree heap n met own r few some taken table f counted x =
    refused_at b e ks levels objects met at r some
    (group_below b e ks (levels - 1) objects count at tree heap met own r few taken (subst (λ (x : Node). IsNodeFound b ks at x own) found.1 f) counted x)
  where
    found : (header : ℕ) × (n ≡ node.Group header tree heap)
    found = group_node n tree heap table
