-- What was read of a link, of all links of a group and of an object, put together.
use Rattle.std.proofs.Common.{◌≡◌, ℕ, ◌+◌, ◌-◌, ◌<◌, ◌≤◌, Bool, List, [], ◌∷◌, ◌++◌, map, Option, Some, Result, Ok, Err, OnOk, IfErr, IfSome, refl, sym, ap, subst, inl, inr, IsTrue}
use Rattle.std.proofs.lemmas.List.{append_assoc}
use Rattle.outside.specs.Array.{Array}
use Rattle.outside.specs.Blocks.{Block}
use Rattle.outside.specs.Space.{SpaceView, bounds_of}
use Rattle.block_space.specs.Blocks.{Keeps, Takes, space_of}
use Rattle.block_space.specs.declared.blocks.Blocks.{Blocks}
use Rattle.h5_base.specs.declared.refusal.Stop.{Stop}
use Rattle.h5_base.specs.Refusals.{refusal_of}
use Rattle.block_space.proofs.Stopped.{if_some}
use Rattle.block_space.proofs.Taken.{taken_over}
use Rattle.object_model.specs.Tree.{Group, Name, AreOrdered}
use Rattle.file_model.specs.Groups.{Ks, Found, Target, Header, HasLinks}
use Rattle.file_model.specs.Holds.{Full, FullLinks, founds, blocks_in, blocks_of}
use Rattle.file_model.specs.Limits.{IsSmallHeap}
use Rattle.file_model.specs.RefusedGroups.{IsTableRefused, names_of}
use Rattle.file_model.specs.RefusedTree.{AreLinksRefused, IsObjectRefused}
use Rattle.group_reader.specs.Links.{links_of}
use Rattle.group_reader.specs.declared.link.FoundLink.{FoundLink}
use Rattle.tree_nodes.specs.declared.node.Node.{Node}
use Rattle.tree_nodes.specs.declared.node.NodeId.{NodeId}
use Rattle.tree_nodes.specs.declared.tree.ObjectTree.{ObjectTree}
use Rattle.tree_nodes.specs.Entries.{LacksLink, Inserts}
use Rattle.tree_nodes.specs.Shown.{Keyed, KeyedLinks}
use Rattle.object_tree.specs.Grown.{Grows, Adds, LinksAscend, IsNodeFound, AreOpened, IsOpenedAt, IsGroupRefused, table_of}
use Rattle.object_tree.proofs.SoFar.{SoFar}
use Rattle.object_tree.proofs.Objects.{IsThere, adds_group, table_group, group_opened, group_refused}

pub there_is : (old mid : ObjectTree) (id : NodeId) (name : Name) (key : ℕ) (n : Node) → LacksLink old id name → LinksAscend old id.key → Inserts old mid id.key name key n → IsThere old mid id.key
there_is old mid id name key n lacks ascend ins = record { before = lacks.0; before_is = lacks.1; after = _; after_is = ins.linked lacks.0 lacks.1 (ascend lacks.0 lacks.1) }

-- ---- a link, and the links of a group

-- what was read of a link
abbrev pub OpenedLink : {V : Type 0} → (V → SpaceView) → (old new : Blocks V) → (before after : ObjectTree) → Array → Ks → (levels key : ℕ) → Name → (told : Bool) → Target → Type 0
OpenedLink view old new before after b ks levels key n told target =
    (t : Keyed) × Adds before after key n t × (IsTrue told → (met : List Block) → Keeps view old met → (u : Full) × IsOpenedAt b ks levels target t u × Keeps view new (met ++ blocks_of u))

pub opened_to : {V T E : Type 0} (view : V → SpaceView) (old new : Blocks V) (before after : ObjectTree) (b : Array) (ks : Ks) (levels key : ℕ) (n : Name) (told : Bool) (target other : Target) (r : Result T E) → target ≡ other
    → OnOk r (OpenedLink view old new before after b ks levels key n told target) → OnOk r (OpenedLink view old new before after b ks levels key n told other)
opened_to view old new before after b ks levels key n told target other r same h = subst (λ (x : Target). OnOk r (OpenedLink view old new before after b ks levels key n told x)) same h

-- all that was read of a group's links, after its B-tree and heap
abbrev pub OpenedEach : {V : Type 0} → (V → SpaceView) → (mid new : Blocks V) → (before after : ObjectTree) → Array → Ks → (levels key : ℕ) → (told : Bool) → List Found → Type 0
OpenedEach view mid new before after b ks levels key told fs = (kls : KeyedLinks) × Grows before after key kls × (IsTrue told → SoFar view mid new b ks levels kls fs)

abbrev pub OpenedGroup : {V : Type 0} → (V → SpaceView) → (old new : Blocks V) → (before after : ObjectTree) → Array → Ks → (levels key tree heap : ℕ) → (told : Bool) → Type 0
OpenedGroup view old new before after b ks levels key tree heap told =
    (kls : KeyedLinks) × Grows before after key kls × (IsTrue told → (met : List Block) → Keeps view old met → (index : List Block) × (ls : FullLinks) × HasLinks b ks tree heap (founds ls) index
    × IsSmallHeap b heap × AreOpened b ks levels kls ls × Keeps view new (met ++ (index ++ blocks_in ls)))

-- what was read of a group's B-tree and heap
abbrev pub TableRead : {V : Type 0} → (V → SpaceView) → (old mid : Blocks V) → Array → Ks → (tree heap : ℕ) → List Found → Type 0
TableRead view old mid b ks tree heap fs = (met : List Block) → Keeps view old met → (index : List Block) × HasLinks b ks tree heap fs index × IsSmallHeap b heap × Keeps view mid (met ++ index)

pub table_read : {V : Type 0} (view : V → SpaceView) (old mid : Blocks V) (b : Array) (ks : Ks) (tree heap : ℕ) (fs : List Found) → Takes view old mid (HasLinks b ks tree heap fs) → IsSmallHeap b heap → TableRead view old mid b ks tree heap fs
table_read view old mid b ks tree heap fs taken small met keeps =
    let (index, links, kept) = taken met keeps in
    (index, links, small, kept)

-- the names of the links that were read are those that are told
pub names_told : (links : List FoundLink) → AreOrdered (names_of (links_of links)) → AreOrdered (map (λ (l : FoundLink). l.name) links)
names_told links h = subst AreOrdered (names_same links) h
  where
    names_same : (ls : List FoundLink) → names_of (links_of ls) ≡ map (λ (l : FoundLink). l.name) ls
    names_same [] = refl
    names_same (l ∷ ls) = ap (λ (ns : List Name). l.name ∷ ns) (names_same ls)

pub group_from : {V T E : Type 0} (view : V → SpaceView) (old mid new : Blocks V) (before after : ObjectTree) (b c : Array) (ks : Ks) (levels key tree heap : ℕ) (told : Bool) (fs : List Found) (r : Result T E) → b ≡ c
    → (IsTrue told → TableRead view old mid b ks tree heap fs) → OnOk r (OpenedEach view mid new before after c ks levels key told fs) → OnOk r (OpenedGroup view old new before after b ks levels key tree heap told)
group_from view old mid new before after b c ks levels key tree heap told fs (Ok x) same table each = go (subst (λ (a : Array). OpenedEach view mid new before after a ks levels key told fs) (sym same) each)
  where
    go : OpenedEach view mid new before after b ks levels key told fs → OpenedGroup view old new before after b ks levels key tree heap told
    go (kls, grows, each) = (
      kls,
      grows,
      λ yes met keeps.
          let (index, links, small, kept) = table yes met keeps in
          let (ls, opened, is, kept') = each yes (met ++ index) kept in
          (index, ls, subst (λ (l : List Found). HasLinks b ks tree heap l index) (sym is) links, small, opened, subst (Keeps view new) (append_assoc met index (blocks_in ls)) kept'),
    )
group_from view old mid new before after b c ks levels key tree heap told fs (Err e) same table each = tt

-- refusals of a group's links
abbrev pub GroupRefused : {V : Type 0} → (V → SpaceView) → (old : Blocks V) → SpaceView → Ks → (levels objects tree heap : ℕ) → Stop → Type 0
GroupRefused view old v ks levels objects tree heap stop =
    (met : List Block) (own : Option (List ℕ)) → Keeps view old met → IfSome (refusal_of stop) (IsGroupRefused v.array (bounds_of v own) ks levels objects met tree heap)

pub table_refused : {V : Type 0} (view : V → SpaceView) (old : Blocks V) (v : SpaceView) (ks : Ks) (levels objects tree heap : ℕ) (stop : Stop)
    → ((met : List Block) (own : Option (List ℕ)) → Keeps view old met → IfSome (refusal_of stop) (IsTableRefused v.array (bounds_of v own) ks met tree heap)) → GroupRefused view old v ks levels objects tree heap stop
table_refused view old v ks levels objects tree heap stop h met own keeps =
    if_some (refusal_of stop) (IsTableRefused v.array (bounds_of v own) ks met tree heap) (IsGroupRefused v.array (bounds_of v own) ks levels objects met tree heap) (λ r x. inl x) (h met own keeps)

abbrev pub EachRefused : {V : Type 0} → (V → SpaceView) → (mid : Blocks V) → SpaceView → Ks → (levels objects : ℕ) → List Found → Stop → Type 0
EachRefused view mid w ks levels objects fs stop =
    (met : List Block) (own : Option (List ℕ)) → Keeps view mid met → IfSome (refusal_of stop)
    (AreLinksRefused (IsObjectRefused w.array (bounds_of w own) ks levels) w.array (bounds_of w own) ks levels objects met fs)

pub each_refused : {V T : Type 0} (view : V → SpaceView) (old mid : Blocks V) (v w : SpaceView) (ks : Ks) (levels objects tree heap : ℕ) (fs : List Found) (r : Result T Stop) → v ≡ w → v ≡ view (space_of mid) → TableRead view old mid v.array ks tree heap fs
    → IfErr r (EachRefused view mid w ks levels objects fs) → IfErr r (GroupRefused view old v ks levels objects tree heap)
each_refused view old mid v w ks levels objects tree heap fs (Ok x) same now table h = tt
each_refused view old mid v w ks levels objects tree heap fs (Err stop) same now table h = λ met own keeps.
    let (index, links, small, kept) = table met keeps in
    let h' : EachRefused view mid v ks levels objects fs stop = subst (λ (a : SpaceView). EachRefused view mid a ks levels objects fs stop) (sym same) h in
    if_some (refusal_of stop)
    (AreLinksRefused (IsObjectRefused v.array (bounds_of v own) ks levels) v.array (bounds_of v own) ks levels objects (met ++ index) fs) (IsGroupRefused v.array (bounds_of v own) ks levels objects met tree heap)
    (λ r x. inr (fs, index, links, taken_over view mid v met index own now kept, small, x)) (h' (met ++ index) own kept)

-- ---- an object and all below it

pub object_from : {V T E : Type 0} (view : V → SpaceView) (old mid new : Blocks V) (before linked after : ObjectTree) (b c : Array) (ks : Ks) (levels at group key tree heap : ℕ) (name : Name) (n : Node) (told : Bool) (r : Result T E) → b ≡ c → 1 ≤ levels
    → table_of n ≡ Some (record { tree_at = tree; heap_at = heap }) → IsThere before linked group → Inserts before linked group name key n
    → (IsTrue told → (met : List Block) → Keeps view old met → (own : List Block) × IsNodeFound b ks at n own × Keeps view mid (met ++ own))
    → OnOk r (OpenedGroup view mid new linked after c ks (levels - 1) key tree heap told) → OnOk r (OpenedLink view old new before after b ks levels group name told (Header at))
object_from view old mid new before linked after b c ks levels at group key tree heap name n told (Ok x) same some table there ins read links =
    go (subst (λ (a : Array). OpenedGroup view mid new linked after a ks (levels - 1) key tree heap told) (sym same) links)
  where
    go : OpenedGroup view mid new linked after b ks (levels - 1) key tree heap told → OpenedLink view old new before after b ks levels group name told (Header at)
    go (kls, grows, rest) = (
      Group (record { key = key; node = n }) kls,
      adds_group before linked after group name key n kls there ins (table_group n tree heap table) grows,
      λ yes met keeps.
          let (own, found, kept) = read yes met keeps in
          let (index, ls, has, small, opened, kept') = rest yes (met ++ own) kept in
          group_opened view new b ks levels at key tree heap n kls met own index ls some table found has small opened kept',
    )
object_from view old mid new before linked after b c ks levels at group key tree heap name n told (Err e) same some table there ins read links = tt

abbrev pub ObjectRefused : {V : Type 0} → (V → SpaceView) → (old : Blocks V) → SpaceView → Ks → (levels objects at : ℕ) → Stop → Type 0
ObjectRefused view old v ks levels objects at stop = (met : List Block) (own : Option (List ℕ)) → Keeps view old met → IfSome (refusal_of stop) (IsObjectRefused v.array (bounds_of v own) ks levels objects met at)

pub object_refused : {V T : Type 0} (view : V → SpaceView) (old mid : Blocks V) (v w : SpaceView) (ks : Ks) (levels objects count at tree heap : ℕ) (n : Node) (r : Result T Stop) → v ≡ w → v ≡ view (space_of mid) → objects < 65536 → 1 ≤ levels → table_of n ≡ Some (record { tree_at = tree; heap_at = heap }) → count ≡ objects + 1
    → ((met : List Block) → Keeps view old met → (own : List Block) × IsNodeFound v.array ks at n own × Keeps view mid (met ++ own))
    → IfErr r (GroupRefused view mid w ks (levels - 1) count tree heap) → IfErr r (ObjectRefused view old v ks levels objects at)
object_refused view old mid v w ks levels objects count at tree heap n (Ok x) same now few some table counted read h = tt
object_refused view old mid v w ks levels objects count at tree heap n (Err stop) same now few some table counted read h = λ met own keeps.
    let (bs, found, kept) = read met keeps in
    let h' : GroupRefused view mid v ks (levels - 1) count tree heap stop = subst (λ (a : SpaceView). GroupRefused view mid a ks (levels - 1) count tree heap stop) (sym same) h in
    if_some (refusal_of stop) (IsGroupRefused v.array (bounds_of v own) ks (levels - 1) count (met ++ bs) tree heap) (IsObjectRefused v.array (bounds_of v own) ks levels objects met at)
    (λ r x. group_refused v.array (bounds_of v own) ks levels objects count at tree heap n met bs r few some (taken_over view mid v met bs own now kept) table found counted x) (h' (met ++ bs) own kept)
