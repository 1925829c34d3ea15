-- Laws of the tree that an object tree shows.
-- Each is the clause of a small public function of this crate.
use Rattle.std.specs.Prelude.{◌≡◌, ℕ, true, List, [], Option, Some, None, Ok}
use Rattle.object_model.specs.Tree.{Group, Name, walk, find}
use Rattle.tree_nodes.specs.declared.node.NodeId.{NodeId}
use Rattle.tree_nodes.specs.declared.tree.ObjectTree.{ObjectTree}
use Rattle.tree_nodes.specs.Nodes.{Kept, is_dataset}
use Rattle.tree_nodes.specs.Entries.{entry_of, Has, HasDataset, LacksLink, HasLooseLink}
use Rattle.tree_nodes.specs.Shown.{Placed, Keyed, KeyedLinks, Shows, key_of, node_of, links_of, kept_of, HasKey}
use Rattle.tree_nodes.specs.Shown.{AreKept}

-- one tree is shown at most
abbrev pub OneTree : Type 0
OneTree = (kept : ObjectTree) (t u : Keyed) → Shows kept t → Shows kept u → t ≡ u

-- what a path leads to is kept under its key
abbrev pub EntryShown : Type 0
EntryShown = (kept : ObjectTree) (t u : Keyed) (p : List Name) → Shows kept t → walk t p ≡ Ok u
    → entry_of kept (key_of u) ≡ Some (kept_of u)

-- what is kept of a tree depends on what stands under its own keys alone
abbrev pub KeptFrame : Type 0
KeptFrame = (at at' : ℕ → Option Kept) (t : Keyed) → ((k : ℕ) → HasKey t k → at' k ≡ at k) → AreKept at t
    → AreKept at' t

-- ---- what a path leads to is what the calls ask for

abbrev pub HasShown : Type 0
HasShown = (kept : ObjectTree) (id : NodeId) (t u : Keyed) (p : List Name) → Shows kept t → walk t p ≡ Ok u
    → key_of u ≡ id.key → Has kept id

abbrev pub LacksShown : Type 0
LacksShown = (kept : ObjectTree) (id : NodeId) (t : Keyed) (p : List Name) (x : Placed) (ls : KeyedLinks) (name : Name)
    → Shows kept t → walk t p ≡ Ok (Group x ls) → x.key ≡ id.key
    → find ls name ≡ None → LacksLink kept id name

abbrev pub LooseShown : Type 0
LooseShown = (kept : ObjectTree) (id : NodeId) (t : Keyed) (p : List Name) (x : Placed) (ls : KeyedLinks) (v : Keyed)
    (name : Name) → Shows kept t → walk t p ≡ Ok (Group x ls) → x.key ≡ id.key
    → find ls name ≡ Some v → links_of v ≡ [] → HasLooseLink kept id name

abbrev pub DatasetShown : Type 0
DatasetShown = (kept : ObjectTree) (id : NodeId) (t u : Keyed) (p : List Name) → Shows kept t → walk t p ≡ Ok u
    → key_of u ≡ id.key → is_dataset (node_of u) ≡ true → HasDataset kept id
