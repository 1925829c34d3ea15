-- An object tree that can be looked through and shown, whatever the file's bytes are: each link leads to a node, names
-- ascend, and the parts of each dataset fit one another, with shapes of one rank up to 32. Cited by `open_tree`, and
-- by what answers from an opened tree or edits it.
use Rattle.std.specs.Prelude.{◌≡◌, ℕ, List, [], ◌∷◌, None, Some}
use Rattle.super_codec.specs.Super.{Fits}
use Rattle.header_reader.specs.Told.{IsSoundNode}
use Rattle.object_model.specs.Tree.{AreOrdered}
use Rattle.tree_nodes.specs.Nodes.{Kept, link_names}
use Rattle.tree_nodes.specs.Entries.{entry_of, root_of, superblock_of, Has}
use Rattle.tree_nodes.specs.Shown.{Keyed, HasKey, Shows}
use Rattle.tree_nodes.specs.declared.node.ChildLink.{ChildLink}
use Rattle.tree_nodes.specs.declared.tree.ObjectTree.{ObjectTree}

-- each link leads to a node that is kept
abbrev pub LeadToNodes : ObjectTree → List ChildLink → Type 0
LeadToNodes kept [] = Unit {0}
LeadToNodes kept (l ∷ ls) = Has kept l.node × LeadToNodes kept ls

-- what is kept of one node
pub record IsSoundEntry (kept : ObjectTree) (e : Kept) : Type 0 where
  pub node : IsSoundNode e.node
  pub ordered : AreOrdered (link_names e.links)
  pub linked : LeadToNodes kept e.links

-- the root is kept, and what is kept of each node is sound
pub record HasSoundNodes (kept : ObjectTree) : Type 0 where
  pub root : Has kept (root_of kept)
  pub entries : (key : ℕ) (e : Kept) → entry_of kept key ≡ Some e → IsSoundEntry kept e

-- nothing is kept under another key than the tree's
abbrev pub KeepsOnly : ObjectTree → Keyed → Type 0
KeepsOnly kept t = (key : ℕ) → (HasKey t key → ⊥) → entry_of kept key ≡ None

-- The K values lie within their limits, and what is kept is a tree: no node is reached twice, and none is kept that
-- isn't reached.
pub record IsSoundTree (kept : ObjectTree) : Type 0 where
  pub k_values : Fits (superblock_of kept)
  pub nodes : HasSoundNodes kept
  pub tree : Keyed
  pub shown : Shows kept tree
  pub only : KeepsOnly kept tree
