-- What a node is, what is kept of it, and lists of links in name order.
-- Cited by the contracts of the object tree, and by the definitions of its entries and its tree.
use Rattle.std.specs.Prelude.{◌≡◌, ℕ, Bool, true, false, List, [], ◌∷◌, map, Option, Some, None, if◌then◌else◌}
use Rattle.std.specs.Prelude.{slice_index_or, remove}
use Rattle.std.specs.List.{prefix_len}
use Rattle.header_codec.specs.declared.types.Layout.{Layout}
use Rattle.object_model.specs.Tree.{Name, name_lt, same_name}
use Rattle.tree_nodes.specs.declared.node.Node.{Node}
use Rattle.tree_nodes.specs.declared.node.Node.TheVariants as node
use Rattle.tree_nodes.specs.declared.node.NodeId.{NodeId}
use Rattle.tree_nodes.specs.declared.node.ChildLink.{ChildLink}

abbrev pub is_group : Node → Bool
is_group (node.Group header tree heap) = true
is_group (node.Dataset header shape elem fill layout filtered) = false
is_group (node.Soft text) = false
is_group (node.Other header) = false

abbrev pub is_dataset : Node → Bool
is_dataset (node.Group header tree heap) = false
is_dataset (node.Dataset header shape elem fill layout filtered) = true
is_dataset (node.Soft text) = false
is_dataset (node.Other header) = false

-- the node is an object: a soft link is none
abbrev pub is_object : Node → Bool
is_object (node.Group header tree heap) = true
is_object (node.Dataset header shape elem fill layout filtered) = true
is_object (node.Soft text) = false
is_object (node.Other header) = true

-- how many objects a node is
abbrev pub objects_at : Node → ℕ
objects_at n = if is_object n then 1 else 0

-- a dataset with another layout
abbrev pub with_layout : Layout → Node → Node
with_layout new (node.Group header tree heap) = node.Group header tree heap
with_layout new (node.Dataset header shape elem fill layout filtered) = node.Dataset header shape elem fill new filtered
with_layout new (node.Soft text) = node.Soft text
with_layout new (node.Other header) = node.Other header

-- a dataset with other sizes, and its maximum sizes as before
abbrev pub with_dims : List ℕ → Node → Node
with_dims dims (node.Group header tree heap) = node.Group header tree heap
with_dims dims (node.Dataset header shape elem fill layout filtered) = node.Dataset header
    (record shape { dims = dims }) elem fill layout filtered
with_dims dims (node.Soft text) = node.Soft text
with_dims dims (node.Other header) = node.Other header

-- what is kept of a node: what the file holds there, and its links
pub record Kept : Type 0 where
  pub node : Node
  pub links : List ChildLink

-- what is kept of a node without links
abbrev pub bare : Node → Kept
bare n = record { node = n; links = [] }

-- ---- lists of links

abbrev pub child_link : Name → ℕ → ChildLink
child_link name key = record { name = name; node = record { key = key } }

abbrev pub link_names : List ChildLink → List Name
link_names links = map (λ l. l.name) links

-- the node behind a name
abbrev pub find_link : List ChildLink → Name → Option NodeId
find_link [] name = None
find_link (l ∷ ls) name = if same_name l.name name then Some l.node else find_link ls name

-- the links with one more, before the first that comes after it
abbrev pub insert_link : List ChildLink → ChildLink → List ChildLink
insert_link [] l = l ∷ []
insert_link (m ∷ ms) l = if name_lt l.name m.name then l ∷ m ∷ ms else m ∷ insert_link ms l

-- the links without the one of this name
abbrev pub remove_link : List ChildLink → Name → List ChildLink
remove_link [] name = []
remove_link (l ∷ ls) name = if same_name l.name name then ls else l ∷ remove_link ls name

-- how many links come before the name
abbrev pub place_in : List ChildLink → Name → ℕ
place_in links name = prefix_len (λ l. name_lt l.name name) links

-- the link at this place is the one that has the name, or none has it
abbrev pub IsLinkAt : List ChildLink → Name → Option ℕ → Type 0
IsLinkAt links name None = (find_link links name ≡ None) × (remove_link links name ≡ links)
IsLinkAt links name (Some i) = (d : ChildLink) → (find_link links name ≡ Some (slice_index_or links i d).node)
    × (remove_link links name ≡ remove links i)
