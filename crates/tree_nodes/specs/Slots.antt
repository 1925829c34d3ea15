-- What a slab of nodes keeps: what stands under a key, and how many of the nodes are objects.
-- Cited by the object tree and by the entries that its contracts speak of.
use Rattle.std.specs.Prelude.{◌<◌, ℕ, Bool, false, List, Option, Some, None, count_by, vec_len, vec_capacity}
use Rattle.slab.specs.Slab.{Slab, get, HasRoomFor}
use Rattle.tree_nodes.specs.declared.entry.Entry.{Entry}
use Rattle.tree_nodes.specs.Nodes.{Kept, is_object}

abbrev pub holds_object : Option Entry → Bool
holds_object None = false
holds_object (Some e) = is_object e.node

unfoldable pub objects_in : List (Option Entry) → ℕ
objects_in slots = count_by holds_object slots

-- what is kept of an entry
abbrev pub kept_at : Option Entry → Option Kept
kept_at None = None
kept_at (Some e) = Some (record { node = e.node; links = e.links.items })

-- what is kept under a key, if there is a node
unfoldable pub kept_in : Slab Entry → ℕ → Option Kept
kept_in nodes key = kept_at (get nodes key)

-- the entry's links have room for one more
abbrev pub IsRoomy : Option Entry → Type 0
IsRoomy None = Unit {0}
IsRoomy (Some e) = vec_len e.links < vec_capacity e.links

-- there is room for one more link under the key, and for one more node
pub record IsRoomyAt (nodes : Slab Entry) (key : ℕ) : Type 0 where
  pub link : IsRoomy (get nodes key)
  pub node : HasRoomFor nodes 1
