-- A group in the bytes of a file, and the entry of a new link.
-- HDF5 File Format Specification 3.0, III.C. Cited by what plans an edit of a group.
use Rattle.std.specs.Prelude.{◌≡◌, ◌≢◌, ℕ, ◌≤◌, List, length, All}
use Rattle.std.specs.List.{Contains}
use Rattle.std.specs.declared.option.Option.{Option}
use Rattle.std.specs.declared.option.Option.TheVariants.{Some, None}
use Rattle.outside.specs.Array.{Array, bytes_of}
use Rattle.outside.specs.Blocks.{Block}
use Rattle.node_codec.specs.declared.snod.SnodEntry.{SnodEntry}
use Rattle.object_model.specs.Tree.{Name}
use Rattle.file_model.specs.Groups.{Found, HasLinks}
use Rattle.group_rows.specs.declared.group.GroupAt.{GroupAt}
use Rattle.group_edit.specs.declared.target.NewTarget.{NewTarget}

-- the bytes hold the group, with these links and these blocks
abbrev pub HoldsGroup : Array → GroupAt → List Found → List Block → Type 0
HoldsGroup b g fs bs = HasLinks b g.ks g.tree_at g.heap_at fs bs

-- the bytes of its heap's segment
abbrev pub segment_in : (b : Array) (g : GroupAt) (fs : List Found) (bs : List Block) → HoldsGroup b g fs bs → List ℕ
segment_in b g fs bs h = bytes_of b h.head.segment_at h.head.len

-- Of a group the addresses of its table are cached, of another object nothing is.
abbrev pub cached : (name_at header_at : ℕ) → Option GroupAt → SnodEntry
cached name_at header_at None =
    record { name_at = name_at; header_at = header_at; cache = 0; tree_at = 0; heap_at = 0 }
cached name_at header_at (Some g) =
    record { name_at = name_at; header_at = header_at; cache = 1; tree_at = g.tree_at; heap_at = g.heap_at }

-- the entry of a new link whose name stands at an offset of the heap
abbrev pub entry_to : ℕ → NewTarget → SnodEntry
entry_to name_at t = cached name_at t.header_at t.group

-- a name that a link may get: 1 to 255 bytes, none of them 0
pub record IsNewName (name : Name) : Type 0 where
  pub some : 1 ≤ length name
  pub most : length name ≤ 255
  pub no_nul : All (λ c. c ≢ 0) name

-- one of the links has this name
pub record HasName (fs : List Found) (name : Name) : Type 0 where
  pub link : Found
  pub one : Contains fs link
  pub is : link.name ≡ name
