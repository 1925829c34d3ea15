-- Blocks of one level as they are added to those of the levels below. Cited by the parts of `lay`.
use Rattle.std.specs.Prelude.{◌≡◌, ℕ, ◌+◌, ◌*◌, ◌^◌, ◌<◌, List, [], ◌∷◌, ◌++◌, length, take, drop, map}
use Rattle.outside.specs.Array.{Array}
use Rattle.outside.specs.Blocks.{Block}
use Rattle.h5_base.specs.declared.extent.MemClass.TheVariants as class
use Rattle.h5_base.specs.declared.kinds.BlockKind.{BlockKind}
use Rattle.block_space.specs.declared.plan.Take.{Take}
use Rattle.node_codec.specs.Snod.{SpellsSnod}
use Rattle.node_codec.specs.GroupNodes.{SpellsGroupNode}
use Rattle.node_codec.specs.declared.snod.SnodEntry.{SnodEntry}
use Rattle.node_codec.specs.declared.group_node.GroupNode.{GroupNode}
use Rattle.file_model.specs.Groups.{Ks}
use Rattle.plan_pieces.specs.Images.{HaveImages, image_blocks, images_of, takes_of}
use Rattle.plan_pieces.specs.declared.image.Image.{Image}
use Rattle.plan_pieces.specs.declared.image.NewBlock.{NewBlock}
use Rattle.group_layout.specs.Nodes.{AllNodesSpelled}
use Rattle.group_room.specs.Index.{addresses}
use Rattle.group_layout.specs.Laying.{ats_of, old_nodes, new_nodes, node_takes}
use Rattle.group_layout.specs.declared.row.Row.{Row}
use Rattle.group_layout.specs.declared.row.Laid.{Laid}

-- the block of a node
pub record IsNodeImage (k at : ℕ) (n : GroupNode) (image : Image) : Type 0 where
  pub address : image.at ≡ at
  pub spelled : SpellsGroupNode k n image.bytes

-- and of a symbol table node
pub record IsLeafImage (k at : ℕ) (es : List SnodEntry) (image : Image) : Type 0 where
  pub address : image.at ≡ at
  pub spelled : SpellsSnod k es image.bytes

-- a block that is taken for a node
abbrev pub filled : BlockKind → Image → NewBlock
filled kind image = record { class = class.Tree; kind = kind; image = image }

-- Images are placed, so many of them where nodes are.
pub record IsPlaced (kind : BlockKind) (count : ℕ) (images : List Image) (before after : Laid) : Type 0 where
  pub writes : after.writes.items ≡ before.writes.items ++ take count images
  pub fills : after.fills.items ≡ before.fills.items ++ map (filled kind) (drop count images)

-- the bytes of all blocks
abbrev pub laid_images : Laid → List Image
laid_images l = l.writes.items ++ images_of l.fills.items

-- To some blocks others are added, of which these are there and those are taken.
pub record Adds (before after : Laid) (there taken : List Block) (ts : List Take) : Type 0 where
  pub writes : image_blocks after.writes.items ≡ image_blocks before.writes.items ++ there
  pub blocks : image_blocks (images_of after.fills.items) ≡ image_blocks (images_of before.fills.items) ++ taken
  pub takes : takes_of after.fills.items ≡ takes_of before.fills.items ++ ts
  pub keeps : (b : Array) → HaveImages b (laid_images after) → HaveImages b (laid_images before)

-- The nodes of rows over this level are spelled, where those of all further rows over them are.
abbrev pub AreSpelledBelow : Array → Ks → (rows : List (List ℕ)) → (keys below over_keys over : List ℕ) → Type 0
AreSpelledBelow b ks rows keys below over_keys over = (more : List (List ℕ))
    → AllNodesSpelled b ks (length rows) more over_keys over → AllNodesSpelled b ks 0 (rows ++ more) keys below

-- Rows of B-tree nodes are laid over a level: what is added, and what it spells.
pub record AreLaid (ks : Ks) (rows : List Row) (before after : Laid) (keys below over_keys over : List ℕ) : Type 0 where
  pub adds : Adds before after (old_nodes ks rows) (new_nodes ks rows) (node_takes ks rows)
  pub spelled : (b : Array) → HaveImages b (laid_images after)
      → AreSpelledBelow b ks (map ats_of rows) keys below over_keys over

-- Above some rows stands one of two nodes that are taken.
pub record EndsInPair (at step : ℕ) (rows more : List Row) : Type 0 where
  pub pair : List ℕ
  pub more_is : more ≡ rows ++ record { old = []; new = pair } ∷ []
  pub two : length pair ≡ 2
  pub are : at + step * length pair < 2 ^ 64 → pair ≡ addresses at step (length pair)
