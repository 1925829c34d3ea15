use Rattle.std.proofs.Common.{ℕ, ap}
use Rattle.h5_base.specs.declared.bytes.Bytes.{Bytes}
use Rattle.h5_base.specs.declared.extent.MemClass.TheVariants.{Header}
use Rattle.h5_base.specs.declared.kinds.BlockKind.TheVariants as kind
use Rattle.plan_pieces.specs.declared.image.NewBlock.{NewBlock}
use Rattle.new_group.proofs.blocks.header_block.Goals as goal

-- the block with these bytes
abbrev with_bytes : (at : ℕ) → Bytes → NewBlock
with_bytes at bytes = record { class = Header; kind = kind.Header; image = record { at = at; bytes = bytes } }

pub returns : goal.returns
returns c = ap (with_bytes c.args.at) c.in_ok-bytes.ensures.bytes
