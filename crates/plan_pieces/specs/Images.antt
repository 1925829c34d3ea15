-- Bytes that stand at their addresses, the ranges that they have, and the blocks that are taken for them.
-- Cited by what plans an edit.
use Rattle.std.specs.Prelude.{◌≡◌, List, [], ◌∷◌, length, map}
use Rattle.outside.specs.Array.{Array, bytes_of}
use Rattle.outside.specs.Blocks.{Block}
use Rattle.block_space.specs.declared.plan.Take.{Take}
use Rattle.plan_pieces.specs.declared.image.Image.{Image}
use Rattle.plan_pieces.specs.declared.image.NewBlock.{NewBlock}

-- each image stands at its address
abbrev pub HaveImages : Array → List Image → Type 0
HaveImages b [] = Unit {0}
HaveImages b (i ∷ is) = (bytes_of b i.at (length i.bytes) ≡ i.bytes) × HaveImages b is

-- the range of an image
abbrev pub image_block : Image → Block
image_block i = record { start = i.at; len = length i.bytes }

abbrev pub image_blocks : List Image → List Block
image_blocks = map image_block

-- the images of blocks that are taken
abbrev pub images_of : List NewBlock → List Image
images_of = map (λ n. n.image)

-- how a block is taken
abbrev pub take_of : NewBlock → Take
take_of n = record { class = n.class; len = length n.image.bytes; kind = n.kind }

abbrev pub takes_of : List NewBlock → List Take
takes_of = map take_of
