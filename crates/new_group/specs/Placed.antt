-- Where the blocks of a new group are to begin, behind what the same step takes before. Cited by what plans it.
use Rattle.std.specs.Prelude.{◌≡◌, ℕ, ◌+◌, ◌-◌, ◌^◌, min, List, [], ◌∷◌}
use Rattle.h5_base.specs.declared.extent.MemClass.{MemClass}
use Rattle.h5_base.specs.declared.extent.MemClass.TheVariants as class
use Rattle.outside.specs.Space.{SpaceView}
use Rattle.block_space.specs.Plans.{all_needed, rounded}
use Rattle.block_space.specs.declared.plan.Needs.{Needs}
use Rattle.file_model.specs.Groups.{Ks}
use Rattle.group_facts.specs.Places.{ends_ahead}
use Rattle.node_codec.specs.GroupNodes.{group_node_len}
use Rattle.plan_pieces.specs.Plan.{IsWithBlock}
use Rattle.plan_pieces.specs.declared.image.NewBlock.{NewBlock}
use Rattle.new_group.specs.Group.{header_fill, heap_fill, segment_fill, tree_fill}
use Rattle.new_group.specs.declared.places.Places.{Places}

-- a block of a class is told to begin where its region ends once this is taken, and is ahead then too
pub record IsNext (v : SpaceView) (class : MemClass) (len : ℕ) (ahead : Needs) (at : ℕ) (behind : Needs) : Type 0 where
  pub at_is : at ≡ min (ends_ahead v ahead class) (2 ^ 64 - 1)
  pub counted : IsWithBlock ahead class len behind
  pub sum : all_needed behind ≡ all_needed ahead + rounded len

-- the four blocks are told one behind the other
pub record ArePlaces (v : SpaceView) (ks : Ks) (ahead : Needs) (at : Places) (behind : Needs) : Type 0 where
  pub one : Needs
  pub two : Needs
  pub three : Needs
  pub header : IsNext v class.Header 40 ahead at.header_at one
  pub tree : IsNext v class.Tree (group_node_len ks.internal) one at.tree_at two
  pub heap : IsNext v class.LocalHeap 32 two at.heap_at three
  pub segment : IsNext v class.LocalHeap 88 three at.segment_at behind

-- the blocks at these places
abbrev pub group_fills : ℕ → Places → List NewBlock
group_fills k at = header_fill at.header_at at.tree_at at.heap_at ∷ tree_fill k at.tree_at
    ∷ heap_fill at.heap_at at.segment_at ∷ segment_fill at.segment_at ∷ []
