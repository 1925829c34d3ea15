-- Worked examples: what the first lines over an empty file take, where its region ends then, and what they are
-- answered. Each is the clause of a small public function of this crate.
use Rattle.std.specs.Prelude.{◌≤◌, ◌≡◌, ◌↔◌, ℕ, ◌^◌, ◌<◌, false, true, List, [], ◌∷◌, ◌++◌, length, replicate}
use Rattle.std.specs.Prelude.{ℤ, map, pos, codes, Some, None}
use Rattle.std.specs.Int.{w64, to_le_bytes}
use Rattle.h5_base.specs.Fields.{undefined}
use Rattle.h5_base.specs.declared.extent.MemClass.{MemClass}
use Rattle.h5_base.specs.declared.extent.MemClass.TheVariants as class
use Rattle.h5_base.specs.declared.extent.Region.{Region}
use Rattle.h5_base.specs.declared.kinds.BlockKind.TheVariants as kind
use Rattle.outside.specs.Array.{Array, array_of, over, bytes_of}
use Rattle.block_space.specs.declared.plan.Take.{Take}
use Rattle.block_space.specs.Plans.{HasRoomFor, IsFirstShort}
use Rattle.dtype.specs.declared.types.Pad.{Pad}
use Rattle.dtype.specs.declared.types.ElemType.{ElemType}
use Rattle.dtype.specs.declared.types.ElemType.TheVariants as elem
use Rattle.dtype.specs.declared.types.Value.{Value}
use Rattle.super_codec.specs.declared.superblock.Superblock.{Superblock}
use Rattle.header_codec.specs.declared.types.Layout.TheVariants as layout
use Rattle.object_model.specs.declared.command.Command.{Command}
use Rattle.object_model.specs.declared.command.Command.TheVariants as command
use Rattle.object_model.specs.declared.answer.Answer.{Answer}
use Rattle.object_model.specs.declared.answer.Answer.TheVariants as answer
use Rattle.object_model.specs.declared.answer.Code.TheVariants as code
use Rattle.object_model.specs.Tree.{Group, Leaf, Empty, Link, Name}
use Rattle.file_model.specs.Groups.{Ks, index_offsets}
use Rattle.file_model.specs.Holds.{GroupAt, DataAt, DataLeaf, Full}
use Rattle.group_room.specs.Room.{group_takes, header_take, heap_take, leaf_take}
use Rattle.group_room.specs.Used.{IsUsedLen, segment_takes}
use Rattle.session_model.specs.Room.{Takes, raw_take}
use Rattle.session_model.specs.TooLarge.{IsTooLarge, IsFillOver, IsDataOver, IsBoxOver}
use Rattle.session_model.specs.EndFields.{member_end_at, HasEndFields}
use Rattle.session_model.specs.State.{Setting, State, need, needs_of, risen, view_of}
use Rattle.session_model.specs.Line.{Line}
use Rattle.session_model.specs.Runs.{AnswersAll}
use Rattle.session_model.specs.GroupFile.{empty_bytes, empty_ks, empty_tree, empty_index, empty_state, group_bytes}
use Rattle.session_model.specs.GroupFile.{group_index, group_state, flushed_state, written_state, committed_state}

-- one region up to a limit
abbrev pub one_region_to : ℕ → Setting
one_region_to limit = record { regions = λ c. record { start = 0; limit = limit }; writable = true; own = None }

abbrev pub plain_file : Setting
plain_file = one_region_to (2 ^ 48)

-- ---- a first group: mkgroup /g

abbrev pub mkgroup_g : Command
mkgroup_g = command.Mkgroup ((103 ∷ []) ∷ [])

-- the blocks of the new group, and a symbol table node of the root group
abbrev pub mkgroup_takes : List Take
mkgroup_takes = group_takes empty_ks ++ leaf_take empty_ks ∷ []

-- they have these lengths
abbrev pub GroupLengths : Type 0
GroupLengths = map (λ (t : Take). t.len) mkgroup_takes ≡ 40 ∷ 544 ∷ 32 ∷ 88 ∷ 328 ∷ []

-- it takes just these blocks
abbrev pub GroupTakes : Type 0
GroupTakes = (ts : List Take) → Takes empty_bytes empty_ks empty_tree mkgroup_g ts ↔ (ts ≡ mkgroup_takes)

-- and the region ends at 1832
abbrev pub GroupEnds : Type 0
GroupEnds = ((c : MemClass) → risen plain_file (λ d. 800) mkgroup_takes c ≡ 1832)
    × HasRoomFor (view_of plain_file empty_state) 5 (needs_of mkgroup_takes)

-- in a region of 800 bytes 1032 are wanting
abbrev pub GroupFull : Type 0
GroupFull = IsFirstShort (view_of (one_region_to 800) empty_state) (needs_of mkgroup_takes) class.Super
    × (need (one_region_to 800) mkgroup_takes class.Super ≡ 1032)

-- ---- two regions: Raw from 1048576 to 2097152, and all other classes below it

abbrev pub region_of_two : MemClass → Region
region_of_two class.Raw = record { start = 1048576; limit = 2097152 }
region_of_two c = record { start = 0; limit = 1048576 }

abbrev pub two_regions : Setting
two_regions = record { regions = region_of_two; writable = true; own = None }

abbrev pub split_state : State
split_state = record empty_state { ends = λ c. (region_of_two c).start }

-- a dataset of 2097152 bytes doesn't fit into Raw, and other classes' blocks don't count there
abbrev pub RawFull : Type 0
RawFull = let ts = header_take 112 ∷ raw_take 2097152 ∷ [] in
    IsFirstShort (view_of two_regions split_state) (needs_of ts) class.Raw
    × (need two_regions ts class.Raw ≡ 2097152)
    × (need two_regions ts class.Tree ≡ 112)

-- ---- the root's segment of 88 bytes

-- The empty name takes 8 bytes, and the name of the first group 8 more. A name of 8 bytes at 8 ends behind its NUL.
abbrev pub UsedLengths : Type 0
UsedLengths = IsUsedLen (bytes_of empty_bytes 712 88) (index_offsets empty_index) 8
    × IsUsedLen (bytes_of group_bytes 712 88) (index_offsets group_index) 16
    × IsUsedLen (replicate 8 0 ++ replicate 8 97 ++ replicate 8 0) (8 ∷ []) 24

-- A first name of at most 79 bytes fits with its NUL. A longer one takes a new segment: twice the old size, or what it
-- needs.
abbrev pub Segments : Type 0
Segments = (name : Name) → (length name ≤ 79 → segment_takes 8 88 name ≡ [])
    × (length name ≡ 80 → segment_takes 8 88 name ≡ heap_take 176 ∷ [])
    × (length name ≡ 200 → segment_takes 8 88 name ≡ heap_take 216 ∷ [])

-- ---- a first dataset: mkdata /c u8le 3

abbrev pub byte : ElemType
byte = elem.Int 1 false false

abbrev pub mkdata_c : Command
mkdata_c = command.Mkdata ((99 ∷ []) ∷ []) byte (3 ∷ []) None None None

abbrev pub data_takes : List Take
data_takes = record { class = class.Header; len = 112; kind = kind.Header }
    ∷ record { class = class.Tree; len = 328; kind = kind.Snod } ∷ []

abbrev pub DataTakes : Type 0
DataTakes = (ts : List Take) → Takes empty_bytes empty_ks empty_tree mkdata_c ts ↔ (ts ≡ data_takes)

abbrev pub DataEnds : Type 0
DataEnds = (c : MemClass) → risen plain_file (λ d. 800) data_takes c ≡ 1240

-- ---- its first write, of any of its bytes: write /c START COUNT ..

abbrev pub write_takes : List Take
write_takes = record { class = class.Raw; len = 3; kind = kind.Raw } ∷ []

-- a dataset of three bytes without an address, linked alone
pub record IsNewData (d : DataAt) : Type 0 where
  pub elem : d.info.elem ≡ byte
  pub dims : d.info.shape.dims ≡ 3 ∷ []
  pub layout : d.info.layout ≡ layout.Contiguous undefined 3

abbrev pub tree_with : GroupAt → DataAt → Full
tree_with g d = Group g (Link (99 ∷ []) (Leaf (DataLeaf d)) Empty)

-- its first byte is written: the whole is taken, and rounded up
abbrev pub WriteTakes : Type 0
WriteTakes = (b : Array) (ks : Ks) (g : GroupAt) (d : DataAt) (values : List Value) (ts : List Take) → IsNewData d
    → Takes b ks (tree_with g d) (command.Write ((99 ∷ []) ∷ []) (0 ∷ []) (1 ∷ []) values) ts ↔ (ts ≡ write_takes)

abbrev pub WriteEnds : Type 0
WriteEnds = (c : MemClass) → risen plain_file (λ d. 1240) write_takes c ≡ 1248

-- and nothing where the box has no element
abbrev pub EmptyBoxTakes : Type 0
EmptyBoxTakes = (b : Array) (ks : Ks) (g : GroupAt) (d : DataAt) (values : List Value) (ts : List Take) → IsNewData d
    → Takes b ks (tree_with g d) (command.Write ((99 ∷ []) ∷ []) (2 ∷ []) (0 ∷ []) values) ts ↔ (ts ≡ [])

-- ---- a first chunk: mkdata /c i32le 5,5 chunk 2,2, and write /c 4,4 1,1 ..

-- a dataset of five by five numbers in chunks of two by two, without an index, linked alone
pub record IsNewChunked (d : DataAt) : Type 0 where
  pub elem : d.info.elem ≡ elem.Int 4 true false
  pub dims : d.info.shape.dims ≡ 5 ∷ 5 ∷ []
  pub layout : d.info.layout ≡ layout.Chunked undefined (2 ∷ 2 ∷ 4 ∷ [])
  pub chunks : d.chunks ≡ []

-- the last element lies in one chunk of 16 bytes, and the new index is one node
abbrev pub chunk_takes : List Take
chunk_takes = record { class = class.Raw; len = 16; kind = kind.Raw }
    ∷ record { class = class.Tree; len = 2616; kind = kind.Tree } ∷ []

abbrev pub ChunkTakes : Type 0
ChunkTakes = (b : Array) (g : GroupAt) (d : DataAt) (values : List Value) (ts : List Take) → IsNewChunked d
    → Takes b empty_ks (tree_with g d) (command.Write ((99 ∷ []) ∷ []) (4 ∷ 4 ∷ []) (1 ∷ 1 ∷ []) values) ts ↔
    (ts ≡ chunk_takes)

-- ---- answers

-- a first group is made, and a second of the same name is not
abbrev pub TwoAnswers : Type 0
TwoAnswers = (new : State) (moments left : List ℤ) (answers : List Answer)
    → AnswersAll (λ c. true) plain_file empty_state moments (Some mkgroup_g ∷ Some mkgroup_g ∷ []) new left answers
    → answers ≡ answer.Done ∷ answer.No code.Exists ∷ []

-- the first group's line is done, and leads to the state over the file with it
abbrev pub GroupLine : Type 0
GroupLine = (secs : ℤ) → Line plain_file empty_state mkgroup_g secs group_state answer.Done

-- a flush behind it writes the end field
abbrev pub FlushLine : Type 0
FlushLine = (secs : ℤ) → Line plain_file group_state command.Flush secs flushed_state answer.Done

-- beneath revisions a commit behind it does so too, and makes revision 1 of one page
abbrev pub CommitLine : Type 0
CommitLine = Line plain_file written_state (command.Commit (codes "one")) (pos 0) committed_state (answer.Committed 1 1)

-- where the region has 800 bytes, the group is refused
abbrev pub FullAnswer : Type 0
FullAnswer = (secs : ℤ) (new : State) (a : Answer) → Line (one_region_to 800) empty_state mkgroup_g secs new a
    → (a ≡ answer.Full 800 1032) × (new ≡ empty_state)

-- ---- limits

-- one object more in the empty file: up to depth 32
abbrev pub DepthLimit : Type 0
DepthLimit = (p : List Name) → IsTooLarge empty_tree (command.Mkgroup p) ↔ (32 < length p)

-- a fill value of a string: up to 65,520 bytes
abbrev pub FillLimit : Type 0
FillLimit = (size : ℕ) (pad : Pad) (v : Value) → IsFillOver (elem.Text size pad) (Some v) ↔ (65520 < size)

-- a contiguous dataset of bytes: up to 2^30
abbrev pub ContiguousLimit : Type 0
ContiguousLimit = (n : ℕ) → IsDataOver byte (n ∷ []) None None ↔ (2 ^ 30 < n)

-- a chunked one of bytes: up to 2^40, in chunks of up to 2^24
abbrev pub ChunkedLimit : Type 0
ChunkedLimit = (n : ℕ) → IsDataOver byte (n ∷ []) (Some (16 ∷ [])) None ↔ (2 ^ 40 < n)

abbrev pub ChunkLimit : Type 0
ChunkLimit = (n : ℕ) → IsDataOver byte (1 ∷ []) (Some (n ∷ [])) None ↔ (2 ^ 24 < n)

-- up to 32 dimensions
abbrev pub RankLimit : Type 0
RankLimit = (n : ℕ) → IsDataOver byte (replicate n 1) None None ↔ (32 < n)

-- a box of bytes: up to 65,536 elements; one of strings of 1,000 bytes: up to 1,048, which are 1,048,000 bytes
abbrev pub BoxLimit : Type 0
BoxLimit = (d : DataAt) (pad : Pad) (n : ℕ) → (d.info.elem ≡ byte → IsBoxOver d (n ∷ []) ↔ (65536 < n))
    × (d.info.elem ≡ elem.Text 1000 pad → IsBoxOver d (n ∷ []) ↔ (1048 < n))

-- an extended dataset of bytes: up to 2^40
abbrev pub ExtendLimit : Type 0
ExtendLimit = (g : GroupAt) (d : DataAt) (n : ℕ) → d.info.elem ≡ byte
    → IsTooLarge (tree_with g d) (command.Extend ((99 ∷ []) ∷ []) (n ∷ [])) ↔ (2 ^ 40 < n)

-- ---- end fields

-- a driver information block at 96 whose classes lie in these members
abbrev pub block_with : List ℕ → Array
block_with members = array_of (replicate 112 0 ++ members)

-- of two members: all classes but Raw lie in the first
abbrev pub TwoMembers : Type 0
TwoMembers = let b = block_with (1 ∷ 1 ∷ 3 ∷ 3 ∷ 1 ∷ 1 ∷ []) in
    (member_end_at b 96 class.Super ≡ 128) × (member_end_at b 96 class.Raw ≡ 144)
    × (member_end_at b 96 class.Header ≡ 128)

-- of six: one for each class
abbrev pub SixMembers : Type 0
SixMembers = let b = block_with (1 ∷ 2 ∷ 3 ∷ 4 ∷ 5 ∷ 6 ∷ []) in
    (member_end_at b 96 class.Super ≡ 128) × (member_end_at b 96 class.Raw ≡ 160)
    × (member_end_at b 96 class.Header ≡ 208)

-- with 1832 in its end field the file with one group tells where it ends
abbrev pub RightEnd : Type 0
RightEnd = (s : Superblock) → s.version ≡ 0 → HasEndFields plain_file.regions None s (λ c. 1832) (over group_bytes 40
    (to_le_bytes w64 1832))
