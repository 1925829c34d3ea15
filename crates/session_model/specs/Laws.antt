-- Laws of how lines are answered. Each is the clause of a small public function of this crate.
use Rattle.std.specs.Prelude.{◌+◌, ◌%◌, ◌<◌, ◌≤◌, ◌⊎◌, ◌≡◌, ◌≢◌, ◌++◌, ℕ, ℤ, Bool, false, List, [], length}
use Rattle.std.specs.Prelude.{replicate, All, Option, None, Some, Err}
use Rattle.std.specs.List.{Contains}
use Rattle.h5_base.specs.Fields.{undefined}
use Rattle.h5_base.specs.declared.extent.MemClass.{MemClass}
use Rattle.outside.specs.Array.{Array}
use Rattle.outside.specs.Blocks.{Block}
use Rattle.outside.specs.Revisions.{Committed}
use Rattle.outside.specs.Space.{SpaceView}
use Rattle.block_space.specs.declared.plan.Take.{Take}
use Rattle.object_model.specs.declared.answer.Code.{Code}
use Rattle.object_model.specs.declared.command.Command.{Command}
use Rattle.object_model.specs.declared.answer.Answer.{Answer}
use Rattle.object_model.specs.declared.answer.Answer.TheVariants as answer
use Rattle.object_model.specs.Tree.{Name}
use Rattle.object_model.specs.Step.{Plain, after, step}
use Rattle.file_model.specs.Groups.{Ks}
use Rattle.file_model.specs.Holds.{DataAt, Full}
use Rattle.dtype.specs.Products.{product}
use Rattle.group_room.specs.Used.{IsUsedLen, Fits}
use Rattle.group_room.specs.Room.{HasRoom, LeafHasRoom, TakesName, tree_nodes, leaf_nodes, root_entries}
use Rattle.file_model.specs.Groups.{GroupIndex, index_offsets}
use Rattle.file_model.specs.Chunks.{IsRooted}
use Rattle.session_model.specs.Room.{Takes, TakesChunks, HasChunkRoom, chunk_nodes, is_taking, raw_take}
use Rattle.session_model.specs.State.{Plan, InReach, InTaken, IsHeld, Setting, State, full_of, tree_of, stack_of}
use Rattle.session_model.specs.Line.{Does, Line, is_done}
use Rattle.session_model.specs.Runs.{AnswersAll, Begins, Ran, AtEnd}

-- ---- answers

-- a refused line keeps the state
abbrev pub KeepsState : Type 0
KeepsState = (k : Setting) (s new : State) (c : Command) (secs : ℤ) (a : Answer) → Line k s c secs new a
    → is_done a ≡ false → new ≡ s

-- a line that the tree refuses is answered by that refusal
abbrev pub TreeRefuses : Type 0
TreeRefuses = (k : Setting) (s new : State) (c : Command) (secs : ℤ) (a : Answer) (why : Code)
    → step (stack_of k s) (tree_of s) c ≡ Err why → Line k s c secs new a → a ≡ answer.No why

-- the tree after a line that is done is the step's
abbrev pub TreeSteps : Type 0
TreeSteps = (k : Setting) (s new : State) (c : Command) (secs : ℤ) (a : Answer) → Line k s c secs new a
    → (new ≡ s) ⊎ (tree_of new ≡ after (step (stack_of k s) (tree_of s) c) (tree_of s))

-- lines behind one another are answered as all of them
abbrev pub AnswersJoin : Type 0
AnswersJoin = (given : Command → Bool) (k : Setting) (s middle new : State) (moments between left : List ℤ)
    (first later : List (Option Command)) (xs ys : List Answer)
    → AnswersAll given k s moments first middle between xs → AnswersAll given k middle between later new left ys
    → AnswersAll given k s moments (first ++ later) new left (xs ++ ys)

-- ---- what a line keeps

-- the bytes hold the tree after each line as they did before it
abbrev pub HoldsOn : Type 0
HoldsOn = (k : Setting) (s new : State) (c : Command) (secs : ℤ) (a : Answer) → Line k s c secs new a → IsHeld k s
    → IsHeld k new

-- two states of the same bytes and ends that hold their trees have one tree, in the same places
abbrev pub OneState : Type 0
OneState = (k : Setting) (s r : State) → IsHeld k s → IsHeld k r → s.array ≡ r.array → s.ends ≡ r.ends
    → (s.super ≡ r.super) × (full_of s ≡ full_of r)

-- no region ends earlier
abbrev pub EndsRise : Type 0
EndsRise = (k : Setting) (s new : State) (c : Command) (secs : ℤ) (a : Answer) → Line k s c secs new a
    → (class : MemClass) → s.ends class ≤ new.ends class

-- and none behind its limit
abbrev pub EndsFit : Type 0
EndsFit = (k : Setting) (s new : State) (c : Command) (secs : ℤ) (a : Answer) → Line k s c secs new a
    → ((class : MemClass) → s.ends class ≤ (k.regions class).limit)
    → (class : MemClass) → new.ends class ≤ (k.regions class).limit

-- ---- room

-- a name takes a segment, a symbol table node, and two B-tree nodes more than the root has levels, or fewer
abbrev pub NameTakesFew : Type 0
NameTakesFew = (ks : Ks) (index : GroupIndex) (level len : ℕ) (segment : List ℕ) (name : Name) (ts : List Take)
    → TakesName ks index level len segment name ts → length ts ≤ level + 4

-- nothing where it fits the segment and each node has room
abbrev pub NameTakesNone : Type 0
NameTakesNone = (ks : Ks) (index : GroupIndex) (level len used : ℕ) (segment : List ℕ) (name : Name) (ts : List Take)
    → TakesName ks index level len segment name ts
    → IsUsedLen segment (index_offsets index) used → Fits used len name → 0 < root_entries index
    → All (HasRoom ks) (tree_nodes index) → All (LeafHasRoom ks) (leaf_nodes index) → ts ≡ []

-- and at most a segment and a symbol table node where each node of the B-tree has room
abbrev pub NameTakesLeaf : Type 0
NameTakesLeaf = (ks : Ks) (index : GroupIndex) (level len : ℕ) (segment : List ℕ) (name : Name) (ts : List Take)
    → TakesName ks index level len segment name ts → All (HasRoom ks) (tree_nodes index) → length ts ≤ 2

-- each node of the index of a dataset has room for so many chunks
abbrev pub HasNodesWithRoom : Array → (k : ℕ) → DataAt → (tree : ℕ) → List ℕ → ℕ → Type 0
HasNodesWithRoom b k d tree sizes m = (blocks : List Block)
    (h : IsRooted b k (length d.info.shape.dims) sizes tree d.chunks blocks)
    → All (HasChunkRoom k m) (chunk_nodes h.index)

-- the chunks alone where each node of an index that is there has room for them
abbrev pub ChunksTakeNoNode : Type 0
ChunksTakeNoNode = (b : Array) (k tree : ℕ) (d : DataAt) (sizes start count : List ℕ) (ts : List Take)
    (x : TakesChunks b k d tree sizes start count ts) → tree ≢ undefined
    → HasNodesWithRoom b k d tree sizes (length x.offsets)
    → ts ≡ replicate (length x.offsets) (raw_take (product sizes))

-- a command takes nothing but `mkgroup`, `mkdata` and `write`
abbrev pub TakesNothing : Type 0
TakesNothing = (b : Array) (ks : Ks) (t : Full) (c : Command) (ts : List Take) → is_taking c ≡ false
    → Takes b ks t c ts → ts ≡ []

-- and is never answered `full`
abbrev pub NeverFull : Type 0
NeverFull = (k : Setting) (s new : State) (c : Command) (secs : ℤ) (end need : ℕ) → is_taking c ≡ false
    → ((class : MemClass) → s.ends class ≤ (k.regions class).limit)
    → Line k s c secs new (answer.Full end need) → ⊥

-- ---- the reach

-- Of a line that is done: a byte outside its reach and outside the blocks that it takes stays.
abbrev pub BytesStay : Type 0
BytesStay = (k : Setting) (s new : State) (c : Command) (p : Plan k s c) (t : Plain) → Does k s c p t new → (a : ℕ)
    → ¬ InReach k s c a → ¬ InTaken k s.ends p.takes a → new.array a ≡ s.array a

-- Each page that it writes was written before since the last commit, or has an address of the reach or of a taken
-- block.
abbrev pub PagesReached : Type 0
PagesReached = (k : Setting) (s new : State) (c : Command) (p : Plan k s c) (t : Plain) (m n : Committed)
    → Does k s c p t new → s.committed ≡ Some m → new.committed ≡ Some n → 0 < m.page → (q : ℕ)
    → Contains n.written q → Contains m.written q
    ⊎ ((a : ℕ) × (q ≤ a) × (a < q + m.page) × (InReach k s c a ⊎ InTaken k s.ends p.takes a))

-- Each page with a byte that changes, or with an address of a block that is taken, is written.
abbrev pub PagesCover : Type 0
PagesCover = (k : Setting) (s new : State) (c : Command) (p : Plan k s c) (t : Plain) (m n : Committed)
    → Does k s c p t new → s.committed ≡ Some m → new.committed ≡ Some n
    → (q a : ℕ) → q % m.page ≡ 0 → q ≤ a → a < q + m.page
    → (¬ Contains n.written q → new.array a ≡ s.array a) × (InTaken k s.ends p.takes a → Contains n.written q)

-- ---- a run

-- a run over an empty script prints nothing, and leaves the file as it was
abbrev pub RunsNothing : Type 0
RunsNothing = (given : Command → Bool) (v : SpaceView) (own : Option (List ℕ)) (s : State) (moments : List ℤ)
    (old : List ℕ) → v.committed ≡ None → Begins v own s
    → Ran given v own moments [] [] old old (record { array = v.array; ends = v.ends; revisions = [] }) AtEnd
