-- Laws of edits: what order names have, which blocks an edited tree has, and that the edited file is held. Each is the
-- clause of a small public function of this crate.
use Rattle.std.specs.Prelude.{◌≡◌, ◌↔◌, ℕ, ◌+◌, ◌-◌, ◌^◌, ◌<◌, ◌≤◌, false, List, [], ◌∷◌, ◌++◌, length, map}
use Rattle.std.specs.Prelude.{None, Some, Ok, ◌≢◌, ◌⊎◌}
use Rattle.std.specs.List.Sorted.{IsPermutation}
use Rattle.std.specs.Option.{option_map}
use Rattle.std.specs.Int.{w64, to_le_bytes}
use Rattle.outside.specs.Array.{Array, bytes_of, SameOutside}
use Rattle.h5_base.specs.Fields.{u64_at}
use Rattle.h5_base.specs.declared.extent.MemClass.TheVariants.{Super}
use Rattle.outside.specs.Blocks.{Block, Bounds, IsApart, AllApart, AreKept, Agree}
use Rattle.super_codec.specs.Super.{Spells, base_at, super_len}
use Rattle.super_codec.specs.declared.superblock.Superblock.{Superblock}
use Rattle.dtype.specs.Products.{FitsFile}
use Rattle.dtype.specs.Shapes.{SpellsShape}
use Rattle.dtype.specs.Types.{size_of}
use Rattle.dtype.specs.declared.types.ElemType.{ElemType}
use Rattle.dtype.specs.declared.types.Shape.{Shape}
use Rattle.header_codec.specs.Fills.{IsOfSize}
use Rattle.header_codec.specs.Layouts.{SpellsLayout, IsOfShape}
use Rattle.header_codec.specs.Written.{SpellsHeader, NewMessage}
use Rattle.header_codec.specs.declared.types.Fill.{Fill}
use Rattle.header_codec.specs.declared.types.Layout.{Layout}
use Rattle.header_codec.specs.declared.types.NewHeader.TheVariants as new
use Rattle.header_codec.specs.declared.types.Prefix.{Prefix}
use Rattle.object_model.specs.Tree.{Group, Name, names, AreOrdered, IsOrdered, find, walk, edit, insert}
use Rattle.object_model.specs.Tree.{remove, map_links, ◌>>=◌}
use Rattle.object_model.specs.Step.{Plain, PlainLinks}
use Rattle.file_model.specs.Headers.{Met, Part, IsHeader, messages_of, header_blocks}
use Rattle.file_model.specs.Objects.{DataInfo, IsGroupHeader, IsDataHeader, fill_bytes, first_of, has}
use Rattle.file_model.specs.Groups.{Ks, Found, HasLinks}
use Rattle.file_model.specs.Holds.{Full, FullLinks, GroupAt, IsHeld, blocks_of, blocks_in, founds, target_of, plain}
use Rattle.file_model.specs.Holds.{object_of, ks_of, super_bytes_of, HoldsFull, Holds, DataAt, IsGroup, IsData}
use Rattle.file_model.specs.Chunks.{Chunk, IsStoredBy, elements_of}
use Rattle.file_model.specs.Laws.{beside, Rises, all_blocks}

-- the names of each group of a tree that is held ascend
abbrev pub HeldOrder : Type 0
HeldOrder = (b : Array) (ks : Ks) (t : Full) → IsHeld b ks t → IsOrdered t

-- ---- blocks

-- the blocks of a tree are those beside a path and those of what the path leads to
abbrev pub PathBlocks : Type 0
PathBlocks = (p : List Name) (t u : Full) → walk t p ≡ Ok u → IsPermutation (blocks_of t) (beside p t ++ blocks_of u)

-- an edit leaves the blocks beside its path
abbrev pub BesideEdit : Type 0
BesideEdit = (p : List Name) (f : Full → Full) (t : Full) → beside p (edit p f t) ≡ beside p t

-- blocks are apart in any order
abbrev pub ApartOrder : Type 0
ApartOrder = (xs ys : List Block) → IsPermutation xs ys → AllApart xs → AllApart ys

-- and kept in any order
abbrev pub KeptOrder : Type 0
KeptOrder = (e : Bounds) (xs ys : List Block) → IsPermutation xs ys → AreKept e xs → AreKept e ys

-- the blocks of a tree are apart where those beside a path and those of what it leads to are apart together
abbrev pub PathApart : Type 0
PathApart = (p : List Name) (t u : Full) → walk t p ≡ Ok u
    → AllApart (blocks_of t) ↔ AllApart (beside p t ++ blocks_of u)

-- each of the one list is apart from each of the other
abbrev pub AreApartFrom : List Block → List Block → Type 0
AreApartFrom [] ys = Unit {0}
AreApartFrom (x ∷ xs) ys = IsApart x ys × AreApartFrom xs ys

-- two lists are kept together where each is kept, and the one apart from the other
abbrev pub KeptTogether : Type 0
KeptTogether = (e : Bounds) (xs ys : List Block)
    → AreKept e (xs ++ ys) ↔ (AreKept e xs × AreKept e ys × AreApartFrom ys xs)

-- apart in any order, and in parts
abbrev pub ApartFromOrder : Type 0
ApartFromOrder = (xs ys zs : List Block) → IsPermutation xs ys → AreApartFrom xs zs → AreApartFrom ys zs

abbrev pub ApartFromParts : Type 0
ApartFromParts = (xs ys zs : List Block) → AreApartFrom (xs ++ ys) zs ↔ (AreApartFrom xs zs × AreApartFrom ys zs)

-- ---- bytes that stay

-- the order of blocks doesn't matter
abbrev pub AgreeOrder : Type 0
AgreeOrder = (b c : Array) (xs ys : List Block) → IsPermutation xs ys → Agree b c xs → Agree b c ys

-- what stays through one change and the next stays through both
abbrev pub AgreeThrough : Type 0
AgreeThrough = (b c d : Array) (xs : List Block) → Agree b c xs → Agree c d xs → Agree b d xs

-- a write to a block keeps the bytes of all that are apart from it
abbrev pub AgreeApart : Type 0
AgreeApart = (b c : Array) (x : Block) (ys : List Block) → SameOutside x.start x.len b c → IsApart x ys → Agree b c ys

-- ---- the file

-- the blocks of a file beside those of what a path leads to
abbrev pub file_beside : Superblock → List Block → List Name → Full → List Block
file_beside s driver p t = record { start = 0; len = super_len s.version } ∷ driver ++ beside p t

-- all blocks of a file are those, and those of what the path leads to
abbrev pub FileBlocks : Type 0
FileBlocks = (s : Superblock) (driver : List Block) (p : List Name) (t u : Full) → walk t p ≡ Ok u
    → IsPermutation (all_blocks s driver t) (file_beside s driver p t ++ blocks_of u)

-- The whole file with the edited tree is held: an object with the same target is held in other bytes, which agree with
-- the first beside what the path leads to; its blocks are kept, and apart from those.
abbrev pub EditFull : Type 0
EditFull = (b c : Array) (e f : Bounds) (s : Superblock) (g g' : GroupAt) (ls ls' : FullLinks) (p : List Name)
    (u v : Full) (h : HoldsFull b e s g ls)
    → walk (Group g ls) p ≡ Ok u → target_of v ≡ target_of u → IsHeld c (ks_of s) v
    → Rises e f → Agree b c (file_beside s h.driver p (Group g ls))
    → AreKept f (blocks_of v) → AreApartFrom (blocks_of v) (file_beside s h.driver p (Group g ls))
    → edit p (λ _. v) (Group g ls) ≡ Group g' ls'
    → HoldsFull c f s g' ls'

-- and the bytes hold the edited tree
abbrev pub EditHolds : Type 0
EditHolds = (b c : Array) (e f : Bounds) (s : Superblock) (g g' : GroupAt) (ls ls' : FullLinks) (p : List Name)
    (u v : Full) (h : HoldsFull b e s g ls)
    → walk (Group g ls) p ≡ Ok u → target_of v ≡ target_of u → IsHeld c (ks_of s) v
    → Rises e f → Agree b c (file_beside s h.driver p (Group g ls))
    → AreKept f (blocks_of v) → AreApartFrom (blocks_of v) (file_beside s h.driver p (Group g ls))
    → edit p (λ _. v) (Group g ls) ≡ Group g' ls'
    → Holds c f (edit p (λ _. plain v) (plain (Group g ls)))

-- the driver information block is the same from one file to the next, where its bytes and its place stay
abbrev pub DriverStays : Type 0
DriverStays = (b c : Array) (e f : Bounds) (s r : Superblock) (g g' : GroupAt) (ls ls' : FullLinks)
    (h : HoldsFull b e s g ls) (h' : HoldsFull c f r g' ls')
    → Rises e f → r.driver_at ≡ s.driver_at → Agree b c h.driver → h'.driver ≡ h.driver

-- Another end of the file in the superblock, and all other blocks as they were: the same tree is held.
abbrev pub EndFull : Type 0
EndFull = (b c : Array) (e f : Bounds) (s : Superblock) (n : ℕ) (g : GroupAt) (ls : FullLinks)
    (h : HoldsFull b e s g ls)
    → Rises e f → Spells (record s { end_at = n }) (super_bytes_of c f)
    → Agree b c (h.driver ++ blocks_of (Group g ls))
    → HoldsFull c f (record s { end_at = n }) g ls

-- where a superblock tells the end of the file, in 8 bytes
abbrev pub end_place : ℕ → ℕ
end_place version = base_at version + 16

-- its bytes before the field, and the 48 behind it
abbrev pub beside_end : ℕ → List Block
beside_end version =
    record { start = 0; len = end_place version } ∷ record { start = end_place version + 8; len = 48 } ∷ []

-- where another end is written there, and nothing else of a superblock, the superblock with that end is spelled
abbrev pub EndWritten : Type 0
EndWritten = (b c : Array) (e f : Bounds) (s : Superblock) (n : ℕ) → n < 2 ^ 64 → Spells s (super_bytes_of b e)
    → e.ends Super ≤ f.ends Super → Agree b c (beside_end s.version)
    → bytes_of c (end_place s.version) 8 ≡ to_le_bytes w64 n
    → Spells (record s { end_at = n }) (super_bytes_of c f)

-- ---- links with one more or one fewer

-- the second list is the first with one more, at some place
pub record IsOneMore {X : Type 0} (x : X) (xs ys : List X) : Type 0 where
  pub before : List X
  pub later : List X
  pub without : xs ≡ before ++ later
  pub whole : ys ≡ before ++ x ∷ later

-- a name that is inserted adds one link, and the blocks behind it
abbrev pub InsertOne : Type 0
InsertOne = (ls : FullLinks) (n : Name) (t : Full)
    → IsOneMore (record { name = n; target = target_of t }) (founds ls) (founds (insert ls n t))
    × IsPermutation (blocks_of t ++ blocks_in ls) (blocks_in (insert ls n t))

-- a name that is removed takes one link away, and the blocks behind it
abbrev pub RemoveOne : Type 0
RemoveOne = (ls : FullLinks) (n : Name) (t : Full) → find ls n ≡ Some t
    → IsOneMore (record { name = n; target = target_of t }) (founds (remove ls n)) (founds ls)
    × IsPermutation (blocks_of t ++ blocks_in (remove ls n)) (blocks_in ls)

-- the names told are those of the links
abbrev pub FoundNames : Type 0
FoundNames = (ls : FullLinks) → map (λ f. f.name) (founds ls) ≡ names ls

-- where names ascend, they ascend with a new one
abbrev pub InsertOrder : Type 0
InsertOrder = (ls : FullLinks) (n : Name) (t : Full) → AreOrdered (names ls) → find ls n ≡ None
    → AreOrdered (names (insert ls n t))

-- and with one fewer
abbrev pub RemoveOrder : Type 0
RemoveOrder = (ls : FullLinks) (n : Name) → AreOrdered (names ls) → AreOrdered (names (remove ls n))

-- an edit at a path is the edit by what stands there
abbrev pub EditThere : Type 0
EditThere = (p : List Name) (f : Full → Full) (t u : Full) → walk t p ≡ Ok u → edit p f t ≡ edit p (λ _. f u) t

-- ---- without places

-- the links without places
abbrev pub plain_links : FullLinks → PlainLinks
plain_links ls = map_links (λ _. tt) object_of ls

abbrev pub PlainFind : Type 0
PlainFind = (ls : FullLinks) (n : Name) → find (plain_links ls) n ≡ option_map plain (find ls n)

abbrev pub PlainInsert : Type 0
PlainInsert = (ls : FullLinks) (n : Name) (t : Full)
    → plain_links (insert ls n t) ≡ insert (plain_links ls) n (plain t)

abbrev pub PlainRemove : Type 0
PlainRemove = (ls : FullLinks) (n : Name) → plain_links (remove ls n) ≡ remove (plain_links ls) n

abbrev pub PlainWalk : Type 0
PlainWalk = (p : List Name) (t : Full) → walk (plain t) p ≡ (walk t p >>= λ u. Ok (plain u))

-- an edit by a change that is the same with and without places
abbrev pub PlainChange : Type 0
PlainChange = (p : List Name) (f : Full → Full) (h : Plain → Plain) (t : Full)
    → ((u : Full) → walk t p ≡ Ok u → plain (f u) ≡ h (plain u)) → plain (edit p f t) ≡ edit p h (plain t)

-- ---- new headers

-- messages as they were written, from an address on
abbrev pub mets_from : ℕ → List NewMessage → List Met
mets_from at [] = []
mets_from at (p ∷ ps) = record { kind = p.kind; flags = 0; at = at + 8; body = p.body }
    ∷ mets_from (at + 8 + length p.body) ps

-- the prefix of a written header of n bytes, and its one block of messages
abbrev pub new_prefix : ℕ → List NewMessage → Prefix
new_prefix n ps = record { messages = length ps; links = 1; size = n - 16 }

abbrev pub new_parts : ℕ → ℕ → List NewMessage → List Part
new_parts at n ps = record { block = record { start = at + 16; len = n - 16 }; messages = mets_from (at + 16) ps } ∷ []

-- The n bytes from an address on are a header with just these messages, and its one block.
pub record IsNewHeader (b : Array) (at n : ℕ) (ps : List NewMessage) : Type 0 where
  pub header : IsHeader b at (new_prefix n ps) (new_parts at n ps)
  pub messages : messages_of (new_parts at n ps) ≡ mets_from (at + 16) ps
  pub blocks : header_blocks at (new_prefix n ps) (new_parts at n ps) ≡ record { start = at; len = n } ∷ []

-- what is written as a group's header is the header of a group, with its B-tree and heap
abbrev pub NewGroup : Type 0
NewGroup = (b : Array) (at n tree heap : ℕ) (ps : List NewMessage)
    → SpellsHeader (new.Group tree heap) ps (bytes_of b at n)
    → IsNewHeader b at n ps × IsGroupHeader (mets_from (at + 16) ps) tree heap

-- what the messages of a new dataset tell
abbrev pub new_info : Shape → ElemType → Fill → Layout → DataInfo
new_info space elem fill layout = record {
  shape = space;
  elem = elem;
  fill = fill_bytes (size_of elem) fill;
  layout = layout;
  filtered = false;
}

-- what is written as a dataset's header is the header of a dataset, where its parts fit one another
abbrev pub NewData : Type 0
NewData = (b : Array) (at n : ℕ) (space : Shape) (elem : ElemType) (fill : Fill) (layout : Layout)
    (ps : List NewMessage)
    → SpellsHeader (new.Dataset space elem fill layout) ps (bytes_of b at n)
    → FitsFile space.dims (size_of elem) → IsOfShape (length space.dims) (size_of elem) layout
    → IsOfSize (size_of elem) fill
    → IsNewHeader b at n ps × IsDataHeader (mets_from (at + 16) ps) (new_info space elem fill layout)

-- A new group in the file: the block of its header, and those of its index.
abbrev pub group_at : (at n tree heap : ℕ) → List Block → GroupAt
group_at at n tree heap index = record {
  header_at = at;
  tree_at = tree;
  heap_at = heap;
  own = record { start = at; len = n } ∷ index;
}

-- a group is held where its header was written and its index has links
abbrev pub NewGroupHeld : Type 0
NewGroupHeld = (b : Array) (ks : Ks) (at n tree heap : ℕ) (ps : List NewMessage) (fs : List Found) (index : List Block)
    → SpellsHeader (new.Group tree heap) ps (bytes_of b at n) → HasLinks b ks tree heap fs index
    → IsGroup b ks (group_at at n tree heap index) fs

-- A new dataset in the file: the block of its header, and those of what is stored.
abbrev pub data_at : Array → (at n : ℕ) → DataInfo → List Chunk → List Block → DataAt
data_at b at n i cs storage = record {
  header_at = at;
  info = i;
  chunks = cs;
  elements = elements_of b i cs;
  own = record { start = at; len = n } ∷ storage;
}

-- a dataset is held where its header was written and its elements are stored
abbrev pub NewDataHeld : Type 0
NewDataHeld = (b : Array) (ks : Ks) (at n : ℕ) (i : DataInfo) (fill : Fill) (ps : List NewMessage) (cs : List Chunk)
    (storage : List Block)
    → SpellsHeader (new.Dataset i.shape i.elem fill i.layout) ps (bytes_of b at n)
    → i ≡ new_info i.shape i.elem fill i.layout
    → FitsFile i.shape.dims (size_of i.elem) → IsOfShape (length i.shape.dims) (size_of i.elem) i.layout
    → IsOfSize (size_of i.elem) fill → IsStoredBy b ks.chunk i i.layout cs storage
    → IsData b ks (data_at b at n i cs storage)

-- ---- another body of a message

-- The parts of a header with another body of one message.
pub record IsOtherBody (parts changed : List Part) (m : Met) (body : List ℕ) : Type 0 where
  pub before : List Part
  pub later : List Part
  pub block : Block
  pub ahead : List Met
  pub behind : List Met
  pub old : parts ≡ before ++ record { block = block; messages = ahead ++ m ∷ behind } ∷ later
  pub new : changed ≡ before ++ record { block = block; messages = ahead ++ record m { body = body } ∷ behind } ∷ later

-- the same messages, in the order met, with that body in its place
pub record AreButOne (m : Met) (body : List ℕ) (old new : List Met) : Type 0 where
  pub ahead : List Met
  pub behind : List Met
  pub were : old ≡ ahead ++ m ∷ behind
  pub are : new ≡ ahead ++ record m { body = body } ∷ behind

-- the two arrays have the same bytes in the blocks, but for n from an address on
abbrev pub AgreeBeside : Array → Array → (at n : ℕ) → List Block → Type 0
AgreeBeside b c at n [] = Unit {0}
AgreeBeside b c at n (x ∷ xs) =
    ((i : ℕ) → x.start ≤ i → i < x.start + x.len → (i < at) ⊎ (at + n ≤ i) → b i ≡ c i) × AgreeBeside b c at n xs

-- a write there leaves them so
abbrev pub BesideWrite : Type 0
BesideWrite = (b c : Array) (at n : ℕ) (xs : List Block) → SameOutside at n b c → AgreeBeside b c at n xs

-- Where other bytes of the same length stand in the data of one message, which is no continuation, the header has the
-- same messages with these data in their place, and the same blocks.
abbrev pub OtherBody : Type 0
OtherBody = (b c : Array) (at : ℕ) (prefix : Prefix) (parts changed : List Part) (m : Met) (body : List ℕ)
    → IsHeader b at prefix parts → IsOtherBody parts changed m body → m.kind ≢ 0x10
    → length body ≡ length m.body → AllApart (header_blocks at prefix parts)
    → AgreeBeside b c m.at (length body) (header_blocks at prefix parts)
    → bytes_of c m.at (length body) ≡ body
    → IsHeader c at prefix changed × AreButOne m body (messages_of parts) (messages_of changed)
    × (header_blocks at prefix changed ≡ header_blocks at prefix parts)

-- the first messages of each type are as they were, but for this one
abbrev pub OtherFirst : Type 0
OtherFirst = (m : Met) (body : List ℕ) (old new : List Met) (o : AreButOne m body old new) → has m.kind o.ahead ≡ false
    → (first_of m.kind new ≡ Some (record m { body = body }))
    × ((k : ℕ) → k ≢ m.kind → first_of k new ≡ first_of k old)

-- other data of a symbol table message: a group with another B-tree and heap
abbrev pub OtherTable : Type 0
OtherTable = (m : Met) (body : List ℕ) (old new : List Met) (o : AreButOne m body old new) → has m.kind o.ahead ≡ false
    → m.kind ≡ 0x11 → IsGroupHeader new (u64_at body 0) (u64_at body 8)

-- other data of a dataspace message: a dataset with another shape
abbrev pub OtherShape : Type 0
OtherShape = (m : Met) (body : List ℕ) (old new : List Met) (o : AreButOne m body old new) → has m.kind o.ahead ≡ false
    → m.kind ≡ 1 → (i : DataInfo) (shape : Shape) → IsDataHeader old i → SpellsShape shape body
    → FitsFile shape.dims (size_of i.elem) → length shape.dims ≡ length i.shape.dims
    → IsDataHeader new (record i { shape = shape })

-- other data of a layout message: a dataset with another layout
abbrev pub OtherLayout : Type 0
OtherLayout = (m : Met) (body : List ℕ) (old new : List Met) (o : AreButOne m body old new) → has m.kind o.ahead ≡ false
    → m.kind ≡ 8 → (i : DataInfo) (layout : Layout) → IsDataHeader old i → SpellsLayout layout body
    → IsOfShape (length i.shape.dims) (size_of i.elem) layout
    → IsDataHeader new (record i { layout = layout })
