-- What was found where a header is makes a node.
use Rattle.std.proofs.Common.{◌≡◌, ℕ, ◌<◌, ◌≤◌, false, List, ◌++◌, Option, IfSome, Result, Ok, Err, OnOk, refl, sym, ◌∙◌, ap, subst}
use Rattle.header_codec.specs.declared.types.Prefix.{Prefix}
use Rattle.std.proofs.lemmas.List.{append_assoc}
use Rattle.outside.specs.Array.{Array}
use Rattle.outside.specs.Space.{SpaceView, bounds_of}
use Rattle.block_space.specs.Blocks.{Keeps, Takes}
use Rattle.block_space.specs.declared.blocks.Blocks.{Blocks}
use Rattle.outside.specs.Blocks.{Block, Bounds, AreTaken}
use Rattle.file_model.specs.Headers.{Part, IsHeader, header_blocks}
use Rattle.file_model.specs.Groups.{Ks}
use Rattle.file_model.specs.Chunks.{Chunk, IsStoredBy, elements_of}
use Rattle.file_model.specs.Holds.{DataLeaf, OtherLeaf, Unsupported, Later}
use Rattle.file_model.specs.Limits.{most_header, header_bytes, IsShort}
use Rattle.h5_base.specs.declared.refusal.Refusal.{Refusal}
use Rattle.file_model.specs.Refusals.{IsHeaderRefused}
use Rattle.file_model.specs.RefusedChunks.{IsStorageRefused}
use Rattle.file_model.specs.RefusedTree.{RefusedObject, IsRefusedWith, InHeader, InStorage, IsObjectRefused, WasRead}
use Rattle.file_model.proofs.UniqueHeaders.{prefix_same, header_same}
use Rattle.file_model.proofs.UniqueTree.{not_later}
use Rattle.storage_reader.specs.declared.storage.Elements.{Elements}
use Rattle.storage_reader.specs.Elements.{AreOf}
use Rattle.tree_nodes.specs.Nodes.{is_dataset}
use Rattle.file_model.specs.Objects.{DataInfo}
use Rattle.h5_base.specs.declared.refusal.Stop.{Stop}
use Rattle.h5_base.specs.Refusals.{refusal_of}
use Rattle.block_space.proofs.Stopped.{if_some}
use Rattle.header_reader.specs.Found.{IsFound}
use Rattle.header_reader.specs.declared.reading.Header.{Header}
use Rattle.header_reader.specs.declared.reading.Header.TheVariants as header
use Rattle.tree_nodes.specs.declared.node.Node.{Node}
use Rattle.tree_nodes.specs.declared.node.Node.TheVariants as node
use Rattle.object_tree.specs.Grown.{IsNodeFound, HasParts}

pub short_of : (b : Array) (at : ℕ) (p : Prefix) (ps : List Part) → IsHeader b at p ps → header_bytes at p ps ≤ most_header → IsShort b at
short_of b at p ps h short q qs k =
    let prefix = prefix_same b at p q ps qs h k in
    let parts = header_same b at p q ps qs h k in
    subst (λ (x : Prefix). header_bytes at x qs ≤ most_header) prefix (subst (λ (l : List Part). header_bytes at p l ≤ most_header) parts short)

pub on_ok_then : {T E : Type 0} (r : Result T E) (P Q : Type 0) → (P → Q) → OnOk r P → OnOk r Q
on_ok_then (Ok x) P Q f h = f h
on_ok_then (Err e) P Q f h = tt

-- ---- an object whose header is all

pub later_found : (b : Array) (ks : Ks) (at : ℕ) (bs : List Block) → IsFound b at header.Later bs
    → IsNodeFound b ks at (node.Other at) bs
later_found b ks at bs f = (
  OtherLeaf (record { header_at = at; own = bs }),
  refl,
  Later (record { signature = f.0; blocks = f.1 }),
  refl,
  refl,
  λ p ps h. absurd (not_later b at p ps h f.0),
)

-- a header that makes no dataset is all that was read of its node
pub plain_found : (b : Array) (ks : Ks) (at : ℕ) (n : Node) (bs : List Block) → is_dataset n ≡ false
    → IsFound b at (header.Known n) bs → IsNodeFound b ks at n bs
plain_found b ks at (node.Group header tree heap) bs none f = (f.0, f.1, f.2, f.3.1, f.3.0, f.4, f.5)
plain_found b ks at (node.Dataset header shape elem fill layout filtered) bs none f = absurd cc
plain_found b ks at (node.Soft text) bs none f = absurd f.3
plain_found b ks at (node.Other header) bs none f = (
  OtherLeaf (record { header_at = at; own = bs }),
  ap node.Other f.3.0,
  Unsupported (record { prefix = f.0; parts = f.1; header = f.2; told = f.3.1; blocks = f.4 }),
  refl,
  refl,
  short_of b at f.0 f.1 f.2 f.5,
)

-- ---- a dataset, with what is stored of it

-- what the header of a dataset tells
abbrev pub info_at : (b : Array) (at : ℕ) (n : Node) (bs : List Block) (e : Elements) → HasParts n e
    → IsFound b at (header.Known n) bs → DataInfo
info_at b at (node.Group header tree heap) bs e parts f = absurd parts
info_at b at (node.Dataset header shape elem fill layout filtered) bs e parts f = f.3.1
info_at b at (node.Soft text) bs e parts f = absurd parts
info_at b at (node.Other header) bs e parts f = absurd parts

pub info_of_elements : (b : Array) (at : ℕ) (n : Node) (bs : List Block) (e : Elements) (parts : HasParts n e)
    (f : IsFound b at (header.Known n) bs) → AreOf (info_at b at n bs e parts f) e
info_of_elements b at (node.Group header tree heap) bs e parts f = absurd parts
info_of_elements b at (node.Dataset header shape elem fill layout filtered) bs e parts f = record {
  shape = f.3.3 ∙ parts.0;
  elem = f.3.4 ∙ parts.1;
  layout = f.3.5 ∙ parts.2;
  filtered = f.3.6 ∙ parts.3;
}
info_of_elements b at (node.Soft text) bs e parts f = absurd parts
info_of_elements b at (node.Other header) bs e parts f = absurd parts

pub data_found : (b : Array) (ks : Ks) (at : ℕ) (n : Node) (bs ss : List Block) (cs : List Chunk) (e : Elements)
    (parts : HasParts n e) (f : IsFound b at (header.Known n) bs)
    → IsStoredBy b ks.chunk (info_at b at n bs e parts f) (info_at b at n bs e parts f).layout cs ss
    → IsNodeFound b ks at n (bs ++ ss)
data_found b ks at (node.Group header tree heap) bs ss cs e parts f stored = absurd parts
data_found b ks at (node.Dataset header shape elem fill layout filtered) bs ss cs e parts f stored =
    let i = f.3.1 in
    let blocks : bs ++ ss ≡ header_blocks at f.0 f.1 ++ ss = ap (λ (l : List Block). l ++ ss) f.4 in (
      DataLeaf (record { header_at = at; info = i; chunks = cs; elements = elements_of b i cs; own = bs ++ ss }),
      (f.3.0, sym f.3.3, sym f.3.4, f.3.7, sym f.3.5, sym f.3.6),
      record {
        prefix = f.0;
        parts = f.1;
        header = f.2;
        told = f.3.2;
        storage = ss;
        stored = stored;
        elements = refl;
        blocks = blocks;
      },
      refl,
      refl,
      short_of b at f.0 f.1 f.2 f.5,
    )
data_found b ks at (node.Soft text) bs ss cs e parts f stored = absurd parts
data_found b ks at (node.Other header) bs ss cs e parts f stored = absurd parts

-- a header that was read, with its blocks taken
pub was_read : (b : Array) (e : Bounds) (met bs : List Block) (at : ℕ) (prefix : Prefix) (parts : List Part)
    → IsHeader b at prefix parts → bs ≡ header_blocks at prefix parts → header_bytes at prefix parts ≤ most_header
    → AreTaken e met bs → WasRead b e met at prefix parts
was_read b e met bs at prefix parts h is short taken = record {
  header = h;
  blocks = record { taken = subst (AreTaken e met) is taken; short = short };
}

data_refused : (Refused : RefusedObject) (b : Array) (e : Bounds) (ks : Ks) (levels objects at : ℕ) (n : Node)
    (met bs : List Block) (x : Elements) (r : Refusal) (parts : HasParts n x) (f : IsFound b at (header.Known n) bs)
    → objects < 65536 → AreTaken e met bs → IsStorageRefused b e ks.chunk (info_at b at n bs x parts f) (met ++ bs) r
    → IsRefusedWith Refused b e ks levels objects met at r
data_refused Refused b e ks levels objects at (node.Group header tree heap) met bs x r parts f few taken y = absurd parts
data_refused Refused b e ks levels objects at (node.Dataset header shape elem fill layout filtered) met bs x r parts f few taken y =
    InStorage f.0 f.1 f.3.1 few (was_read b e met bs at f.0 f.1 f.2 f.4 f.5 taken) f.3.2
    (subst (λ (l : List Block). IsStorageRefused b e ks.chunk f.3.1 (met ++ l) r) f.4 y)
data_refused Refused b e ks levels objects at (node.Soft text) met bs x r parts f few taken y = absurd parts
data_refused Refused b e ks levels objects at (node.Other header) met bs x r parts f few taken y = absurd parts

pub all_data_refused : (Refused : RefusedObject) (b : Array) (e : Bounds) (ks : Ks) (levels objects at : ℕ) (n : Node)
    (met bs : List Block) (x : Elements) (stop : Stop) (parts : HasParts n x) (f : IsFound b at (header.Known n) bs)
    → objects < 65536 → AreTaken e met bs
    → IfSome (refusal_of stop) (IsStorageRefused b e ks.chunk (info_at b at n bs x parts f) (met ++ bs))
    → IfSome (refusal_of stop) (IsRefusedWith Refused b e ks levels objects met at)
all_data_refused Refused b e ks levels objects at n met bs x stop parts f few taken y =
    if_some (refusal_of stop) (IsStorageRefused b e ks.chunk (info_at b at n bs x parts f) (met ++ bs))
    (IsRefusedWith Refused b e ks levels objects met at)
    (λ r z. data_refused Refused b e ks levels objects at n met bs x r parts f few taken z) y

pub all_header_refused : (Refused : RefusedObject) (b : Array) (e : Bounds) (ks : Ks) (levels objects at : ℕ)
    (met : List Block) (stop : Stop) → objects < 65536 → IfSome (refusal_of stop) (IsHeaderRefused b e met at)
    → IfSome (refusal_of stop) (IsRefusedWith Refused b e ks levels objects met at)
all_header_refused Refused b e ks levels objects at met stop few x =
    if_some (refusal_of stop) (IsHeaderRefused b e met at) (IsRefusedWith Refused b e ks levels objects met at)
    (λ r y. InHeader few y) x

pub keeps_joined : {V : Type 0} (view : V → SpaceView) (blocks : Blocks V) (met bs ss : List Block)
    → Keeps view blocks ((met ++ bs) ++ ss) → Keeps view blocks (met ++ (bs ++ ss))
keeps_joined view blocks met bs ss h = subst (Keeps view blocks) (append_assoc met bs ss) h

-- ---- the header first, and then what is stored

-- what was stored of a node whose header was found
abbrev AfterHeader : {V : Type 0} → (V → SpaceView) → (mid new : Blocks V) → Array → Ks → Node → Type 0
AfterHeader view mid new b ks n = (at : ℕ) (met bs : List Block) → IsFound b at (header.Known n) bs
    → Keeps view mid (met ++ bs) → (own : List Block) × IsNodeFound b ks at n own × Keeps view new (met ++ own)

pub node_after : {V : Type 0} (view : V → SpaceView) (old mid new : Blocks V) (b c : Array) (ks : Ks) (at : ℕ) (n : Node)
    → b ≡ c → Takes view old mid (IsFound b at (header.Known n)) → AfterHeader view mid new c ks n
    → Takes view old new (IsNodeFound b ks at n)
node_after view old mid new b c ks at n same first next met keeps =
    let f = first met keeps in
    subst (λ (x : Array). AfterHeader view mid new x ks n) (sym same) next at met f.0 f.1 f.2

abbrev NodeRefused : SpaceView → Ks → (levels objects : ℕ) → Option (List ℕ) → List Block → ℕ → Refusal → Type 0
NodeRefused v ks levels objects own met at =
    IsRefusedWith (IsObjectRefused v.array (bounds_of v own) ks levels) v.array (bounds_of v own) ks levels objects met at

abbrev RefusedAfter : {V : Type 0} → (V → SpaceView) → (mid : Blocks V) → SpaceView → Ks → Node → Stop → Type 0
RefusedAfter view mid v ks n stop = (at levels objects : ℕ) (met bs : List Block) (own : Option (List ℕ)) → objects < 65536
    → IsFound v.array at (header.Known n) bs → Keeps view mid (met ++ bs)
    → IfSome (refusal_of stop) (NodeRefused v ks levels objects own met at)

pub refused_after : {V : Type 0} (view : V → SpaceView) (old mid : Blocks V) (v w : SpaceView) (ks : Ks)
    (at objects : ℕ) (n : Node) (stop : Stop) → v ≡ w → objects < 65536
    → Takes view old mid (IsFound v.array at (header.Known n)) → RefusedAfter view mid w ks n stop
    → (levels : ℕ) (met : List Block) (own : Option (List ℕ)) → Keeps view old met
    → IfSome (refusal_of stop) (NodeRefused v ks levels objects own met at)
refused_after view old mid v w ks at objects n stop same few first next levels met own keeps =
    let f = first met keeps in
    subst (λ (x : SpaceView). RefusedAfter view mid x ks n stop) (sym same) next at levels objects met f.0 own few f.1 f.2

-- what was found, as one of its cases
pub found_as : {V : Type 0} (view : V → SpaceView) (old mid : Blocks V) (b : Array) (at : ℕ) (h j : Header) → h ≡ j
    → Takes view old mid (IsFound b at h) → Takes view old mid (IsFound b at j)
found_as view old mid b at h j is first =
    subst (λ (x : Header). Takes view old mid (IsFound b at x)) is first
