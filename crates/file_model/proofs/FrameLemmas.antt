-- What is held stays held where the bytes of its blocks stay.
use Rattle.std.proofs.Common.{◌≡◌, ℕ, ◌+◌, ◌≤◌, List, [], ◌∷◌, ◌++◌, length, take, refl, sym, ap, subst, ◌∙◌, inl, inr, arith}
use Rattle.std.specs.Prelude.{Option, Some, None, min, slice_index}
use Rattle.std.proofs.lemmas.List.FromFn.{length-map-range_with_len, take-map-range_with_len}
use Rattle.h5_base.specs.declared.extent.MemClass.TheVariants.{Super}
use Rattle.h5_base.specs.Fields.{bytes_at, u32_at}
use Rattle.super_codec.specs.Super.{Spells, super_len, version_of}
use Rattle.super_codec.specs.declared.superblock.Superblock.{Superblock}
use Rattle.outside.specs.Array.{Array, bytes_of}
use Rattle.object_model.specs.Tree.{Group, Leaf, Empty, Link}
use Rattle.object_model.specs.Step.{Plain}
use Rattle.outside.specs.Blocks.{Block, Bounds, AllInside, AreKept, Agree}
use Rattle.file_model.specs.Headers.{header_blocks, messages_of, later_header}
use Rattle.file_model.specs.Groups.{Ks, Found}
use Rattle.file_model.specs.Holds.{GroupAt, DataAt, OtherAt, LeafAt, DataLeaf, SoftLeaf, OtherLeaf, Full, FullLinks, IsGroup, IsData, IsUnknown, Unsupported, Later, IsLeafHeld, IsHeld, AreHeld, founds, leaf_blocks, blocks_of, blocks_in, ks_of, HasDriver, super_bytes_of, HoldsFull, Holds}
use Rattle.file_model.specs.Laws.{FrameLaw, Rises, all_blocks}
use Rattle.file_model.proofs.FrameBytes.{Same, bytes_same, within_same, agree_left, agree_right, agree_itself}
use Rattle.file_model.proofs.FrameHeaders.{header_stays}
use Rattle.file_model.proofs.FrameGroups.{links_stay}
use Rattle.file_model.proofs.FrameChunks.{stored_stays}
use Rattle.file_model.proofs.FrameElements.{elements_same}
use Rattle.file_model.proofs.FrameSuper.{spells_same}

pub group_stays : (b c : Array) (ks : Ks) (g : GroupAt) (fs : List Found) → Agree b c g.own → IsGroup b ks g fs → IsGroup c ks g fs
group_stays b c ks g fs agree h =
    let blocks = header_blocks g.header_at h.prefix h.parts in
    let all : Agree b c (blocks ++ h.index) = subst (Agree b c) h.blocks agree in
    record {
      prefix = h.prefix;
      parts = h.parts;
      header = header_stays b c g.header_at h.prefix h.parts (agree_left b c blocks h.index all) h.header;
      table = h.table;
      index = h.index;
      links = links_stay b c ks g.tree_at g.heap_at fs h.index (agree_right b c blocks h.index all) h.links;
      blocks = h.blocks;
    }

data_stays : (b c : Array) (ks : Ks) (d : DataAt) → Agree b c d.own → IsData b ks d → IsData c ks d
data_stays b c ks d agree h =
    let blocks = header_blocks d.header_at h.prefix h.parts in
    let all : Agree b c (blocks ++ h.storage) = subst (Agree b c) h.blocks agree in
    let storage = agree_right b c blocks h.storage all in
    record {
      prefix = h.prefix;
      parts = h.parts;
      header = header_stays b c d.header_at h.prefix h.parts (agree_left b c blocks h.storage all) h.header;
      told = h.told;
      storage = h.storage;
      stored = stored_stays b c ks.chunk d.info d.info.layout d.chunks h.storage storage h.stored;
      elements = h.elements ∙ elements_same b c ks.chunk d.info (messages_of h.parts) d.chunks h.storage h.told h.stored storage;
      blocks = h.blocks;
    }

unknown_stays : (b c : Array) (o : OtherAt) → Agree b c o.own → IsUnknown b o → IsUnknown c o
unknown_stays b c o agree (Unsupported h) = Unsupported (record {
  prefix = h.prefix;
  parts = h.parts;
  header = header_stays b c o.header_at h.prefix h.parts (subst (Agree b c) h.blocks agree) h.header;
  told = h.told;
  blocks = h.blocks;
})
unknown_stays b c o agree (Later h) = Later (record {
  signature = subst (λ s. s ≡ later_header) (bytes_same b c o.header_at 4 (subst (Agree b c) h.blocks agree).0) h.signature;
  blocks = h.blocks;
})

leaf_stays : (b c : Array) (ks : Ks) (l : LeafAt) → Agree b c (leaf_blocks l) → IsLeafHeld b ks l → IsLeafHeld c ks l
leaf_stays b c ks (DataLeaf d) agree h = data_stays b c ks d agree h
leaf_stays b c ks (SoftLeaf text) agree h = tt
leaf_stays b c ks (OtherLeaf o) agree h = unknown_stays b c o agree h

mutual
  held_stays : (b c : Array) (ks : Ks) (t : Full) → Agree b c (blocks_of t) → IsHeld b ks t → IsHeld c ks t
  held_stays b c ks (Group g ls) agree h =
      (group_stays b c ks g (founds ls) (agree_left b c g.own (blocks_in ls) agree) h.0, links_held b c ks ls (agree_right b c g.own (blocks_in ls) agree) h.1)
  held_stays b c ks (Leaf l) agree h = leaf_stays b c ks l agree h

  pub links_held : (b c : Array) (ks : Ks) (ls : FullLinks) → Agree b c (blocks_in ls) → AreHeld b ks ls → AreHeld c ks ls
  links_held b c ks Empty agree h = tt
  links_held b c ks (Link n t rest) agree h =
      (held_stays b c ks t (agree_left b c (blocks_of t) (blocks_in rest) agree) h.0, links_held b c ks rest (agree_right b c (blocks_of t) (blocks_in rest) agree) h.1)

pub frame : FrameLaw
frame = held_stays

-- ---- ends that rise

inside_stays : (e f : Bounds) → Rises e f → (xs : List Block) → AllInside e xs → AllInside f xs
inside_stays e f r [] h = tt
inside_stays e f r (x ∷ xs) h =
    let (m, low, high) = h.0 in
    let start = r.starts m in
    let end = r.ends m in
    ((m, omega arith, omega arith), inside_stays e f r xs h.1)

-- blocks that are kept stay kept
pub kept_stays : (e f : Bounds) (blocks : List Block) → Rises e f → AreKept e blocks → AreKept f blocks
kept_stays e f blocks r h = record { some = h.some; apart = h.apart; inside = inside_stays e f r blocks h.inside }

-- ---- the file

pub driver_stays : (b c : Array) (own : Option (List ℕ)) (at : ℕ) (bs : List Block) → Agree b c bs → HasDriver b own at bs → HasDriver c own at bs
driver_stays b c None at bs agree h = h
driver_stays b c (Some ident) at bs agree (inl h) = inl h
driver_stays b c (Some ident) at bs agree (inr (there, driver, bs_is)) =
    let same : Same b c at (16 + u32_at (bytes_of b at 16) 4) = (subst (Agree b c) bs_is agree).0 in
    let bytes = bytes_same b c at 16 (within_same b c at 16 at (16 + u32_at (bytes_of b at 16) 4) same (omega arith) (omega arith)) in
    let block = λ (s : List ℕ). record { start = at; len = 16 + u32_at s 4 } ∷ [] in
    inr (
      there,
      record {
        version = subst (λ s. slice_index s 0 ≡ 0) bytes driver.version;
        ident_is = subst (λ s. bytes_at s 8 8 ≡ ident) bytes driver.ident_is;
      },
      bs_is ∙ ap block bytes,
    )

pub super_stays : (b c : Array) (e f : Bounds) (s : Superblock) → e.ends Super ≤ f.ends Super → Same b c 0 (super_len s.version) → Spells s (super_bytes_of b e) → Spells s (super_bytes_of c f)
super_stays b c e f s ends same h =
    let n = super_len s.version in
    let told : s.version ≡ version_of (super_bytes_of b e) = ap (λ (t : Superblock). t.version) h.value in
    let whole : n ≤ length (super_bytes_of b e) = subst (λ v. super_len v ≤ length (super_bytes_of b e)) (sym told) h.block.whole in
    let before : length (super_bytes_of b e) ≡ min 100 (e.ends Super) = length-map-range_with_len b 0 (min 100 (e.ends Super)) in
    let after : length (super_bytes_of c f) ≡ min 100 (f.ends Super) = length-map-range_with_len c 0 (min 100 (f.ends Super)) in
    let front : take n (super_bytes_of b e) ≡ take n (super_bytes_of c f) =
    take-map-range_with_len b 0 (min 100 (e.ends Super)) n (omega arith) ∙ bytes_same b c 0 n same ∙ sym (take-map-range_with_len c 0 (min 100 (f.ends Super)) n (omega arith)) in
    spells_same s (super_bytes_of b e) (super_bytes_of c f) (omega arith) front h

-- The same tree of places is held where the bytes of all its blocks stay and the ends rise.
pub full_stays : (b c : Array) (e f : Bounds) (s : Superblock) (g : GroupAt) (ls : FullLinks) (h : HoldsFull b e s g ls)
    → Rises e f → Agree b c (all_blocks s h.driver (Group g ls)) → HoldsFull c f s g ls
full_stays b c e f s g ls h r agree =
    let driver = agree_left b c h.driver (blocks_of (Group g ls)) agree.1 in
    let objects = agree_right b c h.driver (blocks_of (Group g ls)) agree.1 in
    record {
      super = super_stays b c e f s (r.ends Super) agree.0 h.super;
      driver = h.driver;
      driver_is = subst (λ o. HasDriver c o s.driver_at h.driver) (sym r.own) (driver_stays b c e.own s.driver_at h.driver driver h.driver_is);
      root = h.root;
      held = frame b c (ks_of s) (Group g ls) objects h.held;
      kept = kept_stays e f (all_blocks s h.driver (Group g ls)) r h.kept;
    }

-- and the block of driver information is the same
pub full_driver_stays : (b c : Array) (e f : Bounds) (s : Superblock) (g : GroupAt) (ls : FullLinks) (h : HoldsFull b e s g ls)
    (r : Rises e f) (agree : Agree b c (all_blocks s h.driver (Group g ls))) → (full_stays b c e f s g ls h r agree).driver ≡ h.driver
unfolding full_stays
full_driver_stays b c e f s g ls h r agree = refl

-- where the ends alone rise, wherever the end of the superblock is
pub holds_risen : (b : Array) (e f : Bounds) (t : Plain) → Rises e f → Holds b e t → Holds b f t
holds_risen b e f t r h = record {
  super = h.super;
  root = h.root;
  links = h.links;
  full = full_stays b b e f h.super h.root h.links h.full r (agree_itself b (all_blocks h.super h.full.driver (Group h.root h.links)));
  tree = h.tree;
}
