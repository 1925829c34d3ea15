-- A file whose tree is held within the limits isn't refused.
use Rattle.std.proofs.Common.{◌≡◌, ◌≢◌, ℕ, zero, suc, ◌+◌, ◌≤◌, false, List, [], ◌∷◌, ◌++◌, refl, sym, ◌∙◌, ap, subst, arith, inl, inr, Option, Some, None}
use Rattle.std.proofs.lemmas.List.{append_assoc, append-nil}
use Rattle.outside.specs.Array.{Array, bytes_of}
use Rattle.outside.specs.Blocks.{Block, Bounds}
use Rattle.h5_base.specs.declared.kinds.BlockKind.TheVariants as kind
use Rattle.h5_base.specs.Fields.{u32_at, undefined}
use Rattle.super_codec.specs.Super.{Spells}
use Rattle.super_codec.specs.declared.superblock.Superblock.{Superblock}
use Rattle.header_codec.specs.declared.types.Prefix.{Prefix}
use Rattle.object_model.specs.Tree.{Group, Leaf, Empty, Link}
use Rattle.file_model.specs.Headers.{Part, IsHeader, header_blocks, messages_of, later_header}
use Rattle.file_model.specs.Objects.{DataInfo, has, IsGroupHeader, IsDataHeader}
use Rattle.file_model.specs.Groups.{Ks, Found, Target, Header, Text}
use Rattle.file_model.specs.Holds.{GroupAt, DataAt, OtherAt, DataLeaf, SoftLeaf, OtherLeaf, Full, FullLinks, IsGroup, IsData, IsUnknown, Unsupported, Later, IsHeld, AreHeld, founds, target_of, blocks_of, blocks_in, ks_of, HasDriver, super_bytes_of}
use Rattle.file_model.specs.Limits.{most_depth, most_objects, IsShort, depth_to, depth_in, objects_of, objects_in, Fits, AllFit}
use Rattle.h5_base.specs.declared.refusal.Refusal.{Refusal}
use Rattle.file_model.specs.Refusals.{IsHeaderRefused, LaterHeader, PrefixBlock, NoPrefix, LargeFirst, HeaderBlock, InMessages}
use Rattle.file_model.specs.RefusedGroups.{IsTableRefused}
use Rattle.file_model.specs.RefusedChunks.{IsStorageRefused}
use Rattle.file_model.specs.RefusedTree.{IsTargetRefused, AreLinksRefused, IsRefusedWith, ObjectTooMany, InHeader, InTable, InStorage, InLinks, IsObjectRefused, IsDriverRefused, DriverBegin, NoDriver, OtherDriver, DriverBlock, super_block, IsFileRefused, NoSuper, InDriver, InTree, IsRootRefused, RootHeader, LaterRoot, NoGroup, InGroup}
use Rattle.file_model.specs.Laws.{NotRefused, all_blocks}
use Rattle.file_model.proofs.UniqueHeaders.{group_same, data_same}
use Rattle.file_model.proofs.UniqueTree.{readings, group_are, later_no_prefix, not_later, table_or_none, header_is, group_no_leaf, one_object}
use Rattle.file_model.proofs.NoFault.{Room, IsFree, free_of, free_less, not_refused, room_after}
use Rattle.file_model.proofs.NoHeader.{header_not}
use Rattle.file_model.proofs.NoGroups.{table_not}
use Rattle.file_model.proofs.NoChunks.{storage_not}

-- ---- headers

-- a header of a later version is refused only for its four bytes
pub later_not : (b : Array) (e : Bounds) (met : List Block) (at : ℕ) (later : List Block) (r : Refusal) → bytes_of b at 4 ≡ later_header → Room e met (record { start = at; len = 4 } ∷ later) → IsHeaderRefused b e met at r → ⊥
later_not b e met at later r is room refused = go refused
  where
    go : IsHeaderRefused b e met at r → ⊥
    go (LaterHeader same h) = not_refused e met (record { start = at; len = 4 }) kind.Header r (free_of e met (record { start = at; len = 4 }) later room) h
    go (PrefixBlock not none h) = not is
    go (NoPrefix not none taken line) = not is
    go (LargeFirst p fits spelled large line) = later_no_prefix b at p is spelled
    go (HeaderBlock p fits spelled small h) = later_no_prefix b at p is spelled
    go (InMessages p spelled small h) = later_no_prefix b at p is spelled

-- ---- what an object at an address is

-- no header of version 1 stands there
no_header : (b : Array) (at other : ℕ) (p : Prefix) (ps : List Part) → bytes_of b at 4 ≡ later_header → other ≡ at → IsHeader b other p ps → ⊥
no_header b at other p ps is same h = not_later b other p ps h (ap (λ (n : ℕ). bytes_of b n 4) same ∙ is)

-- where a group's header stands, the symbol table message is there
pub table_there : (b : Array) (ks : Ks) (g : GroupAt) (fs : List Found) (p : Prefix) (ps : List Part) → IsGroup b ks g fs → IsHeader b g.header_at p ps → has 0x11 (messages_of ps) ≡ false → ⊥
table_there b ks g fs p ps h k none =
    let r = readings b g.header_at g.header_at h.prefix p h.parts ps refl h.header k in
    table_or_none (messages_of h.parts) g.tree_at g.heap_at h.table (ap (λ (qs : List Part). has 0x11 (messages_of qs)) r.parts ∙ none)

data_no_table : (b : Array) (ks : Ks) (d : DataAt) (p : Prefix) (ps : List Part) (t h : ℕ) → IsData b ks d → IsHeader b d.header_at p ps → IsGroupHeader (messages_of ps) t h → ⊥
data_no_table b ks d p ps t h x k table =
    let r = readings b d.header_at d.header_at x.prefix p x.parts ps refl x.header k in
    table_or_none (messages_of ps) t h table (ap (λ (qs : List Part). has 0x11 (messages_of qs)) (sym r.parts) ∙ x.told.no_table)

-- ---- groups

pub group_table : (b : Array) (e : Bounds) (ks : Ks) (g : GroupAt) (fs : List Found) (met later : List Block) (p : Prefix) (ps : List Part) (tree heap : ℕ) (r : Refusal) → IsGroup b ks g fs → Fits b (Group g Empty) → Room e met (g.own ++ later)
    → IsHeader b g.header_at p ps → IsGroupHeader (messages_of ps) tree heap → IsTableRefused b e ks (met ++ header_blocks g.header_at p ps) tree heap r → ⊥
group_table b e ks g fs met later p ps tree heap r h fits room k table refused =
    let same = readings b g.header_at g.header_at h.prefix p h.parts ps refl h.header k in
    let at = group_same (messages_of h.parts) g.tree_at tree g.heap_at heap h.table (subst (λ (qs : List Part). IsGroupHeader (messages_of qs) tree heap) (sym same.parts) table) in
    let head = header_blocks g.header_at h.prefix h.parts in
    let room' : Room e met (head ++ (h.index ++ later)) = subst (Room e met) (ap (λ (l : List Block). l ++ later) h.blocks ∙ append_assoc head h.index later) room in
    let blocks : header_blocks g.header_at p ps ≡ head = (λ j. header_blocks g.header_at (sym same.prefix j) (sym same.parts j)) in
    let refused' : IsTableRefused b e ks (met ++ head) g.tree_at g.heap_at r = rw (sym blocks, at.0, at.1) refused in
    table_not b e ks (met ++ head) later g.tree_at g.heap_at fs h.index r h.links (room_after e met head (h.index ++ later) room') fits.1 refused'

-- ---- objects

-- an object that is held, with so many levels for it and all below it
abbrev pub NotAt : Array → Bounds → Ks → ℕ → Type 0
NotAt b e ks levels = (t : Full) (objects : ℕ) (met later : List Block) (at : ℕ) (r : Refusal) → IsHeld b ks t → target_of t ≡ Header at → Room e met (blocks_of t ++ later)
    → depth_to t ≤ levels → objects + objects_of t ≤ most_objects → Fits b t → IsObjectRefused b e ks levels objects met at r → ⊥

pub target_not : (b : Array) (e : Bounds) (ks : Ks) (levels : ℕ) → NotAt b e ks levels → (t : Full) (objects : ℕ) (met later : List Block) (r : Refusal) (target : Target) → target_of t ≡ target → IsHeld b ks t → Room e met (blocks_of t ++ later)
    → depth_to t ≤ levels → objects + objects_of t ≤ most_objects → Fits b t → IsTargetRefused (IsObjectRefused b e ks levels) objects met target r → ⊥
target_not b e ks levels not t objects met later r (Header at) is h room deep few fits refused = not t objects met later at r h is room deep few fits refused
target_not b e ks levels not t objects met later r (Text text) is h room deep few fits refused = refused

links_not : (b : Array) (e : Bounds) (ks : Ks) (levels : ℕ) → NotAt b e ks levels → (ls : FullLinks) (objects : ℕ) (met later : List Block) (r : Refusal) → AreHeld b ks ls → Room e met (blocks_in ls ++ later)
    → depth_in ls ≤ levels → objects + objects_in ls ≤ most_objects → AllFit b ls → AreLinksRefused (IsObjectRefused b e ks levels) b e ks levels objects met (founds ls) r → ⊥
links_not b e ks levels not Empty objects met later r h room deep few fits refused = refused
links_not b e ks levels not (Link n t rest) objects met later r h room deep few fits refused =
    go refused (links_not b e ks levels not rest (objects + objects_of t) (met ++ blocks_of t) later r h.1 (room_after e met (blocks_of t) (blocks_in rest ++ later) room') (omega (arith, deep)) (omega (arith, few)) fits.1)
  where
    room' : Room e met (blocks_of t ++ (blocks_in rest ++ later))
    room' = subst (Room e met) (append_assoc (blocks_of t) (blocks_in rest) later) room

    go : AreLinksRefused (IsObjectRefused b e ks levels) b e ks levels objects met (founds (Link n t rest)) r
        → (AreLinksRefused (IsObjectRefused b e ks levels) b e ks levels (objects + objects_of t) (met ++ blocks_of t) (founds rest) r → ⊥) → ⊥
    go (inl x) next = target_not b e ks levels not t objects met (blocks_in rest ++ later) r (target_of t) refl h.0 room' (omega (arith, deep)) (omega (arith, few)) fits.0 x
    go (inr (u, opened, target, x)) next =
        let same : u ≡ t = one_object b ks u t opened.held h.0 target in
        next (subst (λ (v : Full). AreLinksRefused (IsObjectRefused b e ks levels) b e ks levels (objects + objects_of v) (met ++ blocks_of v) (founds rest) r) same x)

group_not : (b : Array) (e : Bounds) (ks : Ks) (levels : ℕ) → NotAt b e ks levels → (g : GroupAt) (ls : FullLinks) (objects : ℕ) (met later : List Block) (r : Refusal) → IsHeld b ks (Group g ls) → Room e met (blocks_of (Group g ls) ++ later)
    → depth_in ls ≤ levels → objects + objects_of (Group g ls) ≤ most_objects → Fits b (Group g ls) → IsRefusedWith (IsObjectRefused b e ks levels) b e ks levels objects met g.header_at r → ⊥
group_not b e ks levels not g ls objects met later r (h, below) room deep few fits refused = go refused
  where
    after : List Block
    after = blocks_in ls ++ later

    room' : Room e met (g.own ++ after)
    room' = subst (Room e met) (append_assoc g.own (blocks_in ls) later) room

    head : List Block
    head = header_blocks g.header_at h.prefix h.parts

    room_head : Room e met (head ++ (h.index ++ after))
    room_head = subst (Room e met) (ap (λ (l : List Block). l ++ after) h.blocks ∙ append_assoc head h.index after) room'

    go : IsRefusedWith (IsObjectRefused b e ks levels) b e ks levels objects met g.header_at r → ⊥
    go (ObjectTooMany many line) = omega (arith, many, few)
    go (InHeader most x) = header_not b e met g.header_at h.prefix h.parts (h.index ++ after) r h.header room_head (fits.0 h.prefix h.parts h.header) x
    go (InTable p ps tree heap most k table x) = group_table b e ks g (founds ls) met after p ps tree heap r h (fits.0, fits.1, tt) room' k.header table x
    go (InStorage p ps i most k told x) = table_there b ks g (founds ls) p ps h k.header told.no_table
    go (InLinks g' fs most at k taken short small x) =
        let same = group_are b ks g' g fs (founds ls) at k h in
        let x' = subst (λ (y : GroupAt). AreLinksRefused (IsObjectRefused b e ks levels) b e ks levels (objects + 1) (met ++ y.own) fs r) same.0 x in
        let x'' = subst (λ (l : List Found). AreLinksRefused (IsObjectRefused b e ks levels) b e ks levels (objects + 1) (met ++ g.own) l r) same.1 x' in
        links_not b e ks levels not ls (objects + 1) (met ++ g.own) later r below (room_after e met g.own after room') deep (omega (arith, few)) fits.2 x''

data_not : (b : Array) (e : Bounds) (ks : Ks) (levels : ℕ) (d : DataAt) (objects : ℕ) (met later : List Block) (r : Refusal) → IsData b ks d → Room e met (d.own ++ later)
    → objects + 1 ≤ most_objects → IsShort b d.header_at → IsRefusedWith (IsObjectRefused b e ks levels) b e ks levels objects met d.header_at r → ⊥
data_not b e ks levels d objects met later r h room few short refused = go refused
  where
    head : List Block
    head = header_blocks d.header_at h.prefix h.parts

    room_head : Room e met (head ++ (h.storage ++ later))
    room_head = subst (Room e met) (ap (λ (l : List Block). l ++ later) h.blocks ∙ append_assoc head h.storage later) room

    go : IsRefusedWith (IsObjectRefused b e ks levels) b e ks levels objects met d.header_at r → ⊥
    go (ObjectTooMany many line) = omega (arith, many, few)
    go (InHeader most x) = header_not b e met d.header_at h.prefix h.parts (h.storage ++ later) r h.header room_head (short h.prefix h.parts h.header) x
    go (InTable p ps tree heap most k table x) = data_no_table b ks d p ps tree heap h k.header table
    go (InStorage p ps i most k told x) =
        let same = readings b d.header_at d.header_at h.prefix p h.parts ps refl h.header k.header in
        let info : i ≡ d.info = data_same (messages_of ps) i d.info told (subst (λ (qs : List Part). IsDataHeader (messages_of qs) d.info) same.parts h.told) in
        let blocks : header_blocks d.header_at p ps ≡ head = (λ j. header_blocks d.header_at (sym same.prefix j) (sym same.parts j)) in
        let x' = subst (λ (l : List Block). IsStorageRefused b e ks.chunk i (met ++ l) r) blocks x in
        let x'' = subst (λ (y : DataInfo). IsStorageRefused b e ks.chunk y (met ++ head) r) info x' in
        storage_not b e ks.chunk d.info (met ++ head) later d.chunks h.storage r h.stored (room_after e met head (h.storage ++ later) room_head) x''
    go (InLinks g' fs most at k taken own small x) = group_no_leaf b ks g' fs (DataLeaf d) k h (ap Header at)

other_not : (b : Array) (e : Bounds) (ks : Ks) (levels : ℕ) (o : OtherAt) (objects : ℕ) (met later : List Block) (r : Refusal) → IsUnknown b o → Room e met (o.own ++ later)
    → objects + 1 ≤ most_objects → IsShort b o.header_at → IsRefusedWith (IsObjectRefused b e ks levels) b e ks levels objects met o.header_at r → ⊥
other_not b e ks levels o objects met later r h room few short (ObjectTooMany many line) = omega (arith, many, few)
other_not b e ks levels o objects met later r (Unsupported h) room few short (InHeader most x) =
    header_not b e met o.header_at h.prefix h.parts later r h.header (subst (λ (l : List Block). Room e met (l ++ later)) h.blocks room) (short h.prefix h.parts h.header) x
other_not b e ks levels o objects met later r (Later h) room few short (InHeader most x) =
    later_not b e met o.header_at later r h.signature (subst (λ (l : List Block). Room e met (l ++ later)) h.blocks room) x
other_not b e ks levels o objects met later r (Unsupported h) room few short (InTable p ps tree heap most k table x) =
    let same = readings b o.header_at o.header_at h.prefix p h.parts ps refl h.header k.header in
    table_or_none (messages_of ps) tree heap table (ap (λ (qs : List Part). has 0x11 (messages_of qs)) (sym same.parts) ∙ h.told.no_table)
other_not b e ks levels o objects met later r (Later h) room few short (InTable p ps tree heap most k table x) = no_header b o.header_at o.header_at p ps h.signature refl k.header
other_not b e ks levels o objects met later r (Unsupported h) room few short (InStorage p ps i most k told x) =
    let same = readings b o.header_at o.header_at h.prefix p h.parts ps refl h.header k.header in
    h.told.no_data i (subst (λ (qs : List Part). IsDataHeader (messages_of qs) i) (sym same.parts) told)
other_not b e ks levels o objects met later r (Later h) room few short (InStorage p ps i most k told x) = no_header b o.header_at o.header_at p ps h.signature refl k.header
other_not b e ks levels o objects met later r h room few short (InLinks g' fs most at k taken own small x) = group_no_leaf b ks g' fs (OtherLeaf o) k h (ap Header at)

pub object_not : (b : Array) (e : Bounds) (ks : Ks) (levels : ℕ) → NotAt b e ks levels
object_not b e ks zero (Group g ls) objects met later at r h target room deep few fits refused = omega (arith, deep)
object_not b e ks zero (Leaf (DataLeaf d)) objects met later at r h target room deep few fits refused = omega (arith, deep)
object_not b e ks zero (Leaf (SoftLeaf text)) objects met later at r h target room deep few fits refused = cc
object_not b e ks zero (Leaf (OtherLeaf o)) objects met later at r h target room deep few fits refused = omega (arith, deep)
object_not b e ks (suc levels) (Group g ls) objects met later at r h target room deep few fits refused =
    group_not b e ks levels (object_not b e ks levels) g ls objects met later r h room (omega (arith, deep)) few fits
    (subst (λ (n : ℕ). IsRefusedWith (IsObjectRefused b e ks levels) b e ks levels objects met n r) (sym (header_is g.header_at at target)) refused)
object_not b e ks (suc levels) (Leaf (DataLeaf d)) objects met later at r h target room deep few fits refused =
    data_not b e ks levels d objects met later r h room few fits
    (subst (λ (n : ℕ). IsRefusedWith (IsObjectRefused b e ks levels) b e ks levels objects met n r) (sym (header_is d.header_at at target)) refused)
object_not b e ks (suc levels) (Leaf (SoftLeaf text)) objects met later at r h target room deep few fits refused = cc
object_not b e ks (suc levels) (Leaf (OtherLeaf o)) objects met later at r h target room deep few fits refused =
    other_not b e ks levels o objects met later r h room few fits
    (subst (λ (n : ℕ). IsRefusedWith (IsObjectRefused b e ks levels) b e ks levels objects met n r) (sym (header_is o.header_at at target)) refused)

-- ---- the file

pub driver_not : (b : Array) (e : Bounds) (met later : List Block) (at : ℕ) (ident : List ℕ) (bs : List Block) (r : Refusal) → HasDriver b (Some ident) at bs → at ≢ undefined → Room e met (bs ++ later) → IsDriverRefused b e met at ident r → ⊥
driver_not b e met later at ident bs r (inl none) there room refused = there none.0
driver_not b e met later at ident bs r (inr (some, is, bs_is)) there room refused = go refused
  where
    len : ℕ
    len = 16 + u32_at (bytes_of b at 16) 4

    free : IsFree e met (record { start = at; len = 16 + u32_at (bytes_of b at 16) 4 })
    free = free_of e met (record { start = at; len = len }) later (subst (λ (l : List Block). Room e met (l ++ later)) bs_is room)

    go : IsDriverRefused b e met at ident r → ⊥
    go (DriverBegin x) = not_refused e met (record { start = at; len = 16 }) kind.Driver r (free_less e met at len 16 (omega arith) (omega arith) free) x
    go (NoDriver taken wrong line) = wrong is.version
    go (OtherDriver taken first wrong line) = wrong is.ident_is
    go (DriverBlock taken own x) = not_refused e met (record { start = at; len = len }) kind.Driver r free x

pub driver_same : (b : Array) (own : Option (List ℕ)) (at : ℕ) (bs cs : List Block) → HasDriver b own at bs → HasDriver b own at cs → bs ≡ cs
driver_same b None at bs cs h k = h ∙ sym k
driver_same b (Some ident) at bs cs (inl h) (inl k) = h.1 ∙ sym k.1
driver_same b (Some ident) at bs cs (inl h) (inr k) = absurd (k.0 h.0)
driver_same b (Some ident) at bs cs (inr h) (inl k) = absurd (h.0 k.0)
driver_same b (Some ident) at bs cs (inr h) (inr k) = h.2 ∙ sym k.2

pub not_refused_file : NotRefused
not_refused_file b e s g ls h r limits refused = go refused
  where
    all : List Block
    all = all_blocks s h.driver (Group g ls)

    tree : List Block
    tree = blocks_of (Group g ls)

    room : Room e (super_block s ∷ []) (h.driver ++ tree)
    room = record { kept = h.kept; few = limits.block_count }

    same : (s' : Superblock) → Spells s' (super_bytes_of b e) → s' ≡ s
    same s' k = k.value ∙ sym h.super.value

    group : IsGroup b (ks_of s) g (founds ls)
    group = h.held.0

    room_below : Room e (super_block s ∷ h.driver) (tree ++ [])
    room_below = subst (λ (l : List Block). Room e (super_block s ∷ h.driver) l) (sym (append-nil tree)) (room_after e (super_block s ∷ []) h.driver tree room)

    root_not : IsRootRefused b e (ks_of s) (super_block s ∷ h.driver) s.root.header_at r → ⊥
    root_not (RootHeader x) = object_not b e (ks_of s) (most_depth + 1) (Group g ls) 0 (super_block s ∷ h.driver) [] s.root.header_at r h.held (ap Header h.root) room_below (omega (arith, limits.depth)) (omega (arith, limits.objects)) limits.parts
        (InHeader (omega arith) x)
    root_not (LaterRoot taken later line) = no_header b s.root.header_at g.header_at group.prefix group.parts later h.root group.header
    root_not (NoGroup p ps k none line) = table_there b (ks_of s) g (founds ls) p ps group (subst (λ (n : ℕ). IsHeader b n p ps) (sym h.root) k.header) none
    root_not (InGroup p ps k there x) = object_not b e (ks_of s) (most_depth + 1) (Group g ls) 0 (super_block s ∷ h.driver) [] s.root.header_at r h.held (ap Header h.root) room_below (omega (arith, limits.depth)) (omega (arith, limits.objects)) limits.parts x

    go : IsFileRefused b e r → ⊥
    go (NoSuper none line) = none s h.super
    go (InDriver s' ident spelled own there x) =
        let x' = subst (λ (z : Superblock). IsDriverRefused b e (super_block z ∷ []) z.driver_at ident r) (same s' spelled) x in
        let there' = subst (λ (z : Superblock). z.driver_at ≢ undefined) (same s' spelled) there in
        driver_not b e (super_block s ∷ []) tree s.driver_at ident h.driver r (subst (λ (o : Option (List ℕ)). HasDriver b o s.driver_at h.driver) own h.driver_is) there' room x'
    go (InTree s' driver spelled has taken x) =
        let has' = subst (λ (z : Superblock). HasDriver b e.own z.driver_at driver) (same s' spelled) has in
        let x' = subst (λ (z : Superblock). IsRootRefused b e (ks_of z) (super_block z ∷ driver) z.root.header_at r) (same s' spelled) x in
        root_not (subst (λ (l : List Block). IsRootRefused b e (ks_of s) (super_block s ∷ l) s.root.header_at r)
        (driver_same b e.own s.driver_at driver h.driver has' h.driver_is) x')
