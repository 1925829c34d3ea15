-- A file is refused for one reason.
use Rattle.std.proofs.Common.{◌≡◌, ◌≢◌, ℕ, zero, suc, ◌+◌, true, false, List, [], ◌∷◌, ◌++◌, refl, sym, ◌∙◌, ap, subst}
use Rattle.std.proofs.Common.{arith, inl, inr, Option, Some}
use Rattle.std.proofs.lemmas.List.{append-nil}
use Rattle.outside.specs.Array.{Array, bytes_of}
use Rattle.outside.specs.Blocks.{Block, Bounds, AreTaken}
use Rattle.h5_base.specs.declared.kinds.BlockKind.TheVariants as kind
use Rattle.h5_base.specs.declared.refusal.Refusal.{Refusal}
use Rattle.h5_base.specs.Fields.{u32_at, undefined}
use Rattle.super_codec.specs.Super.{Spells}
use Rattle.super_codec.specs.declared.superblock.Superblock.{Superblock}
use Rattle.header_codec.specs.declared.types.Prefix.{Prefix}
use Rattle.file_model.specs.Headers.{Part, IsHeader, header_blocks, messages_of}
use Rattle.file_model.specs.Objects.{DataInfo, has, IsGroupHeader, IsDataHeader}
use Rattle.file_model.specs.Groups.{Ks, Found, Target, Header, Text}
use Rattle.file_model.specs.Holds.{GroupAt, Full, IsGroup, target_of, blocks_of, ks_of, HasDriver, super_bytes_of}
use Rattle.file_model.specs.Limits.{most_depth, objects_of, IsShort, IsSmallHeap}
use Rattle.file_model.specs.Refusals.{IsHeaderRefused}
use Rattle.file_model.specs.RefusedGroups.{IsTableRefused}
use Rattle.file_model.specs.RefusedChunks.{IsStorageRefused}
use Rattle.file_model.specs.RefusedTree.{IsTargetRefused, AreLinksRefused, WasOpened, WasRead}
use Rattle.file_model.specs.RefusedTree.{IsRefusedWith, ObjectTooMany, InHeader, InTable, InStorage, InLinks}
use Rattle.file_model.specs.RefusedTree.{IsObjectRefused, IsDriverRefused, DriverBegin, NoDriver, OtherDriver}
use Rattle.file_model.specs.RefusedTree.{DriverBlock, super_block, IsRootRefused, RootHeader, LaterRoot, NoGroup}
use Rattle.file_model.specs.RefusedTree.{InGroup, IsFileRefused, NoSuper, InDriver, InTree}
use Rattle.file_model.specs.Laws.{OneRefusal}
use Rattle.file_model.proofs.UniqueHeaders.{group_same, data_same}
use Rattle.file_model.proofs.UniqueTree.{readings, group_are, not_later, table_or_none, one_object}
use Rattle.file_model.proofs.NoFault.{room_after}
use Rattle.file_model.proofs.NoHeader.{header_not}
use Rattle.file_model.proofs.NoRefusal.{later_not, table_there, group_table, target_not, object_not, driver_not}
use Rattle.file_model.proofs.NoRefusal.{driver_same}
use Rattle.file_model.proofs.OneBlock.{block_one, taken_not}
use Rattle.file_model.proofs.OneHeader.{header_one}
use Rattle.file_model.proofs.OneGroup.{table_one}
use Rattle.file_model.proofs.OneChunk.{storage_one}

-- blocks that were taken, with none behind them
taken_alone : (e : Bounds) (met own : List Block) → AreTaken e met own → AreTaken e met (own ++ [])
taken_alone e met own h = subst (AreTaken e met) (sym (append-nil own)) h

-- a header that was read isn't refused
read_not : (b : Array) (e : Bounds) (met : List Block) (at : ℕ) (p : Prefix) (ps : List Part) (r : Refusal)
    → WasRead b e met at p ps → IsHeaderRefused b e met at r → ⊥
read_not b e met at p ps r h refused =
    header_not b e met at p ps [] r h.header (taken_alone e met (header_blocks at p ps) h.blocks.taken) h.blocks.short
    refused

-- ---- objects

-- an object with so many levels left is refused for one reason
abbrev OneAt : Array → Bounds → Ks → ℕ → Type 0
OneAt b e ks levels = (objects : ℕ) (met : List Block) (at : ℕ) (r q : Refusal)
    → IsObjectRefused b e ks levels objects met at r → IsObjectRefused b e ks levels objects met at q → r ≡ q

target_one : (b : Array) (e : Bounds) (ks : Ks) (levels : ℕ) → OneAt b e ks levels → (objects : ℕ) (met : List Block)
    (t : Target) (r q : Refusal) → IsTargetRefused (IsObjectRefused b e ks levels) objects met t r
    → IsTargetRefused (IsObjectRefused b e ks levels) objects met t q → r ≡ q
target_one b e ks levels one objects met (Header at) r q x y = one objects met at r q x y
target_one b e ks levels one objects met (Text text) r q x y = absurd x

-- what was opened isn't refused
opened_not : (b : Array) (e : Bounds) (ks : Ks) (levels objects : ℕ) (met : List Block) (t : Full) (target : Target)
    (r : Refusal) → WasOpened b e ks levels objects met t → target_of t ≡ target
    → IsTargetRefused (IsObjectRefused b e ks levels) objects met target r → ⊥
opened_not b e ks levels objects met t target r h is refused =
    target_not b e ks levels (object_not b e ks levels) t objects met [] r target is h.held
    (taken_alone e met (blocks_of t) h.taken) h.depth h.few h.fits refused

links_one : (b : Array) (e : Bounds) (ks : Ks) (levels : ℕ) → OneAt b e ks levels → (objects : ℕ) (met : List Block)
    (fs : List Found) (r q : Refusal) → AreLinksRefused (IsObjectRefused b e ks levels) b e ks levels objects met fs r
    → AreLinksRefused (IsObjectRefused b e ks levels) b e ks levels objects met fs q → r ≡ q
links_one b e ks levels one objects met [] r q x y = absurd x
links_one b e ks levels one objects met (f ∷ fs) r q (inl x) (inl y) =
    target_one b e ks levels one objects met f.target r q x y
links_one b e ks levels one objects met (f ∷ fs) r q (inl x) (inr (t, opened, is, y)) =
    absurd (opened_not b e ks levels objects met t f.target r opened is x)
links_one b e ks levels one objects met (f ∷ fs) r q (inr (t, opened, is, x)) (inl y) =
    absurd (opened_not b e ks levels objects met t f.target q opened is y)
links_one b e ks levels one objects met (f ∷ fs) r q (inr (t, opened, is, x)) (inr (u, opened', is', y)) =
    let same : u ≡ t = one_object b ks u t opened'.held opened.held (is' ∙ sym is) in
    links_one b e ks levels one (objects + objects_of t) (met ++ blocks_of t) fs r q x
    (subst (λ (v : Full). AreLinksRefused (IsObjectRefused b e ks levels) b e ks levels (objects + objects_of v)
    (met ++ blocks_of v) fs q) same y)

-- a group whose links are reached: its header and its index were read, and are taken
record Reached (b : Array) (e : Bounds) (ks : Ks) (met : List Block) (at : ℕ) (g : GroupAt) (fs : List Found) : Type 0
  where
    place : g.header_at ≡ at
    group : IsGroup b ks g fs
    taken : AreTaken e met g.own
    short : IsShort b g.header_at
    small : IsSmallHeap b g.heap_at

-- its header isn't refused
reached_header : (b : Array) (e : Bounds) (ks : Ks) (met : List Block) (at : ℕ) (g : GroupAt) (fs : List Found)
    (r : Refusal) → Reached b e ks met at g fs → IsHeaderRefused b e met at r → ⊥
reached_header b e ks met at g fs r h refused =
    header_not b e met g.header_at h.group.prefix h.group.parts h.group.index r h.group.header
    (subst (AreTaken e met) h.group.blocks h.taken) (h.short h.group.prefix h.group.parts h.group.header)
    (subst (λ (n : ℕ). IsHeaderRefused b e met n r) (sym h.place) refused)

-- nor is its index
reached_table : (b : Array) (e : Bounds) (ks : Ks) (met : List Block) (at : ℕ) (g : GroupAt) (fs : List Found)
    (p : Prefix) (ps : List Part) (tree heap : ℕ) (r : Refusal) → Reached b e ks met at g fs → IsHeader b at p ps
    → IsGroupHeader (messages_of ps) tree heap → IsTableRefused b e ks (met ++ header_blocks at p ps) tree heap r → ⊥
reached_table b e ks met at g fs p ps tree heap r h k table refused =
    group_table b e ks g fs met [] p ps tree heap r h.group (h.short, h.small, tt) (taken_alone e met g.own h.taken)
    (subst (λ (n : ℕ). IsHeader b n p ps) (sym h.place) k) table
    (subst (λ (n : ℕ). IsTableRefused b e ks (met ++ header_blocks n p ps) tree heap r) (sym h.place) refused)

-- and it is no dataset
reached_no_data : (b : Array) (e : Bounds) (ks : Ks) (met : List Block) (at : ℕ) (g : GroupAt) (fs : List Found)
    (p : Prefix) (ps : List Part) → Reached b e ks met at g fs → IsHeader b at p ps
    → has 0x11 (messages_of ps) ≡ false → ⊥
reached_no_data b e ks met at g fs p ps h k none =
    table_there b ks g fs p ps h.group (subst (λ (n : ℕ). IsHeader b n p ps) (sym h.place) k) none

-- two readings of one group's index
tables_one : (b : Array) (e : Bounds) (ks : Ks) (met : List Block) (at : ℕ) (p p' : Prefix) (ps ps' : List Part)
    (tree tree' heap heap' : ℕ) (r q : Refusal) → IsHeader b at p ps → IsHeader b at p' ps'
    → IsGroupHeader (messages_of ps) tree heap → IsGroupHeader (messages_of ps') tree' heap'
    → IsTableRefused b e ks (met ++ header_blocks at p ps) tree heap r
    → IsTableRefused b e ks (met ++ header_blocks at p' ps') tree' heap' q → r ≡ q
tables_one b e ks met at p p' ps ps' tree tree' heap heap' r q h k table table' x y =
    let same = readings b at at p p' ps ps' refl h k in
    let places = group_same (messages_of ps) tree tree' heap heap' table
    (subst (λ (l : List Part). IsGroupHeader (messages_of l) tree' heap') (sym same.parts) table') in
    let blocks : header_blocks at p' ps' ≡ header_blocks at p ps =
    (λ j. header_blocks at (sym same.prefix j) (sym same.parts j)) in
    let y1 = subst (λ (l : List Block). IsTableRefused b e ks (met ++ l) tree' heap' q) blocks y in
    let y2 = subst (λ (n : ℕ). IsTableRefused b e ks (met ++ header_blocks at p ps) n heap' q) (sym places.0) y1 in
    let y3 = subst (λ (n : ℕ). IsTableRefused b e ks (met ++ header_blocks at p ps) tree n q) (sym places.1) y2 in
    table_one b e ks (met ++ header_blocks at p ps) tree heap r q x y3

-- two readings of where one dataset's elements stand
storages_one : (b : Array) (e : Bounds) (ks : Ks) (met : List Block) (at : ℕ) (p p' : Prefix) (ps ps' : List Part)
    (i i' : DataInfo) (r q : Refusal) → IsHeader b at p ps → IsHeader b at p' ps' → IsDataHeader (messages_of ps) i
    → IsDataHeader (messages_of ps') i' → IsStorageRefused b e ks.chunk i (met ++ header_blocks at p ps) r
    → IsStorageRefused b e ks.chunk i' (met ++ header_blocks at p' ps') q → r ≡ q
storages_one b e ks met at p p' ps ps' i i' r q h k told told' x y =
    let same = readings b at at p p' ps ps' refl h k in
    let info : i ≡ i' = data_same (messages_of ps) i i' told
    (subst (λ (l : List Part). IsDataHeader (messages_of l) i') (sym same.parts) told') in
    let blocks : header_blocks at p' ps' ≡ header_blocks at p ps =
    (λ j. header_blocks at (sym same.prefix j) (sym same.parts j)) in
    let y1 = subst (λ (l : List Block). IsStorageRefused b e ks.chunk i' (met ++ l) q) blocks y in
    let y2 = subst (λ (z : DataInfo). IsStorageRefused b e ks.chunk z (met ++ header_blocks at p ps) q) (sym info) y1 in
    storage_one b e ks.chunk i (met ++ header_blocks at p ps) r q x y2

-- no header is a group's and a dataset's
table_no_data : (b : Array) (at : ℕ) (p p' : Prefix) (ps ps' : List Part) (tree heap : ℕ) → IsHeader b at p ps
    → IsHeader b at p' ps' → IsGroupHeader (messages_of ps) tree heap → has 0x11 (messages_of ps') ≡ false → ⊥
table_no_data b at p p' ps ps' tree heap h k table none =
    let same = readings b at at p p' ps ps' refl h k in
    table_or_none (messages_of ps) tree heap table (ap (λ (l : List Part). has 0x11 (messages_of l)) same.parts ∙ none)

-- two readings of one group's links
reached_one : (b : Array) (e : Bounds) (ks : Ks) (levels : ℕ) → OneAt b e ks levels → (objects : ℕ) (met : List Block)
    (at : ℕ) (g g' : GroupAt) (fs fs' : List Found) (r q : Refusal) → Reached b e ks met at g fs
    → Reached b e ks met at g' fs'
    → AreLinksRefused (IsObjectRefused b e ks levels) b e ks levels (objects + 1) (met ++ g.own) fs r
    → AreLinksRefused (IsObjectRefused b e ks levels) b e ks levels (objects + 1) (met ++ g'.own) fs' q → r ≡ q
reached_one b e ks levels one objects met at g g' fs fs' r q h k x y =
    let same = group_are b ks g' g fs' fs (k.place ∙ sym h.place) k.group h.group in
    let y1 = subst (λ (z : GroupAt). AreLinksRefused (IsObjectRefused b e ks levels) b e ks levels (objects + 1)
    (met ++ z.own) fs' q) same.0 y in
    let y2 = subst (λ (l : List Found). AreLinksRefused (IsObjectRefused b e ks levels) b e ks levels (objects + 1)
    (met ++ g.own) l q) same.1 y1 in
    links_one b e ks levels one (objects + 1) (met ++ g.own) fs r q x y2

with_one : (b : Array) (e : Bounds) (ks : Ks) (levels : ℕ) → OneAt b e ks levels → OneAt b e ks (suc levels)
with_one b e ks levels one objects met at r q x y = go x y
  where
    go : IsRefusedWith (IsObjectRefused b e ks levels) b e ks levels objects met at r
        → IsRefusedWith (IsObjectRefused b e ks levels) b e ks levels objects met at q → r ≡ q
    go (ObjectTooMany many line) (ObjectTooMany many' line') = line ∙ sym line'
    go (ObjectTooMany many line) (InHeader few y) = absurd (omega (arith, many, few))
    go (ObjectTooMany many line) (InTable p ps tree heap few k table y) = absurd (omega (arith, many, few))
    go (ObjectTooMany many line) (InStorage p ps i few k told y) = absurd (omega (arith, many, few))
    go (ObjectTooMany many line) (InLinks g fs few is k taken short small y) = absurd (omega (arith, many, few))
    go (InHeader few x) (ObjectTooMany many line) = absurd (omega (arith, many, few))
    go (InHeader few x) (InHeader few' y) = header_one b e met at r q x y
    go (InHeader few x) (InTable p ps tree heap few' k table y) = absurd (read_not b e met at p ps r k x)
    go (InHeader few x) (InStorage p ps i few' k told y) = absurd (read_not b e met at p ps r k x)
    go (InHeader few x) (InLinks g fs few' is k taken short small y) =
        absurd (reached_header b e ks met at g fs r
        (record { place = is; group = k; taken = taken; short = short; small = small }) x)
    go (InTable p ps tree heap few h table x) (ObjectTooMany many line) = absurd (omega (arith, many, few))
    go (InTable p ps tree heap few h table x) (InHeader few' y) = absurd (read_not b e met at p ps q h y)
    go (InTable p ps tree heap few h table x) (InTable p' ps' tree' heap' few' k table' y) =
        tables_one b e ks met at p p' ps ps' tree tree' heap heap' r q h.header k.header table table' x y
    go (InTable p ps tree heap few h table x) (InStorage p' ps' i few' k told y) =
        absurd (table_no_data b at p p' ps ps' tree heap h.header k.header table told.no_table)
    go (InTable p ps tree heap few h table x) (InLinks g fs few' is k taken short small y) =
        absurd (reached_table b e ks met at g fs p ps tree heap r
        (record { place = is; group = k; taken = taken; short = short; small = small }) h.header table x)
    go (InStorage p ps i few h told x) (ObjectTooMany many line) = absurd (omega (arith, many, few))
    go (InStorage p ps i few h told x) (InHeader few' y) = absurd (read_not b e met at p ps q h y)
    go (InStorage p ps i few h told x) (InTable p' ps' tree heap few' k table y) =
        absurd (table_no_data b at p' p ps' ps tree heap k.header h.header table told.no_table)
    go (InStorage p ps i few h told x) (InStorage p' ps' i' few' k told' y) =
        storages_one b e ks met at p p' ps ps' i i' r q h.header k.header told told' x y
    go (InStorage p ps i few h told x) (InLinks g fs few' is k taken short small y) =
        absurd (reached_no_data b e ks met at g fs p ps
        (record { place = is; group = k; taken = taken; short = short; small = small }) h.header told.no_table)
    go (InLinks g fs few is h taken short small x) (ObjectTooMany many line) = absurd (omega (arith, many, few))
    go (InLinks g fs few is h taken short small x) (InHeader few' y) =
        absurd (reached_header b e ks met at g fs q
        (record { place = is; group = h; taken = taken; short = short; small = small }) y)
    go (InLinks g fs few is h taken short small x) (InTable p ps tree heap few' k table y) =
        absurd (reached_table b e ks met at g fs p ps tree heap q
        (record { place = is; group = h; taken = taken; short = short; small = small }) k.header table y)
    go (InLinks g fs few is h taken short small x) (InStorage p ps i few' k told y) =
        absurd (reached_no_data b e ks met at g fs p ps
        (record { place = is; group = h; taken = taken; short = short; small = small }) k.header told.no_table)
    go (InLinks g fs few is h taken short small x) (InLinks g' fs' few' is' k taken' short' small' y) =
        reached_one b e ks levels one objects met at g g' fs fs' r q
        (record { place = is; group = h; taken = taken; short = short; small = small })
        (record { place = is'; group = k; taken = taken'; short = short'; small = small' }) x y

pub object_one : (b : Array) (e : Bounds) (ks : Ks) (levels : ℕ) → OneAt b e ks levels
object_one b e ks zero objects met at r q x y = x ∙ sym y
object_one b e ks (suc levels) objects met at r q x y =
    with_one b e ks levels (object_one b e ks levels) objects met at r q x y

-- ---- the file

driver_one : (b : Array) (e : Bounds) (met : List Block) (at : ℕ) (ident : List ℕ) (r q : Refusal)
    → IsDriverRefused b e met at ident r → IsDriverRefused b e met at ident q → r ≡ q
driver_one b e met at ident r q (DriverBegin x) (DriverBegin y) =
    block_one e met (record { start = at; len = 16 }) kind.Driver r q x y
driver_one b e met at ident r q (DriverBegin x) (NoDriver taken wrong line) =
    absurd (taken_not e met (record { start = at; len = 16 }) [] kind.Driver r taken x)
driver_one b e met at ident r q (DriverBegin x) (OtherDriver taken first wrong line) =
    absurd (taken_not e met (record { start = at; len = 16 }) [] kind.Driver r taken x)
driver_one b e met at ident r q (DriverBegin x) (DriverBlock taken own y) =
    absurd (taken_not e met (record { start = at; len = 16 }) [] kind.Driver r taken x)
driver_one b e met at ident r q (NoDriver taken wrong line) (DriverBegin y) =
    absurd (taken_not e met (record { start = at; len = 16 }) [] kind.Driver q taken y)
driver_one b e met at ident r q (NoDriver taken wrong line) (NoDriver taken' wrong' line') = line ∙ sym line'
driver_one b e met at ident r q (NoDriver taken wrong line) (OtherDriver taken' first other line') =
    absurd (wrong first)
driver_one b e met at ident r q (NoDriver taken wrong line) (DriverBlock taken' own y) = absurd (wrong own.version)
driver_one b e met at ident r q (OtherDriver taken first wrong line) (DriverBegin y) =
    absurd (taken_not e met (record { start = at; len = 16 }) [] kind.Driver q taken y)
driver_one b e met at ident r q (OtherDriver taken first wrong line) (NoDriver taken' other line') =
    absurd (other first)
driver_one b e met at ident r q (OtherDriver taken first wrong line) (OtherDriver taken' first' wrong' line') =
    line ∙ sym line'
driver_one b e met at ident r q (OtherDriver taken first wrong line) (DriverBlock taken' own y) =
    absurd (wrong own.ident_is)
driver_one b e met at ident r q (DriverBlock taken own x) (DriverBegin y) =
    absurd (taken_not e met (record { start = at; len = 16 }) [] kind.Driver q taken y)
driver_one b e met at ident r q (DriverBlock taken own x) (NoDriver taken' wrong line) = absurd (wrong own.version)
driver_one b e met at ident r q (DriverBlock taken own x) (OtherDriver taken' first wrong line) =
    absurd (wrong own.ident_is)
driver_one b e met at ident r q (DriverBlock taken own x) (DriverBlock taken' own' y) =
    block_one e met (record { start = at; len = 16 + u32_at (bytes_of b at 16) 4 }) kind.Driver r q x y

pub root_one : (b : Array) (e : Bounds) (ks : Ks) (met : List Block) (at : ℕ) (r q : Refusal)
    → IsRootRefused b e ks met at r → IsRootRefused b e ks met at q → r ≡ q
root_one b e ks met at r q x y = go x y
  where
    table_both : (p p' : Prefix) (ps ps' : List Part) → IsHeader b at p ps → IsHeader b at p' ps'
        → has 0x11 (messages_of ps) ≡ false → has 0x11 (messages_of ps') ≡ true → ⊥
    table_both p p' ps ps' h k none some =
        let same = readings b at at p p' ps ps' refl h k in
        let parts = ap (λ (l : List Part). has 0x11 (messages_of l)) same.parts in
        let wrong : false ≡ true = sym none ∙ parts ∙ some in
        cc

    go : IsRootRefused b e ks met at r → IsRootRefused b e ks met at q → r ≡ q
    go (RootHeader x) (RootHeader y) = header_one b e met at r q x y
    go (RootHeader x) (LaterRoot taken is line) = absurd (later_not b e met at [] r is taken x)
    go (RootHeader x) (NoGroup p ps k none line) = absurd (read_not b e met at p ps r k x)
    go (RootHeader x) (InGroup p ps k some y) = absurd (read_not b e met at p ps r k x)
    go (LaterRoot taken is line) (RootHeader y) = absurd (later_not b e met at [] q is taken y)
    go (LaterRoot taken is line) (LaterRoot taken' is' line') = line ∙ sym line'
    go (LaterRoot taken is line) (NoGroup p ps k none line') = absurd (not_later b at p ps k.header is)
    go (LaterRoot taken is line) (InGroup p ps k some y) = absurd (not_later b at p ps k.header is)
    go (NoGroup p ps h none line) (RootHeader y) = absurd (read_not b e met at p ps q h y)
    go (NoGroup p ps h none line) (LaterRoot taken is line') = absurd (not_later b at p ps h.header is)
    go (NoGroup p ps h none line) (NoGroup p' ps' k none' line') = line ∙ sym line'
    go (NoGroup p ps h none line) (InGroup p' ps' k some y) =
        absurd (table_both p p' ps ps' h.header k.header none some)
    go (InGroup p ps h some x) (RootHeader y) = absurd (read_not b e met at p ps q h y)
    go (InGroup p ps h some x) (LaterRoot taken is line) = absurd (not_later b at p ps h.header is)
    go (InGroup p ps h some x) (NoGroup p' ps' k none line) =
        absurd (table_both p' p ps' ps k.header h.header none some)
    go (InGroup p ps h some x) (InGroup p' ps' k some' y) =
        object_one b e ks (most_depth + 1) 0 met at r q x y

pub file_one : OneRefusal
file_one b e r q x y = go r q x y
  where
    same : (s z : Superblock) → Spells s (super_bytes_of b e) → Spells z (super_bytes_of b e) → z ≡ s
    same s z h k = k.value ∙ sym h.value

    ident_same : (i j : List ℕ) → e.own ≡ Some i → e.own ≡ Some j → j ≡ i
    ident_same i j h k = cc

    -- a driver information block that was read isn't refused
    read_driver : (s z : Superblock) (ident : List ℕ) (driver : List Block) (r : Refusal) → z ≡ s → e.own ≡ Some ident
        → s.driver_at ≢ undefined → IsDriverRefused b e (super_block s ∷ []) s.driver_at ident r
        → HasDriver b e.own z.driver_at driver → AreTaken e [] (super_block z ∷ driver) → ⊥
    read_driver s z ident driver r is own there refused has taken =
        let has1 = subst (λ (o : Option (List ℕ)). HasDriver b o z.driver_at driver) own has in
        let has2 = subst (λ (x : Superblock). HasDriver b (Some ident) x.driver_at driver) is has1 in
        let taken1 = subst (λ (x : Superblock). AreTaken e [] (super_block x ∷ driver)) is taken in
        driver_not b e (super_block s ∷ []) [] s.driver_at ident driver r has2 there
        (taken_alone e (super_block s ∷ []) driver (room_after e [] (super_block s ∷ []) driver taken1)) refused

    go : (r q : Refusal) → IsFileRefused b e r → IsFileRefused b e q → r ≡ q
    go r q (NoSuper none line) (NoSuper none' line') = line ∙ sym line'
    go r q (NoSuper none line) (InDriver s ident k own there y) = absurd (none s k)
    go r q (NoSuper none line) (InTree s driver k has taken y) = absurd (none s k)
    go r q (InDriver s ident h own there x) (NoSuper none line) = absurd (none s h)
    go r q (InDriver s ident h own there x) (InDriver z ident' k own' there' y) =
        let y1 = subst (λ (i : List ℕ). IsDriverRefused b e (super_block z ∷ []) z.driver_at i q)
        (ident_same ident ident' own own') y in
        let y2 = subst (λ (w : Superblock). IsDriverRefused b e (super_block w ∷ []) w.driver_at ident q)
        (same s z h k) y1 in
        driver_one b e (super_block s ∷ []) s.driver_at ident r q x y2
    go r q (InDriver s ident h own there x) (InTree z driver k has taken y) =
        absurd (read_driver s z ident driver r (same s z h k) own there x has taken)
    go r q (InTree s driver h has taken x) (NoSuper none line) = absurd (none s h)
    go r q (InTree s driver h has taken x) (InDriver z ident k own there y) =
        absurd (read_driver z s ident driver q (same z s k h) own there y has taken)
    go r q (InTree s driver h has taken x) (InTree z driver' k has' taken' y) =
        let is = same s z h k in
        let has1 = subst (λ (w : Superblock). HasDriver b e.own w.driver_at driver') is has' in
        let y1 = subst (λ (w : Superblock). IsRootRefused b e (ks_of w) (super_block w ∷ driver') w.root.header_at q)
        is y in
        let y2 = subst (λ (l : List Block). IsRootRefused b e (ks_of s) (super_block s ∷ l) s.root.header_at q)
        (driver_same b e.own s.driver_at driver' driver has1 has) y1 in
        root_one b e (ks_of s) (super_block s ∷ driver) s.root.header_at r q x y2
