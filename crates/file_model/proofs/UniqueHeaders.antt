-- A header has one list of messages, and tells one thing.
use Rattle.std.proofs.Common.{◌≡◌, ℕ, ◌+◌, ◌-◌, ◌<◌, ◌≤◌, List, [], ◌∷◌, ◌++◌, length, Option, Some, None, refl, sym, ◌∙◌, ap, subst, arith, inl, inr}
use Rattle.std.specs.List.{flat_map}
use Rattle.outside.specs.Array.{Array, bytes_of}
use Rattle.h5_base.specs.Fields.{bytes_at, u64_at}
use Rattle.dtype.specs.Types.{size_of, SpellsType}
use Rattle.dtype.specs.Shapes.{SpellsShape}
use Rattle.dtype.specs.declared.types.ElemType.{ElemType}
use Rattle.dtype.proofs.TypeLaws.{type_unique}
use Rattle.header_codec.specs.Layouts.{SpellsLayout}
use Rattle.header_codec.specs.declared.types.Prefix.{Prefix}
use Rattle.header_codec.specs.declared.types.Message.{Message}
use Rattle.header_codec.specs.declared.types.Layout.{Layout}
use Rattle.outside.specs.Blocks.{Block}
use Rattle.file_model.specs.Headers.{Met, Stand, after, Part, part_bytes, IsMet, IsHeader, continued, first_block}
use Rattle.file_model.specs.Objects.{first_of, IsGroupHeader, DataInfo, HasFill, fill_bytes, IsDataHeader}
use Rattle.file_model.proofs.MetLaws.{IsRead, AreRead, read_first, read_of}

abbrev pub told : Met → ℕ → Message
told m place = record { kind = m.kind; flags = m.flags; at = place + 8; len = length m.body }

pub message_same : (start : ℕ) (bytes : List ℕ) (place : ℕ) (m n : Met) (ms ns : List Met)
    → Stand start bytes place (m ∷ ms) → Stand start bytes place (n ∷ ns) → m ≡ n
message_same start bytes place m n ms ns a b =
    let same : told m place ≡ told n place = a.0.value ∙ sym b.0.value in
    let kind : m.kind ≡ n.kind = ap (λ (x : Message). x.kind) same in
    let flags : m.flags ≡ n.flags = ap (λ (x : Message). x.flags) same in
    let at : m.at ≡ n.at = a.1 ∙ sym b.1 in
    let len : length m.body ≡ length n.body = ap (λ (x : Message). x.len) same in
    let body : m.body ≡ n.body = a.2 ∙ ap (bytes_at bytes (place + 8)) len ∙ sym b.2 in
    (λ j. record { kind = kind j; flags = flags j; at = at j; body = body j })

-- the messages behind the first of both
pub next_stand : (start : ℕ) (bytes : List ℕ) (place : ℕ) (m n : Met) (ns : List Met) → m ≡ n
    → Stand start bytes place (n ∷ ns) → Stand start bytes (place + 8 + length m.body) ns
next_stand start bytes place m n ns same b =
    subst (λ (x : Met). Stand start bytes (place + 8 + length x.body) ns) (sym same) b.3

pub stand_same : (start : ℕ) (bytes : List ℕ) (place : ℕ) (ms ns : List Met) → Stand start bytes place ms
    → Stand start bytes place ns → length ms ≡ length ns → ms ≡ ns
stand_same start bytes place [] [] a b e = refl
stand_same start bytes place [] (n ∷ ns) a b e = absurd (omega arith)
stand_same start bytes place (m ∷ ms) [] a b e = absurd (omega arith)
stand_same start bytes place (m ∷ ms) (n ∷ ns) a b e =
    let head = message_same start bytes place m n ms ns a b in
    let next = next_stand start bytes place m n ns head b in
    let rest = stand_same start bytes (place + 8 + length m.body) ms ns a.3 next (omega arith) in
    (λ j. head j ∷ rest j)

-- where no further message fits, no list is longer
pub stand_short : (start : ℕ) (bytes : List ℕ) (place : ℕ) (ms ns : List Met) → Stand start bytes place ms
    → Stand start bytes place ns → length bytes < after place ms + 8 → length ns ≤ length ms
stand_short start bytes place ms [] a b lt = omega arith
stand_short start bytes place [] (n ∷ ns) a b lt = let fits = b.0.message.head in absurd (omega arith)
stand_short start bytes place (m ∷ ms) (n ∷ ns) a b lt =
    let head = message_same start bytes place m n ms ns a b in
    let next = next_stand start bytes place m n ns head b in
    omega (arith, stand_short start bytes (place + 8 + length m.body) ms ns a.3 next lt)

pub read_same : (start : ℕ) (bytes : List ℕ) (count : ℕ) (ms ns : List Met) → Stand start bytes 0 ms
    → Stand start bytes 0 ns → length ms ≤ count → length ns ≤ count → IsRead bytes count ms → IsRead bytes count ns
    → ms ≡ ns
read_same start bytes count ms ns a b am bm ar br =
    stand_same start bytes 0 ms ns a b (omega (arith, less ms ns a b bm ar, less ns ms b a am br))
  where
    less : (ms ns : List Met) → Stand start bytes 0 ms → Stand start bytes 0 ns → length ns ≤ count
        → IsRead bytes count ms → length ns ≤ length ms
    less ms ns a b bm (inl end) = stand_short start bytes 0 ms ns a b end
    less ms ns a b bm (inr all) = omega arith

pub heads : (x y : Block) (xs ys : List Block) → x ∷ xs ≡ y ∷ ys → x ≡ y
heads x y xs ys e = cc

pub tails : (x y : Block) (xs ys : List Block) → x ∷ xs ≡ y ∷ ys → xs ≡ ys
tails x y xs ys e = cc

-- a part that is read from the block that another is read from
pub record SamePart (p q : Part) (more others : List Block) : Type 0 where
  pub part : p ≡ q
  pub behind : more ++ flat_map continued p.messages ≡ others ++ flat_map continued q.messages

pub part_same : (b : Array) (count : ℕ) (p q : Part) (more others : List Block) → p.block ∷ more ≡ q.block ∷ others
    → IsMet b p → IsMet b q → length p.messages ≤ count → length q.messages ≤ count
    → IsRead (part_bytes b p) count p.messages → IsRead (part_bytes b q) count q.messages → SamePart p q more others
part_same b count p q more others next h k hf kf hr kr =
    let block = heads p.block q.block more others next in
    let back = sym block in
    let stand : Stand p.block.start (part_bytes b p) 0 q.messages =
    subst (λ (x : Block). Stand x.start (bytes_of b x.start x.len) 0 q.messages) back k.stand in
    let read : IsRead (part_bytes b p) count q.messages =
    subst (λ (x : Block). IsRead (bytes_of b x.start x.len) count q.messages) back kr in
    let ms = read_same p.block.start (part_bytes b p) count p.messages q.messages h.stand stand hf kf hr read in
    let tail = tails p.block q.block more others next in
    record {
      part = λ j. record { block = block j; messages = ms j };
      behind = λ j. tail j ++ flat_map continued (ms j);
    }

parts_same : (b : Array) (waiting : List Block) (count : ℕ) (ps qs : List Part) (l m : List Block)
    → AreRead b waiting count ps l → AreRead b waiting count qs m → ps ≡ qs
parts_same b waiting count [] [] l m h k = refl
parts_same b waiting count [] (q ∷ qs) l m h k =
    let one = read_first b waiting count q qs m k in
    let none = h.number in
    let some = one.some in
    absurd (omega arith)
parts_same b waiting count (p ∷ ps) [] l m h k =
    let one = read_first b waiting count p ps l h in
    let none = k.number in
    let some = one.some in
    absurd (omega arith)
parts_same b waiting count (p ∷ ps) (q ∷ qs) l m h k =
    let f = read_first b waiting count p ps l h in
    let g = read_first b waiting count q qs m k in
    let same = part_same b count p q f.more g.more (sym f.next ∙ g.next) f.met g.met f.few g.few f.read g.read in
    let number = ap (λ (x : Part). count - length x.messages) same.part in
    let rest : AreRead b (f.more ++ flat_map continued p.messages) (count - length p.messages) qs m =
    subst (λ (n : ℕ). AreRead b (f.more ++ flat_map continued p.messages) n qs m) (sym number)
    (subst (λ (xs : List Block). AreRead b xs (count - length q.messages) qs m) (sym same.behind) g.rest) in
    let others = parts_same b (f.more ++ flat_map continued p.messages) (count - length p.messages) ps qs l m f.rest rest in
    (λ j. same.part j ∷ others j)

pub prefix_same : (b : Array) (at : ℕ) (p q : Prefix) (ps qs : List Part) → IsHeader b at p ps → IsHeader b at q qs
    → p ≡ q
prefix_same b at p q ps qs h k = h.spelled.value ∙ sym k.spelled.value

pub header_same : (b : Array) (at : ℕ) (p q : Prefix) (ps qs : List Part) → IsHeader b at p ps → IsHeader b at q qs
    → ps ≡ qs
header_same b at p q ps qs h k =
    let e = prefix_same b at p q ps qs h k in
    parts_same b (first_block at p ∷ []) p.messages ps qs h.unread k.unread (read_of b at p ps h)
    (subst (λ (x : Prefix). AreRead b (first_block at x ∷ []) x.messages qs k.unread) (sym e) (read_of b at q qs k))

-- ---- what a header tells

some_same : (o : Option Met) (m n : Met) → o ≡ Some m → o ≡ Some n → m ≡ n
some_same o m n h k = cc

pub group_same : (ms : List Met) (t u h k : ℕ) → IsGroupHeader ms t h → IsGroupHeader ms u k → (t ≡ u) × (h ≡ k)
group_same ms t u h k a b =
    let e = some_same (first_of 0x11 ms) a.table b.table a.first b.first in
    (a.tree_at ∙ ap (λ (m : Met). u64_at m.body 0) e ∙ sym b.tree_at, a.heap_at ∙ ap (λ (m : Met). u64_at m.body 8) e ∙ sym b.heap_at)

pub layout_same : (b : List ℕ) (l m : Layout) → SpellsLayout l b → SpellsLayout m b → l ≡ m
layout_same b l m (inl h) (inl k) = h.1 ∙ sym k.1
layout_same b l m (inl h) (inr k) = let one = h.0.class in let two = k.0.head.class in absurd (omega arith)
layout_same b l m (inr h) (inl k) = let two = h.0.head.class in let one = k.0.class in absurd (omega arith)
layout_same b l m (inr h) (inr k) = h.1 ∙ sym k.1

fill_same : (ms : List Met) (size : ℕ) (o : Option Met) (x y : List ℕ) → HasFill ms size o x → HasFill ms size o y → x ≡ y
fill_same ms size None x y h k = h.1 ∙ sym k.1
fill_same ms size (Some m) x y h k =
    let f : h.1.0 ≡ k.1.0 = h.1.1.value ∙ sym k.1.1.value in
    h.1.3 ∙ ap (fill_bytes size) f ∙ sym k.1.3

pub data_same : (ms : List Met) (i j : DataInfo) → IsDataHeader ms i → IsDataHeader ms j → i ≡ j
data_same ms i j a b =
    let space = some_same (first_of 0x1 ms) a.space.0 b.space.0 a.space.1.first b.space.1.first in
    let shape : i.shape ≡ j.shape =
    let other : SpellsShape j.shape a.space.0.body = subst (λ (m : Met). SpellsShape j.shape m.body) (sym space) b.space.2 in
    a.space.2.value ∙ sym other.value in
    let type = some_same (first_of 0x3 ms) a.type.0 b.type.0 a.type.1.first b.type.1.first in
    let elem : i.elem ≡ j.elem = type_unique i.elem j.elem a.type.0.body a.type.2 (subst (λ (m : Met). SpellsType j.elem m.body) (sym type) b.type.2) in
    let stored = some_same (first_of 0x8 ms) a.layout.0 b.layout.0 a.layout.1.first b.layout.1.first in
    let layout : i.layout ≡ j.layout = layout_same a.layout.0.body i.layout j.layout a.layout.2 (subst (λ (m : Met). SpellsLayout j.layout m.body) (sym stored) b.layout.2) in
    let fill : i.fill ≡ j.fill =
    fill_same ms (size_of i.elem) (first_of 0x5 ms) i.fill j.fill a.fill (subst (λ (t : ElemType). HasFill ms (size_of t) (first_of 0x5 ms) j.fill) (sym elem) b.fill) in
    let filtered : i.filtered ≡ j.filtered = a.filtered ∙ sym b.filtered in
    (λ k. record { shape = shape k; elem = elem k; fill = fill k; layout = layout k; filtered = filtered k })
