-- A header that is held isn't refused.
use Rattle.std.proofs.Common.{◌≡◌, ℕ, ◌+◌, ◌-◌, ◌<◌, ◌≤◌, List, [], ◌∷◌, ◌++◌, length, refl, sym, ◌∙◌, ap, subst, arith, inl, inr}
use Rattle.std.specs.Prelude.{All}
use Rattle.std.specs.List.{flat_map}
use Rattle.std.proofs.lemmas.List.{append_assoc, append-nil, length-append}
use Rattle.std.proofs.lemmas.List.Elements.{All-head, All-tail}
use Rattle.std.proofs.lemmas.List.Sums.{sum_by-append}
use Rattle.std.proofs.lemmas.List.FromFn.{length-map-range_with_len}
use Rattle.std.proofs.lemmas.Grind.{flat_map-append}
use Rattle.h5_base.specs.declared.kinds.BlockKind.TheVariants as kind
use Rattle.h5_base.specs.Fields.{u64_at}
use Rattle.outside.specs.Array.{Array, bytes_of}
use Rattle.outside.specs.Blocks.{Block, Bounds, placed}
use Rattle.header_codec.specs.Headers.{SpellsPrefix}
use Rattle.header_codec.specs.declared.types.Prefix.{Prefix}
use Rattle.file_model.specs.Headers.{Met, Stand, after, AreWhole, Part, IsMet, IsAtEnd, AreMet, IsHeader, continued}
use Rattle.file_model.specs.Headers.{first_block, header_blocks, messages_of}
use Rattle.file_model.specs.Limits.{most_header, header_bytes}
use Rattle.h5_base.specs.declared.refusal.Refusal.{Refusal}
use Rattle.outside.specs.Blocks.{IsBlockRefused}
use Rattle.file_model.specs.Refusals.{so_far, met_bytes, IsMessageRefused, EndedEarly, BadMessage, LargeHeader, BadContinuation, IsHeaderRefused, LaterHeader, PrefixBlock, NoPrefix, LargeFirst, HeaderBlock, InMessages}
use Rattle.file_model.proofs.MetLaws.{AreDrawn, drawn, IsRead, AreRead, FirstRead, read_first, read_of, number_first}
use Rattle.file_model.proofs.UniqueHeaders.{message_same, next_stand, stand_short, part_same}
use Rattle.file_model.proofs.NoFault.{Room, IsFree, free_of, free_less, not_refused, room_after, placed_not_refused}

-- ---- messages of one block

-- of two lists of messages that stand there, the shorter begins the longer
pub begins : (start : ℕ) (bytes : List ℕ) (place : ℕ) (ms ns : List Met) → Stand start bytes place ms
    → Stand start bytes place ns → length ms ≤ length ns → (tail : List Met) × (ns ≡ ms ++ tail)
begins start bytes place [] ns a b le = (ns, refl)
begins start bytes place (m ∷ ms) [] a b le = absurd (omega (arith, le))
begins start bytes place (m ∷ ms) (n ∷ ns) a b le =
    let head = message_same start bytes place m n ms ns a b in
    let next = next_stand start bytes place m n ns head b in
    let more = begins start bytes (place + 8 + length m.body) ms ns a.3 next (omega (arith, le)) in
    (more.0, λ j. (sym head) j ∷ more.1 j)

pub stand_front : (start : ℕ) (bytes : List ℕ) (place : ℕ) (ms ns : List Met) → Stand start bytes place (ms ++ ns)
    → Stand start bytes place ms
stand_front start bytes place [] ns h = tt
stand_front start bytes place (m ∷ ms) ns h =
    (h.0, h.1, h.2, stand_front start bytes (place + 8 + length m.body) ms ns h.3)

pub whole_front : (ms ns : List Met) → AreWhole (ms ++ ns) → AreWhole ms
whole_front [] ns h = tt
whole_front (m ∷ ms) ns h = (h.0, whole_front ms ns h.1)

-- fewer messages than are wanted begin those that a whole reading meets
reading_begins : (start : ℕ) (bytes : List ℕ) (wanted : ℕ) (ms qs : List Met) → Stand start bytes 0 ms
    → length ms ≤ wanted → Stand start bytes 0 qs → IsRead bytes wanted qs → (tail : List Met) × (qs ≡ ms ++ tail)
reading_begins start bytes wanted ms qs a few b (inl end) =
    begins start bytes 0 ms qs a b (stand_short start bytes 0 qs ms b a end)
reading_begins start bytes wanted ms qs a few b (inr all) = begins start bytes 0 ms qs a b (omega (arith, few, all))

-- ---- parts

-- of a whole reading, what comes behind parts that were read to their ends
record Behind (b : Array) (before : List Part) (middle : List Block) (count : ℕ) (parts : List Part)
    (left : List Block) : Type 0 where
  part : Part
  rest : List Part
  is : parts ≡ before ++ part ∷ rest
  read : FirstRead b middle (count - length (messages_of before)) part rest left

behind : (b : Array) (waiting : List Block) (count : ℕ) (before : List Part) (middle : List Block) (parts : List Part)
    (l : List Block) → AreDrawn waiting before middle → All (IsMet b) before → All (IsAtEnd b) before
    → length (messages_of before) < count → AreRead b waiting count parts l → Behind b before middle count parts l
behind b waiting count [] middle [] l h met ended more k = let none = k.number in absurd (omega arith)
behind b waiting count [] middle (q ∷ qs) l h met ended more k =
    let read : AreRead b middle count (q ∷ qs) l =
    subst (λ (xs : List Block). AreRead b xs count (q ∷ qs) l) (sym h) k in
    let all : count ≡ count - 0 = omega arith in
    record {
      part = q;
      rest = qs;
      is = refl;
      read = subst (λ (n : ℕ). FirstRead b middle n q qs l) all (read_first b middle count q qs l read);
    }
behind b waiting count (p ∷ ps) middle [] l h met ended more k = let none = k.number in absurd (omega arith)
behind b waiting count (p ∷ ps) middle (q ∷ qs) l (xs, is, h) met ended more k =
    let g = read_first b waiting count q qs l k in
    let sum = number_first p ps in
    let same = part_same b count p q xs g.more (sym is ∙ g.next) (All-head (IsMet b) p ps met) g.met (omega arith) g.few
    (inl (All-head (IsAtEnd b) p ps ended)) g.read in
    let number = ap (λ (x : Part). count - length x.messages) same.part in
    let rest : AreRead b (xs ++ flat_map continued p.messages) (count - length p.messages) qs l =
    subst (λ (n : ℕ). AreRead b (xs ++ flat_map continued p.messages) n qs l) (sym number)
    (subst (λ (ys : List Block). AreRead b ys (count - length q.messages) qs l) (sym same.behind) g.rest) in
    let s = behind b (xs ++ flat_map continued p.messages) (count - length p.messages) ps middle qs l h
    (All-tail (IsMet b) p ps met) (All-tail (IsAtEnd b) p ps ended) (omega arith) rest in
    let wanted : count - length p.messages - length (messages_of ps) ≡ count - length (messages_of (p ∷ ps)) =
    omega arith in
    record {
      part = s.part;
      rest = s.rest;
      is = λ j. (sym same.part) j ∷ s.is j;
      read = subst (λ (n : ℕ). FirstRead b middle n s.part s.rest l) wanted s.read;
    }

-- the part that is being read is one of a whole reading, and begins with the messages that were read
record Split (b : Array) (before : List Part) (block : Block) (ms : List Met) (wanted : ℕ)
    (parts : List Part) : Type 0 where
  part : Part
  rest : List Part
  is : parts ≡ before ++ part ∷ rest
  met : IsMet b (record { block = block; messages = part.messages })
  read : IsRead (bytes_of b block.start block.len) wanted part.messages
  tail : List Met
  begins : part.messages ≡ ms ++ tail

split : (b : Array) (at : ℕ) (prefix : Prefix) (before : List Part) (block : Block) (left : List Block) (ms : List Met)
    (parts : List Part) → IsHeader b at prefix parts → AreMet b (first_block at prefix) before (block ∷ left)
    → All (IsAtEnd b) before → Stand block.start (bytes_of b block.start block.len) 0 ms
    → length (messages_of before) < prefix.messages → length (messages_of before) + length ms ≤ prefix.messages
    → Split b before block ms (prefix.messages - length (messages_of before)) parts
split b at prefix before block left ms parts header met ended stand more few =
    let first = first_block at prefix in
    let wanted = prefix.messages - length (messages_of before) in
    let s = behind b (first ∷ []) prefix.messages before (block ∷ left) parts header.unread
    (drawn b first before (block ∷ left) met) met.met ended more (read_of b at prefix parts header) in
    let block_is = head_is block s.part.block left s.read.more s.read.next in
    let met' = moved s.part block_is s.read.met in
    let read' = subst (λ (x : Block). IsRead (bytes_of b x.start x.len) wanted s.part.messages) (sym block_is) s.read.read in
    let tail = reading_begins block.start (bytes_of b block.start block.len) wanted ms s.part.messages stand (omega arith)
    met'.stand read' in
    record {
      part = s.part;
      rest = s.rest;
      is = s.is;
      met = met';
      read = read';
      tail = tail.0;
      begins = tail.1;
    }
  where
    head_is : (x y : Block) (xs ys : List Block) → x ∷ xs ≡ y ∷ ys → x ≡ y
    head_is x y xs ys e = cc

    moved : (p : Part) → block ≡ p.block → IsMet b p → IsMet b (record { block = block; messages = p.messages })
    moved p is h = subst (λ (x : Block). IsMet b (record { block = x; messages = p.messages })) (sym is) h

-- a whole reading doesn't end before all messages were met
not_ended : (b : Array) (at : ℕ) (prefix : Prefix) (before parts : List Part) → IsHeader b at prefix parts
    → AreMet b (first_block at prefix) before [] → All (IsAtEnd b) before
    → length (messages_of before) < prefix.messages → ⊥
not_ended b at prefix before parts header met ended fewer =
    let first = first_block at prefix in
    let s = behind b (first ∷ []) prefix.messages before [] parts header.unread (drawn b first before [] met) met.met ended
    fewer (read_of b at prefix parts header) in
    no_block s.part.block s.read.more s.read.next
  where
    no_block : (x : Block) (xs : List Block) → [] ≡ x ∷ xs → ⊥
    no_block x xs e = cc

-- ---- blocks of a header

-- the messages of parts up to some of one part's
messages_split : (before rest : List Part) (part : Part) (ms tail : List Met) → part.messages ≡ ms ++ tail → messages_of (before ++ part ∷ rest) ≡ messages_of before ++ (ms ++ (tail ++ messages_of rest))
messages_split before rest part ms tail is =
    flat_map-append (λ p. p.messages) before (part ∷ rest) ∙ ap (λ (l : List Met). messages_of before ++ (l ++ messages_of rest)) is
    ∙ ap (λ (l : List Met). messages_of before ++ l) (append_assoc ms tail (messages_of rest))

pub messages_so_far : (before : List Part) (block : Block) (ms : List Met) → messages_of (before ++ record { block = block; messages = ms } ∷ []) ≡ messages_of before ++ ms
messages_so_far before block ms = flat_map-append (λ p. p.messages) before (record { block = block; messages = ms } ∷ []) ∙ ap (λ (l : List Met). messages_of before ++ l) (append-nil ms)

-- the header's blocks are those that were met so far, and those that come
pub blocks_split : (at : ℕ) (prefix : Prefix) (parts before rest : List Part) (part : Part) (block : Block) (ms tail : List Met)
    → parts ≡ before ++ part ∷ rest → part.messages ≡ ms ++ tail → header_blocks at prefix parts
    ≡ so_far at prefix before block ms ++ flat_map continued (tail ++ messages_of rest)
blocks_split at prefix parts before rest part block ms tail all is =
    let head : Block = record { start = at; len = 16 + prefix.size } in
    let later = tail ++ messages_of rest in
    let messages = ap messages_of all ∙ messages_split before rest part ms tail is
    ∙ sym (append_assoc (messages_of before) ms later)
    ∙ ap (λ (l : List Met). l ++ later) (sym (messages_so_far before block ms)) in
    ap (λ (l : List Met). head ∷ flat_map continued l) messages
    ∙ ap (λ (l : List Block). head ∷ l)
    (flat_map-append continued (messages_of (before ++ record { block = block; messages = ms } ∷ [])) later)

-- a continuation adds its block
so_far_more : (at : ℕ) (prefix : Prefix) (before : List Part) (block : Block) (ms : List Met) (m : Met) → so_far at prefix before block (ms ++ m ∷ []) ≡ so_far at prefix before block ms ++ continued m
so_far_more at prefix before block ms m =
    ap (λ (l : List Met). record { start = at; len = 16 + prefix.size } ∷ flat_map continued l) (messages_so_far before block (ms ++ m ∷ []) ∙ sym (append_assoc (messages_of before) ms (m ∷ [])))
    ∙ ap (λ (l : List Block). record { start = at; len = 16 + prefix.size } ∷ l) (flat_map-append continued (messages_of before ++ ms) (m ∷ []))
    ∙ ap (λ (l : List Block). record { start = at; len = 16 + prefix.size } ∷ flat_map continued (messages_of before ++ ms) ++ l) (append-nil (continued m))
    ∙ ap (λ (l : List Met). record { start = at; len = 16 + prefix.size } ∷ flat_map continued l ++ continued m) (sym (messages_so_far before block ms))

named_block : (m : Met) → m.kind ≡ 0x10 → continued m ≡ placed (u64_at m.body 0) (u64_at m.body 8)
named_block m is = rw is refl

pub so_far_named : (at : ℕ) (prefix : Prefix) (before : List Part) (block : Block) (ms : List Met) (m : Met)
    → m.kind ≡ 0x10 → so_far at prefix before block (ms ++ m ∷ [])
    ≡ so_far at prefix before block ms ++ placed (u64_at m.body 0) (u64_at m.body 8)
so_far_named at prefix before block ms m kind =
    so_far_more at prefix before block ms m
    ∙ ap (λ (l : List Block). so_far at prefix before block ms ++ l) (named_block m kind)

rest_apart : (all some first own rest later : List Block) → all ≡ some ++ rest → some ≡ first ++ own
    → all ++ later ≡ first ++ (own ++ (rest ++ later))
rest_apart all some first own rest later is split =
    ap (λ (l : List Block). l ++ later) is ∙ append_assoc some rest later
    ∙ ap (λ (l : List Block). l ++ (rest ++ later)) split ∙ append_assoc first own (rest ++ later)

sum_front : (xs ys : List Block) → met_bytes xs ≤ met_bytes (xs ++ ys)
sum_front xs ys = let e = sum_by-append (λ (x : Block). x.len) xs ys in omega (arith, e)

pub sum_less : (all some rest : List Block) → all ≡ some ++ rest → met_bytes some ≤ met_bytes all
sum_less all some rest is = let same = ap met_bytes is in omega (arith, same, sum_front some rest)

-- ---- the whole header

-- one header of an object, its blocks beside those met before and those that come
record Header (b : Array) (e : Bounds) (met : List Block) (at : ℕ) (prefix : Prefix) (parts : List Part) (later : List Block) : Type 0 where
  header : IsHeader b at prefix parts
  room : Room e met (header_blocks at prefix parts ++ later)
  short : header_bytes at prefix parts ≤ most_header

message_not : (b : Array) (e : Bounds) (met : List Block) (at : ℕ) (prefix : Prefix) (parts : List Part)
    (later : List Block) (r : Refusal) → Header b e met at prefix parts later → IsMessageRefused b e met at prefix r → ⊥
message_not b e met at prefix parts later r h (EndedEarly before cut line) =
    not_ended b at prefix before parts h.header cut.all cut.ended cut.fewer
message_not b e met at prefix parts later r h (BadMessage before block ms reading fits none line) =
    let len = length-append (messages_of before) ms in
    let more = reading.more in
    let s = split b at prefix before block reading.left ms parts h.header reading.before reading.ended reading.here.stand
    (omega arith) (omega arith) in
    next s.tail s.part.messages s.begins s.met s.read
  where
    bytes : List ℕ
    bytes = bytes_of b block.start block.len

    next : (tail qs : List Met) → qs ≡ ms ++ tail → IsMet b (record { block = block; messages = qs })
        → IsRead bytes (prefix.messages - length (messages_of before)) qs → ⊥
    next [] qs is here (inl end) =
        let same : qs ≡ ms = is ∙ append-nil ms in
        let lt : length bytes < after 0 ms + 8 = subst (λ (l : List Met). length bytes < after 0 l + 8) same end in
        omega (arith, lt, fits, length-map-range_with_len b block.start block.len)
    next [] qs is here (inr all) =
        let same = ap length (is ∙ append-nil ms) in
        omega (arith, same, all, reading.more, length-append (messages_of before) ms)
    next (m ∷ tail) qs is here read =
        let is' : qs ≡ (ms ++ m ∷ []) ++ tail = is ∙ sym (append_assoc ms (m ∷ []) tail) in
        none m (record {
          stand = stand_front block.start bytes 0 (ms ++ m ∷ []) tail (subst (Stand block.start bytes 0) is' here.stand);
          whole = whole_front (ms ++ m ∷ []) tail (subst AreWhole is' here.whole);
        })
message_not b e met at prefix parts later r h (LargeHeader before block ms m reading next large line) =
    let sum = length-append (messages_of before) ms in
    let one = length-append ms (m ∷ []) in
    let more = reading.more in
    let s = split b at prefix before block reading.left (ms ++ m ∷ []) parts h.header reading.before reading.ended next.stand
    (omega arith) (omega arith) in
    let rest = flat_map continued (s.tail ++ messages_of s.rest) in
    let blocks = blocks_split at prefix parts before s.rest s.part block (ms ++ m ∷ []) s.tail s.is s.begins in
    omega (arith, h.short, large, sum_less (header_blocks at prefix parts) (so_far at prefix before block (ms ++ m ∷ [])) rest blocks)
message_not b e met at prefix parts later r h (BadContinuation before block ms m reading next kind small refused) =
    let sum = length-append (messages_of before) ms in
    let one = length-append ms (m ∷ []) in
    let more = reading.more in
    let s = split b at prefix before block reading.left (ms ++ m ∷ []) parts h.header reading.before reading.ended next.stand
    (omega arith) (omega arith) in
    let rest = flat_map continued (s.tail ++ messages_of s.rest) in
    let first = so_far at prefix before block ms in
    let own = placed (u64_at m.body 0) (u64_at m.body 8) in
    let blocks : header_blocks at prefix parts ≡ so_far at prefix before block (ms ++ m ∷ []) ++ rest =
    blocks_split at prefix parts before s.rest s.part block (ms ++ m ∷ []) s.tail s.is s.begins in
    let all : header_blocks at prefix parts ++ later ≡ first ++ (own ++ (rest ++ later)) =
    rest_apart (header_blocks at prefix parts) (so_far at prefix before block (ms ++ m ∷ [])) first own rest later blocks
    (so_far_named at prefix before block ms m kind) in
    let room : Room e (met ++ first) (own ++ (rest ++ later)) =
    room_after e met first (own ++ (rest ++ later)) (subst (Room e met) all h.room) in
    placed_not_refused e (met ++ first) (u64_at m.body 0) (u64_at m.body 8) (rest ++ later) _ r room refused

pub header_not : (b : Array) (e : Bounds) (met : List Block) (at : ℕ) (prefix : Prefix) (parts : List Part) (later : List Block) (r : Refusal) → IsHeader b at prefix parts
    → Room e met (header_blocks at prefix parts ++ later) → header_bytes at prefix parts ≤ most_header → IsHeaderRefused b e met at r → ⊥
header_not b e met at prefix parts later r header room short refused = go refused
  where
    free : IsFree e met (record { start = at; len = 16 + prefix.size })
    free = free_of e met (record { start = at; len = 16 + prefix.size }) (flat_map continued (messages_of parts) ++ later) room

    same : (p : Prefix) → SpellsPrefix p (bytes_of b at 16) → p ≡ prefix
    same p h = h.value ∙ sym header.spelled.value

    first : 16 + prefix.size ≤ header_bytes at prefix parts
    first =
        let own : met_bytes (record { start = at; len = 16 + prefix.size } ∷ []) ≡ 0 + (16 + prefix.size) = refl in
        omega (arith, own, sum_front (record { start = at; len = 16 + prefix.size } ∷ []) (flat_map continued (messages_of parts)))

    go : IsHeaderRefused b e met at r → ⊥
    go (LaterHeader is h) = not_refused e met (record { start = at; len = 4 }) kind.Header r (free_less e met at (16 + prefix.size) 4 (omega arith) (omega arith) free) h
    go (PrefixBlock not none h) = not_refused e met (record { start = at; len = 16 }) kind.Header r (free_less e met at (16 + prefix.size) 16 (omega arith) (omega arith) free) h
    go (NoPrefix not none taken line) = none prefix header.spelled
    go (LargeFirst p fits spelled large line) = let size = ap (λ (x : Prefix). x.size) (same p spelled) in omega (arith, size, large, first, short)
    go (HeaderBlock p fits spelled small h) =
        let h' = subst (λ (x : Prefix). IsBlockRefused e met (record { start = at; len = 16 + x.size }) kind.Header r) (same p spelled) h in
        not_refused e met (record { start = at; len = 16 + prefix.size }) kind.Header r free h'
    go (InMessages p spelled small h) =
        let h' = subst (λ (x : Prefix). IsMessageRefused b e met at x r) (same p spelled) h in
        message_not b e met at prefix parts later r (record { header = header; room = room; short = short }) h'
