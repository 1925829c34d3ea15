-- A header is refused for one reason. Two places at which a reading stops are the same, or one comes before the other,
-- and what the later one passed wasn't refused.
use Rattle.std.proofs.Common.{◌≡◌, ℕ, ◌+◌, ◌<◌, ◌≤◌, List, [], ◌∷◌, ◌++◌, length, refl, sym, ◌∙◌, ap, subst, arith}
use Rattle.std.proofs.Common.{inl, inr}
use Rattle.std.specs.Prelude.{All}
use Rattle.std.specs.List.{flat_map}
use Rattle.std.proofs.lemmas.Bool.{cases_order}
use Rattle.std.proofs.lemmas.List.{append_assoc, append-nil}
use Rattle.std.proofs.lemmas.List.Elements.{All-head, All-tail}
use Rattle.std.proofs.lemmas.List.FromFn.{length-map-range_with_len}
use Rattle.h5_base.specs.declared.kinds.BlockKind.TheVariants as kind
use Rattle.h5_base.specs.declared.kinds.What.TheVariants as what
use Rattle.h5_base.specs.declared.refusal.Refusal.{Refusal}
use Rattle.h5_base.specs.declared.refusal.Refusal.TheVariants.{Malformed, Unsupported}
use Rattle.h5_base.specs.Fields.{u64_at}
use Rattle.outside.specs.Array.{Array, bytes_of}
use Rattle.outside.specs.Blocks.{Block, Bounds, placed, IsBlockRefused, IsPlacedRefused, AreTaken}
use Rattle.header_codec.specs.Headers.{SpellsPrefix}
use Rattle.header_codec.specs.declared.types.Prefix.{Prefix}
use Rattle.file_model.specs.Headers.{Met, Stand, after, AreWhole, Part, IsMet, IsAtEnd, continued}
use Rattle.file_model.specs.Headers.{first_block, header_blocks, messages_of}
use Rattle.file_model.specs.Limits.{most_header}
use Rattle.file_model.specs.Refusals.{IsReading, IsNext, IsCutShort, so_far, met_bytes, AreHeaderBlocks}
use Rattle.file_model.specs.Refusals.{IsMessageRefused, EndedEarly, BadMessage, LargeHeader, BadContinuation}
use Rattle.file_model.specs.Refusals.{IsHeaderRefused, LaterHeader, PrefixBlock, NoPrefix, LargeFirst, HeaderBlock}
use Rattle.file_model.specs.Refusals.{InMessages}
use Rattle.file_model.proofs.MetLaws.{AreDrawn, drawn}
use Rattle.file_model.proofs.UniqueHeaders.{message_same, stand_same, stand_short, part_same, heads}
use Rattle.file_model.proofs.UniqueTree.{later_no_prefix}
use Rattle.file_model.proofs.NoFault.{free_of, free_less, not_refused, room_after}
use Rattle.file_model.proofs.NoHeader.{begins, stand_front, whole_front, blocks_split, so_far_named, sum_less}
use Rattle.file_model.proofs.OneBlock.{block_one, placed_one, taken_not, placed_not}

-- ---- two readings of the parts

-- the parts were read beside others, and one more from the blocks that those left
record Behind (b : Array) (ps : List Part) (left : List Block) (qs : List Part) : Type 0 where
  part : Part
  rest : List Part
  is : qs ≡ ps ++ part ∷ rest
  more : List Block
  next : left ≡ part.block ∷ more
  met : IsMet b part
  end : IsAtEnd b part

data Compared (b : Array) (ps : List Part) (l : List Block) (qs : List Part) (m : List Block) : Type 0 where
  Same : ps ≡ qs → l ≡ m → Compared b ps l qs m
  Longer : Behind b ps l qs → Compared b ps l qs m
  Shorter : Behind b qs m ps → Compared b ps l qs m

behind_both : (b : Array) (p q : Part) (ps qs : List Part) (l : List Block) → p ≡ q → Behind b ps l qs
    → Behind b (p ∷ ps) l (q ∷ qs)
behind_both b p q ps qs l same h = record {
  part = h.part;
  rest = h.rest;
  is = λ j. (sym same) j ∷ h.is j;
  more = h.more;
  next = h.next;
  met = h.met;
  end = h.end;
}

compared_both : (b : Array) (p q : Part) (ps qs : List Part) (l m : List Block) → p ≡ q → Compared b ps l qs m
    → Compared b (p ∷ ps) l (q ∷ qs) m
compared_both b p q ps qs l m same (Same parts left) = Same (λ j. same j ∷ parts j) left
compared_both b p q ps qs l m same (Longer h) = Longer (behind_both b p q ps qs l same h)
compared_both b p q ps qs l m same (Shorter h) = Shorter (behind_both b q p qs ps m (sym same) h)

-- Of two lists of parts that were read to their ends one begins the other.
compare : (b : Array) (waiting : List Block) (ps qs : List Part) (l m : List Block) → AreDrawn waiting ps l
    → AreDrawn waiting qs m → All (IsMet b) ps → All (IsMet b) qs → All (IsAtEnd b) ps → All (IsAtEnd b) qs
    → Compared b ps l qs m
compare b waiting [] [] l m h k mp mq ep eq = Same refl (h ∙ sym k)
compare b waiting [] (q ∷ qs) l m h (more, is, k) mp mq ep eq = Longer (record {
  part = q;
  rest = qs;
  is = refl;
  more = more;
  next = h ∙ is;
  met = All-head (IsMet b) q qs mq;
  end = All-head (IsAtEnd b) q qs eq;
})
compare b waiting (p ∷ ps) [] l m (more, is, h) k mp mq ep eq = Shorter (record {
  part = p;
  rest = ps;
  is = refl;
  more = more;
  next = k ∙ is;
  met = All-head (IsMet b) p ps mp;
  end = All-head (IsAtEnd b) p ps ep;
})
compare b waiting (p ∷ ps) (q ∷ qs) l m (xs, is, h) (ys, js, k) mp mq ep eq =
    let same = part_same b (length p.messages + length q.messages) p q xs ys (sym is ∙ js) (All-head (IsMet b) p ps mp)
    (All-head (IsMet b) q qs mq) (omega arith) (omega arith) (inl (All-head (IsAtEnd b) p ps ep))
    (inl (All-head (IsAtEnd b) q qs eq)) in
    let k' : AreDrawn (xs ++ flat_map continued p.messages) qs m =
    subst (λ (zs : List Block). AreDrawn zs qs m) (sym same.behind) k in
    compared_both b p q ps qs l m same.part (compare b (xs ++ flat_map continued p.messages) ps qs l m h k'
    (All-tail (IsMet b) p ps mp) (All-tail (IsMet b) q qs mq) (All-tail (IsAtEnd b) p ps ep)
    (All-tail (IsAtEnd b) q qs eq))

-- ---- a place at which the messages are refused

-- what is wrong behind some messages of a block
data Why (b : Array) (e : Bounds) (met : List Block) (at : ℕ) (prefix : Prefix) (before : List Part) (block : Block)
    (ms : List Met) (r : Refusal) : Type 0 where
  NoNext : ((m : Met) → IsNext b block ms m → ⊥) → r ≡ Malformed (block.start + after 0 ms) kind.Message
      → Why b e met at prefix before block ms r
  TooLarge : (m : Met) → IsNext b block ms m → most_header < met_bytes (so_far at prefix before block (ms ++ m ∷ []))
      → r ≡ Unsupported what.Header → Why b e met at prefix before block ms r
  Elsewhere : (m : Met) → IsNext b block ms m → m.kind ≡ 0x10
      → met_bytes (so_far at prefix before block (ms ++ m ∷ [])) ≤ most_header
      → IsPlacedRefused e (met ++ so_far at prefix before block ms) (u64_at m.body 0) (u64_at m.body 8) kind.Header r
      → Why b e met at prefix before block ms r

-- the reading stops where one more message has its place
record Stop (b : Array) (e : Bounds) (met : List Block) (at : ℕ) (prefix : Prefix) (r : Refusal) : Type 0 where
  before : List Part
  block : Block
  ms : List Met
  reading : IsReading b e met at prefix before block ms
  fits : after 0 ms + 8 ≤ length (bytes_of b block.start block.len)
  why : Why b e met at prefix before block ms r

data Stopped (b : Array) (e : Bounds) (met : List Block) (at : ℕ) (prefix : Prefix) (r : Refusal) : Type 0 where
  AtEnd : (parts : List Part) → IsCutShort b e met at prefix parts → r ≡ Malformed at kind.Header
      → Stopped b e met at prefix r
  AtPlace : Stop b e met at prefix r → Stopped b e met at prefix r

-- a message has its place
next_fits : (start : ℕ) (bytes : List ℕ) (place : ℕ) (ms : List Met) (m : Met) → Stand start bytes place (ms ++ m ∷ [])
    → after place ms + 8 ≤ length bytes
next_fits start bytes place [] m h = let fits = h.0.message.head in omega arith
next_fits start bytes place (n ∷ ns) m h = next_fits start bytes (place + 8 + length n.body) ns m h.3

next_same : (start : ℕ) (bytes : List ℕ) (place : ℕ) (ms : List Met) (m n : Met)
    → Stand start bytes place (ms ++ m ∷ []) → Stand start bytes place (ms ++ n ∷ []) → m ≡ n
next_same start bytes place [] m n h k = message_same start bytes place m n [] [] h k
next_same start bytes place (x ∷ xs) m n h k = next_same start bytes (place + 8 + length x.body) xs m n h.3 k.3

stopped : (b : Array) (e : Bounds) (met : List Block) (at : ℕ) (prefix : Prefix) (r : Refusal)
    → IsMessageRefused b e met at prefix r → Stopped b e met at prefix r
stopped b e met at prefix r (EndedEarly parts cut line) = AtEnd parts cut line
stopped b e met at prefix r (BadMessage parts block ms reading fits none line) = AtPlace (record {
  before = parts;
  block = block;
  ms = ms;
  reading = reading;
  fits = omega (arith, fits, length-map-range_with_len b block.start block.len);
  why = NoNext none line;
})
stopped b e met at prefix r (LargeHeader parts block ms m reading next large line) = AtPlace (record {
  before = parts;
  block = block;
  ms = ms;
  reading = reading;
  fits = next_fits block.start (bytes_of b block.start block.len) 0 ms m next.stand;
  why = TooLarge m next large line;
})
stopped b e met at prefix r (BadContinuation parts block ms m reading next kind small refused) = AtPlace (record {
  before = parts;
  block = block;
  ms = ms;
  reading = reading;
  fits = next_fits block.start (bytes_of b block.start block.len) 0 ms m next.stand;
  why = Elsewhere m next kind small refused;
})

-- ---- what a later reading passed

-- among all blocks of a later reading are those up to the next message
record Passed (b : Array) (at : ℕ) (prefix : Prefix) (before : List Part) (block : Block) (ms : List Met)
    (own : List Block) : Type 0 where
  m : Met
  next : IsNext b block ms m
  rest : List Block
  blocks : own ≡ so_far at prefix before block (ms ++ m ∷ []) ++ rest

-- the parts of the later reading, with one that has the next message
passed : (b : Array) (at : ℕ) (prefix : Prefix) (all before rest : List Part) (part : Part) (block : Block)
    (ms : List Met) (m : Met) (tail : List Met) → all ≡ before ++ part ∷ rest → part.messages ≡ ms ++ m ∷ tail
    → IsMet b (record { block = block; messages = part.messages })
    → Passed b at prefix before block ms (header_blocks at prefix all)
passed b at prefix all before rest part block ms m tail split is met =
    let bytes = bytes_of b block.start block.len in
    let is' : part.messages ≡ (ms ++ m ∷ []) ++ tail = is ∙ sym (append_assoc ms (m ∷ []) tail) in
    record {
      m = m;
      next = record {
        stand = stand_front block.start bytes 0 (ms ++ m ∷ []) tail (subst (Stand block.start bytes 0) is' met.stand);
        whole = whole_front (ms ++ m ∷ []) tail (subst AreWhole is' met.whole);
      };
      rest = flat_map continued (tail ++ messages_of rest);
      blocks = blocks_split at prefix all before rest part block (ms ++ m ∷ []) tail split is';
    }

-- the part from whose block the earlier reading reads was read to its end
passed_part : (b : Array) (at : ℕ) (prefix : Prefix) (all before rest : List Part) (part : Part) (block : Block)
    (ms : List Met) → all ≡ before ++ part ∷ rest → block ≡ part.block → IsMet b part → IsAtEnd b part
    → Stand block.start (bytes_of b block.start block.len) 0 ms
    → after 0 ms + 8 ≤ length (bytes_of b block.start block.len)
    → Passed b at prefix before block ms (header_blocks at prefix all)
passed_part b at prefix all before rest part block ms split is met end stand fits =
    let b0 = begins block.start bytes 0 ms part.messages stand here.stand
    (stand_short block.start bytes 0 part.messages ms here.stand stand end') in
    go b0.0 b0.1
  where
    bytes : List ℕ
    bytes = bytes_of b block.start block.len

    here : IsMet b (record { block = block; messages = part.messages })
    here = subst (λ (x : Block). IsMet b (record { block = x; messages = part.messages })) (sym is) met

    end' : length bytes < after 0 part.messages + 8
    end' = subst (λ (x : Block). length (bytes_of b x.start x.len) < after 0 part.messages + 8) (sym is) end

    go : (tail : List Met) → part.messages ≡ ms ++ tail
        → Passed b at prefix before block ms (header_blocks at prefix all)
    go [] e =
        let same : part.messages ≡ ms = e ∙ append-nil ms in
        let lt : length bytes < after 0 ms + 8 = subst (λ (l : List Met). length bytes < after 0 l + 8) same end' in
        absurd (omega (arith, lt, fits))
    go (m ∷ tail) e = passed b at prefix all before rest part block ms m tail split e here

-- and what was passed isn't refused
passed_not : (b : Array) (e : Bounds) (met : List Block) (at : ℕ) (prefix : Prefix) (before : List Part) (block : Block)
    (ms : List Met) (own : List Block) (r : Refusal) → AreHeaderBlocks e met own
    → Passed b at prefix before block ms own → Why b e met at prefix before block ms r → ⊥
passed_not b e met at prefix before block ms own r blocks h (NoNext none line) = none h.m h.next
passed_not b e met at prefix before block ms own r blocks h (TooLarge m next large line) =
    let same = next_same block.start (bytes_of b block.start block.len) 0 ms m h.m next.stand h.next.stand in
    let len = ap (λ (x : Met). met_bytes (so_far at prefix before block (ms ++ x ∷ []))) same in
    let sum = sum_less own (so_far at prefix before block (ms ++ h.m ∷ [])) h.rest h.blocks in
    omega (arith, len, large, blocks.short, sum)
passed_not b e met at prefix before block ms own r blocks h (Elsewhere m next kind small refused) =
    let same = next_same block.start (bytes_of b block.start block.len) 0 ms m h.m next.stand h.next.stand in
    let first = so_far at prefix before block ms in
    let one = placed (u64_at m.body 0) (u64_at m.body 8) in
    let own_is : own ≡ first ++ (one ++ h.rest) =
    h.blocks ∙ ap (λ (x : Met). so_far at prefix before block (ms ++ x ∷ []) ++ h.rest) (sym same)
    ∙ ap (λ (l : List Block). l ++ h.rest) (so_far_named at prefix before block ms m kind)
    ∙ append_assoc first one h.rest in
    placed_not e (met ++ first) (u64_at m.body 0) (u64_at m.body 8) h.rest _ r
    (room_after e met first (one ++ h.rest) (subst (AreTaken e met) own_is blocks.taken)) refused

-- ---- the messages

-- what is wrong at one place is one thing
why_one : (b : Array) (e : Bounds) (met : List Block) (at : ℕ) (prefix : Prefix) (before : List Part) (block : Block)
    (ms : List Met) (r q : Refusal) → Why b e met at prefix before block ms r → Why b e met at prefix before block ms q
    → r ≡ q
why_one b e met at prefix before block ms r q (NoNext none line) (NoNext none' line') = line ∙ sym line'
why_one b e met at prefix before block ms r q (NoNext none line) (TooLarge m next large line') = absurd (none m next)
why_one b e met at prefix before block ms r q (NoNext none line) (Elsewhere m next kind small x) = absurd (none m next)
why_one b e met at prefix before block ms r q (TooLarge m next large line) (NoNext none line') = absurd (none m next)
why_one b e met at prefix before block ms r q (TooLarge m next large line) (TooLarge n next' large' line') =
    line ∙ sym line'
why_one b e met at prefix before block ms r q (TooLarge m next large line) (Elsewhere n next' kind small x) =
    let same = next_same block.start (bytes_of b block.start block.len) 0 ms m n next.stand next'.stand in
    let len = ap (λ (y : Met). met_bytes (so_far at prefix before block (ms ++ y ∷ []))) same in
    absurd (omega (arith, len, large, small))
why_one b e met at prefix before block ms r q (Elsewhere m next kind small x) (NoNext none line') = absurd (none m next)
why_one b e met at prefix before block ms r q (Elsewhere m next kind small x) (TooLarge n next' large line') =
    let same = next_same block.start (bytes_of b block.start block.len) 0 ms m n next.stand next'.stand in
    let len = ap (λ (y : Met). met_bytes (so_far at prefix before block (ms ++ y ∷ []))) same in
    absurd (omega (arith, len, large, small))
why_one b e met at prefix before block ms r q (Elsewhere m next is small x) (Elsewhere n next' is' small' y) =
    let same = next_same block.start (bytes_of b block.start block.len) 0 ms m n next.stand next'.stand in
    let all = met ++ so_far at prefix before block ms in
    let y' = subst (λ (z : Met). IsPlacedRefused e all (u64_at z.body 0) (u64_at z.body 8) kind.Header q)
    (sym same) y in
    placed_one e all (u64_at m.body 0) (u64_at m.body 8) kind.Header r q x y'

-- a reading that went on behind the parts before a place didn't stop there
behind_not : (b : Array) (e : Bounds) (met : List Block) (at : ℕ) (prefix : Prefix) (r : Refusal)
    (all qs later : List Part) (s : Stop b e met at prefix r) → Behind b s.before (s.block ∷ s.reading.left) qs
    → all ≡ qs ++ later → AreHeaderBlocks e met (header_blocks at prefix all) → ⊥
behind_not b e met at prefix r all qs later s h is blocks =
    let split : all ≡ s.before ++ h.part ∷ (h.rest ++ later) =
    is ∙ ap (λ (l : List Part). l ++ later) h.is ∙ append_assoc s.before (h.part ∷ h.rest) later in
    passed_not b e met at prefix s.before s.block s.ms (header_blocks at prefix all) r blocks
    (passed_part b at prefix all s.before (h.rest ++ later) h.part s.block s.ms split
    (heads s.block h.part.block s.reading.left h.more h.next) h.met h.end s.reading.here.stand s.fits) s.why

-- of two places in one block the earlier one was passed
place_not : (b : Array) (e : Bounds) (met : List Block) (at : ℕ) (prefix : Prefix) (before : List Part) (block : Block)
    (ms ns : List Met) (r : Refusal) → IsMet b (record { block = block; messages = ms })
    → IsMet b (record { block = block; messages = ns }) → AreHeaderBlocks e met (so_far at prefix before block ns)
    → Why b e met at prefix before block ms r → length ms < length ns → ⊥
place_not b e met at prefix before block ms ns r h k blocks why less =
    let more = begins block.start (bytes_of b block.start block.len) 0 ms ns h.stand k.stand (omega (arith, less)) in
    go more.0 more.1
  where
    part : Part
    part = record { block = block; messages = ns }

    go : (tail : List Met) → ns ≡ ms ++ tail → ⊥
    go [] is = let same = ap length (is ∙ append-nil ms) in omega (arith, same, less)
    go (m ∷ tail) is =
        passed_not b e met at prefix before block ms (so_far at prefix before block ns) r blocks
        (passed b at prefix (before ++ part ∷ []) before [] part block ms m tail refl is k) why

-- two places behind the same parts
place_one : (b : Array) (e : Bounds) (met : List Block) (at : ℕ) (prefix : Prefix) (before : List Part) (block : Block)
    (ms ns : List Met) (r q : Refusal) → IsMet b (record { block = block; messages = ms })
    → IsMet b (record { block = block; messages = ns }) → AreHeaderBlocks e met (so_far at prefix before block ms)
    → AreHeaderBlocks e met (so_far at prefix before block ns) → Why b e met at prefix before block ms r
    → Why b e met at prefix before block ns q → r ≡ q
place_one b e met at prefix before block ms ns r q h k hb kb x y = elim (cases_order (length ms) (length ns)) [
  | inl is ↦
      let same = stand_same block.start (bytes_of b block.start block.len) 0 ms ns h.stand k.stand is in
      why_one b e met at prefix before block ms r q x
      (subst (λ (l : List Met). Why b e met at prefix before block l q) (sym same) y)
  | inr (inl less) ↦ absurd (place_not b e met at prefix before block ms ns r h k kb x less)
  | inr (inr less) ↦ absurd (place_not b e met at prefix before block ns ms q k h hb y less)
]

-- the part that is being read at a place
abbrev last : Block → List Met → Part
last block ms = record { block = block; messages = ms }

-- A place of a reading, without the blocks that are left behind it.
record Place (b : Array) (e : Bounds) (met : List Block) (at : ℕ) (prefix : Prefix) (before : List Part) (block : Block)
    (ms : List Met) (r : Refusal) : Type 0 where
  here : IsMet b (record { block = block; messages = ms })
  blocks : AreHeaderBlocks e met (so_far at prefix before block ms)
  why : Why b e met at prefix before block ms r

place_of : (b : Array) (e : Bounds) (met : List Block) (at : ℕ) (prefix : Prefix) (r : Refusal)
    (s : Stop b e met at prefix r) → Place b e met at prefix s.before s.block s.ms r
place_of b e met at prefix r s = record { here = s.reading.here; blocks = s.reading.blocks; why = s.why }

pub message_one : (b : Array) (e : Bounds) (met : List Block) (at : ℕ) (prefix : Prefix) (r q : Refusal)
    → IsMessageRefused b e met at prefix r → IsMessageRefused b e met at prefix q → r ≡ q
message_one b e met at prefix r q x y = go (stopped b e met at prefix r x) (stopped b e met at prefix q y)
  where
    first : Block
    first = first_block at prefix

    no_block : (z : Block) (zs : List Block) → [] ≡ z ∷ zs → ⊥
    no_block z zs is = cc

    drawn_at : (r : Refusal) (s : Stop b e met at prefix r) → AreDrawn (first ∷ []) s.before (s.block ∷ s.reading.left)
    drawn_at r s = drawn b first s.before (s.block ∷ s.reading.left) s.reading.before

    compared_cut : (r : Refusal) (parts : List Part) (s : Stop b e met at prefix r) → IsCutShort b e met at prefix parts
        → Compared b parts [] s.before (s.block ∷ s.reading.left)
    compared_cut r parts s cut =
        compare b (first ∷ []) parts s.before [] (s.block ∷ s.reading.left) (drawn b first parts [] cut.all)
        (drawn_at r s) cut.all.met s.reading.before.met cut.ended s.reading.ended

    compared_two : (s : Stop b e met at prefix r) (t : Stop b e met at prefix q)
        → Compared b s.before (s.block ∷ s.reading.left) t.before (t.block ∷ t.reading.left)
    compared_two s t =
        compare b (first ∷ []) s.before t.before (s.block ∷ s.reading.left) (t.block ∷ t.reading.left) (drawn_at r s)
        (drawn_at q t) s.reading.before.met t.reading.before.met s.reading.ended t.reading.ended

    -- the blocks don't end before a place
    not_cut : (r : Refusal) (parts : List Part) (s : Stop b e met at prefix r) → IsCutShort b e met at prefix parts → ⊥
    not_cut r parts s cut = elim (compared_cut r parts s cut) [
      | Same is left ↦ no_block s.block s.reading.left left
      | Longer h ↦ no_block h.part.block h.more h.next
      | Shorter h ↦ behind_not b e met at prefix r parts parts [] s h (sym (append-nil parts)) cut.blocks
    ]

    two : (s : Stop b e met at prefix r) (t : Stop b e met at prefix q) → r ≡ q
    two s t = elim (compared_two s t) [
      | Same is left ↦
          let block : s.block ≡ t.block = heads s.block t.block s.reading.left t.reading.left left in
          let t0 = place_of b e met at prefix q t in
          let t1 = subst (λ (ps : List Part). Place b e met at prefix ps t.block t.ms q) (sym is) t0 in
          let u = subst (λ (z : Block). Place b e met at prefix s.before z t.ms q) (sym block) t1 in
          place_one b e met at prefix s.before s.block s.ms t.ms r q s.reading.here u.here s.reading.blocks u.blocks
          s.why u.why
      | Longer h ↦ absurd (behind_not b e met at prefix r (t.before ++ last t.block t.ms ∷ []) t.before
          (last t.block t.ms ∷ []) s h refl t.reading.blocks)
      | Shorter h ↦ absurd (behind_not b e met at prefix q (s.before ++ last s.block s.ms ∷ []) s.before
          (last s.block s.ms ∷ []) t h refl s.reading.blocks)
    ]

    go : Stopped b e met at prefix r → Stopped b e met at prefix q → r ≡ q
    go (AtEnd parts cut line) (AtEnd parts' cut' line') = line ∙ sym line'
    go (AtEnd parts cut line) (AtPlace t) = absurd (not_cut q parts t cut)
    go (AtPlace s) (AtEnd parts cut line) = absurd (not_cut r parts s cut)
    go (AtPlace s) (AtPlace t) = two s t

-- ---- the whole header

-- messages are refused only behind the header's first block
first_taken : (b : Array) (e : Bounds) (met : List Block) (at : ℕ) (prefix : Prefix) (r : Refusal)
    → IsMessageRefused b e met at prefix r
    → (more : List Block) × AreTaken e met (record { start = at; len = 16 + prefix.size } ∷ more)
first_taken b e met at prefix r (EndedEarly parts cut line) =
    (flat_map continued (messages_of parts), cut.blocks.taken)
first_taken b e met at prefix r (BadMessage parts block ms reading fits none line) =
    (flat_map continued (messages_of (parts ++ record { block = block; messages = ms } ∷ [])), reading.blocks.taken)
first_taken b e met at prefix r (LargeHeader parts block ms m reading next large line) =
    (flat_map continued (messages_of (parts ++ record { block = block; messages = ms } ∷ [])), reading.blocks.taken)
first_taken b e met at prefix r (BadContinuation parts block ms m reading next kind small x) =
    (flat_map continued (messages_of (parts ++ record { block = block; messages = ms } ∷ [])), reading.blocks.taken)

pub header_one : (b : Array) (e : Bounds) (met : List Block) (at : ℕ) (r q : Refusal) → IsHeaderRefused b e met at r
    → IsHeaderRefused b e met at q → r ≡ q
header_one b e met at r q x y = go r q x y
  where
    whole : Prefix → Block
    whole p = record { start = at; len = 16 + p.size }

    same : (p p' : Prefix) → SpellsPrefix p (bytes_of b at 16) → SpellsPrefix p' (bytes_of b at 16) → p ≡ p'
    same p p' h k = h.value ∙ sym k.value

    sizes : (p p' : Prefix) → SpellsPrefix p (bytes_of b at 16) → SpellsPrefix p' (bytes_of b at 16) → p.size ≡ p'.size
    sizes p p' h k = ap (λ (z : Prefix). z.size) (same p p' h k)

    -- the block of the prefix isn't refused where messages are
    prefix_not : (r q : Refusal) (p : Prefix) → IsBlockRefused e met (record { start = at; len = 16 }) kind.Header r
        → IsMessageRefused b e met at p q → ⊥
    prefix_not r q p h k =
        let taken = first_taken b e met at p q k in
        let free = free_of e met (record { start = at; len = 16 + p.size }) taken.0 taken.1 in
        not_refused e met (record { start = at; len = 16 }) kind.Header r
        (free_less e met at (16 + p.size) 16 (omega arith) (omega arith) free) h

    -- nor is the header's first block
    whole_not : (r q : Refusal) (p p' : Prefix) → p ≡ p'
        → IsBlockRefused e met (record { start = at; len = 16 + p.size }) kind.Header r
        → IsMessageRefused b e met at p' q → ⊥
    whole_not r q p p' is h k =
        let taken = first_taken b e met at p' q k in
        taken_not e met (record { start = at; len = 16 + p'.size }) taken.0 kind.Header r taken.1
        (subst (λ (z : Prefix). IsBlockRefused e met (record { start = at; len = 16 + z.size }) kind.Header r) is h)

    go : (r q : Refusal) → IsHeaderRefused b e met at r → IsHeaderRefused b e met at q → r ≡ q
    go r q (LaterHeader is h) (LaterHeader is' k) = block_one e met (record { start = at; len = 4 }) kind.Header r q h k
    go r q (LaterHeader is h) (PrefixBlock not none k) = absurd (not is)
    go r q (LaterHeader is h) (NoPrefix not none taken line) = absurd (not is)
    go r q (LaterHeader is h) (LargeFirst p fits spelled large line) = absurd (later_no_prefix b at p is spelled)
    go r q (LaterHeader is h) (HeaderBlock p fits spelled small k) = absurd (later_no_prefix b at p is spelled)
    go r q (LaterHeader is h) (InMessages p spelled small k) = absurd (later_no_prefix b at p is spelled)
    go r q (PrefixBlock not none h) (LaterHeader is k) = absurd (not is)
    go r q (PrefixBlock not none h) (PrefixBlock not' none' k) =
        block_one e met (record { start = at; len = 16 }) kind.Header r q h k
    go r q (PrefixBlock not none h) (NoPrefix not' none' taken line) =
        absurd (taken_not e met (record { start = at; len = 16 }) [] kind.Header r taken h)
    go r q (PrefixBlock not none h) (LargeFirst p fits spelled large line) = absurd (none fits p spelled)
    go r q (PrefixBlock not none h) (HeaderBlock p fits spelled small k) = absurd (none fits p spelled)
    go r q (PrefixBlock not none h) (InMessages p spelled small k) = absurd (prefix_not r q p h k)
    go r q (NoPrefix not none taken line) (LaterHeader is k) = absurd (not is)
    go r q (NoPrefix not none taken line) (PrefixBlock not' none' k) =
        absurd (taken_not e met (record { start = at; len = 16 }) [] kind.Header q taken k)
    go r q (NoPrefix not none taken line) (NoPrefix not' none' taken' line') = line ∙ sym line'
    go r q (NoPrefix not none taken line) (LargeFirst p fits spelled large line') = absurd (none p spelled)
    go r q (NoPrefix not none taken line) (HeaderBlock p fits spelled small k) = absurd (none p spelled)
    go r q (NoPrefix not none taken line) (InMessages p spelled small k) = absurd (none p spelled)
    go r q (LargeFirst p fits spelled large line) (LaterHeader is k) = absurd (later_no_prefix b at p is spelled)
    go r q (LargeFirst p fits spelled large line) (PrefixBlock not none k) = absurd (none fits p spelled)
    go r q (LargeFirst p fits spelled large line) (NoPrefix not none taken line') = absurd (none p spelled)
    go r q (LargeFirst p fits spelled large line) (LargeFirst p' fits' spelled' large' line') = line ∙ sym line'
    go r q (LargeFirst p fits spelled large line) (HeaderBlock p' fits' spelled' small k) =
        absurd (omega (arith, sizes p p' spelled spelled', large, small))
    go r q (LargeFirst p fits spelled large line) (InMessages p' spelled' small k) =
        absurd (omega (arith, sizes p p' spelled spelled', large, small))
    go r q (HeaderBlock p fits spelled small h) (LaterHeader is k) = absurd (later_no_prefix b at p is spelled)
    go r q (HeaderBlock p fits spelled small h) (PrefixBlock not none k) = absurd (none fits p spelled)
    go r q (HeaderBlock p fits spelled small h) (NoPrefix not none taken line) = absurd (none p spelled)
    go r q (HeaderBlock p fits spelled small h) (LargeFirst p' fits' spelled' large line) =
        absurd (omega (arith, sizes p p' spelled spelled', large, small))
    go r q (HeaderBlock p fits spelled small h) (HeaderBlock p' fits' spelled' small' k) =
        block_one e met (whole p) kind.Header r q h
        (subst (λ (z : Prefix). IsBlockRefused e met (record { start = at; len = 16 + z.size }) kind.Header q)
        (sym (same p p' spelled spelled')) k)
    go r q (HeaderBlock p fits spelled small h) (InMessages p' spelled' small' k) =
        absurd (whole_not r q p p' (same p p' spelled spelled') h k)
    go r q (InMessages p spelled small h) (LaterHeader is k) = absurd (later_no_prefix b at p is spelled)
    go r q (InMessages p spelled small h) (PrefixBlock not none k) = absurd (prefix_not q r p k h)
    go r q (InMessages p spelled small h) (NoPrefix not none taken line) = absurd (none p spelled)
    go r q (InMessages p spelled small h) (LargeFirst p' fits spelled' large line) =
        absurd (omega (arith, sizes p p' spelled spelled', large, small))
    go r q (InMessages p spelled small h) (HeaderBlock p' fits spelled' small' k) =
        absurd (whole_not q r p' p (same p' p spelled' spelled) k h)
    go r q (InMessages p spelled small h) (InMessages p' spelled' small' k) =
        message_one b e met at p r q h
        (subst (λ (z : Prefix). IsMessageRefused b e met at z q) (sym (same p p' spelled spelled')) k)
