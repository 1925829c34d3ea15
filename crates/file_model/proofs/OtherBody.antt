-- Another body of one message of a header.
use Rattle.std.proofs.Common.{◌≡◌, ◌≢◌, ℕ, ◌+◌, ◌<◌, ◌≤◌, ◌%◌, false, List, [], ◌∷◌, ◌++◌, length, refl, sym, ap, subst, ◌∙◌, inl, inr, ◌⊎◌, arith, length-append, append_assoc}
use Rattle.std.specs.Prelude.{◌==◌, slice_index, All}
use Rattle.std.specs.Int.{w16, from_le_bytes}
use Rattle.std.specs.List.{flat_map}
use Rattle.std.proofs.lemmas.Bool.{ne_eqb}
use Rattle.std.proofs.lemmas.Grind.{flat_map-append}
use Rattle.std.proofs.lemmas.List.FromFn.{length-map-range_with_len, get_or-map-range_with_len}
use Rattle.std.proofs.lemmas.List.{map-append}
use Rattle.std.proofs.lemmas.List.Elements.{All-nil, All-cons, All-head, All-tail, All-append}
use Rattle.outside.specs.Array.{Array, bytes_of}
use Rattle.outside.specs.Blocks.{Block, AreApart, IsApart, AllApart, Agree}
use Rattle.h5_base.specs.Fields.{bytes_at, u16_at}
use Rattle.header_codec.specs.Headers.{SpellsPrefix, SpellsMessage}
use Rattle.header_codec.specs.declared.types.Prefix.{Prefix}
use Rattle.file_model.specs.Headers.{Met, Stand, after, AreWhole, continued, Part, IsMet, IsHeader, messages_of, blocks_of_parts}
use Rattle.file_model.specs.Headers.{first_block, header_blocks}
use Rattle.file_model.specs.EditLaws.{IsOtherBody, AreButOne, AgreeBeside, OtherBody, BesideWrite}
use Rattle.file_model.proofs.FrameBytes.{Same, bytes_same, within_same, agree_left, agree_itself}
use Rattle.file_model.proofs.FrameHeaders.{counted_stays, met_stay}
use Rattle.file_model.proofs.MetLaws.{AreDrawn, drawn, met_of_drawn, AreEnded, ended_of, counted_of}
use Rattle.file_model.proofs.PartBytes.{part_bytes}

-- ---- one message

part_there : (b c : Array) (s l k w : ℕ) → k + w ≤ l → Same b c (s + k) w → bytes_at (bytes_of b s l) k w ≡ bytes_at (bytes_of c s l) k w
part_there b c s l k w le same = part_bytes b s l k w le ∙ bytes_same b c (s + k) w same ∙ sym (part_bytes c s l k w le)

message_same : (b c : Array) (s l at k fl n : ℕ) → Same b c (s + at) 8 → SpellsMessage (record { kind = k; flags = fl; at = at + 8; len = n }) (bytes_of b s l) at
    → SpellsMessage (record { kind = k; flags = fl; at = at + 8; len = n }) (bytes_of c s l) at
unfolding u16_at
message_same b c s l at k fl n same h =
    let long = length-map-range_with_len b s l in
    let long' = length-map-range_with_len c s l in
    let head = h.message.head in
    let whole = h.message.whole in
    let room : at + 8 ≤ l = omega arith in
    let kind : u16_at (bytes_of b s l) at ≡ u16_at (bytes_of c s l) at =
    ap (from_le_bytes w16) (part_there b c s l at 2 (omega arith) (within_same b c (s + at) 2 (s + at) 8 same (omega arith) (omega arith))) in
    let size : u16_at (bytes_of b s l) (at + 2) ≡ u16_at (bytes_of c s l) (at + 2) =
    ap (from_le_bytes w16) (part_there b c s l (at + 2) 2 (omega arith) (within_same b c (s + (at + 2)) 2 (s + at) 8 same (omega arith) (omega arith))) in
    let flags : slice_index (bytes_of b s l) (at + 4) ≡ slice_index (bytes_of c s l) (at + 4) =
    get_or-map-range_with_len b s l (at + 4) (s + (at + 4)) 0 (omega arith) refl ∙ same (s + (at + 4)) (omega arith) (omega arith) ∙ sym (get_or-map-range_with_len c s l (at + 4) (s + (at + 4)) 0 (omega arith) refl) in
    let is_kind = ap (λ m. m.kind) h.value ∙ kind in
    let is_flags = ap (λ m. m.flags) h.value ∙ flags in
    let is_len = ap (λ m. m.len) h.value ∙ size in
    record {
      message = record { head = omega arith; multiple = subst (λ x. x % 8 ≡ 0) size h.message.multiple; whole = omega arith };
      value = λ j. record { kind = is_kind j; flags = is_flags j; at = at + 8; len = is_len j };
    }

-- a message lies whole in its block
message_ends : (b : Array) (s l at k fl n : ℕ) → SpellsMessage (record { kind = k; flags = fl; at = at + 8; len = n }) (bytes_of b s l) at → at + 8 + n ≤ l
message_ends b s l at k fl n h =
    let len : n ≡ u16_at (bytes_of b s l) (at + 2) = ap (λ m. m.len) h.value in
    let whole = h.message.whole in
    let long = length-map-range_with_len b s l in
    omega arith

-- ---- messages

after_least : (at : ℕ) (ms : List Met) → at ≤ after at ms
after_least at [] = omega arith
after_least at (m ∷ ms) = omega (arith, after_least (at + 8 + length m.body) ms)

stand_same : (b c : Array) (s l at : ℕ) (ms : List Met) → ((i : ℕ) → s + at ≤ i → i < s + l → b i ≡ c i)
    → Stand s (bytes_of b s l) at ms → Stand s (bytes_of c s l) at ms
stand_same b c s l at [] same h = tt
stand_same b c s l at (m ∷ ms) same h =
    let n = length m.body in
    let ends = message_ends b s l at m.kind m.flags n h.0 in (
      message_same b c s l at m.kind m.flags n (λ i low high. same i (omega arith) (omega arith)) h.0,
      h.1,
      h.2 ∙ part_there b c s l (at + 8) n ends (λ i low high. same i (omega arith) (omega arith)),
      stand_same b c s l (at + 8 + n) ms (λ i low high. same i (omega arith) high) h.3,
    )

-- the same bytes from there to the end of a block, but those of a body
abbrev SameBeside : Array → Array → (from to place n : ℕ) → Type 0
SameBeside b c from to place n = (i : ℕ) → from ≤ i → i < to → (i < place) ⊎ (place + n ≤ i) → b i ≡ c i

stand_changed : (b c : Array) (s l at : ℕ) (ms : List Met) (m : Met) (ns : List Met) (body : List ℕ)
    → length body ≡ length m.body → SameBeside b c (s + at) (s + l) (s + after at ms + 8) (length body)
    → bytes_of c (s + after at ms + 8) (length body) ≡ body → Stand s (bytes_of b s l) at (ms ++ m ∷ ns)
    → Stand s (bytes_of c s l) at (ms ++ record m { body = body } ∷ ns)
stand_changed b c s l at [] m ns body long same there h =
    let n = length body in
    let ends = message_ends b s l at m.kind m.flags (length m.body) h.0 in
    let place : s + (at + 8) ≡ s + at + 8 = omega arith in (
      message_same b c s l at m.kind m.flags n (λ i low high. same i (omega arith) (omega arith) (inl (omega arith)))
          (subst (λ (k : ℕ). SpellsMessage (record { kind = m.kind; flags = m.flags; at = at + 8; len = k }) (bytes_of b s l) at)
          (sym long) h.0),
      h.1,
      sym (part_bytes c s l (at + 8) n (omega arith) ∙ ap (λ (k : ℕ). bytes_of c k n) place ∙ there),
      stand_same b c s l (at + 8 + n) ns (λ i low high. same i (omega arith) high (inr (omega arith)))
          (subst (λ (k : ℕ). Stand s (bytes_of b s l) (at + 8 + k) ns) (sym long) h.3),
    )
stand_changed b c s l at (x ∷ ms) m ns body long same there h =
    let n = length x.body in
    let ends = message_ends b s l at x.kind x.flags n h.0 in
    let least = after_least (at + 8 + n) ms in (
      message_same b c s l at x.kind x.flags n (λ i low high. same i (omega arith) (omega arith) (inl (omega arith))) h.0,
      h.1,
      h.2 ∙ part_there b c s l (at + 8) n ends (λ i low high. same i (omega arith) (omega arith) (inl (omega arith))),
      stand_changed b c s l (at + 8 + n) ms m ns body long (λ i low high out. same i (omega arith) high out) there h.3,
    )

-- the data of a message stand at its address, within the block
place_is : (start : ℕ) (bytes : List ℕ) (at : ℕ) (ms : List Met) (m : Met) (ns : List Met)
    → Stand start bytes at (ms ++ m ∷ ns) → m.at ≡ start + after at ms + 8
place_is start bytes at [] m ns h = h.1
place_is start bytes at (x ∷ ms) m ns h = place_is start bytes (at + 8 + length x.body) ms m ns h.3

place_inside : (b : Array) (s l at : ℕ) (ms : List Met) (m : Met) (ns : List Met)
    → Stand s (bytes_of b s l) at (ms ++ m ∷ ns) → after at ms + 8 + length m.body ≤ l
place_inside b s l at [] m ns h = message_ends b s l at m.kind m.flags (length m.body) h.0
place_inside b s l at (x ∷ ms) m ns h = place_inside b s l (at + 8 + length x.body) ms m ns h.3

-- ---- what the changed messages have of the old ones

length_changed : (ms : List Met) (m : Met) (ns : List Met) (body : List ℕ) → length (ms ++ record m { body = body } ∷ ns) ≡ length (ms ++ m ∷ ns)
length_changed ms m ns body = omega (arith, length-append ms (record m { body = body } ∷ ns), length-append ms (m ∷ ns))

after_changed : (at : ℕ) (ms : List Met) (m : Met) (ns : List Met) (body : List ℕ) → length body ≡ length m.body → after at (ms ++ record m { body = body } ∷ ns) ≡ after at (ms ++ m ∷ ns)
after_changed at [] m ns body long = ap (λ (k : ℕ). after (at + 8 + k) ns) long
after_changed at (x ∷ ms) m ns body long = after_changed (at + 8 + length x.body) ms m ns body long

whole_changed : (ms : List Met) (m : Met) (ns : List Met) (body : List ℕ) → length body ≡ length m.body → AreWhole (ms ++ m ∷ ns) → AreWhole (ms ++ record m { body = body } ∷ ns)
whole_changed [] m ns body long h = (λ kind. let le = h.0 kind in omega arith, h.1)
whole_changed (x ∷ ms) m ns body long h = (h.0, whole_changed ms m ns body long h.1)

continued_changed : (ms : List Met) (m : Met) (ns : List Met) (body : List ℕ) → m.kind ≢ 0x10 → flat_map continued (ms ++ record m { body = body } ∷ ns) ≡ flat_map continued (ms ++ m ∷ ns)
continued_changed [] m ns body plain = let no : (m.kind == 0x10) ≡ false = ne_eqb m.kind 0x10 plain in rw no refl
continued_changed (x ∷ ms) m ns body plain = ap (λ (bs : List Block). continued x ++ bs) (continued_changed ms m ns body plain)

-- ---- parts

abbrev part_of : Block → List Met → Part
part_of x ms = record { block = x; messages = ms }

-- the messages of one of the parts are met in one array, and those of the others in the other
record MetBeside (b c : Array) (before : List Part) (p : Part) (later : List Part) : Type 0 where
  before_met : All (IsMet c) before
  here : IsMet b p
  later_met : All (IsMet c) later

met_beside : (b c : Array) (before : List Part) (p : Part) (later : List Part) → Agree b c (blocks_of_parts before)
    → Agree b c (blocks_of_parts later) → All (IsMet b) (before ++ p ∷ later) → MetBeside b c before p later
met_beside b c [] p later before_same later_same h = record {
  before_met = All-nil (IsMet c);
  here = All-head (IsMet b) p later h;
  later_met = met_stay b c later later_same (All-tail (IsMet b) p later h);
}
met_beside b c (q ∷ qs) p later before_same later_same h =
    let rest = met_beside b c qs p later before_same.1 later_same (All-tail (IsMet b) q (qs ++ p ∷ later) h) in
    let one = met_stay b c (q ∷ []) (before_same.0, tt)
    (All-cons (IsMet b) q [] (All-head (IsMet b) q (qs ++ p ∷ later) h) (All-nil (IsMet b))) in
    record {
      before_met = All-cons (IsMet c) q qs (All-head (IsMet c) q [] one) rest.before_met;
      here = rest.here;
      later_met = rest.later_met;
    }

-- a part with other messages there, which name the same blocks
drawn_changed : (waiting : List Block) (before : List Part) (x : Block) (ms ns : List Met) (later : List Part)
    (left : List Block) → flat_map continued ns ≡ flat_map continued ms
    → AreDrawn waiting (before ++ part_of x ms ∷ later) left → AreDrawn waiting (before ++ part_of x ns ∷ later) left
drawn_changed waiting [] x ms ns later left named (more, is, h) =
    (more, is, subst (λ (bs : List Block). AreDrawn (more ++ bs) later left) (sym named) h)
drawn_changed waiting (p ∷ ps) x ms ns later left named (more, is, h) =
    (more, is, drawn_changed (more ++ flat_map continued p.messages) ps x ms ns later left named h)

-- and as many of which end where the others did
ended_changed : (b : Array) (before : List Part) (x : Block) (ms ns : List Met) (later : List Part)
    → length ns ≡ length ms → after 0 ns ≡ after 0 ms → AreEnded b (before ++ part_of x ms ∷ later)
    → AreEnded b (before ++ part_of x ns ∷ later)
ended_changed b [] x ms ns [] many ends h = omega arith
ended_changed b [] x ms ns (q ∷ qs) many ends h = (let end = h.0 in omega arith, h.1)
ended_changed b (p ∷ []) x ms ns later many ends h = (h.0, ended_changed b [] x ms ns later many ends h.1)
ended_changed b (p ∷ q ∷ ps) x ms ns later many ends h = (h.0, ended_changed b (q ∷ ps) x ms ns later many ends h.1)

-- ---- the blocks beside the data

-- a block that is apart from that of the data has the same bytes
beside_apart : (b c : Array) (x : Block) (at n : ℕ) (ys : List Block) → x.start ≤ at → at + n ≤ x.start + x.len → IsApart x ys → AgreeBeside b c at n ys → Agree b c ys
beside_apart b c x at n [] low high apart h = tt
beside_apart b c x at n (y ∷ ys) low high apart h = (one apart.0, beside_apart b c x at n ys low high apart.1 h.1)
  where
    one : AreApart x y → Same b c y.start y.len
    one (inl before) = λ i from below. h.0 i from below (inr (omega arith))
    one (inr behind) = λ i from below. h.0 i from below (inl (omega arith))

-- of blocks that are apart, those beside the block of the data have the same bytes
beside_split : (b c : Array) (us : List Block) (x : Block) (vs : List Block) (at n : ℕ) → x.start ≤ at → at + n ≤ x.start + x.len → AllApart (us ++ x ∷ vs) → AgreeBeside b c at n (us ++ x ∷ vs)
    → Agree b c us × SameBeside b c x.start (x.start + x.len) at n × Agree b c vs
beside_split b c [] x vs at n low high apart h = (tt, h.0, beside_apart b c x at n vs low high apart.0 h.1)
beside_split b c (u ∷ us) x vs at n low high apart h =
    let rest = beside_split b c us x vs at n low high apart.1 h.1 in
    let first = within us apart.0 in
    ((one first, rest.0), rest.1, rest.2)
  where
    within : (us : List Block) → IsApart u (us ++ x ∷ vs) → AreApart u x
    within [] k = k.0
    within (z ∷ us) k = within us k.1

    one : AreApart u x → Same b c u.start u.len
    one (inl before) = λ i from below. h.0 i from below (inl (omega arith))
    one (inr behind) = λ i from below. h.0 i from below (inr (omega arith))

-- a part of a block is apart from what the block is apart from
smaller_apart : (x y : Block) (zs : List Block) → x.start ≤ y.start → y.start + y.len ≤ x.start + x.len → IsApart x zs → IsApart y zs
smaller_apart x y [] low high h = tt
smaller_apart x y (z ∷ zs) low high h = (one h.0, smaller_apart x y zs low high h.1)
  where
    one : AreApart x z → AreApart y z
    one (inl before) = inl (omega arith)
    one (inr behind) = inr (omega arith)

-- ---- the header

abbrev changed_parts : List Part → Block → List Met → Met → List Met → List Part → List Part
changed_parts before x ahead m behind later = before ++ part_of x (ahead ++ m ∷ behind) ∷ later

spread : (before : List Part) (x : Block) (ahead : List Met) (m : Met) (behind : List Met) (later : List Part)
    → messages_of (changed_parts before x ahead m behind later)
    ≡ (messages_of before ++ ahead) ++ m ∷ (behind ++ messages_of later)
spread before x ahead m behind later =
    flat_map-append (λ (p : Part). p.messages) before (part_of x (ahead ++ m ∷ behind) ∷ later)
    ∙ ap (λ (ms : List Met). messages_of before ++ ms) (append_assoc ahead (m ∷ behind) (messages_of later))
    ∙ sym (append_assoc (messages_of before) ahead (m ∷ (behind ++ messages_of later)))

-- the bytes of a header's parts beside the data of one message
record PartsBeside (b c : Array) (before : List Part) (x : Block) (place n : ℕ) (later : List Part) : Type 0 where
  before_same : Agree b c (blocks_of_parts before)
  here : SameBeside b c x.start (x.start + x.len) place n
  later_same : Agree b c (blocks_of_parts later)

parts_beside : (b c : Array) (at : ℕ) (prefix : Prefix) (before : List Part) (x : Block) (ms : List Met)
    (later : List Part) (place n : ℕ) → (h : IsHeader b at prefix (before ++ part_of x ms ∷ later))
    → x.start ≤ place → place + n ≤ x.start + x.len
    → AllApart (header_blocks at prefix (before ++ part_of x ms ∷ later))
    → AgreeBeside b c place n (header_blocks at prefix (before ++ part_of x ms ∷ later))
    → Same b c at 16 × PartsBeside b c before x place n later
parts_beside b c at prefix before x ms later place n h low high apart agree =
    let parts = before ++ part_of x ms ∷ later in
    let others = flat_map continued (messages_of parts) in
    let head : Block = record { start = at; len = 16 + prefix.size } in
    let front : Block = record { start = at; len = 16 } in
    let first = first_block at prefix in
    let us = front ∷ blocks_of_parts before in
    let vs = blocks_of_parts later ++ h.unread in
    let blocks : front ∷ first ∷ others ≡ us ++ x ∷ vs =
    ap (λ (bs : List Block). front ∷ bs)
    (h.met.rest ∙ ap (λ (bs : List Block). bs ++ h.unread) (map-append (λ (p : Part). p.block) before (part_of x ms ∷ later))
    ∙ append_assoc (blocks_of_parts before) (x ∷ blocks_of_parts later) h.unread) in
    let all_apart : AllApart (front ∷ first ∷ others) = (
      (inl (omega arith), smaller_apart head front others (omega arith) (omega arith) apart.0),
      (smaller_apart head first others (omega arith) (omega arith) apart.0, apart.1),
    ) in
    let all_agree : AgreeBeside b c place n (front ∷ first ∷ others) = (
      λ i low high. agree.0 i low (omega arith),
      (λ i low high. agree.0 i (omega arith) (omega arith), agree.1),
    ) in
    let split = beside_split b c us x vs place n low high (subst AllApart blocks all_apart)
    (subst (AgreeBeside b c place n) blocks all_agree) in (
      split.0.0,
      record {
        before_same = split.0.1;
        here = split.1;
        later_same = agree_left b c (blocks_of_parts later) h.unread split.2;
      },
    )

-- what a header has of its parts with another body of one message, whose data stand in its block
record Changes (b c : Array) (x : Block) (ahead : List Met) (m : Met) (behind : List Met) (body : List ℕ) : Type 0 where
  plain : m.kind ≢ 0x10
  long : length body ≡ length m.body
  same : SameBeside b c x.start (x.start + x.len) (x.start + after 0 ahead + 8) (length body)
  there : bytes_of c (x.start + after 0 ahead + 8) (length body) ≡ body

is_met_changed : (b c : Array) (x : Block) (ahead : List Met) (m : Met) (behind : List Met) (body : List ℕ)
    → Changes b c x ahead m behind body → IsMet b (part_of x (ahead ++ m ∷ behind))
    → IsMet c (part_of x (ahead ++ record m { body = body } ∷ behind))
is_met_changed b c x ahead m behind body k h = record {
  stand = stand_changed b c x.start x.len 0 ahead m behind body k.long (λ i low. k.same i (omega arith)) k.there h.stand;
  whole = whole_changed ahead m behind body k.long h.whole;
}

header_changed : (b c : Array) (at : ℕ) (prefix : Prefix) (before : List Part) (x : Block) (ahead : List Met) (m : Met)
    (behind : List Met) (body : List ℕ) (later : List Part)
    → IsHeader b at prefix (changed_parts before x ahead m behind later) → Same b c at 16
    → Agree b c (blocks_of_parts before) → Agree b c (blocks_of_parts later) → Changes b c x ahead m behind body
    → IsHeader c at prefix (changed_parts before x ahead (record m { body = body }) behind later)
header_changed b c at prefix before x ahead m behind body later h front before_same later_same k =
    let first = first_block at prefix in
    let old = ahead ++ m ∷ behind in
    let new = ahead ++ record m { body = body } ∷ behind in
    let parts = changed_parts before x ahead m behind later in
    let changed = changed_parts before x ahead (record m { body = body }) behind later in
    let beside = met_beside b c before (part_of x old) later before_same later_same h.met.met in
    let here = is_met_changed b c x ahead m behind body k beside.here in
    let read = drawn_changed (first ∷ []) before x old new later h.unread (continued_changed ahead m behind body k.plain)
    (drawn b first parts h.unread h.met) in
    let ended = ended_changed c before x old new later (length_changed ahead m behind body)
    (after_changed 0 ahead m behind body k.long)
    (ended_of c prefix.messages parts (counted_stays b c prefix.messages parts h.counted)) in
    let many : length (messages_of changed) ≡ length (messages_of parts) =
    ap length (spread before x ahead (record m { body = body }) behind later)
    ∙ length_changed (messages_of before ++ ahead) m (behind ++ messages_of later) body
    ∙ sym (ap length (spread before x ahead m behind later)) in
    record {
      spelled = subst (SpellsPrefix prefix) (bytes_same b c at 16 front) h.spelled;
      unread = h.unread;
      met = met_of_drawn c first changed h.unread read
          (All-append (IsMet c) before (part_of x new ∷ later) beside.before_met
          (All-cons (IsMet c) (part_of x new) later here beside.later_met));
      counted = counted_of c prefix.messages changed ended (many ∙ h.counted.number);
    }

but_one : (parts changed : List Part) (m : Met) (body : List ℕ) → IsOtherBody parts changed m body
    → AreButOne m body (messages_of parts) (messages_of changed)
but_one parts changed m body o = record {
  ahead = messages_of o.before ++ o.ahead;
  behind = o.behind ++ messages_of o.later;
  were = ap messages_of o.old ∙ spread o.before o.block o.ahead m o.behind o.later;
  are = ap messages_of o.new ∙ spread o.before o.block o.ahead (record m { body = body }) o.behind o.later;
}

-- the same, of parts that are spelled out
header_other : (b c : Array) (at : ℕ) (prefix : Prefix) (before : List Part) (x : Block) (ahead : List Met) (m : Met)
    (behind : List Met) (body : List ℕ) (later : List Part)
    → IsHeader b at prefix (changed_parts before x ahead m behind later) → m.kind ≢ 0x10 → length body ≡ length m.body
    → AllApart (header_blocks at prefix (changed_parts before x ahead m behind later))
    → AgreeBeside b c m.at (length body) (header_blocks at prefix (changed_parts before x ahead m behind later))
    → bytes_of c m.at (length body) ≡ body
    → IsHeader c at prefix (changed_parts before x ahead (record m { body = body }) behind later)
header_other b c at prefix before x ahead m behind body later h plain long apart agree there =
    let n = length body in
    let place = x.start + after 0 ahead + 8 in
    let parts = changed_parts before x ahead m behind later in
    let here = (met_beside b b before (part_of x (ahead ++ m ∷ behind)) later
    (agree_itself b (blocks_of_parts before)) (agree_itself b (blocks_of_parts later)) h.met.met).here in
    let is : m.at ≡ place = place_is x.start (bytes_of b x.start x.len) 0 ahead m behind here.stand in
    let inside = place_inside b x.start x.len 0 ahead m behind here.stand in
    let beside = parts_beside b c at prefix before x (ahead ++ m ∷ behind) later place n h (omega arith) (omega arith) apart
    (subst (λ (k : ℕ). AgreeBeside b c k n (header_blocks at prefix parts)) is agree) in
    header_changed b c at prefix before x ahead m behind body later h beside.0 beside.1.before_same beside.1.later_same
    (record {
      plain = plain;
      long = long;
      same = beside.1.here;
      there = subst (λ (k : ℕ). bytes_of c k n ≡ body) is there;
    })

pub other_body : OtherBody
other_body b c at prefix parts changed m body h o plain long apart agree there =
    let one = but_one parts changed m body o in
    let head : Block = record { start = at; len = 16 + prefix.size } in
    let named : flat_map continued (messages_of changed) ≡ flat_map continued (messages_of parts) =
    ap (flat_map continued) one.are ∙ continued_changed one.ahead m one.behind body plain
    ∙ ap (flat_map continued) (sym one.were) in
    let stays = header_other b c at prefix o.before o.block o.ahead m o.behind body o.later
    (subst (IsHeader b at prefix) o.old h) plain long
    (subst (λ (ps : List Part). AllApart (header_blocks at prefix ps)) o.old apart)
    (subst (λ (ps : List Part). AgreeBeside b c m.at (length body) (header_blocks at prefix ps)) o.old agree) there in
    (subst (IsHeader c at prefix) (sym o.new) stays, one, ap (λ (bs : List Block). head ∷ bs) named)

pub beside_write : BesideWrite
beside_write b c at n [] same = tt
beside_write b c at n (x ∷ xs) same = (λ i low high out. sym (same i out), beside_write b c at n xs same)
