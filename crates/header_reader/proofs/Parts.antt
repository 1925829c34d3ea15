-- One block of messages more of a header.
use Rattle.std.proofs.Common.{◌≡◌, ℕ, ◌+◌, ◌<◌, ◌≤◌, ◌==◌, Bool, true, false, IsTrue, Option, if◌then◌else◌, zero, suc, map}
use Rattle.std.proofs.Common.{drop, List, [], ◌∷◌, ◌++◌, length, refl, sym, ◌∙◌, ap, subst, arith, inl, inr}
use Rattle.std.specs.Prelude.{All}
use Rattle.std.specs.List.{flat_map}
use Rattle.std.proofs.lemmas.List.{append_assoc, append-nil, length-append, length-map, length-drop}
use Rattle.std.proofs.lemmas.List.Elements.{All-nil, All-head, All-tail, All-push}
use Rattle.std.proofs.lemmas.List.Sums.{sum_by-append}
use Rattle.std.proofs.lemmas.List.FromFn.{length-map-range_with_len}
use Rattle.std.proofs.lemmas.Grind.{flat_map-append}
use Rattle.std.proofs.lemmas.Bool.Decides.{nat_tests}
use Rattle.h5_base.specs.Fields.{u64_at}
use Rattle.h5_base.specs.declared.extent.Extent.{Extent}
use Rattle.outside.specs.Array.{Array, bytes_of}
use Rattle.outside.specs.Blocks.{Block, Bounds, AreTaken, placed}
use Rattle.outside.specs.Space.{SpaceView, bounds_of}
use Rattle.block_space.specs.Blocks.{Keeps}
use Rattle.block_space.specs.declared.blocks.Blocks.{Blocks}
use Rattle.header_codec.specs.declared.types.Prefix.{Prefix}
use Rattle.h5_base.specs.declared.kinds.BlockKind.TheVariants as kind
use Rattle.file_model.specs.Headers.{Met, after, AreWhole, Part, IsAtEnd, AreMet, continued, first_block, header_blocks}
use Rattle.file_model.specs.Headers.{messages_of}
use Rattle.file_model.specs.Limits.{header_bytes, most_header}
use Rattle.h5_base.specs.declared.refusal.Refusal.{Refusal}
use Rattle.h5_base.specs.declared.refusal.Refusal.TheVariants.{Malformed}
use Rattle.outside.specs.Blocks.{IsPlacedRefused}
use Rattle.file_model.specs.Refusals.{EndedEarly, IsReading, IsNext, IsMessageRefused, met_bytes, so_far}
use Rattle.file_model.specs.Refusals.{BadMessage as RefusedMessage, LargeHeader as RefusedLarge, BadContinuation as RefusedContinuation}
use Rattle.file_model.proofs.MetLaws.{AreEnded, counted_of, met_none, met_more}
use Rattle.file_model.proofs.NoHeader.{messages_so_far}
use Rattle.header_reader.specs.Firsts.{Firsts}
use Rattle.header_reader.specs.Gathered.{Gathers}
use Rattle.header_reader.specs.declared.walk.Walk.{Walk}
use Rattle.header_reader.specs.Walks.{IsMessageAt, AreMessages, IsStepRefused, BadMessage, LargeHeader, BadContinuation, IsBlockStop, Meets, IsWalked, IsGathered, block_of, waiting_of}
use Rattle.header_reader.proofs.Following.{stand_next, stand_back, whole_more, whole_next, whole_back}
use Rattle.outside.proofs.Taken.{taken_both}

pub blocks_more : (at : ℕ) (prefix : Prefix) (parts : List Part) (x : Block) (ms : List Met)
    → header_blocks at prefix (parts ++ record { block = x; messages = ms } ∷ []) ≡ header_blocks at prefix parts ++ flat_map continued ms
blocks_more at prefix parts x ms =
    ap (λ (l : List Met). record { start = at; len = 16 + prefix.size } ∷ flat_map continued l) (messages_so_far parts x ms)
    ∙ ap (λ (l : List Block). record { start = at; len = 16 + prefix.size } ∷ l) (flat_map-append continued (messages_of parts) ms)

pub bytes_more : (at : ℕ) (prefix : Prefix) (parts : List Part) (x : Block) (ms : List Met)
    → header_bytes at prefix (parts ++ record { block = x; messages = ms } ∷ []) ≡ header_bytes at prefix parts + met_bytes (flat_map continued ms)
bytes_more at prefix parts x ms = ap met_bytes (blocks_more at prefix parts x ms) ∙ sum_by-append (λ (y : Block). y.len) (header_blocks at prefix parts) (flat_map continued ms)

number_more : (parts : List Part) (x : Block) (ms : List Met)
    → length (messages_of (parts ++ record { block = x; messages = ms } ∷ [])) ≡ length (messages_of parts) + length ms
number_more parts x ms = ap length (messages_so_far parts x ms) ∙ length-append (messages_of parts) ms

-- ---- the walk

-- nothing was met but the prefix
pub walked_none : (tells : Bool) (b : Array) (at : ℕ) (prefix : Prefix) (walk : Walk) → 16 + prefix.size ≤ most_header
    → Gathers walk.messages [] → waiting_of walk ≡ first_block at prefix ∷ [] → walk.wanted ≡ prefix.messages
    → walk.total ≡ 16 + prefix.size → IsWalked tells b at prefix [] walk
walked_none tells b at prefix walk short gathered waiting wanted total =
    let first = first_block at prefix in
    record {
      met = λ told. subst (AreMet b first []) (sym waiting) (met_none b first);
      ended = λ told some. All-nil (IsAtEnd b);
      counted = λ told none. counted_of b prefix.messages [] tt (omega (arith, wanted, none));
      number = omega (arith, wanted);
      gathered = gathered;
      whole = tt;
      total = omega (arith, total);
      short = omega (arith, total, short);
    }

-- the next block was taken from those that wait
pub record Draws (old mid : Walk) (x : Block) : Type 0 where
  pub waiting : waiting_of old ≡ x ∷ waiting_of mid
  pub messages : mid.messages ≡ old.messages
  pub wanted : mid.wanted ≡ old.wanted
  pub total : mid.total ≡ old.total

before_of : (b : Array) (first : Block) (parts : List Part) (old mid : Walk) (x : Block) → Draws old mid x
    → AreMet b first parts (waiting_of old) → AreMet b first parts (x ∷ waiting_of mid)
before_of b first parts old mid x takes h = subst (AreMet b first parts) takes.waiting h

-- a part with fewer messages than are wanted was read to its end
at_end : (b : Array) (x : Block) (wanted : ℕ) (ms : List Met) → AreMessages x.start (bytes_of b x.start x.len) wanted ms
    → length ms < wanted → IsAtEnd b (record { block = x; messages = ms })
at_end b x wanted ms read less = elim read.read [ inl end ↦ end | inr all ↦ absurd (omega (arith, all, less)) ]

-- behind parts that were read to their end comes one with a message
ended_more : (b : Array) (parts : List Part) (p : Part) → All (IsAtEnd b) parts → 0 < length p.messages
    → AreEnded b (parts ++ p ∷ [])
ended_more b [] p h some = some
ended_more b (q ∷ []) p h some = (All-head (IsAtEnd b) q [] h, some)
ended_more b (q ∷ r ∷ ps) p h some =
    (All-head (IsAtEnd b) q (r ∷ ps) h, ended_more b (r ∷ ps) p (All-tail (IsAtEnd b) q (r ∷ ps) h) some)

pub walked_more : (tells : Bool) (b : Array) (at : ℕ) (prefix : Prefix) (parts : List Part) (old mid new : Walk)
    (x : Block) (ms : List Met) → IsWalked tells b at prefix parts old → Draws old mid x → 0 < old.wanted
    → (IsTrue tells → AreMessages x.start (bytes_of b x.start x.len) mid.wanted ms) → AreWhole ms → Meets mid new ms
    → IsWalked tells b at prefix (parts ++ record { block = x; messages = ms } ∷ []) new
walked_more tells b at prefix parts old mid new x ms h takes some read whole meets =
    let first = first_block at prefix in
    let p : Part = record { block = x; messages = ms } in
    let all = parts ++ p ∷ [] in
    let number = number_more parts x ms in
    let messages = messages_so_far parts x ms in
    record {
      met = λ told. subst (AreMet b first all) (sym meets.waiting)
          (met_more b first parts p (waiting_of mid) (before_of b first parts old mid x takes (h.met told))
          (record { stand = (read told).stand; whole = whole }));
      ended = λ told more. All-push (IsAtEnd b) parts p (h.ended told some)
          (at_end b x mid.wanted ms (read told) (omega (arith, meets.wanted, more)));
      counted = λ told none.
          counted_of b prefix.messages all
          (ended_more b parts p (h.ended told some) (omega (arith, meets.wanted, none, takes.wanted, some)))
          (omega (arith, number, h.number, meets.wanted, none, takes.wanted));
      number = omega (arith, number, h.number, meets.wanted, takes.wanted);
      gathered = subst (Gathers new.messages) (sym messages)
          (meets.gathered (messages_of parts)
          (subst (λ (f : Firsts). Gathers f (messages_of parts)) (sym takes.messages) h.gathered));
      whole = subst AreWhole (sym messages) (whole_more (messages_of parts) ms h.whole whole);
      total = omega (arith, meets.total, takes.total, h.total, bytes_more at prefix parts x ms);
      short = meets.short;
    }

placed_few : (start len : ℕ) → length (placed start len) ≤ 1
placed_few start zero = omega arith
placed_few start (suc n) = let test : (suc n == 0) ≡ false = grind (arith, nat_tests) in rw test (omega arith)

chosen_few : (t : Bool) (xs : List Block) → length xs ≤ 1 → length (if t then xs else []) ≤ 1
chosen_few true xs h = h
chosen_few false xs h = omega arith

named_few : (ms : List Met) → length (flat_map continued ms) ≤ length ms
named_few [] = omega arith
named_few (m ∷ ms) =
    let one : length (continued m) ≤ 1 = chosen_few (m.kind == 0x10) (placed (u64_at m.body 0) (u64_at m.body 8)) (placed_few (u64_at m.body 0) (u64_at m.body 8)) in
    omega (arith, one, named_few ms, length-append (continued m) (flat_map continued ms))

-- of the messages that are wanted and the blocks that wait, there are fewer
pub fewer : (old mid new : Walk) (x : Block) (ms : List Met) → Draws old mid x → Meets mid new ms → length new.waiting.items + new.wanted < length old.waiting.items + old.wanted
fewer old mid new x ms takes meets =
    let a : length (waiting_of old) ≡ suc (length (waiting_of mid)) = ap length takes.waiting in
    let c : length (waiting_of new) ≡ length (waiting_of mid) + length (flat_map continued ms) = ap length meets.waiting ∙ length-append (waiting_of mid) (flat_map continued ms) in
    omega (arith, a, c, named_few ms, meets.wanted, takes.wanted, length-map old.waiting.items block_of, length-map new.waiting.items block_of)

-- all messages were met
pub walked_all : (tells : Bool) (b : Array) (at : ℕ) (prefix : Prefix) (parts : List Part) (walk : Walk) → IsTrue tells
    → IsWalked tells b at prefix parts walk → walk.wanted ≤ 0 → IsGathered b at prefix walk.messages parts
walked_all tells b at prefix parts walk told h none = record {
  unread = waiting_of walk;
  met = h.met told;
  counted = h.counted told (omega (arith, none));
  gathered = h.gathered;
  whole = h.whole;
  short = omega (arith, h.total, h.short);
}

no_items : (xs ys : List Extent) → xs ≡ ys → ys ≡ drop 1 xs → map block_of xs ≡ []
no_items [] ys e d = refl
no_items (x ∷ xs) ys e d = absurd (omega (arith, ap length (e ∙ d), length-drop 1 (x ∷ xs)))

-- the blocks end before so many messages were met
pub walked_early : (tells : Bool) (b : Array) (e : Bounds) (met : List Block) (at : ℕ) (prefix : Prefix)
    (parts : List Part) (walk : Walk) (left : List Extent) → IsTrue tells → IsWalked tells b at prefix parts walk → 0 < walk.wanted
    → walk.waiting.items ≡ left → left ≡ drop 1 walk.waiting.items → AreTaken e met (header_blocks at prefix parts)
    → IsMessageRefused b e met at prefix (Malformed at kind.Header)
walked_early tells b e met at prefix parts walk left told h some is rest taken =
    let none : waiting_of walk ≡ [] = no_items walk.waiting.items left is rest in
    EndedEarly parts
    (record {
      all = subst (AreMet b (first_block at prefix) parts) none (h.met told);
      ended = h.ended told some;
      fewer = omega (arith, h.number, some);
      blocks = record { taken = taken; short = omega (arith, h.total, h.short) };
    })
    refl

-- ---- why a message is refused

taken_more : (e : Bounds) (met : List Block) (at : ℕ) (prefix : Prefix) (parts : List Part) (x : Block) (ms : List Met)
    → AreTaken e (met ++ header_blocks at prefix parts) (flat_map continued ms)
    → AreTaken e met (so_far at prefix parts x ms)
taken_more e met at prefix parts x ms h =
    subst (AreTaken e met) (sym (blocks_more at prefix parts x ms))
    (taken_both e met (header_blocks at prefix parts) (flat_map continued ms) h)

-- where a walk over the array's bytes stands, before a block is read
pub record IsAtBlock (b : Array) (at : ℕ) (prefix : Prefix) (parts : List Part) (x : Block) (left : List Block)
    (wanted total : ℕ) : Type 0 where
  pub before : AreMet b (first_block at prefix) parts (x ∷ left)
  pub ended : All (IsAtEnd b) parts
  pub number : length (messages_of parts) + wanted ≡ prefix.messages
  pub sum : total ≡ header_bytes at prefix parts

message_stop : (b : Array) (e : Bounds) (met : List Block) (at : ℕ) (prefix : Prefix) (parts : List Part) (x : Block)
    (left : List Block) (wanted total : ℕ) (r : Refusal) → IsAtBlock b at prefix parts x left wanted total
    → IsBlockStop e (met ++ header_blocks at prefix parts) total x.start (bytes_of b x.start x.len) wanted r
    → IsMessageRefused b e met at prefix r
message_stop b e met at prefix parts x left wanted total r here h = go h.step
  where
    bytes : List ℕ
    bytes = bytes_of b x.start x.len

    reading : IsReading b e met at prefix parts x h.ms
    reading = record {
      left = left;
      before = here.before;
      ended = here.ended;
      here = record { stand = h.stand; whole = h.whole };
      more = omega (arith, h.more, here.number, length-append (messages_of parts) h.ms);
      blocks = record {
        taken = taken_more e met at prefix parts x h.ms h.taken;
        short = omega (arith, h.short, here.sum, bytes_more at prefix parts x h.ms);
      };
    }

    next : (m : Met) → IsMessageAt x.start bytes (after 0 h.ms) m → IsNext b x h.ms m
    next m there = record {
      stand = stand_next x.start bytes (after 0 h.ms) h.ms m h.stand refl there;
      whole = whole_next x.start bytes (after 0 h.ms) h.ms m h.whole there;
    }

    -- the bytes with those that one message more names
    named_sum : (m : Met) → header_bytes at prefix (parts ++ record { block = x; messages = h.ms ++ m ∷ [] } ∷ [])
        ≡ header_bytes at prefix parts + met_bytes (flat_map continued h.ms) + met_bytes (continued m)
    named_sum m =
        let one : flat_map continued (m ∷ []) ≡ continued m = append-nil (continued m) in
        let named = ap met_bytes (flat_map-append continued h.ms (m ∷ []) ∙ ap (λ (l : List Block). flat_map continued h.ms ++ l) one) in
        omega (arith, bytes_more at prefix parts x (h.ms ++ m ∷ []), named, sum_by-append (λ (y : Block). y.len) (flat_map continued h.ms) (continued m))

    go : IsStepRefused e ((met ++ header_blocks at prefix parts) ++ flat_map continued h.ms)
        (total + met_bytes (flat_map continued h.ms)) x.start bytes (after 0 h.ms) r
        → IsMessageRefused b e met at prefix r
    go (BadMessage none line) =
        RefusedMessage parts x h.ms reading (omega (arith, h.room, length-map-range_with_len b x.start x.len))
        (λ m n. none m (record {
          stand = stand_back x.start bytes 0 h.ms (m ∷ []) n.stand;
          whole = (whole_back h.ms (m ∷ []) n.whole).0;
        }))
        line
    go (LargeHeader m there large line) =
        RefusedLarge parts x h.ms m reading (next m there) (omega (arith, large, here.sum, named_sum m)) line
    go (BadContinuation m there is small refused) =
        RefusedContinuation parts x h.ms m reading (next m there) is (omega (arith, small, here.sum, named_sum m))
        (subst (λ (l : List Block). IsPlacedRefused e l (u64_at m.body 0) (u64_at m.body 8) kind.Header r)
        (append_assoc met (header_blocks at prefix parts) (flat_map continued h.ms)
        ∙ ap (λ (l : List Block). met ++ l) (sym (blocks_more at prefix parts x h.ms))) refused)

-- what is kept with one part more
pub kept_part : {V : Type 0} (view : V → SpaceView) (mid new : Blocks V) (at : ℕ) (prefix : Prefix) (parts : List Part) (x : Block) (ms : List Met) (met : List Block)
    → Keeps view mid (met ++ header_blocks at prefix parts) → ((l : List Block) → Keeps view mid l → Keeps view new (l ++ flat_map continued ms))
    → Keeps view new (met ++ header_blocks at prefix (parts ++ record { block = x; messages = ms } ∷ []))
kept_part view mid new at prefix parts x ms met h k =
    subst (Keeps view new) (append_assoc met (header_blocks at prefix parts) (flat_map continued ms) ∙ ap (λ (l : List Block). met ++ l) (sym (blocks_more at prefix parts x ms)))
    (k (met ++ header_blocks at prefix parts) h)

-- the same of a stop of the next block, where the walk goes over a space as it was
pub walked_stop : (tells : Bool) (v w : SpaceView) (own : Option (List ℕ)) (met : List Block) (at : ℕ) (prefix : Prefix)
    (parts : List Part) (old mid : Walk) (x : Block) (r : Refusal) → v ≡ w → IsTrue tells
    → IsWalked tells v.array at prefix parts old → 0 < old.wanted → Draws old mid x
    → IsBlockStop (bounds_of w own) (met ++ header_blocks at prefix parts) mid.total x.start
    (bytes_of w.array x.start x.len) mid.wanted r
    → IsMessageRefused v.array (bounds_of v own) met at prefix r
walked_stop tells v w own met at prefix parts old mid x r same told h some takes stop =
    let blocks = met ++ header_blocks at prefix parts in
    let here : IsAtBlock v.array at prefix parts x (waiting_of mid) mid.wanted mid.total =
    record {
      before = before_of v.array (first_block at prefix) parts old mid x takes (h.met told);
      ended = h.ended told some;
      number = omega (arith, h.number, takes.wanted);
      sum = takes.total ∙ h.total;
    } in
    message_stop v.array (bounds_of v own) met at prefix parts x (waiting_of mid) mid.wanted mid.total r here
    (subst
    (λ (y : SpaceView). IsBlockStop (bounds_of y own) blocks mid.total x.start (bytes_of y.array x.start x.len) mid.wanted r)
    (sym same) stop)

pub read_same : (tells : Bool) (v w : SpaceView) (x : Block) (wanted : ℕ) (ms : List Met) → v ≡ w
    → (IsTrue tells → AreMessages x.start (bytes_of w.array x.start x.len) wanted ms) → IsTrue tells
    → AreMessages x.start (bytes_of v.array x.start x.len) wanted ms
read_same tells v w x wanted ms same read told =
    subst (λ (y : SpaceView). AreMessages x.start (bytes_of y.array x.start x.len) wanted ms) (sym same) (read told)
