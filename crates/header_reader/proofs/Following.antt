-- One message more: what it names, and why it is refused.
use Rattle.std.proofs.Common.{◌≡◌, ◌⊎◌, ℕ, zero, suc, ◌+◌, ◌-◌, ◌<◌, ◌≤◌, ◌==◌, false, List, [], ◌∷◌, ◌++◌, length, map, take, drop, Option, IfSome, Result, Ok, Err, IfErr, refl, sym, ◌∙◌, ap, subst, arith}
use Rattle.std.specs.List.{flat_map}
use Rattle.std.proofs.lemmas.Bool.Decides.{nat_tests}
use Rattle.std.proofs.lemmas.List.{append_assoc, append-nil, flat_map_more, map-append, length-append, length-drop, length-take-le}
use Rattle.std.proofs.lemmas.List.Sums.{sum_by-append}
use Rattle.std.proofs.lemmas.Grind.{flat_map-append}
use Rattle.h5_base.specs.Fields.{u64_at}
use Rattle.h5_base.specs.declared.extent.Extent.{Extent}
use Rattle.outside.specs.Blocks.{Block, Bounds, AreTaken, placed}
use Rattle.outside.specs.Space.{SpaceView, bounds_of}
use Rattle.block_space.specs.Blocks.{Keeps}
use Rattle.block_space.specs.declared.blocks.Blocks.{Blocks}
use Rattle.h5_base.specs.declared.refusal.Stop.{Stop}
use Rattle.block_space.proofs.Stopped.{if_some}
use Rattle.h5_base.specs.Refusals.{refusal_of}
use Rattle.header_codec.specs.Headers.{SpellsMessage}
use Rattle.header_codec.specs.declared.types.Message.{Message}
use Rattle.file_model.specs.Headers.{Met, Stand, after, AreWhole, continued}
use Rattle.h5_base.specs.declared.refusal.Refusal.{Refusal}
use Rattle.file_model.specs.Refusals.{met_bytes}
use Rattle.file_model.specs.Limits.{most_header}
use Rattle.header_reader.specs.Gathered.{Gathers}
use Rattle.header_reader.specs.declared.walk.Walk.{Walk}
use Rattle.header_reader.specs.Walks.{IsNameRefused, TooLarge, BadBlock, IsMessageAt, IsStepRefused, LargeHeader, BadContinuation, Meets, IsBlockStop, block_of, waiting_of}

-- a placed block has so many bytes
pub placed_bytes : (start len : ℕ) → met_bytes (placed start len) ≡ len
placed_bytes start zero = refl
placed_bytes start (suc n) = let test : (suc n == 0) ≡ false = grind (arith, nat_tests) in rw test (omega arith)

-- a block that is placed waits behind the others
pub waits_more : (old mid new : List Extent) (x : Extent) (start len : ℕ) → 0 < len → mid ≡ old ++ x ∷ [] → new ≡ mid → block_of x ≡ record { start = start; len = len } → map block_of new ≡ map block_of old ++ placed start len
waits_more old mid new x start zero some pushed is same = absurd (omega (arith, some))
waits_more old mid new x start (suc n) some pushed is same =
    let test : (suc n == 0) ≡ false = grind (arith, nat_tests) in
    rw test (ap (map block_of) (is ∙ pushed) ∙ map-append block_of old (x ∷ []) ∙ ap (λ (y : Block). map block_of old ++ y ∷ []) same)

pub waits_none : (old new : List Extent) (start len : ℕ) → len ≤ 0 → new ≡ old → map block_of new ≡ map block_of old ++ placed start len
waits_none old new start zero none is = ap (map block_of) is ∙ sym (append-nil (map block_of old))
waits_none old new start (suc n) none is = absurd (omega (arith, none))

pub named_bytes : (m : Met) → m.kind ≡ 0x10 → met_bytes (continued m) ≡ u64_at m.body 8
named_bytes m is = let e : continued m ≡ placed (u64_at m.body 0) (u64_at m.body 8) = rw is refl in ap met_bytes e ∙ placed_bytes (u64_at m.body 0) (u64_at m.body 8)

pub all_named : {V T : Type 0} (view : V → SpaceView) (old : Blocks V) (total start len kind : ℕ) (r : Result T Stop) → kind ≡ 0x10
    → IfErr r (λ stop. (met : List Block) (own : Option (List ℕ)) → Keeps view old met → IfSome (refusal_of stop) (IsNameRefused (bounds_of (view old.space) own) met total start len))
    → IfErr r (λ stop. (met : List Block) (own : Option (List ℕ)) → Keeps view old met → IfSome (refusal_of stop) (λ x. (kind ≡ 0x10) × IsNameRefused (bounds_of (view old.space) own) met total start len x))
all_named view old total start len kind (Ok x) is h = h
all_named view old total start len kind (Err stop) is h =
    λ met own keeps. if_some (refusal_of stop) (IsNameRefused (bounds_of (view old.space) own) met total start len) (λ x. (kind ≡ 0x10) × IsNameRefused (bounds_of (view old.space) own) met total start len x) (λ x y. (is, y)) (h met own keeps)

-- a message that is read is met
pub message_met : (start : ℕ) (bytes : List ℕ) (place : ℕ) (message : Message) (at : ℕ) (body : List ℕ)
    → SpellsMessage message bytes place → at ≡ start + message.at
    → body ≡ take (message.at + message.len - message.at) (drop message.at bytes)
    → ((message.kind ≡ 0x10) ⊎ (message.kind ≡ 0x11) → 16 ≤ message.len)
    → IsMessageAt start bytes place (record { kind = message.kind; flags = message.flags; at = at; body = body })
message_met start bytes place message at body h there is whole =
    let behind_head : message.at ≡ place + 8 = ap (λ (x : Message). x.at) h.value in
    let behind : message.at + message.len ≤ length bytes =
    omega (arith, ap (λ (x : Message). x.len) h.value, behind_head, h.message.whole) in
    let some : message.at + message.len - message.at ≡ message.len = omega arith in
    let fits : message.len ≤ length (drop message.at bytes) = omega (arith, behind, length-drop message.at bytes) in
    let body_is : body ≡ take message.len (drop message.at bytes) = is ∙ ap (λ (n : ℕ). take n (drop message.at bytes)) some in
    let len : message.len ≡ length body = sym (ap length body_is ∙ length-take-le message.len (drop message.at bytes) fits) in
    record {
      stand = (
        record {
          message = h.message;
          value = (λ j. record {
            kind = message.kind;
            flags = message.flags;
            at = (sym behind_head) j;
            len = (sym len) j;
          })
              ∙ h.value;
        },
        omega (arith, there, behind_head),
        body_is ∙ (λ j. take (len j) (drop (behind_head j) bytes)),
        tt,
      );
      whole = λ k. omega (arith, whole k, len);
    }

-- where the message ends
pub message_end : (start : ℕ) (bytes : List ℕ) (place : ℕ) (message : Message) (m : Met)
    → SpellsMessage message bytes place → IsMessageAt start bytes place m → message.at + message.len ≡ place + 8 + length m.body
message_end start bytes place message m h here =
    omega (arith, ap (λ (x : Message). x.at) h.value, ap (λ (x : Message). x.len) h.value, ap (λ (x : Message). x.len) here.stand.0.value)

pub step_refused : (e : Bounds) (met : List Block) (total start : ℕ) (bytes : List ℕ) (place : ℕ) (m : Met)
    (r : Refusal) → IsMessageAt start bytes place m
    → (m.kind ≡ 0x10) × IsNameRefused e met total (u64_at m.body 0) (u64_at m.body 8) r
    → IsStepRefused e met total start bytes place r
step_refused e met total start bytes place m r here (is, TooLarge large line) = LargeHeader m here (omega (arith, large, named_bytes m is)) line
step_refused e met total start bytes place m r here (is, BadBlock small h) = BadContinuation m here is (omega (arith, small, named_bytes m is)) h

pub meets_one : (old mid new : Walk) (m : Met) → mid.messages ≡ old.messages → ((ms : List Met) → Gathers mid.messages ms → Gathers new.messages (ms ++ m ∷ []))
    → waiting_of new ≡ waiting_of old ++ continued m → new.wanted + 1 ≡ old.wanted → new.total ≡ old.total + met_bytes (continued m) → new.total ≤ most_header → Meets old new (m ∷ [])
meets_one old mid new m same gathers waiting wanted total short =
    let one : flat_map continued (m ∷ []) ≡ continued m = append-nil (continued m) in
    record {
      gathered = λ ms h. gathers ms (rw same h);
      waiting = waiting ∙ ap (λ (l : List Block). waiting_of old ++ l) (sym one);
      wanted = omega (arith, wanted);
      total = total ∙ ap (λ (l : List Block). old.total + met_bytes l) (sym one);
      short = short;
    }

-- ---- messages one behind the other

stand_more : (start : ℕ) (bytes : List ℕ) (at : ℕ) (ms ns : List Met) → Stand start bytes at ms
    → Stand start bytes (after at ms) ns → Stand start bytes at (ms ++ ns)
stand_more start bytes at [] ns h k = k
stand_more start bytes at (m ∷ ms) ns h k =
    (h.0, h.1, h.2, stand_more start bytes (at + 8 + length m.body) ms ns h.3 k)

pub stand_back : (start : ℕ) (bytes : List ℕ) (at : ℕ) (ms ns : List Met) → Stand start bytes at (ms ++ ns)
    → Stand start bytes (after at ms) ns
stand_back start bytes at [] ns h = h
stand_back start bytes at (m ∷ ms) ns h = stand_back start bytes (at + 8 + length m.body) ms ns h.3

pub whole_back : (ms ns : List Met) → AreWhole (ms ++ ns) → AreWhole ns
whole_back [] ns h = h
whole_back (m ∷ ms) ns h = whole_back ms ns h.1

pub whole_more : (ms ns : List Met) → AreWhole ms → AreWhole ns → AreWhole (ms ++ ns)
whole_more [] ns h k = k
whole_more (m ∷ ms) ns h k = (h.0, whole_more ms ns h.1 k)

pub after_more : (at : ℕ) (ms ns : List Met) → after at (ms ++ ns) ≡ after (after at ms) ns
after_more at [] ns = refl
after_more at (m ∷ ms) ns = after_more (at + 8 + length m.body) ms ns

pub meets_none : (walk : Walk) → walk.total ≤ most_header → Meets walk walk []
meets_none walk short = record {
  gathered = λ ms h. subst (Gathers walk.messages) (sym (append-nil ms)) h;
  waiting = sym (append-nil (waiting_of walk));
  wanted = omega arith;
  total = omega arith;
  short = short;
}

pub meets_on : (a b c : Walk) (ms ns : List Met) → Meets a b ms → Meets b c ns → Meets a c (ms ++ ns)
meets_on a b c ms ns h k =
    let all : flat_map continued (ms ++ ns) ≡ flat_map continued ms ++ flat_map continued ns = flat_map-append continued ms ns in
    record {
      gathered = λ before g. subst (Gathers c.messages) (append_assoc before ms ns) (k.gathered (before ++ ms) (h.gathered before g));
      waiting = k.waiting ∙ ap (λ (l : List Block). l ++ flat_map continued ns) h.waiting ∙ append_assoc (waiting_of a) (flat_map continued ms) (flat_map continued ns)
          ∙ ap (λ (l : List Block). waiting_of a ++ l) (sym all);
      wanted = omega (arith, h.wanted, k.wanted, length-append ms ns);
      total = omega (arith, h.total, k.total, ap met_bytes all, sum_by-append (λ (x : Block). x.len) (flat_map continued ms) (flat_map continued ns));
      short = k.short;
    }

-- the blocks of one message more
pub kept_more : {V : Type 0} (view : V → SpaceView) (old mid new : Blocks V) (ms : List Met) (m : Met) → ((met : List Block) → Keeps view old met → Keeps view mid (met ++ flat_map continued ms))
    → ((met : List Block) → Keeps view mid met → Keeps view new (met ++ continued m)) → (met : List Block) → Keeps view old met → Keeps view new (met ++ flat_map continued (ms ++ m ∷ []))
kept_more view old mid new ms m h k met keeps = subst (Keeps view new) (flat_map_more continued met ms m) (k (met ++ flat_map continued ms) (h met keeps))

pub kept_none : {V : Type 0} (view : V → SpaceView) (old : Blocks V) (met : List Block) → Keeps view old met → Keeps view old (met ++ [])
kept_none view old met keeps = subst (Keeps view old) (sym (append-nil met)) keeps

pub stand_next : (start : ℕ) (bytes : List ℕ) (place : ℕ) (ms : List Met) (m : Met) → Stand start bytes 0 ms
    → place ≡ after 0 ms → IsMessageAt start bytes place m → Stand start bytes 0 (ms ++ m ∷ [])
stand_next start bytes place ms m h is here =
    stand_more start bytes 0 ms (m ∷ []) h (subst (λ (n : ℕ). Stand start bytes n (m ∷ [])) is here.stand)

pub whole_next : (start : ℕ) (bytes : List ℕ) (place : ℕ) (ms : List Met) (m : Met) → AreWhole ms
    → IsMessageAt start bytes place m → AreWhole (ms ++ m ∷ [])
whole_next start bytes place ms m h here = whole_more ms (m ∷ []) h (here.whole, tt)

pub after_next : (place next : ℕ) (ms : List Met) (m : Met) → place ≡ after 0 ms → next ≡ place + 8 + length m.body → next ≡ after 0 (ms ++ m ∷ [])
after_next place next ms m is end = omega (arith, is, end, after_more 0 ms (m ∷ []))

pub block_stop : (e f : Bounds) (met : List Block) (old mid : Walk) (start : ℕ) (bytes : List ℕ) (place : ℕ)
    (ms : List Met) (r : Refusal) → f ≡ e → Stand start bytes 0 ms → AreWhole ms → place ≡ after 0 ms
    → Meets old mid ms → 0 < mid.wanted → place + 8 ≤ length bytes → AreTaken e met (flat_map continued ms)
    → IsStepRefused f (met ++ flat_map continued ms) mid.total start bytes place r
    → IsBlockStop e met old.total start bytes old.wanted r
block_stop e f met old mid start bytes place ms r same stand whole here meets more room taken step =
    let blocks = met ++ flat_map continued ms in
    record {
      ms = ms;
      stand = stand;
      whole = whole;
      more = omega (arith, meets.wanted, more);
      room = omega (arith, here, room);
      taken = taken;
      short = omega (arith, meets.total, meets.short);
      step = subst (λ (n : ℕ). IsStepRefused e blocks (old.total + met_bytes (flat_map continued ms)) start bytes n r) here
          (subst (λ (t : ℕ). IsStepRefused e blocks t start bytes place r) meets.total
          (subst (λ (x : Bounds). IsStepRefused x blocks mid.total start bytes place r) same step));
    }
