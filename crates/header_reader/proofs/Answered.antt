-- What is answered of a header, by its first bytes and by its messages.
use Rattle.std.proofs.Common.{◌≡◌, ◌⊎◌, ℕ, ◌+◌, ◌^◌, ◌<◌, ◌≤◌, List, [], ◌∷◌, ◌++◌, length, take, Bool, true, false, IsTrue, Option, Some, None, IfSome, Result, Ok, Err, IfOk, IfErr, refl, sym, ◌∙◌, ap, subst, arith, inl, inr}
use Rattle.std.proofs.lemmas.Bool.{cases_lt, cases_eq}
use Rattle.std.proofs.lemmas.List.FromFn.{length-map-range_with_len, take-map-range_with_len}
use Rattle.outside.specs.Array.{Array, bytes_of}
use Rattle.outside.specs.Blocks.{Block, AllInside, AreTaken}
use Rattle.outside.specs.Space.{SpaceView, AreRegions, bounds_of}
use Rattle.block_space.specs.Blocks.{Keeps, Takes}
use Rattle.block_space.specs.declared.blocks.Blocks.{Blocks}
use Rattle.h5_base.specs.declared.refusal.Stop.{Stop}
use Rattle.h5_base.specs.declared.refusal.Stop.TheVariants as stops
use Rattle.h5_base.specs.Refusals.{refusal_of}
use Rattle.h5_base.specs.declared.kinds.BlockKind.TheVariants as kind
use Rattle.h5_base.specs.declared.kinds.What.TheVariants as what
use Rattle.header_codec.specs.Headers.{SpellsPrefix}
use Rattle.header_codec.specs.declared.types.Prefix.{Prefix}
use Rattle.file_model.specs.Headers.{AreWhole, IsHeader, Part, messages_of, header_blocks, later_header}
use Rattle.file_model.specs.Limits.{header_bytes, most_header}
use Rattle.h5_base.specs.declared.refusal.Refusal.{Refusal}
use Rattle.h5_base.specs.declared.refusal.Refusal.TheVariants.{Malformed, Unsupported}
use Rattle.outside.specs.Blocks.{IsBlockRefused}
use Rattle.file_model.specs.Refusals.{IsMessageRefused, IsHeaderRefused, LaterHeader, PrefixBlock, NoPrefix, LargeFirst, HeaderBlock, InMessages}
use Rattle.header_reader.specs.Firsts.{Firsts}
use Rattle.header_reader.specs.Gathered.{Gathers}
use Rattle.header_reader.specs.declared.reading.Header.{Header}
use Rattle.header_reader.specs.declared.reading.Header.TheVariants.{Later}
use Rattle.header_reader.specs.Found.{IsFound}
use Rattle.header_reader.specs.Walks.{HasPrefix, IsGathered, IsBlockStop}
use Rattle.header_reader.proofs.High.{refused_less}

-- ---- by the messages

pub large_first : (v : SpaceView) (own : Option (List ℕ)) (met : List Block) (at : ℕ) (prefix : Prefix) → HasPrefix v.array at prefix → most_header < 16 + prefix.size
    → IsHeaderRefused v.array (bounds_of v own) met at (Unsupported what.Header)
large_first v own met at prefix h large = LargeFirst prefix h.fits h.spelled large refl

pub header_block : (v : SpaceView) (own : Option (List ℕ)) (met : List Block) (at : ℕ) (prefix : Prefix) (r : Refusal) → HasPrefix v.array at prefix → 16 + prefix.size ≤ most_header
    → IsBlockRefused (bounds_of v own) met (record { start = at; len = 16 + prefix.size }) kind.Header r → IsHeaderRefused v.array (bounds_of v own) met at r
header_block v own met at prefix r h small refused = HeaderBlock prefix h.fits h.spelled small refused

pub in_messages : (v w : SpaceView) (own : Option (List ℕ)) (met : List Block) (at : ℕ) (prefix : Prefix) (r : Refusal) → v ≡ w → HasPrefix v.array at prefix → 16 + prefix.size ≤ most_header
    → IsMessageRefused w.array (bounds_of w own) met at prefix r → IsHeaderRefused v.array (bounds_of v own) met at r
in_messages v w own met at prefix r same h small refused =
    InMessages prefix h.spelled small (subst (λ (y : SpaceView). IsMessageRefused y.array (bounds_of y own) met at prefix r) (sym same) refused)

pub known_found : {V : Type 0} (view : V → SpaceView) (old mid new : Blocks V) (at : ℕ) (prefix : Prefix) (messages : Firsts) (x : Header) (parts : List Part) → view old.space ≡ view mid.space
    → HasPrefix (view old.space).array at prefix → IsGathered (view mid.space).array at prefix messages parts
    → ((met : List Block) → Keeps view old met → Keeps view new (met ++ header_blocks at prefix parts))
    → ((b : Array) (prefix : Prefix) (parts : List Part) → IsHeader b at prefix parts → Gathers messages (messages_of parts) → AreWhole (messages_of parts) → header_bytes at prefix parts ≤ most_header
    → IsFound b at x (header_blocks at prefix parts))
    → Takes view old new (IsFound (view old.space).array at x)
known_found view old mid new at prefix messages x parts same h met_all kept made = λ met keeps.
    let b = (view old.space).array in
    let g = subst (λ (v : SpaceView). IsGathered v.array at prefix messages parts) (sym same) met_all in
    let header : IsHeader b at prefix parts =
    record { spelled = h.spelled; unread = g.unread; met = g.met; counted = g.counted } in
    (header_blocks at prefix parts, made b prefix parts header g.gathered g.whole g.short, kept met keeps)

-- want of memory refuses no file
pub memory_only : (stop : Stop) (IsRefused : Refusal → Type 0) → stop ≡ stops.NoMemory → IfSome (refusal_of stop) IsRefused
memory_only stop IsRefused is = subst (λ (s : Stop). IfSome (refusal_of s) IsRefused) (sym is) tt

-- ---- over a space that is alike

pub part_refused : {V T : Type 0} (view : V → SpaceView) (old mid : Blocks V) (r : Result T Stop) (total start len wanted : ℕ) (bytes : List ℕ) → view old.space ≡ view mid.space
    → ((met : List Block) → Keeps view old met → Keeps view mid met) → bytes ≡ bytes_of (view old.space).array start len
    → IfErr r (λ stop. (met : List Block) (own : Option (List ℕ)) → Keeps view mid met → IfSome (refusal_of stop) (IsBlockStop (bounds_of (view mid.space) own) met total start bytes wanted))
    → IfErr r (λ stop. (met : List Block) (own : Option (List ℕ)) → Keeps view old met → IfSome (refusal_of stop) (IsBlockStop (bounds_of (view old.space) own) met total start (bytes_of (view old.space).array start len) wanted))
part_refused view old mid (Ok x) total start len wanted bytes same kept is h = h
part_refused view old mid (Err stop) total start len wanted bytes same kept is h =
    λ met own keeps. subst (λ (l : List ℕ). IfSome (refusal_of stop) (IsBlockStop (bounds_of (view old.space) own) met total start l wanted)) is
    (subst (λ (v : SpaceView). IfSome (refusal_of stop) (IsBlockStop (bounds_of v own) met total start bytes wanted)) (sym same) (h met own (kept met keeps)))

pub found_same : {V : Type 0} (view : V → SpaceView) (old mid new : Blocks V) (at : ℕ) (r : Result Header Stop) → view old.space ≡ view mid.space → ((met : List Block) → Keeps view old met → Keeps view mid met)
    → IfOk r (λ x. (met : List Block) → Keeps view mid met → (bs : List Block) × IsFound (view mid.space).array at x bs × Keeps view new (met ++ bs))
    → IfOk r (λ x. (met : List Block) → Keeps view old met → (bs : List Block) × IsFound (view old.space).array at x bs × Keeps view new (met ++ bs))
found_same view old mid new at (Ok x) same kept h =
    λ met keeps. let f = h met (kept met keeps) in (f.0, subst (λ (v : SpaceView). IsFound v.array at x f.0) (sym same) f.1, f.2)
found_same view old mid new at (Err stop) same kept h = h

pub refused_same : {V : Type 0} (view : V → SpaceView) (old mid : Blocks V) (at : ℕ) (r : Result Header Stop) → view old.space ≡ view mid.space → ((met : List Block) → Keeps view old met → Keeps view mid met)
    → IfErr r (λ stop. (met : List Block) (own : Option (List ℕ)) → Keeps view mid met → IfSome (refusal_of stop) (IsHeaderRefused (view mid.space).array (bounds_of (view mid.space) own) met at))
    → IfErr r (λ stop. (met : List Block) (own : Option (List ℕ)) → Keeps view old met → IfSome (refusal_of stop) (IsHeaderRefused (view old.space).array (bounds_of (view old.space) own) met at))
refused_same view old mid at (Ok x) same kept h = h
refused_same view old mid at (Err stop) same kept h =
    λ met own keeps. subst (λ (v : SpaceView). IfSome (refusal_of stop) (IsHeaderRefused v.array (bounds_of v own) met at)) (sym same) (h met own (kept met keeps))

-- ---- by the first bytes

-- the first n bytes at an address, as far as they are read
pub record AreFirst (b : Array) (at n : ℕ) (items : List ℕ) : Type 0 where
  pub bytes : items ≡ bytes_of b at n
  pub whole : at + 16 ≤ 2 ^ 64 → n ≡ 16
  pub most : n ≤ 16
  pub four : at + 4 ≤ 2 ^ 64 → 4 ≤ n
  pub fits : at + n ≤ 2 ^ 64

pub first_seen : (b : Array) (at n : ℕ) (items seen : List ℕ) → seen ≡ items → items ≡ bytes_of b at n → (at + 16 ≤ 2 ^ 64 → n ≡ 16) → n ≤ 16 → (at + 4 ≤ 2 ^ 64 → 4 ≤ n) → at + n ≤ 2 ^ 64
    → AreFirst b at n seen
first_seen b at n items seen same is whole most four fits = record { bytes = same ∙ is; whole = whole; most = most; four = four; fits = fits }

first_four : (b : Array) (at n : ℕ) (items : List ℕ) → AreFirst b at n items → 4 ≤ n → take 4 items ≡ bytes_of b at 4
first_four b at n items h some = ap (take 4) h.bytes ∙ take-map-range_with_len b at n 4 some

pub later_read : (b : Array) (at n : ℕ) (items : List ℕ) → AreFirst b at n items → (4 ≤ length items) × (take 4 items ≡ later_header) → bytes_of b at 4 ≡ later_header
later_read b at n items h later =
    let some : 4 ≤ n = omega (arith, later.0, ap length h.bytes, length-map-range_with_len b at n) in
    sym (first_four b at n items h some) ∙ later.1

not_later : (b : Array) (at n : ℕ) (items : List ℕ) → AreFirst b at n items → ((4 ≤ length items) × (take 4 items ≡ later_header) → ⊥) → 4 ≤ n → bytes_of b at 4 ≡ later_header → ⊥
not_later b at n items h none some is =
    none (omega (arith, some, ap length h.bytes, length-map-range_with_len b at n), first_four b at n items h some ∙ is)

pub later_found : (v : SpaceView) (at : ℕ) → bytes_of v.array at 4 ≡ later_header → IsFound v.array at Later (record { start = at; len = 4 } ∷ [])
later_found v at is = (is, refl)

pub prefix_read : (b : Array) (at n : ℕ) (items : List ℕ) (prefix : Prefix) → AreFirst b at n items → SpellsPrefix prefix items → HasPrefix b at prefix
prefix_read b at n items prefix h spelled =
    let all : n ≡ 16 = omega (arith, h.most, spelled.prefix.whole, ap length h.bytes, length-map-range_with_len b at n) in
    record { fits = let room = h.fits in omega (arith, all, room); spelled = subst (SpellsPrefix prefix) (h.bytes ∙ ap (bytes_of b at) all) spelled }

decide : (xs ys : List ℕ) → (xs ≡ ys) ⊎ (xs ≡ ys → ⊥)
decide [] [] = inl refl
decide [] (y ∷ ys) = inr (λ e. cc)
decide (x ∷ xs) [] = inr (λ e. cc)
decide (x ∷ xs) (y ∷ ys) = go (cases_eq x y) (decide xs ys)
  where
    go : (x ≡ y) ⊎ (x ≡ y → ⊥) → (xs ≡ ys) ⊎ (xs ≡ ys → ⊥) → (x ∷ xs ≡ y ∷ ys) ⊎ (x ∷ xs ≡ y ∷ ys → ⊥)
    go (inl a) (inl b) = inl (λ j. a j ∷ b j)
    go (inr a) b = inr (λ e. a (let head : x ≡ y = cc in head))
    go (inl a) (inr b) = inr (λ e. b (let tail : xs ≡ ys = cc in tail))

unspelled : (b : Array) (at n : ℕ) (items : List ℕ) → AreFirst b at n items → ((p : Prefix) → SpellsPrefix p items → ⊥) → at + 16 ≤ 2 ^ 64 → (p : Prefix) → SpellsPrefix p (bytes_of b at 16) → ⊥
unspelled b at n items first none fits p spelled = none p (subst (SpellsPrefix p) (sym (first.bytes ∙ ap (bytes_of b at) (first.whole fits))) spelled)

-- where no prefix is spelled
pub prefix_refused : (v : SpaceView) (own : Option (List ℕ)) (met : List Block) (at n : ℕ) (items : List ℕ) (r : Refusal) → AreRegions v.regions v.ends → AllInside (bounds_of v own) met → AreFirst v.array at n items
    → ((4 ≤ length items) × (take 4 items ≡ later_header) → ⊥) → ((p : Prefix) → SpellsPrefix p items → ⊥)
    → IsBlockRefused (bounds_of v own) met (record { start = at; len = 16 }) kind.Header r
    ⊎ (AreTaken (bounds_of v own) met (record { start = at; len = 16 } ∷ []) × (at + 16 < 2 ^ 64)
    × (r ≡ Malformed at kind.Header))
    → IsHeaderRefused v.array (bounds_of v own) met at r
prefix_refused v own met at n items r sound all first later none (inr why) =
    let fits : at + 16 ≤ 2 ^ 64 = let low = why.1 in omega (arith, low) in
    NoPrefix (not_later v.array at n items first later (omega (arith, first.whole fits)))
    (unspelled v.array at n items first none fits) why.0 why.2
prefix_refused v own met at n items r sound all first later none (inl h) = go (cases_lt (2 ^ 64) (at + 4))
  where
    high : 2 ^ 64 < at + 4 → (bytes_of v.array at 4 ≡ later_header) ⊎ (bytes_of v.array at 4 ≡ later_header → ⊥) → IsHeaderRefused v.array (bounds_of v own) met at r
    high lt (inl is) = LaterHeader is (refused_less v own met at 16 4 kind.Header r sound all (omega (arith, lt)) (omega arith) h)
    high lt (inr not) = PrefixBlock not (unspelled v.array at n items first none) h

    go : (2 ^ 64 < at + 4) ⊎ (at + 4 ≤ 2 ^ 64) → IsHeaderRefused v.array (bounds_of v own) met at r
    go (inl lt) = high lt (decide (bytes_of v.array at 4) later_header)
    go (inr le) = PrefixBlock (not_later v.array at n items first later (first.four le)) (unspelled v.array at n items first none) h

pub later_refused : (v w : SpaceView) (own : Option (List ℕ)) (met : List Block) (at : ℕ) (r : Refusal) → v ≡ w → bytes_of v.array at 4 ≡ later_header
    → IsBlockRefused (bounds_of w own) met (record { start = at; len = 4 }) kind.Header r → IsHeaderRefused v.array (bounds_of v own) met at r
later_refused v w own met at r same is refused = LaterHeader is (subst (λ (y : SpaceView). IsBlockRefused (bounds_of y own) met (record { start = at; len = 4 }) kind.Header r) (sym same) refused)

pub refused_back : (v w : SpaceView) (own : Option (List ℕ)) (met : List Block) (at : ℕ) (r : Refusal) → v ≡ w → IsHeaderRefused w.array (bounds_of w own) met at r → IsHeaderRefused v.array (bounds_of v own) met at r
refused_back v w own met at r same refused = subst (λ (y : SpaceView). IsHeaderRefused y.array (bounds_of y own) met at r) (sym same) refused

pub first_on : (v w : SpaceView) (at n : ℕ) (items : List ℕ) → v ≡ w → AreFirst v.array at n items → AreFirst w.array at n items
first_on v w at n items same h = subst (λ (y : SpaceView). AreFirst y.array at n items) same h

pub none_later : (items seen : List ℕ) (t : Bool) → seen ≡ items → t ≡ false → ((4 ≤ length seen) × (take 4 seen ≡ later_header) → IsTrue t) → (4 ≤ length items) × (take 4 items ≡ later_header) → ⊥
none_later items seen t same is h later =
    let e : t ≡ true = h (subst (λ (l : List ℕ). (4 ≤ length l) × (take 4 l ≡ later_header)) (sym same) later) in
    cc

pub none_spelled : (items seen : List ℕ) → seen ≡ items → ((p : Prefix) → SpellsPrefix p seen → None ≡ Some p) → (p : Prefix) → SpellsPrefix p items → ⊥
none_spelled items seen same h p spelled = let e : None ≡ Some p = h p (subst (SpellsPrefix p) (sym same) spelled) in cc
