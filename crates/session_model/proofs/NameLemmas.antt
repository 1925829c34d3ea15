-- What names use of a segment, what is never answered `full`, and what passes a limit.
use Rattle.std.proofs.Common.{◌≡◌, ◌≢◌, ℕ, zero, suc, ◌+◌, ◌*◌, ◌%◌, ◌^◌, ◌<◌, ◌≤◌, Bool, true, false, List, [], ◌∷◌}
use Rattle.std.proofs.Common.{◌++◌, length, replicate, None, refl, sym, ◌∙◌, ap, subst, lit≤, lit<, arith}
use Rattle.std.specs.Prelude.{All, if◌then◌else◌}
use Rattle.std.proofs.lemmas.List.{length-replicate}
use Rattle.std.proofs.lemmas.List.Elements.{All-nil, All-cons}
use Rattle.h5_base.specs.declared.extent.MemClass.{MemClass}
use Rattle.h5_base.specs.declared.extent.MemClass.TheVariants as class
use Rattle.h5_base.specs.declared.extent.Region.{Region}
use Rattle.outside.specs.Array.{bytes_of}
use Rattle.outside.specs.Space.{same_region}
use Rattle.block_space.specs.declared.plan.Take.{Take}
use Rattle.block_space.specs.declared.plan.ReserveStop.TheVariants as stop
use Rattle.block_space.specs.Plans.{IsNoRoom, need_of}
use Rattle.dtype.specs.Products.{product}
use Rattle.dtype.specs.Types.{size_of}
use Rattle.file_model.specs.Groups.{HasText, index_offsets}
use Rattle.file_model.specs.Holds.{DataAt}
use Rattle.file_model.proofs.UniqueGroups.{text_same}
use Rattle.group_room.specs.Used.{EndBefore}
use Rattle.object_model.specs.declared.command.Command.TheVariants as command
use Rattle.object_model.specs.declared.answer.Answer.{Answer}
use Rattle.object_model.specs.declared.answer.Answer.TheVariants as answer
use Rattle.object_model.specs.declared.answer.Code.{Code}
use Rattle.object_model.specs.declared.answer.Code.TheVariants as code
use Rattle.session_model.specs.TooLarge.{IsDataOver, Rank, Whole, Chunk, Fill}
use Rattle.session_model.specs.State.{Setting, State, needs_of, view_of, stack_of, tree_of}
use Rattle.session_model.specs.Line.{Refused, TooLarge, Over, Full, Done, NoTime, Makes}
use Rattle.session_model.specs.GroupFile.{empty_bytes, group_bytes, empty_index, group_index}
use Rattle.session_model.specs.Laws.{TakesNothing, NeverFull}
use Rattle.session_model.specs.Examples.{byte, UsedLengths, RankLimit, ExtendLimit}
use Rattle.session_model.proofs.GroupFile.{empty_text, g_text}
use Rattle.session_model.proofs.LineLemmas.{answers_done}
use Rattle.session_model.proofs.WriteLemmas.{data_is}

-- ---- used lengths

abbrev copies : (n c : ℕ) → List ℕ
copies n c = replicate n c

abbrev long_segment : List ℕ
long_segment = copies 8 0 ++ copies 8 97 ++ copies 8 0

letters : (n : ℕ) → All (λ (c : ℕ). c ≢ 0) (copies n 97)
letters zero = All-nil _
letters (suc n) = All-cons (λ (c : ℕ). c ≢ 0) 97 (copies n 97) (λ h. cc) (letters n)

long_text : HasText long_segment 8 (copies 8 97)
long_text = record { inside = lit< tt; stands = refl; ended = refl; no_nul = letters 8 }

no_more : (k : ℕ) → k < 0 → ⊥
no_more k h = omega (arith, h)

no_second : (k : ℕ) → suc k < 1 → ⊥
no_second k h = omega (arith, h)

no_fourth : (k : ℕ) → suc (suc (suc k)) < 3 → ⊥
no_fourth k h = omega (arith, h)

-- no text of an empty group is in use
none_used : (n : ℕ) → EndBefore (bytes_of empty_bytes 712 88) (index_offsets empty_index) n
none_used n at text (k, low, is) stands = absurd (no_more k low)

abbrev root_segment : List ℕ
root_segment = bytes_of group_bytes 712 88

-- the empty name at 0, and the group's at 8
at_start : (text : List ℕ) → HasText root_segment 0 text → 0 + length text < 16
at_start text stands =
    let n : length text ≡ 0 = ap length (text_same root_segment 0 text [] stands empty_text) in omega (arith, n)

at_eight : (text : List ℕ) → HasText root_segment 8 text → 8 + length text < 16
at_eight text stands =
    let n : length text ≡ 1 = ap length (text_same root_segment 8 text (103 ∷ []) stands g_text) in omega (arith, n)

two_used : EndBefore root_segment (index_offsets group_index) 16
two_used at text (zero, low, is) stands =
    subst (λ n. n + length text < 16) is
    (at_start text (subst (λ n. HasText root_segment n text) (sym is) stands))
two_used at text (suc zero, low, is) stands =
    subst (λ n. n + length text < 16) is
    (at_eight text (subst (λ n. HasText root_segment n text) (sym is) stands))
two_used at text (suc (suc zero), low, is) stands =
    subst (λ n. n + length text < 16) is
    (at_eight text (subst (λ n. HasText root_segment n text) (sym is) stands))
two_used at text (suc (suc (suc k)), low, is) stands = absurd (no_fourth k low)

long_end : (text : List ℕ) → HasText long_segment 8 text → 8 + length text < 24
long_end text stands =
    let n : length text ≡ 8 = ap length (text_same long_segment 8 text (copies 8 97) stands long_text) in
    omega (arith, n)

long_used : EndBefore long_segment (8 ∷ []) 24
long_used at text (zero, low, is) stands =
    subst (λ n. n + length text < 24) is
    (long_end text (subst (λ n. HasText long_segment n text) (sym is) stands))
long_used at text (suc k, low, is) stands = absurd (no_second k low)

sixteen : (m : ℕ) → m % 8 ≡ 0 → 9 < m → 16 ≤ m
sixteen m whole h = omega (arith, whole, h)

twenty_four : (m : ℕ) → m % 8 ≡ 0 → 16 < m → 24 ≤ m
twenty_four m whole h = omega (arith, whole, h)

pub used_lengths : UsedLengths
used_lengths = (
  record { whole = refl; some = lit≤ tt; behind = none_used 8; least = λ m whole some behind. some },
  record {
    whole = refl;
    some = lit≤ tt;
    behind = two_used;
    least = λ m whole some behind. sixteen m whole (behind 8 (103 ∷ []) (1, lit< tt, refl) g_text);
  },
  record {
    whole = refl;
    some = lit≤ tt;
    behind = long_used;
    least = λ m whole some behind. twenty_four m whole (behind 8 (copies 8 97) (0, lit< tt, refl) long_text);
  },
)

-- ---- no blocks, no room

abbrev zero_if : Bool → ℕ
zero_if b = if b then 0 else 0

nothing_if : (b : Bool) → zero_if b ≡ 0
nothing_if true = refl
nothing_if false = refl

need_none : (regions : MemClass → Region) (c : MemClass) → need_of regions (needs_of []) c ≡ 0
need_none regions c =
    rw (
      nothing_if (same_region (regions class.Super) (regions c)),
      nothing_if (same_region (regions class.Tree) (regions c)),
      nothing_if (same_region (regions class.Raw) (regions c)),
      nothing_if (same_region (regions class.GlobalHeap) (regions c)),
      nothing_if (same_region (regions class.LocalHeap) (regions c)),
      nothing_if (same_region (regions class.Header) (regions c)),
    ) refl

never_short : (k : Setting) (s : State) (end need : ℕ)
    → ((class : MemClass) → s.ends class ≤ (k.regions class).limit)
    → IsNoRoom (view_of k s) s.blocks (needs_of []) (stop.Full end need) → ⊥
never_short k s end need low (few, c, first, end_is, need_is) =
    let h : (k.regions c).limit < s.ends c + need_of k.regions (needs_of []) c = first.short in
    let n = need_none k.regions c in
    let l = low c in
    omega (arith, h, n, l)

abbrev full : (end need : ℕ) → Answer
full end need = answer.Full end need

abbrev no : Code → Answer
no why = answer.No why

abbrev committed : (rev pages : ℕ) → Answer
committed rev pages = answer.Committed rev pages

not_no : (end need : ℕ) (why : Code) → full end need ≡ no why → ⊥
not_no end need why h = cc

not_committed : (end need rev pages : ℕ) → full end need ≡ committed rev pages → ⊥
not_committed end need rev pages h = cc

not_true : false ≡ true → ⊥
not_true h = cc

pub takes_nothing : TakesNothing
takes_nothing b ks t (command.Mkgroup p) ts taking h = cc
takes_nothing b ks t (command.Mkdata p elem dims chunk max fill) ts taking h = cc
takes_nothing b ks t (command.Write p start count values) ts taking h = cc
takes_nothing b ks t (command.Read p start count) ts taking h = h
takes_nothing b ks t (command.Ls p) ts taking h = h
takes_nothing b ks t (command.Stat p) ts taking h = h
takes_nothing b ks t (command.Extend p dims) ts taking h = h
takes_nothing b ks t (command.Rm p) ts taking h = h
takes_nothing b ks t command.Flush ts taking h = h
takes_nothing b ks t (command.Commit comment) ts taking h = h

pub never_full : NeverFull
never_full k s new c secs end need idle low (Refused why steps is same) = not_no end need why is
never_full k s new c secs end need idle low (TooLarge t r steps large is same) = not_no end need code.Limit is
never_full k s new c secs end need idle low (Over t r p steps over is same) = not_no end need code.Limit is
never_full k s new c secs end need idle low (Full t r p e n steps under short is same) =
    never_short k s e n low
    (subst (λ (ts : List Take). IsNoRoom (view_of k s) s.blocks (needs_of ts) (stop.Full e n))
    (takes_nothing s.array _ _ c p.takes idle p.are) short)
never_full k s new c secs end need idle low (Done t p goes does) =
    not_true (answers_done (stack_of k s) (tree_of s) t c (full end need) goes.steps)
never_full k s new c secs end need idle low (NoTime t comment p goes late is same) = not_no end need code.Clock is
never_full k s new c secs end need idle low (Makes t comment p rev pages goes time one is) =
    not_committed end need rev pages is

-- ---- limits

product_ones : (n : ℕ) → product (copies n 1) ≡ 1
product_ones zero = refl
product_ones (suc n) = rw (product_ones n) refl

over_rank : (n : ℕ) → IsDataOver byte (copies n 1) None None → 32 < n
over_rank n (Rank h) = let l : length (copies n 1) ≡ n = length-replicate n 1 in omega (arith, h, l)
over_rank n (Whole h) = let p = product_ones n in omega (arith, h, p)
over_rank n (Chunk h) = let p = product_ones n in let g : 2 ^ 30 < product (copies n 1) * 1 = h in omega (arith, g, p)
over_rank n (Fill h) = absurd h

pub rank_limit : RankLimit
rank_limit n =
    (over_rank n, λ h. Rank (let l : length (copies n 1) ≡ n = length-replicate n 1 in omega (arith, h, l)))

pub extend_limit : ExtendLimit
extend_limit g d n is = (
  λ h. let e = data_is d h.0 h.1 in
      let size : size_of h.0.info.elem ≡ 1 = ap (λ (x : DataAt). size_of x.info.elem) (sym e) ∙ ap size_of is in
      more n (size_of h.0.info.elem) size h.2,
  λ h. (d, refl, less n (size_of d.info.elem) (ap size_of is) h),
)
  where
    more : (n size : ℕ) → size ≡ 1 → 2 ^ 40 < product (n ∷ []) * size → 2 ^ 40 < n
    more n size one h = let g : 2 ^ 40 < product (n ∷ []) * 1 = subst (λ x. 2 ^ 40 < product (n ∷ []) * x) one h in
        omega (arith, g)

    less : (n size : ℕ) → size ≡ 1 → 2 ^ 40 < n → 2 ^ 40 < product (n ∷ []) * size
    less n size one h = subst (λ x. 2 ^ 40 < product (n ∷ []) * x) (sym one) (omega (arith, h))
