-- A segment in which bytes stand that an edit wrote.
use Rattle.std.proofs.Common.{◌≡◌, ◌≢◌, ℕ, ◌+◌, ◌-◌, ◌%◌, ◌^◌, ◌<◌, ◌≤◌, List, length, take, drop, get_or, sym, ◌∙◌, ap}
use Rattle.std.proofs.Common.{subst, arith, inl, inr, ◌⊎◌, All, nat_le, if◌then◌else◌}
use Rattle.std.specs.Int.{w64, from_le_bytes}
use Rattle.std.proofs.lemmas.Bool.{cases_lt}
use Rattle.std.proofs.lemmas.Bool.Decides.{nat_tests}
use Rattle.std.proofs.lemmas.List.{get_or_past, take-take, drop-take, drop-drop}
use Rattle.std.proofs.lemmas.Nat.{from_le_bytes-to_le_bytes_8}
use Rattle.h5_base.specs.Fields.{bytes_at, u64_at}
use Rattle.block_space.specs.Plans.{rounded}
use Rattle.object_model.specs.Tree.{Name}
use Rattle.node_codec.specs.declared.heap.HeapHead.{HeapHead}
use Rattle.file_model.specs.Groups.{HasText}
use Rattle.group_room.specs.Used.{IsFreeBehind}
use Rattle.group_heap.specs.Spelled.{free_block, IsSpelled}
use Rattle.group_heap.proofs.PutLemmas.{stands_in, stands_within}

-- ---- a free block

told_first : (s : List ℕ) (at size : ℕ) → bytes_at s at 16 ≡ free_block size → u64_at s at ≡ 1
unfolding u64_at
told_first s at size e =
    ap (from_le_bytes w64) (sym (take-take 8 16 (drop at s) (omega arith)) ∙ ap (take 8) e)

told_next : (s : List ℕ) (at size : ℕ) → size < 2 ^ 64 → bytes_at s at 16 ≡ free_block size → u64_at s (at + 8) ≡ size
unfolding u64_at
told_next s at size lt e =
    ap (from_le_bytes w64) (ap (take 8) (sym (drop-drop 8 at s)) ∙ sym (drop-take 8 8 (drop at s)) ∙ ap (drop 8) e)
    ∙ from_le_bytes-to_le_bytes_8 size lt

-- the head of the free list, by whether the block has room
abbrev pub IsFreeHead : (next len free : ℕ) → Type 0
IsFreeHead next len free = free ≡ (if nat_le (next + 16) len then next else 1)

head_there : (next len free : ℕ) → IsFreeHead next len free → next + 16 ≤ len → free ≡ next
head_there next len free e le = grind (arith, nat_tests)

head_none : (next len free : ℕ) → IsFreeHead next len free → len < next + 16 → free ≡ 1
head_none next len free e lt = grind (arith, nat_tests)

pub free_behind : (s : List ℕ) (next : ℕ) (head : HeapHead) → length s < 2 ^ 64 → IsFreeHead next (length s) head.free
    → (next + 16 ≤ length s → bytes_at s next 16 ≡ free_block (length s - next)) → IsFreeBehind next head s
free_behind s next head small told block = record {
  head_at = head_there next (length s) head.free told;
  last = λ le. told_first s next (length s - next) (block le);
  size = λ le. told_next s next (length s - next) (omega arith) (block le);
  none = head_none next (length s) head.free told;
}

-- ---- a name

module _ (s : List ℕ) (start : ℕ) (front : List ℕ) (at : ℕ) (name : Name) (size : ℕ) (v : List ℕ) (used : ℕ)
    (is : used ≡ start + at) (spelled : IsSpelled front at name (length v) size v) (fits : start + length v ≤ length s)
    (stands : bytes_at s start (length v) ≡ v) (whole : start % 8 ≡ 0) (room : at + length name < length v) where
  on : rounded (used + length name + 1) ≡ start + rounded (at + length name + 1)
  on = omega (arith, whole, is)

  byte : (i : ℕ) → start ≤ i → i - start < length v → get_or s i 0 ≡ get_or v (i - start) 0
  byte i le lt =
      let e : i ≡ start + (i - start) = omega arith in
      ap (λ (k : ℕ). get_or s k 0) e ∙ stands_in s start v stands (i - start) lt

  pub text_there : All (λ c. c ≢ 0) name → HasText s used name
  text_there no_nul =
      let lt : used + length name - start < length v = omega arith in
      let e : used + length name - start ≡ at + length name = omega arith in
      record {
        inside = omega arith;
        stands = subst (λ (n : ℕ). bytes_at s n (length name) ≡ name) (sym is)
            (stands_within s start v at name fits stands (omega arith) spelled.named);
        ended = byte (used + length name) (omega arith) lt ∙ ap (λ (k : ℕ). get_or v k 0) e
            ∙ spelled.padded (at + length name) (omega arith) (omega arith);
        no_nul = no_nul;
      }

  -- the bytes go on until behind the free block, or to the end of the segment
  module _ (reach : (rounded (at + length name + 1) + 16 ≤ length v) ⊎ (start + length v ≡ length s)) where
    pub padded_there : (i : ℕ) → used + length name ≤ i → i < rounded (used + length name + 1) → get_or s i 0 ≡ 0
    padded_there i le lt = elim (cases_lt (i - start) (length v)) [
      | inl low ↦ byte i (omega arith) low ∙ spelled.padded (i - start) (omega arith) (omega (arith, on))
      | inr high ↦ elim reach [
        | inl far ↦ absurd (omega (arith, far, high, lt, on))
        | inr end ↦ get_or_past s i 0 (omega (arith, end, high))
      ]
    ]

    pub free_there : rounded (used + length name + 1) + 16 ≤ length s
        → bytes_at s (rounded (used + length name + 1)) 16 ≡ free_block size
    free_there le = elim (cases_lt (length v) (rounded (at + length name + 1) + 16)) [
      | inl low ↦ elim reach [
        | inl far ↦ absurd (omega (arith, far, low))
        | inr end ↦ absurd (omega (arith, end, low, le, on))
      ]
      | inr high ↦
          subst (λ (n : ℕ). bytes_at s n 16 ≡ free_block size) (sym on)
          (stands_within s start v (rounded (at + length name + 1)) (free_block size) fits stands high
          (spelled.free high))
    ]
