-- What an edit that puts a name makes of a heap.
use Rattle.std.proofs.Common.{◌≡◌, ◌≢◌, ℕ, ◌+◌, ◌-◌, ◌%◌, ◌^◌, ◌<◌, ◌≤◌, min, List, [], length, take, get_or, refl}
use Rattle.std.proofs.Common.{sym, ◌∙◌, ap}
use Rattle.std.proofs.Common.{subst, arith, Some, None, inl, inr, ◌⊎◌, All}
use Rattle.std.proofs.lemmas.List.{take_all, length-take}
use Rattle.outside.specs.Array.{Array, bytes_of}
use Rattle.h5_base.specs.declared.extent.MemClass.TheVariants as class
use Rattle.h5_base.specs.declared.kinds.BlockKind.TheVariants as kind
use Rattle.object_model.specs.Tree.{Name}
use Rattle.block_space.specs.Plans.{rounded}
use Rattle.plan_pieces.specs.declared.image.Image.{Image}
use Rattle.group_room.specs.Used.{Fits, name_end, wider_len}
use Rattle.group_heap.specs.declared.heap.Heap.{Heap}
use Rattle.group_heap.specs.Edits.{IsWritten, HasName, IsNamed}
use Rattle.group_heap.specs.Spelled.{free_block, IsHeadImage, IsSpelled}
use Rattle.group_heap.proofs.ArrayLemmas.{head_there, len_of, same_front, stands_part}
use Rattle.group_heap.proofs.FreeLemmas.{header_image}
use Rattle.group_heap.proofs.SegmentLemmas.{IsFreeHead, free_behind, text_there, padded_there, free_there}

-- the bytes by their own length
pub own_len : (front : List ℕ) (at : ℕ) (name : Name) (len size : ℕ) (v : List ℕ) → IsSpelled front at name len size v
    → IsSpelled front at name (length v) size v
own_len front at name len size v s = subst (λ (n : ℕ). IsSpelled front at name n size v) (sym s.len_is) s

-- The part of the segment reaches until behind the free block, else to the end of the segment.
abbrev pub IsReach : Heap → ℕ → Name → ℕ → Type 0
IsReach heap used name n = ((rounded (used + length name + 1) + 16 ≤ heap.head.len)
    × (n ≡ rounded (used + length name + 1) + 16 - used))
    ⊎ ((heap.head.len < rounded (used + length name + 1) + 16) × (n ≡ heap.head.len - used))

module _ (heap : Heap) (used : ℕ) (name : Name) (free : ℕ) (header : Image) (v : List ℕ) (whole : used % 8 ≡ 0)
    (no_nul : All (λ c. c ≢ 0) name) (fits : Fits used heap.head.len name) (small : heap.head.len ≤ 2 ^ 30)
    (told : IsFreeHead (rounded (used + length name + 1)) heap.head.len free)
    (h : IsHeadImage heap.at record { len = heap.head.len; free = free; segment_at = heap.head.segment_at } header)
    (s : IsSpelled [] 0 name (length v) (heap.head.len - rounded (used + length name + 1)) v)
    (reach : IsReach heap used name (length v)) where
  inside : used + length v ≤ heap.head.len
  inside = elim reach [ inl r ↦ omega (arith, r.0, r.1, fits) | inr r ↦ omega (arith, r.0, r.1, fits) ]

  near : heap.head.segment_at + used + length v ≤ heap.head.segment_at + rounded (used + length name + 1) + 16
  near = elim reach [ inl r ↦ omega (arith, r.1, fits) | inr r ↦ omega (arith, r.0, r.1, fits) ]

  room : 0 + length name < length v
  room = elim reach [ inl r ↦ omega (arith, r.0, r.1, fits) | inr r ↦ omega (arith, r.0, r.1, fits) ]

  reaches : (n : ℕ) → n ≡ heap.head.len → (rounded (0 + length name + 1) + 16 ≤ length v) ⊎ (used + length v ≡ n)
  reaches n e = elim reach [
    | inl r ↦ inl (omega (arith, r.1, whole))
    | inr r ↦ inr (omega (arith, r.1, fits, e))
  ]

  module _ (segment_at : ℕ) (b c : Array)
      (w : IsWritten heap
      record { header = header; part = Some record { at = heap.head.segment_at + used; bytes = v }; segment = None } b
      c) where
    has_name : HasName heap used name segment_at c
    has_name =
        let l = len_of c heap.head.segment_at heap.head.len in
        let is : used ≡ used + 0 = omega arith in
        let fit : used + length v ≤ length (bytes_of c heap.head.segment_at heap.head.len) = omega (arith, l, inside) in
        let stands = stands_part c heap.head.segment_at heap.head.len used v inside w.images.1.0 in
        let r = reaches (length (bytes_of c heap.head.segment_at heap.head.len)) l in
        record {
          head = record { len = heap.head.len; free = free; segment_at = heap.head.segment_at };
          spelled = head_there c heap.at _ header h w.images.0;
          stays = λ f. (refl, refl);
          moves = λ m. absurd (omega (arith, fits, m));
          gap = λ m i le lt. absurd (omega (arith, fits, m));
          front =
              same_front b c heap.head.segment_at heap.head.len (min used heap.head.len) (omega arith)
              (λ i lt. w.beside (heap.head.segment_at + i) (omega arith) (omega (arith, lt)) (inl (omega (arith, lt))))
              ∙ ap (take (min used heap.head.len)) w.stood;
          text = text_there (bytes_of c heap.head.segment_at heap.head.len) used [] 0 name _ v used is s fit stands
              whole room no_nul;
          padded = padded_there (bytes_of c heap.head.segment_at heap.head.len) used [] 0 name _ v used is s fit
              stands whole room r;
          free = free_behind (bytes_of c heap.head.segment_at heap.head.len) (rounded (used + length name + 1)) _
              (omega (arith, l, small))
              (subst (λ (n : ℕ). IsFreeHead (rounded (used + length name + 1)) n free) (sym l) told)
              (λ le. free_there (bytes_of c heap.head.segment_at heap.head.len) used [] 0 name _ v used is s fit
              stands whole room r le
              ∙ ap (λ (k : ℕ). free_block (k - rounded (used + length name + 1))) (sym l));
          zeros = λ m. absurd (omega (arith, fits, m));
        }

  pub named_in_place : (segment_at : ℕ) → IsNamed heap used name segment_at
      record { header = header; part = Some record { at = heap.head.segment_at + used; bytes = v }; segment = None }
  named_in_place segment_at = record {
    header = header_image heap _ header h;
    part = record { some = omega (arith, room); behind = omega arith; near = near; inside = omega (arith, inside) };
    stays = λ f. refl;
    moves = λ m. absurd (omega (arith, fits, m));
    means = has_name segment_at;
  }

module _ (heap : Heap) (used : ℕ) (name : Name) (segment_at free : ℕ) (header : Image) (front v : List ℕ)
    (whole : used % 8 ≡ 0) (no_nul : All (λ c. c ≢ 0) name) (wide : heap.head.len < name_end used name)
    (small : heap.head.len ≤ 2 ^ 30) (short : length name ≤ 255) (high : used ≤ heap.head.len + 8)
    (begins : front ≡ take (min used heap.head.len) heap.segment.items)
    (told : IsFreeHead (rounded (used + length name + 1)) (wider_len used heap.head.len name) free)
    (h : IsHeadImage heap.at record { len = wider_len used heap.head.len name; free = free; segment_at = segment_at }
    header)
    (s : IsSpelled front used name (length v) (length v - rounded (used + length name + 1)) v)
    (len_is : length v ≡ wider_len used heap.head.len name) where
  wide_enough : used + length name < length v
  wide_enough = omega (arith, len_is)

  few : wider_len used heap.head.len name < 2 ^ 64
  few = omega (arith, small, short, high)

  module _ (b c : Array)
      (w : IsWritten heap record {
        header = header;
        part = None;
        segment = Some record {
          class = class.LocalHeap;
          kind = kind.Heap;
          image = record
              { at = segment_at; bytes = v };
        };
      } b c) where
    same : bytes_of c segment_at (wider_len used heap.head.len name) ≡ v
    same = (λ j. bytes_of c segment_at (sym len_is j)) ∙ w.images.1.0

    front_len : length front ≡ min used heap.head.len
    front_len =
        let n = ap length w.stood in
        let m = ap length begins in
        omega (
          arith,
          n,
          m,
          len_of b heap.head.segment_at heap.head.len,
          length-take (min used heap.head.len)
              heap.segment.items,
        )

    has_wider : HasName heap used name segment_at c
    has_wider =
        let l = len_of c segment_at (wider_len used heap.head.len name) in
        let is : used ≡ 0 + used = omega arith in
        let fit : 0 + length v ≤ length (bytes_of c segment_at (wider_len used heap.head.len name)) = omega
        (arith, l, len_is) in
        let all : length (bytes_of c segment_at (wider_len used heap.head.len name)) ≤ length v = omega
        (arith, l, len_is) in
        let stands = take_all (length v) (bytes_of c segment_at (wider_len used heap.head.len name)) all ∙ same in
        let r : (rounded (used + length name + 1) + 16 ≤ length v)
        ⊎ (0 + length v ≡ length (bytes_of c segment_at (wider_len used heap.head.len name))) =
        inr (omega (arith, l, len_is)) in
        record {
          head = record { len = wider_len used heap.head.len name; free = free; segment_at = segment_at };
          spelled = head_there c heap.at _ header h w.images.0;
          stays = λ f. absurd (omega (arith, wide, f));
          moves = λ m. (refl, refl);
          front =
              ap (take (min used heap.head.len)) same ∙ (λ j. take (sym front_len j) v) ∙ s.begins ∙ begins;
          gap = λ m i le lt. ap (λ (x : List ℕ). get_or x i 0) same ∙ s.gap i (omega (arith, front_len, le)) lt;
          text = text_there (bytes_of c segment_at (wider_len used heap.head.len name)) 0 front used name _ v used is
              s fit
              stands refl wide_enough no_nul;
          padded = padded_there (bytes_of c segment_at (wider_len used heap.head.len name)) 0 front used name _ v used
              is s fit
              stands refl wide_enough r;
          free = free_behind (bytes_of c segment_at (wider_len used heap.head.len name))
              (rounded (used + length name + 1)) _
              (omega (arith, l, few))
              (subst (λ (n : ℕ). IsFreeHead (rounded (used + length name + 1)) n free) (sym l) told)
              (λ le. free_there (bytes_of c segment_at (wider_len used heap.head.len name)) 0 front used name _ v used
              is s fit
              stands refl wide_enough r le
              ∙ ap (λ (k : ℕ). free_block (k - rounded (used + length name + 1))) (len_is ∙ sym l));
          zeros = λ m i le. ap (λ (x : List ℕ). get_or x i 0) same ∙ s.behind i le;
        }

  pub named_wider : IsNamed heap used name segment_at
      record {
        header = header;
        part = None;
        segment = Some record {
          class = class.LocalHeap;
          kind = kind.Heap;
          image = record
              { at = segment_at; bytes = v };
        };
      }
  named_wider = record {
    header = header_image heap _ header h;
    part = tt;
    stays = λ f. absurd (omega (arith, wide, f));
    moves = λ m. (refl, record { class_is = refl; kind_is = refl; at_is = refl; len_is = len_is });
    means = has_wider;
  }
