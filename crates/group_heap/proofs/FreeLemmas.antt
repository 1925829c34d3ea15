-- What an edit that tells free bytes makes of a heap.
use Rattle.std.proofs.Common.{◌≡◌, ℕ, ◌+◌, ◌-◌, ◌^◌, ◌≤◌, length, take, drop, refl, sym, ◌∙◌, ap, subst, arith}
use Rattle.std.proofs.Common.{Some, None, Option, inl, inr}
use Rattle.outside.specs.Array.{Array, bytes_of}
use Rattle.node_codec.specs.declared.heap.HeapHead.{HeapHead}
use Rattle.plan_pieces.specs.declared.image.Image.{Image}
use Rattle.group_heap.specs.declared.heap.Heap.{Heap}
use Rattle.group_heap.specs.Edits.{IsHeaderImage, IsFreed}
use Rattle.group_heap.specs.Spelled.{free_block, IsHeadImage, IsFreePart}
use Rattle.group_heap.proofs.ArrayLemmas.{head_there, len_of, same_front, same_rest, stands_part}
use Rattle.group_heap.proofs.SegmentLemmas.{IsFreeHead, free_behind}

pub header_image : (heap : Heap) (head : HeapHead) (i : Image) → IsHeadImage heap.at head i → IsHeaderImage heap i
header_image heap head i h = record { at_is = h.at_is; len = h.spelled.block.len }

module _ (heap : Heap) (used free : ℕ) (header : Image) (small : heap.head.len ≤ 2 ^ 30)
    (told : IsFreeHead used heap.head.len free) where
  told_there : (c : Array) → IsFreeHead used (length (bytes_of c heap.head.segment_at heap.head.len)) free
  told_there c = subst (λ (n : ℕ). IsFreeHead used n free) (sym (len_of c heap.head.segment_at heap.head.len)) told

  pub freed : (part : Option Image)
      → IsHeadImage heap.at record { len = heap.head.len; free = free; segment_at = heap.head.segment_at } header
      → IsFreePart heap used part → IsFreed heap used record { header = header; part = part; segment = None }
  freed None h p = record {
    header = header_image heap _ header h;
    part = tt;
    stays = refl;
    means = λ b c w.
        let same = same_rest b c heap.head.segment_at heap.head.len 0
        (λ i le lt. w.beside (heap.head.segment_at + i) (omega arith) (omega (arith, lt)) tt) in
        let all = same ∙ w.stood in
        let small' = len_of c heap.head.segment_at heap.head.len in
        record {
          head = record { len = heap.head.len; free = free; segment_at = heap.head.segment_at };
          spelled = head_there c heap.at _ header h w.images.0;
          place = refl;
          len = refl;
          front = ap (take used) all;
          rest = ap (drop (used + 16)) all;
          whole = λ lt. all;
          free = free_behind (bytes_of c heap.head.segment_at heap.head.len) used _ (omega (arith, small', small))
              (told_there c)
              (λ le. absurd (omega (arith, small', le, p)));
        };
  }
  freed (Some i) h p = record {
    header = header_image heap _ header h;
    part =
        let n = ap length p.2 in
        record {
          some = omega (arith, n);
          behind = omega (arith, p.1);
          near = omega (arith, n, p.1);
          inside = omega (arith, n, p.0, p.1);
        };
    stays = refl;
    means = λ b c w.
        let n = ap length p.2 in
        let l = len_of c heap.head.segment_at heap.head.len in
        let stood = w.stood in
        let block : bytes_of c (heap.head.segment_at + used) 16 ≡ free_block (heap.head.len - used) =
        (λ j. bytes_of c (sym p.1 j) (sym n j)) ∙ w.images.1.0 ∙ p.2 in
        let front = same_front b c heap.head.segment_at heap.head.len used (omega (arith, p.0))
        (λ k lt. w.beside (heap.head.segment_at + k) (omega arith) (omega (arith, lt, p.0))
        (inl (omega (arith, lt, p.1)))) in
        let rest = same_rest b c heap.head.segment_at heap.head.len (used + 16)
        (λ k le lt. w.beside (heap.head.segment_at + k) (omega arith) (omega (arith, lt))
        (inr (omega (arith, le, p.1, n)))) in
        record {
          head = record { len = heap.head.len; free = free; segment_at = heap.head.segment_at };
          spelled = head_there c heap.at _ header h w.images.0;
          place = refl;
          len = refl;
          front = front ∙ ap (take used) w.stood;
          rest = rest ∙ ap (drop (used + 16)) w.stood;
          whole = λ lt. absurd (omega (arith, lt, p.0));
          free = free_behind (bytes_of c heap.head.segment_at heap.head.len) used _ (omega (arith, l, small))
              (told_there c)
              (λ le. stands_part c heap.head.segment_at heap.head.len used (free_block (heap.head.len - used)) p.0 block
              ∙ ap (λ (k : ℕ). free_block (k - used)) (sym l));
        };
  }
