use Rattle.std.proofs.Common.{◌≡◌, ◌-◌, ◌++◌, length, take, List, ℕ, ap, ◌∙◌, arith, append_assoc}
use Rattle.empty_file.specs.Empty.{heap_header, segment_head, plain_places, zeros}
use Rattle.empty_file.proofs.blocks.write_heap.Goals as goal

pub returns : goal.returns
returns c =
    let one : take 32 c.put_bytes.new.out ≡ heap_header plain_places = c.put_bytes.ensures.front in
    let two : take 56 c.put_bytes-2.new.out ≡ heap_header plain_places ++ segment_head =
    c.put_bytes-2.ensures.front ∙ ap (λ (l : List ℕ). l ++ segment_head) one in
    let rest : length c.put_bytes-2.new.out - 56 ≡ 64 = omega arith in
    c.put_zeros.ensures ∙ (λ j. two j ++ zeros (rest j)) ∙ append_assoc (heap_header plain_places) segment_head (zeros 64)
