use Rattle.std.proofs.Common.{◌≡◌, ◌-◌, ◌++◌, length, take, List, ℕ, ap, ◌∙◌, arith, append_assoc}
use Rattle.empty_file.specs.Empty.{superblock, object_header, tree_head, plain_places, zeros}
use Rattle.empty_file.proofs.blocks.write_group.Goals as goal

pub returns : goal.returns
returns c =
    let one : take 96 c.put_bytes.new.out ≡ superblock plain_places = c.put_bytes.ensures.front in
    let two : take 136 c.put_bytes-2.new.out ≡ superblock plain_places ++ object_header plain_places =
    c.put_bytes-2.ensures.front ∙ ap (λ (l : List ℕ). l ++ object_header plain_places) one in
    let three : take 160 c.put_bytes-3.new.out ≡ superblock plain_places ++ object_header plain_places ++ tree_head =
    c.put_bytes-3.ensures.front ∙ ap (λ (l : List ℕ). l ++ tree_head) two in
    let rest : length c.put_bytes-3.new.out - 160 ≡ 520 = omega arith in
    c.put_zeros.ensures ∙ (λ j. three j ++ zeros (rest j)) ∙ append_assoc (superblock plain_places ++ object_header plain_places) tree_head (zeros 520)
