-- A header stays where the bytes of its blocks stay.
use Rattle.std.proofs.Common.{◌≡◌, ℕ, ◌+◌, ◌<◌, List, [], ◌∷◌, sym, ◌∙◌, subst, arith}
use Rattle.std.specs.Prelude.{All}
use Rattle.std.specs.List.{flat_map}
use Rattle.std.proofs.lemmas.List.Elements.{All-nil, All-cons, All-head, All-tail}
use Rattle.std.proofs.lemmas.List.FromFn.{length-map-range_with_len}
use Rattle.outside.specs.Array.{Array}
use Rattle.header_codec.specs.Headers.{SpellsPrefix}
use Rattle.header_codec.specs.declared.types.Prefix.{Prefix}
use Rattle.outside.specs.Blocks.{Agree}
use Rattle.file_model.specs.Headers.{Stand, after, Part, part_bytes, IsMet, IsAtEnd, AreCounted, IsHeader, continued}
use Rattle.file_model.specs.Headers.{messages_of, blocks_of_parts, first_block, header_blocks}
use Rattle.file_model.proofs.FrameBytes.{Same, bytes_same, within_same, agree_left}

-- a block has as many bytes in any array
pub end_stays : (b c : Array) (p : Part) → IsAtEnd b p → IsAtEnd c p
end_stays b c p h =
    let old = length-map-range_with_len b p.block.start p.block.len in
    let new = length-map-range_with_len c p.block.start p.block.len in
    subst (λ (n : ℕ). n < after 0 p.messages + 8) (old ∙ sym new) h

pub counted_stays : (b c : Array) (count : ℕ) (parts : List Part) → AreCounted b count parts → AreCounted c count parts
counted_stays b c count parts h = record {
  number = h.number;
  ended = λ before later p q e. end_stays b c p (h.ended before later p q e);
  some = h.some;
}

-- the messages of parts stay with the bytes of the parts
pub met_stay : (b c : Array) (parts : List Part) → Agree b c (blocks_of_parts parts) → All (IsMet b) parts → All (IsMet c) parts
met_stay b c [] agree h = All-nil (IsMet c)
met_stay b c (p ∷ ps) agree h = All-cons (IsMet c) p ps one (met_stay b c ps agree.1 (All-tail (IsMet b) p ps h))
  where
    one : IsMet c p
    one =
        let old = All-head (IsMet b) p ps h in
        let bytes : part_bytes b p ≡ part_bytes c p = bytes_same b c p.block.start p.block.len agree.0 in
        record { stand = subst (λ (s : List ℕ). Stand p.block.start s 0 p.messages) bytes old.stand; whole = old.whole }

pub header_stays : (b c : Array) (at : ℕ) (prefix : Prefix) (parts : List Part)
    → Agree b c (header_blocks at prefix parts) → IsHeader b at prefix parts → IsHeader c at prefix parts
header_stays b c at prefix parts agree h =
    let same : Same b c at (16 + prefix.size) = agree.0 in
    let first : Same b c (at + 16) prefix.size =
    within_same b c (at + 16) prefix.size at (16 + prefix.size) same (omega arith) (omega arith) in
    let all : Agree b c (first_block at prefix ∷ flat_map continued (messages_of parts)) = (first, agree.1) in
    let read : Agree b c (blocks_of_parts parts) =
    agree_left b c (blocks_of_parts parts) h.unread (subst (Agree b c) h.met.rest all) in
    record {
      spelled = subst (SpellsPrefix prefix)
          (bytes_same b c at 16 (within_same b c at 16 at (16 + prefix.size) same (omega arith) (omega arith))) h.spelled;
      unread = h.unread;
      met = record { named = h.met.named; rest = h.met.rest; met = met_stay b c parts read h.met.met };
      counted = counted_stays b c prefix.messages parts h.counted;
    }
