use Rattle.std.proofs.Common.{◌≡◌, ℕ, ◌+◌, ◌-◌, [], length, sym, subst, arith, inl, inr}
use Rattle.block_space.specs.Plans.{rounded}
use Rattle.group_heap.specs.Spelled.{IsSpelled}
use Rattle.group_heap.proofs.NameLemmas.{IsReach, own_len, named_in_place}
use Rattle.group_heap.proofs.SegmentLemmas.{IsFreeHead}
use Rattle.group_heap.proofs.naming.put_in_place.Goals as goal
use Rattle.group_heap.proofs.naming.put_in_place.Goals.{then-next-len, else-next-len}

reach : (c : goal.In_ok-header) → IsReach c.args.heap.now c.args.used c.args.name.now c.if-next-len.part_len
reach c = elim c.if-next-len.branch [
  | then-next-len w ↦ inl (
    omega (arith, w.if-next-len.true, c.round_up-next.ensures),
    omega
        (arith, w.part_len-is, c.round_up-next.ensures),
  )
  | else-next-len w ↦ inr (omega (arith, w.if-next-len.false, c.round_up-next.ensures), w.part_len-is)
]

size : (c : goal.In_ok-header)
    → c.saturating_sub.result ≡ c.args.heap.now.head.len - rounded (c.args.used + length c.args.name.now + 1)
size c = omega (arith, c.saturating_sub.ensures, c.round_up-next.ensures)

pub returns : goal.returns
returns c =
    let s : IsSpelled [] 0 c.args.name.now c.if-next-len.part_len c.saturating_sub.result c.in_ok-bytes.bytes =
    c.in_ok-bytes.ensures in
    named_in_place c.args.heap.now c.args.used c.args.name.now c.free_head.result c.in_ok-header.header
    c.in_ok-bytes.bytes
    c.requires.whole c.requires.no_nul c.requires.fits c.requires.small
    (subst (λ (n : ℕ). IsFreeHead n c.args.heap.now.head.len c.free_head.result) c.round_up-next.ensures
    c.free_head.ensures)
    c.in_ok-header.ensures
    (subst (λ (n : ℕ). IsSpelled [] 0 c.args.name.now (length c.in_ok-bytes.bytes) n c.in_ok-bytes.bytes) (size c)
    (own_len [] 0 c.args.name.now c.if-next-len.part_len c.saturating_sub.result c.in_ok-bytes.bytes s))
    (subst (IsReach c.args.heap.now c.args.used c.args.name.now) (sym s.len_is) (reach c))
