use Rattle.std.proofs.Common.{◌≡◌, ℕ, ◌+◌, ◌-◌, min, take, length, sym, ◌∙◌, ap, subst, arith}
use Rattle.block_space.specs.Plans.{rounded}
use Rattle.group_room.specs.Used.{wider_len}
use Rattle.group_heap.specs.Spelled.{IsHeadImage, IsSpelled}
use Rattle.group_heap.proofs.NameLemmas.{named_wider}
use Rattle.group_heap.proofs.SegmentLemmas.{IsFreeHead}
use Rattle.group_heap.proofs.naming.put_wider.Goals as goal

wider : (c : goal.In_ok-header)
    → c.round_up-len.result ≡ wider_len c.args.used c.args.heap.now.head.len c.args.name.now
wider c = omega (arith, c.round_up-len.ensures, c.max.ensures)

begins : (c : goal.In_ok-header) → take c.min.result c.deref.result.now
    ≡ take (min c.args.used c.args.heap.now.head.len) c.args.heap.now.segment.items
begins c = ap (λ (n : ℕ). take n c.deref.result.now) c.min.ensures
    ∙ ap (take (min c.args.used c.args.heap.now.head.len)) c.deref.ensures.value

size : (c : goal.In_ok-header) → c.round_up-len.result - c.round_up-next.result
    ≡ c.round_up-len.result - rounded (c.args.used + length c.args.name.now + 1)
size c = ap (λ (n : ℕ). c.round_up-len.result - n) c.round_up-next.ensures

spelled : (c : goal.In_ok-header) → IsSpelled (take c.min.result c.deref.result.now) c.args.used c.args.name.now
    c.round_up-len.result (c.round_up-len.result - c.round_up-next.result) c.in_ok-bytes.bytes
spelled c = c.in_ok-bytes.ensures

pub returns : goal.returns
returns c =
    let s = spelled c in
    let e : length c.in_ok-bytes.bytes ≡ wider_len c.args.used c.args.heap.now.head.len c.args.name.now =
    s.len_is ∙ wider c in
    named_wider c.args.heap.now c.args.used c.args.name.now c.args.segment_at c.free_head.result c.in_ok-header.header
    (take c.min.result c.deref.result.now) c.in_ok-bytes.bytes c.requires.whole c.requires.no_nul c.requires.wide
    c.requires.small c.requires.short c.requires.high (begins c)
    (subst (λ (n : ℕ). IsFreeHead n (wider_len c.args.used c.args.heap.now.head.len c.args.name.now) c.free_head.result)
    c.round_up-next.ensures
    (subst (λ (n : ℕ). IsFreeHead c.round_up-next.result n c.free_head.result) (wider c) c.free_head.ensures))
    (subst (λ (n : ℕ). IsHeadImage c.args.heap.now.at
    record { len = n; free = c.free_head.result; segment_at = c.args.segment_at } c.in_ok-header.header) (wider c)
    c.in_ok-header.ensures)
    (subst (λ (n : ℕ). IsSpelled (take c.min.result c.deref.result.now) c.args.used c.args.name.now n
    (n - rounded (c.args.used + length c.args.name.now + 1)) c.in_ok-bytes.bytes) (sym s.len_is)
    (subst (λ (n : ℕ). IsSpelled (take c.min.result c.deref.result.now) c.args.used c.args.name.now
    c.round_up-len.result n c.in_ok-bytes.bytes) (size c) s))
    e
