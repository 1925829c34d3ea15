use Rattle.std.proofs.Common.{arith}
use Rattle.group_rows.proofs.OffsetLemmas.{greatest_keys}
use Rattle.group_rows.proofs.offsets.greatest_key.Goals as goal

pub returns-else-len-eq0 : goal.returns-else-len-eq0
returns-else-len-eq0 c =
    greatest_keys c.args.node.now c.as_slice.result.now c.greatest_of.result
    (λ none. omega (arith, none, c.len.ensures, c.if-len-eq0.false)) c.as_slice.ensures c.greatest_of.ensures
