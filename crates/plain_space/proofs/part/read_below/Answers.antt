use Rattle.std.proofs.Common.{◌^◌, length, sym, arith}
use Rattle.plain_space.specs.File.{file_in}
use Rattle.plain_space.proofs.Seen.{read_seen, none_past_limit}
use Rattle.plain_space.proofs.part.read_below.Goals as goal

pub returns-then-at-ge-LIMIT-clause-bytes : goal.returns-then-at-ge-LIMIT-clause-bytes
returns-then-at-ge-LIMIT-clause-bytes g c = λ told.
    sym (none_past_limit (2 ^ 48) c.args.at (length c.args.out.now) (file_in (g.S.Store.view c.args.store.now) c.args.id.n) c.if-at-ge-LIMIT.true)

pub returns-clause-bytes : goal.returns-clause-bytes
returns-clause-bytes g c = λ told.
    read_seen c.read.result (2 ^ 48) c.args.at c.min-most.result (file_in (g.S.Store.view c.args.store.now) c.args.id.n) c.args.out.now c.read.new.out
    (omega (arith, c.if-at-ge-LIMIT.false)) c.min-most.ensures c.read.auto.out c.read.ensures.count (c.read.ensures.bytes told)
