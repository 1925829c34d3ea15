use Rattle.std.proofs.Common.{length, arith}
use Rattle.group_heap.proofs.SpellLemmas.{spelled-with, spelled-without}
use Rattle.group_heap.proofs.spelling.put_all.Goals as goal

pub returns-then-next-out : goal.returns-then-next-out
returns-then-next-out c =
    spelled-with c.args.front.now c.args.at c.args.name.now (length c.args.out.now) c.args.size c.requires.behind
    c.requires.fits c.args.out.now c.put_bytes.new.out c.put_bytes-2.new.out c.put_free.new.out c.requires.zeros
    c.put_bytes.ensures c.put_bytes-2.ensures c.round_up-next.result c.round_up-next.ensures (omega arith)
    c.put_free.ensures

pub returns-else-next-out : goal.returns-else-next-out
returns-else-next-out c =
    spelled-without c.args.front.now c.args.at c.args.name.now (length c.args.out.now) c.args.size c.requires.behind
    c.requires.fits c.args.out.now c.put_bytes.new.out c.put_bytes-2.new.out c.requires.zeros c.put_bytes.ensures
    c.put_bytes-2.ensures (omega arith)
