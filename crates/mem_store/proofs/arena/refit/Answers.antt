use Rattle.std.proofs.Common.{◌∙◌, arith}
use Rattle.mem_store.proofs.ArenaLemmas.{refit_more, refit_less}
use Rattle.mem_store.proofs.arena.refit.Goals as goal

pub returns-then-n-len-clause-items : goal.returns-then-n-len-clause-items
returns-then-n-len-clause-items c =
    c.open.ensures.items ∙ refit_more c.args.start c.args.len c.args.n c.args.bytes.now.items c.requires.within (omega arith)

pub returns-else-n-len-clause-items : goal.returns-else-n-len-clause-items
returns-else-n-len-clause-items c =
    c.close.ensures.items ∙ refit_less c.args.start c.args.len c.args.n c.args.bytes.now.items c.requires.within c.if-n-len.false
