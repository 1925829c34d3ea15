use Rattle.std.proofs.Common.{◌∙◌, length, refl, arith}
use Rattle.mem_store.proofs.ArenaLemmas.{overwritten}
use Rattle.mem_store.proofs.arena.overwrite.Goals as goal

pub returns-clause-items : goal.returns-clause-items
returns-clause-items c =
    c.cover.ensures.items
    ∙ overwritten c.args.start c.args.at (length c.args.piece.now) c.args.len c.args.bytes.now.items c.refit.new.bytes.items c.args.piece.now
    c.requires.within refl (grind (arith, c.refit.ensures.items, c.max-end.ensures))
