use Rattle.std.proofs.Common.{w64}
use Rattle.std.proofs.lemmas.Int.{to_z-of_z}
use Rattle.outside.specs.Space.{IsCommitted}
use Rattle.block_space.proofs.Fresh.{committed_ends, kept_over}
use Rattle.block_space.proofs.Stopped.{if_ok}
use Rattle.block_space.proofs.blocks.Blocks.commit.Goals as goal

pub returns-clause-kept : goal.returns-clause-kept
returns-clause-kept g c =
    let v = g.V.Space.view c.args.self.now.space in
    let w = g.V.Space.view c.commit.new.self in
    if_ok c.commit.result (λ a. IsCommitted g.V.Space.tells c.args.comment.now _ v w a) _
    (λ a done met keeps. kept_over v w _ met c.commit.ensures.kind.regions (committed_ends _ _ _ v w a done) keeps)
    c.commit.ensures.answer

pub returns-clause-leaves : goal.returns-clause-leaves
returns-clause-leaves g c =
    let whole = to_z-of_z w64 c.args.secs c.ranges.secs in simp whole at c.commit.ensures.leaves
