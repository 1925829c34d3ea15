use Rattle.std.proofs.Common.{List, arith, refl}
use Rattle.outside.specs.Blocks.{Block}
use Rattle.block_space.specs.Catalogue.{Lists, RunsOver}
use Rattle.block_space.proofs.Listed.{overlap_start, overlap_behind, apart_behind, apart_at_end}
use Rattle.block_space.proofs.neighbours.shared_address.Goals as goal
use Rattle.block_space.proofs.neighbours.shared_address.Goals.{After-first_from}

not_over : (c : After-first_from) → (met : List Block) → Lists c.args.catalogue.now met → RunsOver met c.args.start → ⊥
not_over c met lists r = let e = (c.if-runs_over.ensures met lists).1 r in cc

pub returns-then-behind-start : goal.returns-then-behind-start
returns-then-behind-start c = λ met lists.
    overlap_behind c.args.catalogue.now met lists c.args.start c.args.len c.in-Some.behind c.in-Some.field-0-1 (not_over (goal.at.returns-then-behind-start c).After-first_from met lists) c.in-Some.ensures c.if-behind-start.true

pub returns-else-behind-start : goal.returns-else-behind-start
returns-else-behind-start c = λ met lists.
    apart_behind c.args.catalogue.now met lists c.args.start c.args.len c.in-Some.behind c.in-Some.field-0-1 (not_over (goal.at.returns-else-behind-start c).After-first_from met lists) c.in-Some.ensures (omega arith) c.requires

pub returns-in-None : goal.returns-in-None
returns-in-None c = λ met lists.
    apart_at_end c.args.catalogue.now met lists c.args.start c.args.len (not_over (goal.at.returns-in-None c).After-first_from met lists) c.in-None.ensures

pub returns-then-runs_over : goal.returns-then-runs_over
returns-then-runs_over c = λ met lists. overlap_start c.args.catalogue.now met lists c.args.start c.args.len c.requires ((c.if-runs_over.ensures met lists).0 refl)
