use Rattle.std.proofs.Common.{◌∙◌, sym, map}
use Rattle.tree_answers.specs.Kept.{line_by}
use Rattle.tree_answers.proofs.Told.{one_more}
use Rattle.tree_answers.proofs.answers.lines_of.Goals as goal

pub loop-k-preserved : goal.loop-k-preserved
loop-k-preserved c = λ e at.
    one_more c.push.result (map (line_by c.args.tree.now) e.links) c.loop-k.lines.items c.push.new.self.items c.loop-k.k c.in_ok-line.line (sym c.is_err.ensures.value ∙ c.if-is_err.false) c.push.ensures.items (c.loop-k.invariant e at)
    (c.in_ok-line.ensures e at)
