use Rattle.std.proofs.Common.{◌∙◌}
use Rattle.script_lines.proofs.PrintLemmas.{piece_more, piece_within}
use Rattle.script_lines.proofs.printing.print.Goals as goal

pub loop-done-preserved : goal.loop-done-preserved
loop-done-preserved g c = record {
  within = piece_within _ _ _ c.loop-done.invariant.within c.in_ok-done.ensures.count;
  so_far = λ told. piece_more _ c.args.text.now _ _ c.loop-done.done c.in_ok-done.field-0 (c.loop-done.invariant.so_far told) (c.in_ok-done.ensures.added told);
  counts = c.in_ok-done.ensures.cause.calm ∙ c.loop-done.invariant.counts;
}
