use Rattle.std.proofs.Common.{refl}
use Rattle.file_model.specs.RefusedGroups.{IsKeyRefused, NotBetween, LinksDisordered}
use Rattle.group_reader.specs.Links.{links_of}
use Rattle.group_reader.proofs.TextLemmas.{text_at_key}
use Rattle.group_reader.proofs.Told.{tells}
use Rattle.group_reader.proofs.keys.check_keys.Goals as goal
use Rattle.group_reader.proofs.keys.check_keys.Goals.{else-lie_between-via-then-lie_between+else-ascend}
use Rattle.group_reader.proofs.keys.check_keys.Goals.{else-lie_between-via-else-lie_between}

pub returns-then-ascend-clause-found : goal.returns-then-ascend-clause-found
returns-then-ascend-clause-found c = λ o p.
    let x = c.args.table.now in
    let low = text_at_key x.segment.now x.texts_end x.ends c.args.low_at c.if-low_at-end.false in
    let high = text_at_key x.segment.now x.texts_end x.ends c.args.high_at c.if-high_at-end.false in
    record {
      low = low.0;
      high = high.0;
      at_low = low.1;
      at_high = high.1;
      between = (c.lie_between.ensures low.0 high.0 low.1 high.1 p).0 c.if-lie_between.true;
      ordered = (c.ascend.ensures o p).0 c.if-ascend.true;
    }

pub returns-else-lie_between-clause-refused : goal.returns-else-lie_between-clause-refused
returns-else-lie_between-clause-refused c = λ o p.
    let x = c.args.table.now in
    let low = text_at_key x.segment.now x.texts_end x.ends c.args.low_at c.if-low_at-end.false in
    let high = text_at_key x.segment.now x.texts_end x.ends c.args.high_at c.if-high_at-end.false in
    let answer = c.lie_between.ensures low.0 high.0 low.1 high.1 p in
    tells c.malformed-else-lie_between.result _ (IsKeyRefused x.segment.now x.heap_at c.args.node_at c.args.low_at
    c.args.high_at (links_of c.args.done.now) (links_of c.args.here.now))
    c.malformed-else-lie_between.ensures (elim c.else-lie_between.branch [
      | else-lie_between-via-then-lie_between+else-ascend w ↦ LinksDisordered low.0 high.0 low.1 high.1
          (answer.0 w.if-lie_between.true) (λ all. let yes = (w.ascend.ensures o p).1 all in let wrong =
          w.if-ascend.false in cc) refl
      | else-lie_between-via-else-lie_between w ↦ NotBetween low.0 high.0 low.1 high.1
          (λ all. let yes = answer.1 all in let wrong = w.if-lie_between.false in cc) refl
    ])
