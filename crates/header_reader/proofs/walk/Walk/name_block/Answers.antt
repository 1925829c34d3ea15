use Rattle.std.proofs.Common.{refl, ap, arith}
use Rattle.block_space.proofs.Stopped.{if_some}
use Rattle.header_reader.proofs.Following.{waits_more, waits_none}
use Rattle.header_reader.proofs.Stops.{handed}
use Rattle.header_reader.specs.declared.walk.Walk.{Walk}
use Rattle.header_reader.specs.Walks.{TooLarge, BadBlock}
use Rattle.header_reader.proofs.walk.Walk.name_block.Goals as goal
use Rattle.header_reader.proofs.walk.Walk.name_block.Goals.{then-len-gt0+in_ok-push_back, else-len-gt0}

pub returns-in_err-adopt_placed-clause-refused : goal.returns-in_err-adopt_placed-clause-refused
returns-in_err-adopt_placed-clause-refused g c =
    handed c.from_residual.result c.in_err-adopt_placed.field-0.0 _ c.from_residual.ensures.1
    (λ met own keeps. if_some _ _ _ (λ r h. BadBlock (omega arith) h) (c.in_err-adopt_placed.ensures.refused met own keeps))

pub returns-then-len-self-clause-refused : goal.returns-then-len-self-clause-refused
returns-then-len-self-clause-refused g c = λ met own keeps. rw c.unsupported.ensures (TooLarge (omega arith) refl)

pub returns-clause-waiting : goal.returns-clause-waiting
returns-clause-waiting g c =
    elim c.if-len-gt0.branch [
      | then-len-gt0+in_ok-push_back w ↦ waits_more _ _ _ _ c.args.start c.args.len w.if-len-gt0.true w.in_ok-push_back.ensures.items (ap (λ (s : Walk). s.waiting.items) w.self-is) refl
      | else-len-gt0 w ↦ waits_none _ _ c.args.start c.args.len w.if-len-gt0.false (ap (λ (s : Walk). s.waiting.items) w.self-is)
    ]
