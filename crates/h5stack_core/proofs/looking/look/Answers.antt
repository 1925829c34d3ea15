use Rattle.std.proofs.Common.{sym, ◌∙◌, inl, inr, ⊎_elim}
use Rattle.outside.proofs.Causes.{one_later}
use Rattle.h5stack_core.proofs.RunLemmas.{opened_run, closed_run, closed_done, closing_fault}
use Rattle.h5stack_core.proofs.looking.look.Goals as goal

pub returns-in-Ok-clause-answers : goal.returns-in-Ok-clause-answers
returns-in-Ok-clause-answers g c = λ told.
    closed_run _ _ _ _ _ c.answer_lines-ending.ensures.run c.close-ending.ensures.ending
    (opened_run _ _ _ _ _ _ (rw c.new-blocks.ensures.space at (c.in-Ok.ensures.opened told).0)
    c.answer_lines-ending.ensures.answers)

pub returns-in-Ok-clause-unread : goal.returns-in-Ok-clause-unread
returns-in-Ok-clause-unread g c =
    closed_done _ _ _ c.answer_lines-ending.ensures.run c.close-ending.ensures.ending

pub returns-in-Ok-clause-silent : goal.returns-in-Ok-clause-silent
returns-in-Ok-clause-silent g c =
    closed_done _ _ _ c.answer_lines-ending.ensures.run c.close-ending.ensures.ending

pub returns-in-Ok-clause-store_fault : goal.returns-in-Ok-clause-store_fault
returns-in-Ok-clause-store_fault g c = λ is.
    let alike = rw (c.new-blocks.ensures.space, ← c.finish-space.ensures) at c.in-Ok.ensures.alike in
    let goes = g.met.V.Space.goes_alike _ _ alike in
    ⊎_elim (λ r. inl (one_later _ _ _ (g.met.V.Space.goes_counts _ _ goes) r))
    (λ r. inr (one_later _ _ _ (g.met.V.Space.goes_copy _ _ goes) r))
    (closing_fault _ _ _ _ c.answer_lines-ending.ensures.run c.close-ending.ensures.fault is)

pub returns-in-Ok-clause-goes : goal.returns-in-Ok-clause-goes
returns-in-Ok-clause-goes g c =
    let alike = rw (c.new-blocks.ensures.space, ← c.finish-space.ensures) at c.in-Ok.ensures.alike in
    g.met.V.Space.goes_further _ _ _ (g.met.V.Space.goes_alike _ _ alike) c.close-ending.ensures.goes

pub returns-in-Ok-clause-array : goal.returns-in-Ok-clause-array
returns-in-Ok-clause-array g c = λ told.
    let alike = rw (c.new-blocks.ensures.space, ← c.finish-space.ensures) at c.in-Ok.ensures.alike in
    c.close-ending.ensures.array told ∙ sym (λ k. (g.met.V.Space.alike _ _ alike k).array)

pub returns-in-Ok-clause-ends : goal.returns-in-Ok-clause-ends
returns-in-Ok-clause-ends g c =
    let alike = rw (c.new-blocks.ensures.space, ← c.finish-space.ensures) at c.in-Ok.ensures.alike in
    c.close-ending.ensures.ends ∙ sym (λ k. (g.met.V.Space.alike _ _ alike k).ends)

pub returns-in-Ok-clause-rested : goal.returns-in-Ok-clause-rested
returns-in-Ok-clause-rested g c = λ rested.
    let alike = rw (c.new-blocks.ensures.space, ← c.finish-space.ensures) at c.in-Ok.ensures.alike in
    c.close-ending.ensures.rested (g.met.V.Space.alike_rests _ _ alike rested)
