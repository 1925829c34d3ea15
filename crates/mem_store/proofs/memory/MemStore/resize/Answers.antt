use Rattle.std.proofs.Common.{◌∙◌, ap}
use Rattle.mem_store.specs.Held.{Held, with_fault}
use Rattle.mem_store.specs.Memory.{held}
use Rattle.mem_store.proofs.MemoryLemmas.{has_content}
use Rattle.mem_store.proofs.HeldLemmas.{total-after_set_len, at_most, answers_err}
use Rattle.mem_store.proofs.memory.MemStore.resize.Goals as goal

pub returns-then-fails_with : goal.returns-then-fails_with
returns-then-fails_with c =
    answers_err _ _ _ _ _
    (at_most _ _ _ _ (total-after_set_len c.args.i c.args.n (held c.args.self.now) (has_content c.args.self.now c.args.i c.requires.within)) (c.fails_with.ensures.told.0 c.if-fails_with.true))
    (c.fault.ensures ∙ ap (λ (h : Held). with_fault c.args.i h) c.fails_with.ensures.counted)
