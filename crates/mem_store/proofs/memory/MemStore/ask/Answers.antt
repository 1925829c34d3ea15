use Rattle.std.proofs.Common.{◌≡◌, [], ◌∙◌, arith}
use Rattle.mem_store.specs.Held.{with_new}
use Rattle.mem_store.specs.Memory.{held}
use Rattle.mem_store.proofs.memory.MemStore.ask.Goals as goal

pub returns-in-Ok-add-clause-new : goal.returns-in-Ok-add-clause-new
returns-in-Ok-add-clause-new c absent =
    let name : c.in-Ok.own ≡ c.args.name.now = grind (arith, c.in-Ok.ensures, c.as_slice.ensures.bytes) in
    c.in-Ok-add.ensures.ok ∙ (λ j. with_new (name j) [] (record (held c.args.self.now) { calls = c.one_more-self.ensures j }))
