use Rattle.std.proofs.Common.{◌≡◌, []}
use Rattle.mem_store.specs.Held.{asked, with_new}
use Rattle.mem_store.specs.Memory.{held}
use Rattle.mem_store.proofs.MemoryLemmas.{Asked, sound, asked_gives, asked_same, asked_calls, on_new}
use Rattle.mem_store.proofs.memory.MemStoreStore.file.Goals as goal

what_asked : (c : goal.After-ask) → Asked c.args.name.now (held c.args.self.now) (held c.ask.new.self) c.ask.result
what_asked c = record {
  named = c.ask.ensures.named;
  id = c.ask.ensures.id;
  known = c.ask.ensures.known;
  new = c.ask.ensures.new;
  failed = c.ask.ensures.failed;
  no_memory = c.ask.ensures.no_memory;
}

pub returns-clause-given : goal.returns-clause-given
returns-clause-given c = asked_gives c.args.name.now (held c.args.self.now) (held c.ask.new.self) c.ask.result (sound c.args.self.now) (what_asked c)

pub returns-clause-same : goal.returns-clause-same
returns-clause-same c = asked_same c.args.name.now (held c.args.self.now) (held c.ask.new.self) c.ask.result (what_asked c)

pub returns-clause-call : goal.returns-clause-call
returns-clause-call c = asked_calls c.args.name.now (held c.args.self.now) (held c.ask.new.self) c.ask.result (sound c.args.self.now) (what_asked c)

pub returns-clause-new : goal.returns-clause-new
returns-clause-new c = on_new c.args.name.now (held c.args.self.now).ids.names (held c.ask.new.self ≡ with_new c.args.name.now [] (asked (held c.args.self.now))) c.ask.result c.ask.ensures.new
