use Rattle.std.proofs.Common.{refl}
use Rattle.mem_store.specs.declared.table.Op.TheVariants.{Sync}
use Rattle.mem_store.specs.Memory.{held}
use Rattle.file_ids.proofs.ToldLemmas.{within}
use Rattle.mem_store.proofs.ViewLemmas.{names_same, ids_same, looks_call, answers_names}
use Rattle.mem_store.proofs.MemoryLemmas.{sound}
use Rattle.mem_store.proofs.memory.MemStoreStore.sync.Goals as goal

pub flush-requires : goal.flush-requires
flush-requires c = within _ c.args.id.n _ _ _ c.requires.given

pub returns-clause-names : goal.returns-clause-names
returns-clause-names c = names_same (held c.args.self.now) (held c.flush.new.self) (answers_names _ Sync c.args.id.n _ (held c.args.self.now) (held c.flush.new.self) c.flush.result c.flush.ensures refl)

pub returns-clause-ids : goal.returns-clause-ids
returns-clause-ids c = ids_same (held c.args.self.now) (held c.flush.new.self) (answers_names _ Sync c.args.id.n _ (held c.args.self.now) (held c.flush.new.self) c.flush.result c.flush.ensures refl)

pub returns-clause-call : goal.returns-clause-call
returns-clause-call c = looks_call Sync c.args.id.n (held c.args.self.now) (held c.flush.new.self) c.flush.result c.flush.ensures (sound c.args.self.now) (within _ c.args.id.n _ _ _ c.requires.given)
