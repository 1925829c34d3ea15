use Rattle.std.proofs.Common.{length, refl}
use Rattle.mem_store.specs.declared.table.Op.TheVariants.{Read}
use Rattle.mem_store.specs.Memory.{held}
use Rattle.file_ids.proofs.ToldLemmas.{within}
use Rattle.mem_store.proofs.ViewLemmas.{names_same, ids_same, file_at, looks_call, answers_names}
use Rattle.mem_store.proofs.MemoryLemmas.{sound, if_part}
use Rattle.mem_store.proofs.memory.MemStoreStore.read.Goals as goal

pub read_at-requires : goal.read_at-requires
read_at-requires c = within _ c.args.id.n _ _ _ c.requires.given

pub returns-clause-bytes : goal.returns-clause-bytes
returns-clause-bytes c = if_part c.read_at.result (length c.args.out.now) c.args.at c.read_at.new.out _ _ (file_at c.args.id.n (held c.args.self.now) (within _ c.args.id.n _ _ _ c.requires.given) (sound c.args.self.now)) c.read_at.ensures.bytes

pub returns-clause-names : goal.returns-clause-names
returns-clause-names c = names_same (held c.args.self.now) (held c.read_at.new.self) (answers_names _ Read c.args.id.n _ (held c.args.self.now) (held c.read_at.new.self) c.read_at.result c.read_at.ensures.exact refl)

pub returns-clause-ids : goal.returns-clause-ids
returns-clause-ids c = ids_same (held c.args.self.now) (held c.read_at.new.self) (answers_names _ Read c.args.id.n _ (held c.args.self.now) (held c.read_at.new.self) c.read_at.result c.read_at.ensures.exact refl)

pub returns-clause-call : goal.returns-clause-call
returns-clause-call c = looks_call Read c.args.id.n (held c.args.self.now) (held c.read_at.new.self) c.read_at.result c.read_at.ensures.exact (sound c.args.self.now) (within _ c.args.id.n _ _ _ c.requires.given)
