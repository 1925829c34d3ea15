use Rattle.std.proofs.Common.{refl}
use Rattle.mem_store.specs.declared.table.Op.TheVariants.{Len}
use Rattle.mem_store.specs.Memory.{held}
use Rattle.file_ids.proofs.ToldLemmas.{within}
use Rattle.mem_store.proofs.ViewLemmas.{names_same, ids_same, file_at, looks_call, answers_names}
use Rattle.mem_store.proofs.MemoryLemmas.{sound, if_len}
use Rattle.mem_store.proofs.memory.MemStoreStore.len.Goals as goal

pub len_of-requires : goal.len_of-requires
len_of-requires c = within _ c.args.id.n _ _ _ c.requires.given

pub returns-clause-len : goal.returns-clause-len
returns-clause-len c = if_len c.len_of.result _ _ (file_at c.args.id.n (held c.args.self.now) (within _ c.args.id.n _ _ _ c.requires.given) (sound c.args.self.now)) c.len_of.ensures.len

pub returns-clause-names : goal.returns-clause-names
returns-clause-names c = names_same (held c.args.self.now) (held c.len_of.new.self) (answers_names _ Len c.args.id.n _ (held c.args.self.now) (held c.len_of.new.self) c.len_of.result c.len_of.ensures.exact refl)

pub returns-clause-ids : goal.returns-clause-ids
returns-clause-ids c = ids_same (held c.args.self.now) (held c.len_of.new.self) (answers_names _ Len c.args.id.n _ (held c.args.self.now) (held c.len_of.new.self) c.len_of.result c.len_of.ensures.exact refl)

pub returns-clause-call : goal.returns-clause-call
returns-clause-call c = looks_call Len c.args.id.n (held c.args.self.now) (held c.len_of.new.self) c.len_of.result c.len_of.ensures.exact (sound c.args.self.now) (within _ c.args.id.n _ _ _ c.requires.given)
