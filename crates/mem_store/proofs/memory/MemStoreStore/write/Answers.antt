use Rattle.std.proofs.Common.{◌+◌, length, refl, sym, ap, List, ℕ}
use Rattle.outside.specs.Files.{written}
use Rattle.mem_store.specs.declared.table.Op.TheVariants.{Write}
use Rattle.mem_store.specs.Held.{view, content}
use Rattle.mem_store.specs.Memory.{held}
use Rattle.file_ids.proofs.ToldLemmas.{within}
use Rattle.mem_store.proofs.ViewLemmas.{names_same, ids_same, file_at, changes_call, answers_names, changes_done, changes_failed, on_ok}
use Rattle.mem_store.proofs.MemoryLemmas.{sound}
use Rattle.mem_store.proofs.memory.MemStoreStore.write.Goals as goal

pub write_at-requires-clause-within : goal.write_at-requires-clause-within
write_at-requires-clause-within c = within _ c.args.id.n _ _ _ c.requires.given

pub returns-clause-written : goal.returns-clause-written
returns-clause-written c =
    on_ok _ _ _ c.write_at.result (ap (λ (l : List ℕ). written c.args.at c.args.bytes.now l) (sym (file_at c.args.id.n (held c.args.self.now) (within _ c.args.id.n _ _ _ c.requires.given) (sound c.args.self.now))))
    (changes_done Write c.args.id.n (((held c.args.self.now)).written + length c.args.bytes.now) (written c.args.at c.args.bytes.now (content c.args.id.n (held c.args.self.now))) (held c.args.self.now) (held c.write_at.new.self) c.write_at.result c.write_at.ensures (sound c.args.self.now) (within _ c.args.id.n _ _ _ c.requires.given))

pub returns-clause-failed : goal.returns-clause-failed
returns-clause-failed c = changes_failed Write c.args.id.n _ (held c.args.self.now) (held c.write_at.new.self) c.write_at.result c.write_at.ensures ((view (held c.args.self.now)).names c.args.id.n)

pub returns-clause-names : goal.returns-clause-names
returns-clause-names c = names_same (held c.args.self.now) (held c.write_at.new.self) (answers_names _ Write c.args.id.n _ (held c.args.self.now) (held c.write_at.new.self) c.write_at.result c.write_at.ensures refl)

pub returns-clause-ids : goal.returns-clause-ids
returns-clause-ids c = ids_same (held c.args.self.now) (held c.write_at.new.self) (answers_names _ Write c.args.id.n _ (held c.args.self.now) (held c.write_at.new.self) c.write_at.result c.write_at.ensures refl)

pub returns-clause-call : goal.returns-clause-call
returns-clause-call c = changes_call Write c.args.id.n (((held c.args.self.now)).written + length c.args.bytes.now) (written c.args.at c.args.bytes.now (content c.args.id.n (held c.args.self.now))) (held c.args.self.now) (held c.write_at.new.self) c.write_at.result c.write_at.ensures (sound c.args.self.now) (within _ c.args.id.n _ _ _ c.requires.given)
