use Rattle.std.proofs.Common.{refl, sym, ap, List, ℕ}
use Rattle.outside.specs.Files.{resized}
use Rattle.mem_store.specs.declared.table.Op.TheVariants.{SetLen}
use Rattle.mem_store.specs.Held.{view, content}
use Rattle.mem_store.specs.Memory.{held}
use Rattle.file_ids.proofs.ToldLemmas.{within}
use Rattle.mem_store.proofs.ViewLemmas.{names_same, ids_same, file_at, changes_call, answers_names, changes_done, changes_failed, on_ok}
use Rattle.mem_store.proofs.MemoryLemmas.{sound}
use Rattle.mem_store.proofs.memory.MemStoreStore.set_len.Goals as goal

pub resize-requires : goal.resize-requires
resize-requires c = record { within = within _ c.args.id.n _ _ _ c.requires.given }

pub returns-clause-resized : goal.returns-clause-resized
returns-clause-resized c =
    on_ok _ _ _ c.resize.result (ap (λ (l : List ℕ). resized c.args.n l) (sym (file_at c.args.id.n (held c.args.self.now) (within _ c.args.id.n _ _ _ c.requires.given) (sound c.args.self.now))))
    (changes_done SetLen c.args.id.n (((held c.args.self.now)).written) (resized c.args.n (content c.args.id.n (held c.args.self.now))) (held c.args.self.now) (held c.resize.new.self) c.resize.result c.resize.ensures (sound c.args.self.now) (within _ c.args.id.n _ _ _ c.requires.given))

pub returns-clause-failed : goal.returns-clause-failed
returns-clause-failed c = changes_failed SetLen c.args.id.n _ (held c.args.self.now) (held c.resize.new.self) c.resize.result c.resize.ensures ((view (held c.args.self.now)).names c.args.id.n)

pub returns-clause-names : goal.returns-clause-names
returns-clause-names c = names_same (held c.args.self.now) (held c.resize.new.self) (answers_names _ SetLen c.args.id.n _ (held c.args.self.now) (held c.resize.new.self) c.resize.result c.resize.ensures refl)

pub returns-clause-ids : goal.returns-clause-ids
returns-clause-ids c = ids_same (held c.args.self.now) (held c.resize.new.self) (answers_names _ SetLen c.args.id.n _ (held c.args.self.now) (held c.resize.new.self) c.resize.result c.resize.ensures refl)

pub returns-clause-call : goal.returns-clause-call
returns-clause-call c = changes_call SetLen c.args.id.n (((held c.args.self.now)).written) (resized c.args.n (content c.args.id.n (held c.args.self.now))) (held c.args.self.now) (held c.resize.new.self) c.resize.result c.resize.ensures (sound c.args.self.now) (within _ c.args.id.n _ _ _ c.requires.given)
