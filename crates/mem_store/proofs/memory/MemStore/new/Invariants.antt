use Rattle.std.proofs.Common.{◌≡◌, ◌++◌, map}
use Rattle.mem_store.specs.declared.given.NamedBytes.{NamedBytes}
use Rattle.mem_store.specs.Held.{IsNew}
use Rattle.mem_store.specs.Memory.{held}
use Rattle.mem_store.proofs.FilesLemmas.{Shows}
use Rattle.mem_store.proofs.memory.MemStore.new.Given as goal

abbrev pub invariant-loop-file : goal.invariant-loop-file
invariant-loop-file l = record {
  left : l.fn.files.items ≡ l.yielded ++ l.file-iterator.rest.items;
  shows : Shows (held l.store).ids.names (held l.store).contents (map (λ (f : NamedBytes). f.name) l.yielded) (map (λ (f : NamedBytes). f.bytes) l.yielded);
  new : IsNew (held l.store);
  fails : (held l.store).fails ≡ (held l.initial.store).fails;
  room : (held l.store).room ≡ (held l.initial.store).room;
}
