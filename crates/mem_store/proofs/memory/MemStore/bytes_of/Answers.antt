use Rattle.std.proofs.Common.{ℕ, [], get_or, sym, ◌∙◌, ap, arith}
use Rattle.std.proofs.lemmas.List.{get_or_past}
use Rattle.file_ids.specs.Ids.{told, place_of}
use Rattle.mem_store.specs.Table.{contents_of}
use Rattle.mem_store.specs.Memory.{held}
use Rattle.mem_store.proofs.MemoryLemmas.{sound}
use Rattle.mem_store.proofs.memory.MemStore.bytes_of.Goals as goal

pub returns-in-Some : goal.returns-in-Some
unfolding told
returns-in-Some c =
    c.bytes_at.ensures ∙ ap (λ (k : ℕ). get_or (contents_of c.args.self.now.table.entries.items c.args.self.now.table.bytes.items) k []) (sym c.in-Some.ensures.place.1)

pub returns-in-None : goal.returns-in-None
unfolding told
returns-in-None c =
    sym (get_or_past (held c.args.self.now).contents (place_of c.args.name.now c.args.self.now.ids.names) [] (omega (arith, c.in-None.ensures.place, (sound c.args.self.now).each)))
