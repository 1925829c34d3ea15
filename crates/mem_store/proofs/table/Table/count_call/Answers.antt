use Rattle.std.proofs.Common.{set, sym, ◌∙◌, ap}
use Rattle.std.proofs.lemmas.List.{map-set}
use Rattle.mem_store.specs.declared.table.Entry.{Entry}
use Rattle.mem_store.specs.Table.{tallies_of, tallied, no_calls}
use Rattle.mem_store.proofs.TableLemmas.{map_at}
use Rattle.mem_store.proofs.table.Table.count_call.Goals as goal

pub returns-clause-tallies : goal.returns-clause-tallies
returns-clause-tallies c =
    map-set (λ (e : Entry). e.made) c.args.self.now.entries.items c.args.i (record c.index_mut.result.now { made = c.with.result })
    ∙ ap (set (tallies_of c.args.self.now.entries.items) c.args.i)
    (c.with.ensures ∙ ap (tallied c.args.op) (ap (λ (e : Entry). e.made) c.index.ensures ∙ sym (map_at (λ (e : Entry). e.made) c.args.self.now.entries.items c.args.i no_calls c.index.result.now c.requires)))
