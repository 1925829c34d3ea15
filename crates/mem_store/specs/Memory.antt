-- What a store in memory holds.
-- Cited by the clauses of `MemStore`.
use Rattle.mem_store.specs.declared.memory.MemStore.{MemStore}
use Rattle.mem_store.specs.Table.{contents_of, tallies_of}
use Rattle.mem_store.specs.Held.{Held}

abbrev pub held : MemStore → Held
held m = record {
  ids = m.ids;
  contents = contents_of m.table.entries.items m.table.bytes.items;
  tallies = tallies_of m.table.entries.items;
  calls = m.calls;
  written = m.written;
  fails = m.fails.items;
  room = m.room;
}
