-- A table of files by id: lengths, counts of calls, and the bytes of all files one after another.
-- Cited by the table's methods and by what a store in memory tells.
use Rattle.std.specs.Prelude.{ℕ, List, [], ◌∷◌, map, take, drop}
use Rattle.file_ids.specs.Ids.{one_more}
use Rattle.mem_store.specs.declared.table.Op.{Op}
use Rattle.mem_store.specs.declared.table.Op.TheVariants.{Len, Read, Write, SetLen, Sync}
use Rattle.mem_store.specs.declared.table.Tally.{Tally}
use Rattle.mem_store.specs.declared.table.Entry.{Entry}

abbrev pub lens_of : List Entry → List ℕ
lens_of = map (λ e. e.len)

abbrev pub tallies_of : List Entry → List Tally
tallies_of = map (λ e. e.made)

-- the list in pieces of these lengths
abbrev pub cut : List ℕ → List ℕ → List (List ℕ)
cut [] bytes = []
cut (n ∷ lens) bytes = take n bytes ∷ cut lens (drop n bytes)

-- the bytes of each file
abbrev pub contents_of : List Entry → List ℕ → List (List ℕ)
contents_of entries bytes = cut (lens_of entries) bytes

-- how many calls of a kind there were
abbrev pub made : Op → Tally → ℕ
made Len t = t.len
made Read t = t.read
made Write t = t.write
made SetLen t = t.set_len
made Sync t = t.sync

-- and with one more of a kind
abbrev pub tallied : Op → Tally → Tally
tallied Len t = record t { len = one_more t.len }
tallied Read t = record t { read = one_more t.read }
tallied Write t = record t { write = one_more t.write }
tallied SetLen t = record t { set_len = one_more t.set_len }
tallied Sync t = record t { sync = one_more t.sync }

-- no call yet
abbrev pub no_calls : Tally
no_calls = record { len = 0; read = 0; write = 0; set_len = 0; sync = 0 }
