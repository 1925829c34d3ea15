-- What a space over one file is made of.
-- Cited by the clauses of `PlainSpace`, and by its callers.
use Rattle.std.specs.Prelude.{ℕ, List, Result, Ok, Err}
use Rattle.h5_base.specs.declared.extent.Extent.{Extent}
use Rattle.plain_space.specs.declared.space.PlainSpace.{PlainSpace}
use Rattle.plain_space.specs.declared.opening.OpenRefused.{OpenRefused}

-- the store that the file is in
abbrev pub store_of : {S : Type 0} → PlainSpace S → S
store_of space = space.store

-- the id of the file
abbrev pub id_of : {S : Type 0} → PlainSpace S → ℕ
id_of space = space.id.n

-- the end of each class
abbrev pub end_of : {S : Type 0} → PlainSpace S → ℕ
end_of space = space.end

-- the ranges that it is prepared for
abbrev pub prepared_of : {S : Type 0} → PlainSpace S → List Extent
prepared_of space = space.prepared.items

-- the store after a file was opened, or wasn't
abbrev pub store_left : {S : Type 0} → Result (PlainSpace S) (OpenRefused S) → S
store_left (Ok space) = space.store
store_left (Err refused) = refused.store
