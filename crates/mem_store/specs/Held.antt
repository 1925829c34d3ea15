-- What a store in memory holds, by id, what it tells of it, when a call fails, and what each call leaves.
-- Cited by the clauses of `MemStore`.
use Rattle.std.specs.Prelude.{◌≡◌, ◌⊎◌, ◌↔◌, ℕ, ◌+◌, ◌<◌, ◌≤◌, List, [], ◌∷◌, ◌++◌, length, map, slice_set, slice_index}
use Rattle.std.specs.Prelude.{slice_index_or, true, Option, Any, Result, IsErr, OnOk, OnErr}
use Rattle.std.specs.List.{sum_by}
use Rattle.outside.specs.Files.{Files, written, resized}
use Rattle.outside.specs.Store.{View}
use Rattle.file_ids.specs.Ids.{Ids, AreSound, no_ids, place_of, one_more, struck, struck_own, added, counts_of, told}
use Rattle.mem_store.specs.declared.given.Fail.{Fail}
use Rattle.mem_store.specs.declared.given.NamedBytes.{NamedBytes}
use Rattle.mem_store.specs.declared.given.Room.{Room}
use Rattle.mem_store.specs.declared.table.Op.{Op}
use Rattle.mem_store.specs.declared.table.Op.TheVariants.{Write, SetLen}
use Rattle.mem_store.specs.declared.table.Tally.{Tally}
use Rattle.mem_store.specs.Table.{made, tallied, no_calls}

-- The files by id, with the calls of each; all calls and all bytes written so far; and what it was made with. An id
-- is a place in the lists.
pub record Held : Type 0 where
  pub ids : Ids
  pub contents : List (List ℕ)
  pub tallies : List Tally
  pub calls : ℕ
  pub written : ℕ
  pub fails : List Fail
  pub room : Room

-- no file and no call yet
abbrev pub nothing : List Fail → Room → Held
nothing fails room = record {
  ids = no_ids;
  contents = [];
  tallies = [];
  calls = 0;
  written = 0;
  fails = fails;
  room = room;
}

-- its ids are sound, and each has its file
pub record IsSound (h : Held) : Type 0 where
  pub ids : AreSound h.ids
  pub each : length h.contents ≡ length h.ids.names

-- the bytes of each file by its name
abbrev pub file_of : List (List ℕ) → List (List ℕ) → Files
file_of names contents name = slice_index_or contents (place_of name names) []

-- the faults of the file with a name, 0 where there is none
abbrev pub faults_at : List ℕ → Held → ℕ
faults_at name h = slice_index h.ids.faults (place_of name h.ids.names)

-- the calls of a kind on the file with a name, 0 where there is none
abbrev pub calls_at : List ℕ → Op → Held → ℕ
calls_at name op h = made op (slice_index_or h.tallies (place_of name h.ids.names) no_calls)

-- what it tells as a store
abbrev pub view : Held → View
view h = told h.ids h.calls true (file_of h.ids.names h.contents)

-- the bytes of the file with this id
abbrev pub content : ℕ → Held → List ℕ
content i h = slice_index_or h.contents i []

-- the files' lengths and all bytes written so far
abbrev pub total : Held → ℕ
total h = sum_by length h.contents + h.written

-- the entry of the list is of this file, this kind of call and this number
pub record IsAt (file : List ℕ) (kind : Op) (number : ℕ) (fail : Fail) : Type 0 where
  pub name : fail.name ≡ file
  pub op : fail.op ≡ kind
  pub nth : fail.nth ≡ number

-- the next call of this kind on this file is one of the list
abbrev pub IsListed : Op → ℕ → Held → Type 0
IsListed op i h = Any (IsAt (slice_index_or h.ids.names i []) op
    (made op (slice_index_or h.tallies i no_calls) + 1)) h.fails

-- the next call is past the room of calls
abbrev pub IsLate : Held → Type 0
IsLate h = h.room.calls ≤ h.calls

-- this is past the room of bytes
abbrev pub IsFull : Held → Type 0
IsFull h = h.room.bytes < total h

-- one more call on a file
abbrev pub counted : Op → ℕ → Held → Held
counted op i h = record h {
  tallies = slice_set h.tallies i (tallied op (slice_index_or h.tallies i no_calls));
  calls = one_more h.calls;
}

-- one more fault of a file
abbrev pub with_fault : ℕ → Held → Held
with_fault i h = record h { ids = struck i h.ids }

-- a call on a file that fails changes nothing but the counts
abbrev pub after_fault : Op → ℕ → Held → Held
after_fault op i h = with_fault i (counted op i h)

-- a file has these bytes
abbrev pub put : ℕ → List ℕ → Held → Held
put i bytes h = record h { contents = slice_set h.contents i bytes }

abbrev pub after_write : ℕ → ℕ → List ℕ → Held → Held
after_write i at bytes h = record (put i (written at bytes (content i h))
    (counted Write i h)) { written = h.written + length bytes }

abbrev pub after_set_len : ℕ → ℕ → Held → Held
after_set_len i n h = put i (resized n (content i h)) (counted SetLen i h)

-- the file has an id already
abbrev pub IsKnown : List ℕ → Held → Type 0
IsKnown name h = place_of name h.ids.names < length h.ids.names

-- one more call of `file`
abbrev pub asked : Held → Held
asked h = record h { calls = one_more h.calls }

-- and it fails
abbrev pub after_file_fault : Held → Held
after_file_fault h = record (asked h) { ids = struck_own h.ids }

-- one file more, with these bytes
abbrev pub with_new : List ℕ → List ℕ → Held → Held
with_new name bytes h = record h {
  ids = added name h.ids;
  contents = h.contents ++ bytes ∷ [];
  tallies = h.tallies ++ no_calls ∷ [];
}

-- A call fails just for these causes, and leaves this where it is done and that where it fails.
pub record Answers {T E : Type 0} (Fails : Type 0) (done failed new : Held) (result : Result T E) : Type 0 where
  pub cause : IsErr result ↔ Fails
  pub ok : OnOk result (new ≡ done)
  pub err : OnErr result (new ≡ failed)

-- a call that only reads: it fails where it is listed or late
abbrev pub Looks : {T E : Type 0} → Op → ℕ → Held → Held → Result T E → Type 0
Looks op i old new result = Answers (IsListed op i old
    ⊎ IsLate old) (counted op i old) (after_fault op i old) new result

-- a call that changes a file: also where what it would leave is past the room of bytes
abbrev pub Changes : {T E : Type 0} → Op → ℕ → Held → Held → Held → Result T E → Type 0
Changes op i old done new result = Answers ((IsListed op i old ⊎ IsLate old)
    ⊎ IsFull done) done (after_fault op i old) new result

-- the bytes of the first file with a name, none where there is none
abbrev pub first_bytes : List NamedBytes → List ℕ → List ℕ
first_bytes files = file_of (map (λ f. f.name) files) (map (λ f. f.bytes) files)

-- no call was made
pub record IsNew (h : Held) : Type 0 where
  pub faults : (k : Option ℕ) → counts_of h.ids.own h.ids.faults k ≡ 0
  pub made : (i : ℕ) → slice_index_or h.tallies i no_calls ≡ no_calls
  pub calls : h.calls ≡ 0
  pub written : h.written ≡ 0
