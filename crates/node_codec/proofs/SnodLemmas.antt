-- The entries of a symbol table node.
use Rattle.std.proofs.Common.{◌≡◌, ℕ, ◌+◌, ◌-◌, ◌*◌, ◌<◌, ◌≤◌, List, [], ◌∷◌, ◌++◌, length, take, drop, map, get_or, replicate, refl, sym, ap, ◌∙◌, arith, length-append}
use Rattle.std.specs.List.{flat_map, All}
use Rattle.std.specs.Int.{w16, to_le_bytes}
use Rattle.std.proofs.lemmas.Grind.{flat_map-append}
use Rattle.std.proofs.lemmas.List.{drop-drop, length-map, map_push, get_or-map, take_more}
use Rattle.std.proofs.lemmas.Nat.{from_le_bytes-to_le_bytes_2, from_le_bytes-to_le_bytes_4, from_le_bytes-to_le_bytes_8}
use Rattle.h5_base.specs.Fields.{bytes_at, u16_at, u32_at, u64_at}
use Rattle.node_codec.specs.declared.snod.SnodEntry.{SnodEntry}
use Rattle.node_codec.specs.Cells.{cells}
use Rattle.node_codec.specs.Snod.{SpellsSnod, FitsSnod, EntryInRange, entry_of, entries_of, entry_bytes, snod_bytes, snod_len, snod_signature}
use Rattle.node_codec.proofs.CellLemmas.{cells-more, cells-at, cells-rows, length-cells, map-undone}
use Rattle.node_codec.proofs.PutLemmas.{length-padded}

pub entries_of-more : (b : List ℕ) (n : ℕ) → entries_of b (n + 1) ≡ entries_of b n ++ entry_of (bytes_at b (8 + 40 * n) 40) ∷ []
entries_of-more b n = rw (cells-more 40 40 n (drop 8 b), map_push entry_of, drop-drop (40 * n) 8 b) refl

pub entries_of-at : (b : List ℕ) (n i : ℕ) (d : SnodEntry) → i < n → get_or (entries_of b n) i d ≡ entry_of (bytes_at b (8 + 40 * i) 40)
entries_of-at b n i d lt =
    let in' : i < length (cells 40 40 n (drop 8 b)) = omega (arith, length-cells 40 40 n (drop 8 b)) in
    rw (get_or-map entry_of (cells 40 40 n (drop 8 b)) i [] d in', cells-at 40 40 n (drop 8 b) i [] lt, drop-drop (40 * i) 8 b) refl

pub length-entries_of : (b : List ℕ) (n : ℕ) → length (entries_of b n) ≡ n
length-entries_of b n = simp (length-map, length-cells)

pub length-entries : (es : List SnodEntry) → length (flat_map entry_bytes es) ≡ 40 * length es
length-entries [] = refl
length-entries (e ∷ es) = omega (arith, length-entries es, length-append (entry_bytes e) (flat_map entry_bytes es))

-- one entry more is written
pub entries-take : (es : List SnodEntry) (i : ℕ) (d : SnodEntry) → i < length es → flat_map entry_bytes (take (i + 1) es) ≡ flat_map entry_bytes (take i es) ++ entry_bytes (get_or es i d)
entries-take es i d lt = rw (take_more es i d lt, flat_map-append) refl

-- an entry that is written is read again
entry-undone : (e : SnodEntry) → EntryInRange e → entry_of (entry_bytes e) ≡ e
unfolding u32_at u64_at
entry-undone e r =
    rw (
      from_le_bytes-to_le_bytes_8 e.name_at r.name_at,
      from_le_bytes-to_le_bytes_8 e.header_at r.header_at,
      from_le_bytes-to_le_bytes_4 e.cache r.cache,
      from_le_bytes-to_le_bytes_8 e.tree_at r.tree_at,
      from_le_bytes-to_le_bytes_8 e.heap_at r.heap_at,
    ) refl

pub snod-spelled : (k : ℕ) (es : List SnodEntry) → k ≤ 1024 → FitsSnod k es → All EntryInRange es → SpellsSnod k es (snod_bytes k es)
unfolding u16_at snod_bytes
snod-spelled k es small fit ranges =
    let head : List ℕ = snod_signature ++ (1 ∷ 0 ∷ []) ++ to_le_bytes w16 (length es) in
    let used = head ++ flat_map entry_bytes es in
    let rest : List ℕ = replicate (snod_len k - length used) 0 in
    let count : u16_at (snod_bytes k es) 6 ≡ length es = from_le_bytes-to_le_bytes_2 (length es) (omega (arith, fit.room)) in
    let fits : length used ≤ snod_len k = omega (arith, fit.room, length-append head (flat_map entry_bytes es), length-entries es) in
    let read : cells 40 40 (length es) (flat_map entry_bytes es ++ rest) ≡ map entry_bytes es = cells-rows 40 entry_bytes es rest (λ i d lt. refl) in
    let again : map entry_of (map entry_bytes es) ≡ es = map-undone entry_bytes entry_of es (λ i d lt. entry-undone (get_or es i d) (ranges i d lt)) in
    record {
      block = record { len = length-padded (snod_len k) used fits; signature = refl; version = refl; room = rw count fit.room };
      value = sym (rw (count, read) again);
      caches = fit.caches;
    }

-- entries that are spelled fit
pub snod-fits : (k : ℕ) (es : List SnodEntry) (b : List ℕ) → SpellsSnod k es b → FitsSnod k es
snod-fits k es b p =
    let count : length es ≡ u16_at b 6 = ap length p.value ∙ length-entries_of b (u16_at b 6) in
    record { room = omega (arith, p.block.room); caches = p.caches }
