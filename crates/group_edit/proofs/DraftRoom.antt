-- Whether rows have room, told from a row on.
use Rattle.std.proofs.Common.{ℕ, ◌+◌, ◌*◌, ◌<◌, ◌≤◌, List, [], ◌∷◌, ◌++◌, length, map, drop, get_or, sym}
use Rattle.std.proofs.Common.{subst}
use Rattle.std.proofs.lemmas.List.{drop_all, drop_more}
use Rattle.group_layout.specs.Laying.{ats_of}
use Rattle.group_layout.specs.Rows.{HaveRoom}
use Rattle.group_layout.specs.declared.row.Row.{Row}

-- the rows, with a root above them, have room for so many nodes below them
abbrev pub RoomIn : (room below : ℕ) → List Row → (tree : ℕ) → Type 0
RoomIn room below rows tree = HaveRoom room below (map ats_of rows ++ (tree ∷ []) ∷ [])

module _ (room below : ℕ) (rows : List Row) (i tree : ℕ) where
  module _ (d : Row) (here : i < length rows) where
    abbrev Next : Type 0
    Next = RoomIn room (length (ats_of (get_or rows i d))) (drop (i + 1) rows) tree

    -- the row at the index, and those behind it
    pub row_then : RoomIn room below (drop i rows) tree → (below ≤ room * length (ats_of (get_or rows i d))) × Next
    row_then = subst (λ (l : List Row). RoomIn room below l tree) (drop_more rows i d here)

    pub then_row : below ≤ room * length (ats_of (get_or rows i d)) → Next → RoomIn room below (drop i rows) tree
    then_row fits next = subst (λ (l : List Row). RoomIn room below l tree) (sym (drop_more rows i d here)) (fits, next)

  -- the root alone
  pub root_then : length rows ≤ i → RoomIn room below (drop i rows) tree → below ≤ room * 1
  root_then behind fits = (subst (λ (l : List Row). RoomIn room below l tree) (drop_all i rows behind) fits).0

  pub then_root : length rows ≤ i → below ≤ room * 1 → RoomIn room below (drop i rows) tree
  then_root behind fits =
      subst (λ (l : List Row). RoomIn room below l tree) (sym (drop_all i rows behind)) (fits, tt)
