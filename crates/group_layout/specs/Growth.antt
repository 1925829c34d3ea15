-- Rows that grow where they have no room: by one node at the right end, and under the root by two.
-- Cited by what plans one link more.
use Rattle.std.specs.Prelude.{◌≡◌, ℕ, ◌+◌, ◌*◌, ◌<◌, ◌≤◌, ◌⊎◌, List, [], ◌∷◌, ◌++◌, length}
use Rattle.group_layout.specs.Rows.{HaveRoom}

-- a row with room for so many below it, or with one node more, where it had none
abbrev pub IsWider : (room below : ℕ) (row wider : List ℕ) → Type 0
IsWider room below row wider = (below ≤ room * length row) × (wider ≡ row)
    ⊎ (room * length row < below) × (at : ℕ) × (wider ≡ row ++ at ∷ [])

-- The rows below the root, the lowest first: each is as it was where it has room, and else has one node more. Where the
-- root has no room, a row of two nodes comes between.
abbrev pub AreWider : (room below : ℕ) (rows wider : List (List ℕ)) → Type 0
AreWider room below [] [] = below ≤ room
AreWider room below [] (pair ∷ []) = (room < below) × (length pair ≡ 2)
AreWider room below [] (row ∷ other ∷ rows) = ⊥
AreWider room below (row ∷ rows) [] = ⊥
AreWider room below (row ∷ rows) (wide ∷ wider) = IsWider room below row wide × AreWider room (length wide) rows wider

-- how many nodes rows have
abbrev pub node_count : List (List ℕ) → ℕ
node_count [] = 0
node_count (row ∷ rows) = length row + node_count rows

-- each row has room for one more below it
abbrev pub HaveSpare : (room below : ℕ) (rows : List (List ℕ)) → Type 0
HaveSpare room below [] = below < room
HaveSpare room below (row ∷ rows) = (below < room * length row) × HaveSpare room (length row) rows

-- What grew for at most one more has room.
abbrev pub WiderFits : Type 0
WiderFits = (room old below tree : ℕ) (rows wider : List (List ℕ)) → 2 ≤ room → below ≤ old + 1
    → HaveRoom room old (rows ++ (tree ∷ []) ∷ []) → AreWider room below rows wider
    → HaveRoom room below (wider ++ (tree ∷ []) ∷ [])

-- It grew by a node a row at most, and two under the root.
abbrev pub FewMore : Type 0
FewMore = (room below : ℕ) (rows wider : List (List ℕ)) → AreWider room below rows wider
    → node_count wider ≤ node_count rows + length rows + 2

-- Where each row has room for one more, nothing grew.
abbrev pub NoneMore : Type 0
NoneMore = (room old below : ℕ) (rows wider : List (List ℕ)) → below ≤ old + 1 → HaveSpare room old rows
    → AreWider room below rows wider → wider ≡ rows
