-- One node more of a row, over a space that is left alike.
use Rattle.std.proofs.Common.{◌≡◌, ℕ, ◌+◌, ◌<◌, ◌≤◌, List, [], ◌∷◌, ◌++◌, length, take, get_or, All, sym, ◌∙◌}
use Rattle.std.proofs.Common.{ap, subst}
use Rattle.std.proofs.lemmas.List.Elements.{All-get_or}
use Rattle.outside.specs.Array.{Array}
use Rattle.node_codec.specs.declared.group_node.GroupNode.{GroupNode}
use Rattle.node_codec.specs.declared.snod.SnodEntry.{SnodEntry}
use Rattle.group_rows.specs.declared.gathered.Gathered.{Gathered}
use Rattle.group_rows.specs.Rows.{node_at, entries_at, row_children, row_entries, IsNodeThere, IsLeafThere, IsRow}
use Rattle.group_rows.specs.Gathering.{AddsNodes, AddsLeaves}
use Rattle.group_rows.proofs.ListLemmas.{flat_map-take}
use Rattle.group_rows.proofs.GatherLemmas.{nodes_more, leaves_more, room_left}

-- what a row's node adds, where the array is the one before
pub node_adds : (b c : Array) (k : ℕ) (ats : List ℕ) (i : ℕ) (old mid new : Gathered) → c ≡ b → i < length ats
    → AddsNodes b k (take i ats) old mid → AddsNodes c k (get_or ats i 0 ∷ []) mid new
    → AddsNodes b k (take (i + 1) ats) old new
node_adds b c k ats i old mid new is lt h one =
    nodes_more b k ats i old mid new lt h
    (subst (λ (a : Array). AddsNodes a k (get_or ats i 0 ∷ []) mid new) is one)

pub leaf_adds : (b c : Array) (k : ℕ) (ats : List ℕ) (i : ℕ) (old mid new : Gathered) → c ≡ b → i < length ats
    → AddsLeaves b k (take i ats) old mid → AddsLeaves c k (get_or ats i 0 ∷ []) mid new
    → AddsLeaves b k (take (i + 1) ats) old new
leaf_adds b c k ats i old mid new is lt h one =
    leaves_more b k ats i old mid new lt h
    (subst (λ (a : Array). AddsLeaves a k (get_or ats i 0 ∷ []) mid new) is one)

pub children_more : (b c : Array) (k : ℕ) (ats : List ℕ) (i : ℕ) (node : GroupNode) (before more now : List ℕ) → c ≡ b
    → i < length ats → before ≡ row_children b k (take i ats) → node ≡ node_at c k (get_or ats i 0)
    → more ≡ node.children → now ≡ before ++ more → now ≡ row_children b k (take (i + 1) ats)
children_more b c k ats i node before more now is lt h found slice kept =
    kept ∙ (λ j. h j ++ slice j)
    ∙ ap (λ (n : GroupNode). row_children b k (take i ats) ++ n.children)
    (found ∙ ap (λ (a : Array). node_at a k (get_or ats i 0)) is)
    ∙ sym (flat_map-take (λ (at : ℕ). (node_at b k at).children) ats i 0 lt)

pub entries_more : (b c : Array) (k : ℕ) (ats : List ℕ) (i : ℕ) (es before more now : List SnodEntry) → c ≡ b
    → i < length ats → before ≡ row_entries b k (take i ats) → es ≡ entries_at c k (get_or ats i 0)
    → more ≡ es → now ≡ before ++ more → now ≡ row_entries b k (take (i + 1) ats)
entries_more b c k ats i es before more now is lt h found slice kept =
    kept ∙ (λ j. h j ++ slice j)
    ∙ ap (λ (l : List SnodEntry). row_entries b k (take i ats) ++ l)
    (found ∙ ap (λ (a : Array). entries_at a k (get_or ats i 0)) is)
    ∙ sym (flat_map-take (entries_at b k) ats i 0 lt)

-- the node of a row that may all be named spells one, and its children may be named
pub row_node : (b c : Array) (k level : ℕ) (ats : List ℕ) (i : ℕ) (old mid : Gathered) → c ≡ b → i < length ats
    → AddsNodes b k (take i ats) old mid → IsRow b k level ats → length (row_children b k ats) ≤ old.left
    → IsNodeThere c k (get_or ats i 0) × (length (node_at c k (get_or ats i 0)).children ≤ mid.left)
row_node b c k level ats i old mid is lt h there room =
    let one : IsNodeThere b k (get_or ats i 0) × ((node_at b k (get_or ats i 0)).level ≡ level) =
    All-get_or (λ (at : ℕ). IsNodeThere b k at × ((node_at b k at).level ≡ level)) ats i 0 lt there in
    subst (λ (a : Array). IsNodeThere a k (get_or ats i 0) × (length (node_at a k (get_or ats i 0)).children ≤ mid.left))
    (sym is) (one.0, room_left b k ats i old mid lt h room)

-- and its level is the row's
pub row_level : (b c : Array) (k level : ℕ) (ats : List ℕ) (i : ℕ) (node : GroupNode) → c ≡ b → i < length ats
    → node ≡ node_at c k (get_or ats i 0) → IsRow b k level ats → node.level ≡ level
row_level b c k level ats i node is lt found there =
    let one : IsNodeThere b k (get_or ats i 0) × ((node_at b k (get_or ats i 0)).level ≡ level) =
    All-get_or (λ (at : ℕ). IsNodeThere b k at × ((node_at b k at).level ≡ level)) ats i 0 lt there in
    ap (λ (n : GroupNode). n.level) (found ∙ ap (λ (a : Array). node_at a k (get_or ats i 0)) is) ∙ one.1

pub leaf_node : (b c : Array) (k : ℕ) (ats : List ℕ) (i : ℕ) → c ≡ b → i < length ats → All (IsLeafThere b k) ats
    → IsLeafThere c k (get_or ats i 0)
leaf_node b c k ats i is lt there =
    subst (λ (a : Array). IsLeafThere a k (get_or ats i 0)) (sym is) (All-get_or (IsLeafThere b k) ats i 0 lt there)
