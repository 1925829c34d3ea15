-- How much stands below the nodes of a row, and that it has room.
use Rattle.std.proofs.Common.{◌≡◌, ℕ, zero, suc, ◌+◌, ◌*◌, ◌≤◌, List, [], ◌∷◌, ◌++◌, length, drop, refl, sym}
use Rattle.std.proofs.Common.{ap, subst, arith}
use Rattle.std.proofs.lemmas.List.{length-append, length-map}
use Rattle.outside.specs.Array.{Array, bytes_of}
use Rattle.h5_base.specs.Fields.{u16_at, u64s_at}
use Rattle.node_codec.specs.Cells.{cells}
use Rattle.node_codec.specs.Snod.{SpellsSnod, entry_of, snod_len}
use Rattle.node_codec.specs.TreeHead.{used_of}
use Rattle.node_codec.specs.GroupNodes.{SpellsGroupNode}
use Rattle.node_codec.specs.declared.snod.SnodEntry.{SnodEntry}
use Rattle.node_codec.specs.declared.group_node.GroupNode.{GroupNode}
use Rattle.file_model.specs.Index.{Bottom, Node, NoMore, Next, each}
use Rattle.file_model.specs.Groups.{Ks, AreIndexes, GroupIndexes, IsNode, TreeNode, address_of}
use Rattle.group_layout.specs.Rows.{HaveRoom}
use Rattle.group_facts.specs.Rows.{RowsHaveRoom}
use Rattle.group_facts.proofs.IndexRows.{below, bottoms, each_joined, entries, leafs, leafs_below, rows_above_below}
use Rattle.group_facts.proofs.IndexRows.{rows_in, rows_root, stand_below}

-- ---- what blocks tell

cells_told : (width step n : ℕ) (b : List ℕ) → length (cells width step n b) ≡ n
cells_told width step zero b = refl
cells_told width step (suc n) b = ap suc (cells_told width step n (drop step b))

numbers_told : (b : List ℕ) (at step n : ℕ) → length (u64s_at b at step n) ≡ n
numbers_told b at step zero = refl
numbers_told b at step (suc n) = ap suc (numbers_told b (at + step) step n)

pub leaf_fits : (k : ℕ) (es : List SnodEntry) (b : List ℕ) → SpellsSnod k es b → length es ≤ 2 * k
leaf_fits k es b h = omega (
  arith,
  h.block.room,
  ap length h.value,
  length-map (cells 40 40 (u16_at b 6) (drop 8 b)) entry_of,
  cells_told 40 40 (u16_at b 6) (drop 8 b),
)

node_fits : (k : ℕ) (n : GroupNode) (b : List ℕ) → SpellsGroupNode k n b → length n.children ≤ 2 * k
node_fits k n b h = omega (
  arith,
  h.block.room,
  ap (λ (n : GroupNode). length n.children) h.value,
  numbers_told b 32 16 (used_of b),
)

-- no node has more children than there is room for
pub children_fit : (b : Array) (ks : Ks) (level : ℕ) (n : TreeNode) (children : List ℕ) → IsNode b ks level n children
    → length children ≤ 2 * ks.internal
children_fit b ks level n children h =
    omega (arith, ap length h.children_are, node_fits ks.internal n.node _ h.spelled)

-- ---- rows

-- one row more, with room for the uppermost
room_push : (room n : ℕ) (rows : List (List ℕ)) (row upper : List ℕ) → HaveRoom room n (rows ++ row ∷ [])
    → length row ≤ room * length upper → HaveRoom room n ((rows ++ row ∷ []) ++ upper ∷ [])
room_push room n [] row upper fits le = (fits.0, (le, tt))
room_push room n (r ∷ rows) row upper fits le = (fits.0, room_push room (length r) rows row upper fits.1 le)

module _ (b : Array) (ks : Ks) (s : List ℕ) where
  entries_fit : (level : ℕ) (xs : GroupIndexes) → AreIndexes b ks s level xs
      → length (entries xs) ≤ 2 * ks.leaf * length (leafs xs)
  entries_fit zero NoMore h = omega arith
  entries_fit zero (Next (Bottom l) xs) h = omega (
    arith,
    leaf_fits ks.leaf l.entries (bytes_of b l.at (snod_len ks.leaf)) h.0.spelled,
    entries_fit zero xs h.1,
    length-append l.entries (entries xs),
  )
  entries_fit zero (Next (Node n ys) xs) h = absurd h.0
  entries_fit (suc level) xs h =
      let all : length (entries xs) ≡ length (entries (below xs)) =
      ap length (leafs_below b ks s (λ s. s.entries) level xs h) in
      let ats : length (leafs xs) ≡ length (leafs (below xs)) =
      ap length (leafs_below b ks s (λ s. s.at ∷ []) level xs h) in
      rw (all, ats) (entries_fit level (below xs) (stand_below b ks s level xs h))

  below_fit : (level : ℕ) (xs : GroupIndexes) → AreIndexes b ks s (suc level) xs
      → length (each address_of (below xs)) ≤ 2 * ks.internal * length (each address_of xs)
  below_fit level NoMore h = omega arith
  below_fit level (Next (Bottom l) xs) h = absurd h.0
  below_fit level (Next (Node n ys) xs) h = omega (
    arith,
    children_fit b ks level n (each address_of ys) h.0.0,
    below_fit level xs h.1,
    ap length (each_joined ys (below xs)),
    length-append (each address_of ys) (each address_of (below xs)),
  )

  -- with a row above that has room for its uppermost
  rows_fit : (level : ℕ) (xs : GroupIndexes) (upper : List ℕ) → AreIndexes b ks s level xs
      → length (each address_of xs) ≤ 2 * ks.internal * length upper
      → HaveRoom (2 * ks.internal) (length (leafs xs)) (rows_in xs level ++ upper ∷ [])
  rows_fit zero xs upper h le = (rw (bottoms b ks s xs h) le, tt)
  rows_fit (suc level) xs upper h le =
      let ats : length (leafs (below xs)) ≡ length (leafs xs) =
      ap length (sym (leafs_below b ks s (λ s. s.at ∷ []) level xs h)) in
      let under = rows_fit level (below xs) (each address_of xs) (stand_below b ks s level xs h)
      (below_fit level xs h) in
      let more = room_push (2 * ks.internal) _ (rows_in (below xs) level) (each address_of xs) upper under le in
      subst (λ (rows : List (List ℕ)). HaveRoom (2 * ks.internal) (length (leafs xs)) (rows ++ upper ∷ []))
      (sym (rows_above_below b ks s level xs h))
      (subst (λ (n : ℕ). HaveRoom (2 * ks.internal) n
      ((rows_in (below xs) level ++ each address_of xs ∷ []) ++ upper ∷ [])) ats more)

pub rows_have_room : RowsHaveRoom
rows_have_room b ks s level (Bottom l) h = absurd h
rows_have_room b ks s level (Node n xs) h = (
  entries_fit b ks s level xs h.1,
  subst (λ (rows : List (List ℕ)). HaveRoom (2 * ks.internal) (length (leafs xs)) (rows ++ (n.at ∷ []) ∷ []))
      (sym (rows_root n xs level))
      (rows_fit b ks s level xs (n.at ∷ []) h.1 (omega (arith, children_fit b ks level n (each address_of xs) h.0))),
)
