-- How an index grows for one entry more: by which nodes, and that it has room then.
use Rattle.std.proofs.Common.{◌≡◌, inl, inr, ℕ, zero, suc, ◌+◌, ◌*◌, ◌^◌, ◌<◌, ◌≤◌, List, [], ◌∷◌, ◌++◌, length, map}
use Rattle.std.proofs.Common.{All, max, replicate, refl, sym, ◌∙◌, ap, subst, arith}
use Rattle.std.proofs.Math.Nat.{pow-le-pow_right}
use Rattle.std.proofs.lemmas.Bool.{cases_lt}
use Rattle.std.proofs.lemmas.List.{length-append, length-map}
use Rattle.outside.specs.Array.{Array}
use Rattle.outside.specs.Blocks.{most_blocks}
use Rattle.outside.specs.Space.{SpaceView}
use Rattle.block_space.specs.declared.plan.Needs.{Needs}
use Rattle.file_model.specs.Groups.{Ks, GroupIndex, address_of}
use Rattle.group_room.specs.Index.{AreSmall, entries_in, leaf_ats, rows_below}
use Rattle.group_room.specs.Room.{FirstName, Grows, HasRoom, LaterName, tree_nodes}
use Rattle.group_layout.specs.Growth.{AreWider, HaveSpare, node_count}
use Rattle.group_layout.specs.Laying.{ats_of}
use Rattle.group_layout.specs.Rows.{HaveRoom}
use Rattle.group_layout.specs.declared.row.IndexRows.{IndexRows}
use Rattle.group_layout.specs.declared.row.Row.{Row}
use Rattle.group_layout.proofs.GrowthLemmas.{few_more, none_more, wider_fits}
use Rattle.group_facts.specs.Rows.{StandsIn}
use Rattle.group_facts.proofs.Levels.{few_levels}
use Rattle.group_facts.proofs.SpareRoom.{leaves_have_spare, rows_have_spare}
use Rattle.group_edit.specs.Grown.{AreLeavesFor}
use Rattle.group_edit.proofs.PlacedKept.{IsKept, kept_few, kept_room}
use Rattle.group_edit.proofs.PlacedTakes.{news_of}

-- ---- symbol table nodes

-- So many nodes, of which this many are new, for one entry more than before: one at most is new, where there was no
-- room.
pub record AreForOneMore (k entries old new all : ℕ) : Type 0 where
  pub room : entries + 1 ≤ 2 * k * all
  pub sum : all ≡ old + new
  pub one : new ≤ 1
  pub none : entries < 2 * k * old → new ≡ 0
  pub first : old ≡ 0 → new ≡ 1

pub for_one_more : (v : SpaceView) (k : ℕ) (ahead : Needs) (entries : ℕ) (leaves : List ℕ) (row : Row) (behind : Needs)
    → 1 ≤ k → entries ≤ 2 * k * length leaves → AreLeavesFor v k ahead (entries + 1) leaves row behind
    → AreForOneMore k entries (length leaves) (length row.new) (length (ats_of row))
for_one_more v k ahead entries leaves row behind some most (old, inl same) =
    let new : length row.new ≡ 0 = ap length same.1 in
    let all : length (ats_of row) ≡ length leaves = omega (arith, length-append row.old row.new, new, ap length old) in
    record {
      room = rw all same.0;
      sum = omega (arith, all, new);
      one = omega (arith, new);
      none = λ spare. new;
      first = λ zero.
          let empty : entries + 1 ≤ 2 * k * 0 = subst (λ (n : ℕ). entries + 1 ≤ 2 * k * n) zero same.0 in
          absurd (omega (arith, empty));
    }
for_one_more v k ahead entries leaves row behind some most (old, inr more) =
    let new : length row.new ≡ 1 = ap length more.1 in
    let all : length (ats_of row) ≡ length leaves + 1 =
    omega (arith, length-append row.old row.new, new, ap length old) in
    record {
      room = rw all (omega (arith, most, some));
      sum = omega (arith, all, new);
      one = omega (arith, new);
      none = λ spare. absurd (omega (arith, spare, more.0));
      first = λ zero. new;
    }

-- ---- nodes of the B-tree

count_news : (rows : List Row)
    → node_count (map ats_of rows) ≡ node_count (map (λ (r : Row). r.old) rows) + length (news_of rows)
count_news [] = refl
count_news (r ∷ rows) =
    omega (arith, count_news rows, length-append r.old r.new, length-append r.new (news_of rows))

count_olds : (kept : List (List ℕ)) (k : ℕ) → node_count (kept ++ replicate k []) ≡ node_count kept
count_olds [] zero = refl
count_olds [] (suc k) = omega (arith, count_olds [] k)
count_olds (row ∷ rows) k = omega (arith, count_olds rows k)

pub count_all : (rows : List Row) (kept : List (List ℕ)) (k : ℕ)
    → map (λ (r : Row). r.old) rows ≡ kept ++ replicate k []
    → node_count (map ats_of rows) ≡ node_count kept + length (news_of rows)
count_all rows kept k olds = omega (arith, count_news rows, ap node_count olds, count_olds kept k)

-- so few nodes don't need more than 31 levels
pub few_powers : (n below : ℕ) → 2 ^ n < below + 1 → below ≤ most_blocks + 1 → n ≤ 31
few_powers n below lt most = elim (cases_lt 31 n) [
  | inl many ↦
      let some : 0 < 2 = omega arith in
      let least : 31 ≤ n = omega (arith, many) in
      let power : 2 ^ 31 ≤ 2 ^ n = pow-le-pow_right some least in
      absurd (omega (arith, power, lt, most))
  | inr few ↦ few
]

-- ---- an index of the file, with its rows wider for one entry more

module _ (b : Array) (ks : Ks) (s : List ℕ) (level : ℕ) (x : GroupIndex) (h : StandsIn b ks s level x)
    (small : AreSmall ks) (index : IndexRows)
    (leaves : AreForOneMore ks.leaf (length (entries_in x)) (length (leaf_ats x)) (length index.leaves.new)
    (length (ats_of index.leaves)))
    (kept : List (List ℕ)) (is : IsKept ks x level kept)
    (wider : AreWider (2 * ks.internal) (length (ats_of index.leaves)) kept (map ats_of index.rows)) where
  two : 2 ≤ 2 * ks.internal
  two = omega (arith, small.internal.0)

  few : length (ats_of index.leaves) ≤ length (leaf_ats x) + 1
  few = omega (arith, leaves.sum, leaves.one)

  pub wider_room : index.tree ≡ address_of x
      → HaveRoom (2 * ks.internal) (length (ats_of index.leaves)) (map ats_of index.rows ++ (index.tree ∷ []) ∷ [])
  wider_room root = subst (λ (tree : ℕ). HaveRoom (2 * ks.internal) (length (ats_of index.leaves))
      (map ats_of index.rows ++ (tree ∷ []) ∷ []))
      (sym root)
      (wider_fits (2 * ks.internal) (length (leaf_ats x)) (length (ats_of index.leaves)) (address_of x) kept
      (map ats_of index.rows) two few (kept_room b ks s level x kept h is) wider)

  pub wider_level : length (leaf_ats x) ≤ most_blocks → length index.rows ≤ max level 31
  wider_level most =
      let count = length-map index.rows ats_of in
      let old = kept_few ks x level kept is in
      elim (few_levels (2 * ks.internal) (length (leaf_ats x)) (length (ats_of index.leaves)) (address_of x) kept
      (map ats_of index.rows) two few (kept_room b ks s level x kept h is) wider) [
        | inl same ↦ omega (arith, same, count, old)
        | inr more ↦
            let n = few_powers (length kept + 1) (length (ats_of index.leaves)) more.1 (omega (arith, few, most)) in
            omega (arith, more.0, count, n)
      ]

  module _ (k : ℕ) (olds : map (λ (r : Row). r.old) index.rows ≡ kept ++ replicate k []) where
    nodes_are : node_count (map ats_of index.rows) ≡ node_count kept + length (news_of index.rows)
    nodes_are = count_all index.rows kept k olds

    -- where the rows are those that were kept, no node is new
    same_rows : map ats_of index.rows ≡ kept → length (news_of index.rows) ≡ 0
    same_rows same = omega (arith, ap node_count same, nodes_are)

    first_name : kept ≡ [] → length (leaf_ats x) ≡ 0 → length (news_of index.rows) ≡ 0
    first_name none empty =
        let under : AreWider (2 * ks.internal) (length (ats_of index.leaves)) [] (map ats_of index.rows) =
        subst (λ (rows : List (List ℕ)). AreWider (2 * ks.internal) (length (ats_of index.leaves)) rows
        (map ats_of index.rows)) none wider in
        let one : length (ats_of index.leaves) ≤ 0 + 1 = omega (arith, few, empty) in
        let same = none_more (2 * ks.internal) 0 (length (ats_of index.leaves)) [] (map ats_of index.rows) one
        (omega (arith, two)) under in
        same_rows (same ∙ sym none)

    later_nodes : length (news_of index.rows) ≤ level + 2
    later_nodes = omega (
      arith,
      few_more (2 * ks.internal) (length (ats_of index.leaves)) kept (map ats_of index.rows) wider,
      nodes_are,
      kept_few ks x level kept is,
    )

    spare_nodes : kept ≡ rows_below x level → All (HasRoom ks) (tree_nodes x) → length (news_of index.rows) ≡ 0
    spare_nodes all room =
        let spare = subst (HaveSpare (2 * ks.internal) (length (leaf_ats x))) (sym all)
        (rows_have_spare b ks s level x h room) in
        same_rows (none_more (2 * ks.internal) (length (leaf_ats x)) (length (ats_of index.leaves)) kept
        (map ats_of index.rows) few spare wider)

    pub wider_grows : Grows ks x level (length index.leaves.new) (length (news_of index.rows))
    wider_grows = elim is.which [
      | inl none ↦
          let empty : length (leaf_ats x) ≡ 0 = ap length none.2 in
          FirstName none.0 (leaves.first empty) (first_name none.1 empty)
      | inr some ↦ LaterName (record {
        some = some.0;
        one_leaf = leaves.one;
        few_nodes = later_nodes;
        no_node = spare_nodes some.1;
        no_leaf = λ nodes room. leaves.none (leaves_have_spare b ks s level x h nodes room);
      })
    ]
