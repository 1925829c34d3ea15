-- How the new nodes of an index are taken, and where they lie then.
use Rattle.std.proofs.Common.{◌≡◌, ℕ, zero, suc, ◌+◌, ◌*◌, ◌-◌, ◌%◌, ◌^◌, ◌<◌, min, List, [], ◌∷◌, ◌++◌, length, map}
use Rattle.std.proofs.Common.{replicate, refl, sym, ◌∙◌, ap, subst, arith, inl, inr}
use Rattle.std.specs.List.{Contains, flat_map}
use Rattle.std.proofs.lemmas.List.{map-append}
use Rattle.outside.specs.Blocks.{Block}
use Rattle.outside.specs.Space.{AreRegions, SpaceView}
use Rattle.block_space.specs.Plans.{taken_blocks}
use Rattle.block_space.specs.declared.plan.Needs.{Needs}
use Rattle.block_space.specs.declared.plan.Take.{Take}
use Rattle.block_space.proofs.Apart.{contains_head, contains_tail}
use Rattle.h5_base.specs.declared.extent.MemClass.TheVariants as class
use Rattle.node_codec.specs.Snod.{snod_len}
use Rattle.node_codec.specs.GroupNodes.{group_node_len}
use Rattle.file_model.specs.Groups.{Ks, leaf_block, node_block}
use Rattle.plan_pieces.specs.Plan.{IsWithBlock}
use Rattle.group_room.specs.Index.{addresses}
use Rattle.group_room.specs.Room.{leaf_take, node_take}
use Rattle.group_layout.specs.Laying.{new_nodes, new_takes, node_takes}
use Rattle.group_layout.specs.declared.row.IndexRows.{IndexRows}
use Rattle.group_layout.specs.declared.row.Row.{Row}
use Rattle.group_facts.specs.Places.{ends_ahead}
use Rattle.group_facts.proofs.PlaceLemmas.{in_a_row, taken_behind}
use Rattle.group_edit.specs.Grown.{AreLeavesFor, next_node}

-- the new nodes of rows, the lowest row first
abbrev pub news_of : List Row → List ℕ
news_of = flat_map (λ (r : Row). r.new)

-- ---- how they are taken

pub map_const : {A B : Type 0} (b : B) (xs : List A) → map (λ (x : A). b) xs ≡ replicate (length xs) b
map_const b [] = refl
map_const b (x ∷ xs) = ap (λ l. b ∷ l) (map_const b xs)

-- a function of each member of each list
pub map_flat : {A B C : Type 0} (f : B → C) (g : A → List B) (xs : List A)
    → flat_map (λ (x : A). map f (g x)) xs ≡ map f (flat_map g xs)
map_flat f g [] = refl
map_flat f g (x ∷ xs) = ap (λ l. map f (g x) ++ l) (map_flat f g xs) ∙ sym (map-append f (g x) (flat_map g xs))

pub nodes_taken : (ks : Ks) (rows : List Row) → node_takes ks rows ≡ replicate (length (news_of rows)) (node_take ks)
nodes_taken ks rows =
    map_flat (λ (a : ℕ). node_take ks) (λ (r : Row). r.new) rows ∙ map_const (node_take ks) (news_of rows)

pub new_taken : (ks : Ks) (index : IndexRows) → new_takes ks index
    ≡ replicate (length index.leaves.new) (leaf_take ks) ++ replicate (length (news_of index.rows)) (node_take ks)
new_taken ks index = λ i. map_const (leaf_take ks) index.leaves.new i ++ nodes_taken ks index.rows i

-- ---- where they lie

-- the blocks lie below 2^64
abbrev pub AllBelow : List Block → Type 0
AllBelow xs = (x : Block) → Contains xs x → x.start + x.len < 2 ^ 64

-- blocks at addresses in a row
abbrev blocks_at : ℕ → List ℕ → List Block
blocks_at len = map (λ (at : ℕ). record { start = at; len = len })

-- the last of blocks in a row ends below 2^64
last_below : (at len n : ℕ) → AllBelow (blocks_at len (addresses at len (suc n))) → at + len * suc n < 2 ^ 64
last_below at len zero below =
    let first : at + len < 2 ^ 64 = below (record { start = at; len = len }) (contains_head _ []) in
    omega (arith, first)
last_below at len (suc n) below =
    let later = blocks_at len (addresses (at + len) len (suc n)) in
    let first : Block = record { start = at; len = len } in
    let last = last_below (at + len) len n (λ x has. below x (contains_tail first later x has)) in
    omega (arith, last)

-- an address whose block ends below 2^64 is told as it is
pub told : (at len : ℕ) → 0 < len → at + len < 2 ^ 64 → min at (2 ^ 64 - 1) ≡ at
told at len some below = omega (arith, some, below)

-- addresses that are told in a row are those where the blocks are taken
told_row : (end len : ℕ) (news : List ℕ) → 0 < len → AllBelow (blocks_at len (addresses end len (length news)))
    → (min end (2 ^ 64 - 1) + len * length news < 2 ^ 64
    → news ≡ addresses (min end (2 ^ 64 - 1)) len (length news))
    → addresses end len (length news) ≡ news
told_row end len [] some below are = refl
told_row end len (a ∷ ats) some below are =
    let last = last_below end len (length ats) below in
    let here : min end (2 ^ 64 - 1) ≡ end = omega (arith, last, some) in
    let exact = subst (λ (at : ℕ). at + len * suc (length ats) < 2 ^ 64
    → a ∷ ats ≡ addresses at len (suc (length ats))) here are in
    sym (exact last)

-- a B-tree node has bytes, and their number is a multiple of 8; so has a symbol table node
pub node_some : (k : ℕ) → 0 < group_node_len k
node_some k = omega arith

pub node_eights : (k : ℕ) → group_node_len k % 8 ≡ 0
node_eights k = omega arith

pub leaf_some : (k : ℕ) → 0 < snod_len k
leaf_some k = omega arith

pub leaf_eights : (k : ℕ) → snod_len k % 8 ≡ 0
leaf_eights k = omega arith

module _ (v : SpaceView) (ks : Ks) (sound : AreRegions v.regions v.ends) where
  nodes_lie : (ahead : Needs) (rows : List Row)
      → AllBelow (taken_blocks v.regions (ends_ahead v ahead) (replicate (length (news_of rows)) (node_take ks)))
      → (next_node v ahead + group_node_len ks.internal * length (news_of rows) < 2 ^ 64
      → news_of rows ≡ addresses (next_node v ahead) (group_node_len ks.internal) (length (news_of rows)))
      → taken_blocks v.regions (ends_ahead v ahead) (replicate (length (news_of rows)) (node_take ks))
      ≡ new_nodes ks rows
  nodes_lie ahead rows below are =
      let len = group_node_len ks.internal in
      let row = in_a_row v ahead (node_take ks) (length (news_of rows)) sound (node_eights ks.internal) in
      let told = told_row (ends_ahead v ahead class.Tree) len (news_of rows) (node_some ks.internal)
      (subst AllBelow row below) are in
      row ∙ ap (blocks_at len) told ∙ sym (map_flat (node_block ks) (λ (r : Row). r.new) rows)

  -- how new nodes are taken: these symbol table nodes, and those of rows
  abbrev takes : List ℕ → List Row → List Take
  takes news rows = map (λ (a : ℕ). leaf_take ks) news ++ node_takes ks rows

  -- the blocks lie where the nodes are told
  abbrev Lie : Needs → List ℕ → List Row → Type 0
  Lie ahead news rows = AllBelow (taken_blocks v.regions (ends_ahead v ahead) (takes news rows))
      → taken_blocks v.regions (ends_ahead v ahead) (takes news rows) ≡ map (leaf_block ks) news ++ new_nodes ks rows

  -- the nodes of rows are told where they are taken
  abbrev AreTold : Needs → List Row → Type 0
  AreTold ahead rows = next_node v ahead + group_node_len ks.internal * length (news_of rows) < 2 ^ 64
      → news_of rows ≡ addresses (next_node v ahead) (group_node_len ks.internal) (length (news_of rows))

  lie_alone : (ahead : Needs) (rows : List Row) → AreTold ahead rows → Lie ahead [] rows
  lie_alone ahead rows are below =
      let takes = nodes_taken ks rows in
      ap (taken_blocks v.regions (ends_ahead v ahead)) takes
      ∙ nodes_lie ahead rows
      (subst (λ (ts : List Take). AllBelow (taken_blocks v.regions (ends_ahead v ahead) ts)) takes below) are

  lie_behind : (ahead behind : Needs) (rows : List Row) → IsWithBlock ahead class.Tree (snod_len ks.leaf) behind
      → AreTold behind rows → Lie ahead (next_node v ahead ∷ []) rows
  lie_behind ahead behind rows one are below =
      let end = ends_ahead v ahead class.Tree in
      let first : Block = record { start = end; len = snod_len ks.leaf } in
      let later = taken_blocks v.regions (ends_ahead v behind) (node_takes ks rows) in
      let both : taken_blocks v.regions (ends_ahead v ahead) (leaf_take ks ∷ node_takes ks rows) ≡ first ∷ later =
      taken_behind v ahead behind (leaf_take ks) (node_takes ks rows) sound one in
      let under : AllBelow (first ∷ later) = subst AllBelow both below in
      let here = told end (snod_len ks.leaf) (leaf_some ks.leaf) (under first (contains_head first later)) in
      let rest = lie_alone behind rows are (λ x has. under x (contains_tail first later x has)) in
      both ∙ (λ i. leaf_block ks (sym here i) ∷ rest i)

  pub index_lies : (ahead behind : Needs) (count : ℕ) (leaves : List ℕ) (index : IndexRows)
      → AreLeavesFor v ks.leaf ahead count leaves index.leaves behind → AreTold behind index.rows
      → Lie ahead index.leaves.new index.rows
  index_lies ahead behind count leaves index (old, inl none) are =
      subst (λ (news : List ℕ). Lie ahead news index.rows) (sym none.1)
      (lie_alone ahead index.rows (subst (λ (n : Needs). AreTold n index.rows) none.2 are))
  index_lies ahead behind count leaves index (old, inr one) are =
      subst (λ (news : List ℕ). Lie ahead news index.rows) (sym one.1) (lie_behind ahead behind index.rows one.2 are)
