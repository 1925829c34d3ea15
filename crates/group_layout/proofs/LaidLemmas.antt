-- Rows that are laid one above the other.
use Rattle.std.proofs.Common.{◌≡◌, ℕ, suc, ◌*◌, List, [], ◌∷◌, ◌++◌, length, map, subst, sym, ◌∙◌, ap, arith}
use Rattle.std.proofs.lemmas.List.{append_assoc, append-nil, map-append, length-map, length_push, flat_map_more}
use Rattle.outside.specs.Array.{Array}
use Rattle.outside.specs.Blocks.{Block}
use Rattle.h5_base.specs.Fields.{undefined}
use Rattle.block_space.specs.declared.plan.Take.{Take}
use Rattle.node_codec.specs.declared.snod.SnodEntry.{SnodEntry}
use Rattle.file_model.specs.Groups.{Ks, leaf_block, node_block}
use Rattle.group_room.specs.Room.{leaf_take, node_take}
use Rattle.plan_pieces.specs.Images.{HaveImages, image_blocks, images_of, takes_of}
use Rattle.plan_pieces.specs.declared.image.Image.{Image}
use Rattle.plan_pieces.specs.declared.image.NewBlock.{NewBlock}
use Rattle.group_layout.specs.Leaves.{leaf_keys, AreLeavesSpelled}
use Rattle.group_layout.specs.Rows.{keys_above}
use Rattle.group_layout.specs.Nodes.{nodes_above, AreNodesSpelled, AllNodesSpelled}
use Rattle.group_layout.specs.Laying.{ats_of, rows_of, old_nodes, new_nodes, node_takes, old_blocks, new_blocks}
use Rattle.group_layout.specs.Laying.{new_takes, IsSpelledOut}
use Rattle.group_layout.specs.Placing.{Adds, AreLaid, laid_images}
use Rattle.group_layout.specs.declared.row.Row.{Row}
use Rattle.group_layout.specs.declared.row.IndexRows.{IndexRows}
use Rattle.group_layout.specs.declared.row.Laid.{Laid}
use Rattle.group_layout.proofs.PlaceLemmas.{adds_none, adds_more}

pub none_laid : (ks : Ks) (l : Laid) (keys below : List ℕ) → AreLaid ks [] l l keys below keys below
none_laid ks l keys below = record { adds = adds_none l; spelled = λ b h more s. s }

-- A row that is added to a level with these keys.
pub record IsRowLaid (ks : Ks) (level : ℕ) (row : Row) (before after : Laid) (keys below : List ℕ) : Type 0 where
  pub adds : Adds before after (map (node_block ks) row.old) (map (node_block ks) row.new)
      (map (λ (a : ℕ). node_take ks) row.new)
  pub spelled : (b : Array) → HaveImages b (laid_images after) → AreNodesSpelled b ks (ats_of row)
      (nodes_above level (2 * ks.internal) undefined (ats_of row) keys below)

pub row_laid : (ks : Ks) (rows : List Row) (row : Row) (level : ℕ) (x y z : Laid)
    (keys below over_keys over top_keys top : List ℕ) → level ≡ length rows
    → AreLaid ks rows x y keys below over_keys over → IsRowLaid ks level row y z over_keys over
    → top ≡ ats_of row → top_keys ≡ keys_above (2 * ks.internal) (ats_of row) over_keys over
    → AreLaid ks (rows ++ row ∷ []) x z keys below top_keys top
row_laid ks rows row level x y z keys below over_keys over top_keys top here laid is ats keyed =
    let there = map (node_block ks) row.old in
    let taken = map (node_block ks) row.new in
    let ts = map (λ (a : ℕ). node_take ks) row.new in
    let both = adds_more x y z (old_nodes ks rows) there (new_nodes ks rows) taken (node_takes ks rows) ts laid.adds
    is.adds in
    let count : level ≡ length (map ats_of rows) = here ∙ sym (length-map rows ats_of) in
    let height : length (map ats_of (rows ++ row ∷ [])) ≡ suc (length (map ats_of rows)) =
    omega (arith, length-map (rows ++ row ∷ []) ats_of, length_push rows row, length-map rows ats_of) in
    record {
      adds = subst (λ (l : List Block). Adds x z l (new_nodes ks (rows ++ row ∷ [])) (node_takes ks (rows ++ row ∷ [])))
          (flat_map_more (λ (r : Row). map (node_block ks) r.old) [] rows row)
          (subst (λ (l : List Block). Adds x z (old_nodes ks rows ++ there) l (node_takes ks (rows ++ row ∷ [])))
          (flat_map_more (λ (r : Row). map (node_block ks) r.new) [] rows row)
          (subst (λ (l : List Take). Adds x z (old_nodes ks rows ++ there) (new_nodes ks rows ++ taken) l)
          (flat_map_more (λ (r : Row). map (λ (a : ℕ). node_take ks) r.new) [] rows row) both));
      spelled = λ b h more later.
          let own = subst (λ (n : ℕ). AreNodesSpelled b ks (ats_of row)
          (nodes_above n (2 * ks.internal) undefined (ats_of row) over_keys over)) count (is.spelled b h) in
          let above = subst (λ (n : ℕ). AllNodesSpelled b ks n more top_keys top) height later in
          let keyed_so = subst (λ (l : List ℕ). AllNodesSpelled b ks (suc (length (map ats_of rows))) more l top) keyed
          above in
          let all = subst (λ (l : List ℕ). AllNodesSpelled b ks (suc (length (map ats_of rows))) more
          (keys_above (2 * ks.internal) (ats_of row) over_keys over) l) ats keyed_so in
          let whole = laid.spelled b (is.adds.keeps b h) (ats_of row ∷ more) (own, all) in
          subst (λ (l : List (List ℕ)). AllNodesSpelled b ks 0 l keys below)
          (sym (append_assoc (map ats_of rows) (ats_of row ∷ []) more)
          ∙ ap (λ (l : List (List ℕ)). l ++ more) (sym (map-append ats_of rows (row ∷ [])))) whole;
    }

-- ---- all levels

-- symbol table nodes that are laid: what is added, and the keys
pub record AreLeavesLaid (ks : Ks) (base : ℕ) (row : Row) (es : List SnodEntry) (before after : Laid)
    (keys ats : List ℕ) : Type 0 where
  pub adds : Adds before after (map (leaf_block ks) row.old) (map (leaf_block ks) row.new)
      (map (λ (a : ℕ). leaf_take ks) row.new)
  pub spelled : (b : Array) → HaveImages b (laid_images after) → AreLeavesSpelled b ks (ats_of row) es
  pub ats_are : ats ≡ ats_of row
  pub keys_are : keys ≡ leaf_keys (2 * ks.leaf) base (ats_of row) es

pub record IsLaidOut (ks : Ks) (base : ℕ) (index : IndexRows) (es : List SnodEntry) (l : Laid) : Type 0 where
  pub spelled : (b : Array) → HaveImages b (laid_images l) → IsSpelledOut b ks base index es
  pub writes : image_blocks l.writes.items ≡ old_blocks ks index
  pub blocks : image_blocks (images_of l.fills.items) ≡ new_blocks ks index
  pub takes : takes_of l.fills.items ≡ new_takes ks index

-- the root is the uppermost row
with_root : (ks : Ks) (index : IndexRows) (y z w : Laid) (keys ats over_keys over : List ℕ)
    → AreLaid ks index.rows y z keys ats over_keys over
    → IsRowLaid ks (length index.rows) (record { old = index.tree ∷ []; new = [] }) z w over_keys over
    → (b : Array) → HaveImages b (laid_images w) → AllNodesSpelled b ks 0 (rows_of index) keys ats
with_root ks index y z w keys ats over_keys over laid root b h =
    let rows = index.rows in
    let own = subst (λ (n : ℕ). AreNodesSpelled b ks (index.tree ∷ [])
    (nodes_above n (2 * ks.internal) undefined (index.tree ∷ []) over_keys over)) (sym (length-map rows ats_of))
    (root.spelled b h) in
    laid.spelled b (root.adds.keeps b h) ((index.tree ∷ []) ∷ []) (own, tt)

pub laid_out : (ks : Ks) (base : ℕ) (index : IndexRows) (es : List SnodEntry) (x y z w : Laid)
    (keys ats over_keys over : List ℕ) → x.writes.items ≡ [] → x.fills.items ≡ []
    → AreLeavesLaid ks base index.leaves es x y keys ats → AreLaid ks index.rows y z keys ats over_keys over
    → IsRowLaid ks (length index.rows) (record { old = index.tree ∷ []; new = [] }) z w over_keys over
    → IsLaidOut ks base index es w
laid_out ks base index es x y z w keys ats over_keys over no_writes no_fills leaves laid root =
    let rows = index.rows in
    let leaf_ts = map (λ (a : ℕ). leaf_take ks) index.leaves.new in
    let lower = adds_more x y z (map (leaf_block ks) index.leaves.old) (old_nodes ks rows)
    (map (leaf_block ks) index.leaves.new) (new_nodes ks rows) leaf_ts (node_takes ks rows) leaves.adds laid.adds in
    let all = adds_more x z w (map (leaf_block ks) index.leaves.old ++ old_nodes ks rows) (node_block ks index.tree ∷ [])
    (new_blocks ks index) [] (new_takes ks index) [] lower root.adds in
    record {
      spelled = λ b h.
          let nodes = with_root ks index y z w keys ats over_keys over laid root b h in
          let keyed = subst (λ (l : List ℕ). AllNodesSpelled b ks 0 (rows_of index) l ats) leaves.keys_are nodes in
          record {
            leaves = leaves.spelled b (laid.adds.keeps b (root.adds.keeps b h));
            nodes = subst (AllNodesSpelled b ks 0 (rows_of index)
                (leaf_keys (2 * ks.leaf) base (ats_of index.leaves) es)) leaves.ats_are keyed;
          };
      writes = all.writes ∙ ap (λ (l : List Image). image_blocks l ++ old_blocks ks index) no_writes;
      blocks = all.blocks
          ∙ ap (λ (l : List NewBlock). image_blocks (images_of l) ++ (new_blocks ks index ++ [])) no_fills
          ∙ append-nil (new_blocks ks index);
      takes = all.takes ∙ ap (λ (l : List NewBlock). takes_of l ++ (new_takes ks index ++ [])) no_fills
          ∙ append-nil (new_takes ks index);
    }
