-- A list of links that is laid over nodes, the root alone in the uppermost row, is a group's.
use Rattle.std.proofs.Common.{◌≡◌, ◌⊎◌, ℕ, suc, ◌+◌, ◌*◌, ◌<◌, ◌≤◌, List, [], ◌∷◌, ◌++◌, length, map, drop, take}
use Rattle.std.proofs.Common.{get_or, refl, sym, ◌∙◌, ap, subst, arith, inl, inr}
use Rattle.std.specs.List.{Contains, flat_map}
use Rattle.std.specs.List.Sorted.{IsPermutation}
use Rattle.std.proofs.lemmas.List.{append-nil, length-append}
use Rattle.h5_base.specs.Fields.{undefined}
use Rattle.node_codec.specs.declared.snod.SnodEntry.{SnodEntry}
use Rattle.file_model.specs.Index.{row, AreSiblings, gather, gather_in}
use Rattle.file_model.specs.Groups.{Ks, Found, GroupIndex, TreeNode, HasText, IsIndex, AreIndexes, address_of}
use Rattle.file_model.specs.Groups.{links_under, links_within, index_blocks, blocks_within, node_block, leaf_block}
use Rattle.file_model.specs.Groups.{AreLinks, LeafNode, entry_offsets, index_offsets}
use Rattle.group_room.specs.Index.{leaf_ats}
use Rattle.object_model.specs.Tree.{AreOrdered}
use Rattle.outside.specs.Array.{Array}
use Rattle.outside.specs.Blocks.{Block}
use Rattle.file_model.specs.WellKept.{BeginsEmpty, IsKeptGroup}
use Rattle.group_layout.specs.Rows.{laid, keys_above, row_above, rows_above, row_blocks, HaveRoom, AllSpelled}
use Rattle.group_layout.specs.Leaves.{leaves, leaf_keys, last_key, AreLeavesSpelled}
use Rattle.group_layout.specs.Laws.{AreKept, GroupLaid, IsLaid}
use Rattle.group_layout.proofs.RowsLemmas.{rows_in_order, rows_kept}
use Rattle.group_layout.proofs.LeafLemmas.{leaves_in_order, leaves_kept}
use Rattle.group_layout.proofs.OffsetLemmas.{leaf_entries, leaf_addresses, offsets_within, leaf_offsets, leaf_keys_are}
use Rattle.group_layout.proofs.OffsetLemmas.{rows_use, rows_keep, rows_first, rows_gather}
use Rattle.group_layout.proofs.BlockLemmas.{rows_blocks, leaf_blocks, root_blocks}

-- the uppermost row has one node, at this address
uppermost : (level room : ℕ) (rows : List (List ℕ)) (tree : ℕ) (keys : List ℕ) (xs : List GroupIndex)
    → (x : GroupIndex) × (rows_above level room (rows ++ (tree ∷ []) ∷ []) keys xs ≡ x ∷ []) × (address_of x ≡ tree)
uppermost level room [] tree keys xs = (_, refl, refl)
uppermost level room (ats ∷ rows) tree keys xs =
    uppermost (suc level) room rows tree (keys_above room ats keys xs) (row_above level room undefined ats keys xs)

leaves_length : (room : ℕ) (ats : List ℕ) (es : List SnodEntry) (fs : List Found)
    → length (leaves room ats es fs) ≡ length ats
leaves_length room [] es fs = refl
leaves_length room (at ∷ ats) es fs = ap suc (leaves_length room ats (drop room es) (drop room fs))

first_key : (room base : ℕ) (ats : List ℕ) (es : List SnodEntry)
    → (more : List ℕ) × (leaf_keys room base ats es ≡ base ∷ more)
first_key room base [] es = ([], refl)
first_key room base (at ∷ ats) es = (leaf_keys room (last_key base (take room es)) ats (drop room es), refl)

-- the levels below one root
one_root : (s : List ℕ) (x : GroupIndex) → HasText s 0 [] → AreKept (x ∷ []) → IsKeptGroup s x
one_root s x text kept = record {
  siblings = λ depth. subst (AreSiblings (λ (n : TreeNode). n.at) (λ n. n.node.left) (λ n. n.node.right) undefined)
      (append-nil (row depth x)) (kept.siblings depth);
  leftmost = λ depth. subst BeginsEmpty (append-nil (row depth x)) (kept.leftmost depth);
  empty_name = text;
}

-- a group that is laid out, whose symbol table nodes stand at these addresses
pub record IsLaidOver (b : Array) (ks : Ks) (s : List ℕ) (tree level base : ℕ) (ats : List ℕ) (es : List SnodEntry)
    (fs : List Found) (bs : List Block) : Type 0 where
  pub laid : IsLaid b ks s tree level base es fs bs
  pub leafs : leaf_ats laid.index ≡ ats

pub group_laid_over : (b : Array) (ks : Ks) (s : List ℕ) (base : ℕ) (ats : List ℕ) (rows : List (List ℕ)) (tree : ℕ)
    (es : List SnodEntry) (fs : List Found) → HasText s base [] → (get_or s 0 0 ≡ 0 → base ≡ 0)
    → AreLinks s es fs → AreOrdered ([] ∷ map (λ (f : Found). f.name) fs) → length es ≤ 2 * ks.leaf * length ats
    → AreLeavesSpelled b ks ats es → HaveRoom (2 * ks.internal) (length ats) (rows ++ (tree ∷ []) ∷ [])
    → AllSpelled b ks 0 (rows ++ (tree ∷ []) ∷ []) (leaf_keys (2 * ks.leaf) base ats es)
    (leaves (2 * ks.leaf) ats es fs)
    → IsLaidOver b ks s tree (length rows) base ats es fs
    (node_block ks tree ∷ row_blocks ks rows ++ map (leaf_block ks) ats)
group_laid_over b ks s base ats rows tree es fs text at_zero h o le leafs room spelled =
    let c : ℕ = 2 * ks.internal in
    let keys = leaf_keys (2 * ks.leaf) base ats es in
    let xs = leaves (2 * ks.leaf) ats es fs in
    let all_rows = rows ++ (tree ∷ []) ∷ [] in
    let low = leaves_in_order b ks s base [] ats es fs text h o le leafs in
    let fits = subst (λ (n : ℕ). HaveRoom c n all_rows) (sym (leaves_length (2 * ks.leaf) ats es fs)) room in
    let all = rows_in_order b ks s 0 all_rows keys xs low.0 fits spelled in
    let top = uppermost 0 c rows tree keys xs in
    let high : 0 + length all_rows ≡ suc (length rows) = omega (arith, length-append rows ((tree ∷ []) ∷ [])) in
    let stand = subst (λ (ys : List GroupIndex). AreIndexes b ks s (0 + length all_rows) (laid ys)) top.1
    all.0.1.stand in
    let uses = uses_of ks c base rows ats tree es fs top.0 top.1 le fits in
    let blocks = rows_blocks ks 0 c all_rows keys xs fits in
    let over = gathered (λ s. s.at ∷ []) top.0 (rows_above 0 c all_rows keys xs) xs top.1
    (rows_gather (λ s. s.at ∷ []) 0 c all_rows keys xs fits) ∙ leaf_addresses (2 * ks.leaf) ats es fs in
    let laid_out : IsLaid b ks s tree (length rows) base es fs
    (node_block ks tree ∷ row_blocks ks rows ++ map (leaf_block ks) ats) = record {
      index = top.0;
      root = top.2;
      stands = subst (λ (n : ℕ). IsIndex b ks s n top.0) high stand.0;
      entries = gathered (λ s. s.entries) top.0 (rows_above 0 c all_rows keys xs) xs top.1
          (rows_gather (λ s. s.entries) 0 c all_rows keys xs fits) ∙ leaf_entries (2 * ks.leaf) ats es fs le;
      links = sym (append-nil (links_under top.0))
          ∙ ap (λ (ys : List GroupIndex). links_within (laid ys)) (sym top.1) ∙ all.1 ∙ low.1;
      offsets = uses.0;
      used = uses.1;
      base_used = λ some. first_is ks c base rows ats tree es fs top.0 top.1 fits (subst (λ (l : List ℕ). 0 < length l)
          over some);
      blocks = named ks c rows ats tree keys es fs xs top.0 top.1 refl blocks;
      kept = λ starts. kept_root s base c ats es fs ks rows tree top.0 top.1 fits text (at_zero starts);
    } in
    record { laid = laid_out; leafs = over }
  where
    named : (ks : Ks) (c : ℕ) (rows : List (List ℕ)) (ats : List ℕ) (tree : ℕ) (keys : List ℕ) (es : List SnodEntry)
        (fs : List Found) (xs : List GroupIndex) (x : GroupIndex)
        → rows_above 0 c (rows ++ (tree ∷ []) ∷ []) keys xs ≡ x ∷ [] → xs ≡ leaves (2 * ks.leaf) ats es fs
        → IsPermutation (blocks_within ks (laid (rows_above 0 c (rows ++ (tree ∷ []) ∷ []) keys xs)))
        (row_blocks ks (rows ++ (tree ∷ []) ∷ []) ++ blocks_within ks (laid xs))
        → IsPermutation (index_blocks ks x) (node_block ks tree ∷ row_blocks ks rows ++ map (leaf_block ks) ats)
    named ks c rows ats tree keys es fs xs x is are moved =
        let left : blocks_within ks (laid (rows_above 0 c (rows ++ (tree ∷ []) ∷ []) keys xs)) ≡ index_blocks ks x =
        ap (λ (ys : List GroupIndex). blocks_within ks (laid ys)) is ∙ append-nil (index_blocks ks x) in
        let leafs : blocks_within ks (laid xs) ≡ map (leaf_block ks) ats =
        ap (λ (ys : List GroupIndex). blocks_within ks (laid ys)) are ∙ leaf_blocks ks (2 * ks.leaf) ats es fs in
        rw (left, leafs, root_blocks ks rows tree) at moved

    -- what is gathered of the symbol table nodes under one root
    gathered : {A : Type 0} (g : LeafNode → List A) (x : GroupIndex) (ys xs : List GroupIndex) → ys ≡ x ∷ []
        → gather_in (λ n. []) g (laid ys) ≡ gather_in (λ n. []) g (laid xs)
        → gather (λ n. []) g x ≡ gather_in (λ n. []) g (laid xs)
    gathered {A} g x ys xs is same = sym (append-nil (gather {A = A} (λ n. []) g x))
        ∙ ap (λ (ys : List GroupIndex). gather_in {A = A} (λ n. []) g (laid ys)) (sym is) ∙ same

    one_offsets : (x : GroupIndex) (ys : List GroupIndex) → ys ≡ x ∷ [] → offsets_within (laid ys) ≡ index_offsets x
    one_offsets x ys is = ap (λ (ys : List GroupIndex). offsets_within (laid ys)) is ∙ append-nil (index_offsets x)

    uses_of : (ks : Ks) (c base : ℕ) (rows : List (List ℕ)) (ats : List ℕ) (tree : ℕ) (es : List SnodEntry)
        (fs : List Found) (x : GroupIndex) → rows_above 0 c (rows ++ (tree ∷ []) ∷ [])
        (leaf_keys (2 * ks.leaf) base ats es) (leaves (2 * ks.leaf) ats es fs) ≡ x ∷ []
        → length es ≤ 2 * ks.leaf * length ats
        → HaveRoom c (length (leaves (2 * ks.leaf) ats es fs)) (rows ++ (tree ∷ []) ∷ [])
        → ((o : ℕ) → Contains (index_offsets x) o → (o ≡ base) ⊎ Contains (flat_map entry_offsets es) o)
        × ((o : ℕ) → Contains (flat_map entry_offsets es) o → Contains (index_offsets x) o)
    uses_of ks c base rows ats tree es fs x is le fits =
        let keys = leaf_keys (2 * ks.leaf) base ats es in
        let xs = leaves (2 * ks.leaf) ats es fs in
        let all_rows = rows ++ (tree ∷ []) ∷ [] in
        let leafs = leaf_offsets (2 * ks.leaf) ats es fs le in
        let same = one_offsets x (rows_above 0 c all_rows keys xs) is in (
          λ o used. elim (rows_use 0 c all_rows keys xs o (subst (λ (l : List ℕ). Contains l o) (sym same) used)) [
            | inl key ↦ leaf_keys_are (2 * ks.leaf) base ats es o key
            | inr below ↦ inr (subst (λ (l : List ℕ). Contains l o) leafs below)
          ],
          λ o used. subst (λ (l : List ℕ). Contains l o) same (rows_keep 0 c all_rows keys xs o fits
              (subst (λ (l : List ℕ). Contains l o) (sym leafs) used)),
        )

    first_is : (ks : Ks) (c base : ℕ) (rows : List (List ℕ)) (ats : List ℕ) (tree : ℕ) (es : List SnodEntry)
        (fs : List Found) (x : GroupIndex) → rows_above 0 c (rows ++ (tree ∷ []) ∷ [])
        (leaf_keys (2 * ks.leaf) base ats es) (leaves (2 * ks.leaf) ats es fs) ≡ x ∷ []
        → HaveRoom c (length (leaves (2 * ks.leaf) ats es fs)) (rows ++ (tree ∷ []) ∷ []) → 0 < length ats
        → Contains (index_offsets x) base
    first_is ks c base rows ats tree es fs x is fits some =
        let xs = leaves (2 * ks.leaf) ats es fs in
        let all_rows = rows ++ (tree ∷ []) ∷ [] in
        let more = first_key (2 * ks.leaf) base ats es in
        let same : rows_above 0 c all_rows (base ∷ more.0) xs ≡ x ∷ [] =
        ap (λ (keys : List ℕ). rows_above 0 c all_rows keys xs) (sym more.1) ∙ is in
        subst (λ (l : List ℕ). Contains l base) (one_offsets x (rows_above 0 c all_rows (base ∷ more.0) xs) same)
        (rows_first 0 c all_rows base more.0 xs (omega (arith, length-append rows ((tree ∷ []) ∷ [])))
        (omega (arith, some, leaves_length (2 * ks.leaf) ats es fs)) fits)

    kept_root : (s : List ℕ) (base c : ℕ) (ats : List ℕ) (es : List SnodEntry) (fs : List Found) (ks : Ks)
        (rows : List (List ℕ)) (tree : ℕ) (x : GroupIndex)
        → rows_above 0 c (rows ++ (tree ∷ []) ∷ []) (leaf_keys (2 * ks.leaf) base ats es)
        (leaves (2 * ks.leaf) ats es fs) ≡ x ∷ []
        → HaveRoom c (length (leaves (2 * ks.leaf) ats es fs)) (rows ++ (tree ∷ []) ∷ []) → HasText s base []
        → base ≡ 0 → IsKeptGroup s x
    kept_root s base c ats es fs ks rows tree x is fits text begin =
        let xs = leaves (2 * ks.leaf) ats es fs in
        let more = first_key (2 * ks.leaf) base ats es in
        let begins : leaf_keys (2 * ks.leaf) base ats es ≡ 0 ∷ more.0 =
        more.1 ∙ ap (λ (k : ℕ). k ∷ more.0) begin in
        let all = rows_kept 0 c (rows ++ (tree ∷ []) ∷ []) more.0 xs (leaves_kept (2 * ks.leaf) ats es fs) fits in
        let same : rows_above 0 c (rows ++ (tree ∷ []) ∷ []) (0 ∷ more.0) xs ≡ x ∷ [] =
        ap (λ (keys : List ℕ). rows_above 0 c (rows ++ (tree ∷ []) ∷ []) keys xs) (sym begins) ∙ is in
        one_root s x (subst (λ (k : ℕ). HasText s k []) begin text) (subst AreKept same all)

pub group_laid : GroupLaid
group_laid b ks s base ats rows tree es fs text at_zero h o le leafs room spelled =
    (group_laid_over b ks s base ats rows tree es fs text at_zero h o le leafs room spelled).laid
