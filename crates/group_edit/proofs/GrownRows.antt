-- Nodes that grow: the rows that are kept, and what is taken.
use Rattle.std.proofs.Common.{◌≡◌, ℕ, zero, suc, ◌+◌, ◌*◌, ◌-◌, ◌<◌, ◌^◌, List, [], ◌∷◌, ◌++◌, length, map, Some}
use Rattle.std.proofs.Common.{flat_map, refl, replicate, slice_get, sym, ◌∙◌, subst, arith}
use Rattle.std.proofs.lemmas.List.{length-append}
use Rattle.outside.specs.Space.{SpaceView}
use Rattle.block_space.specs.declared.plan.Needs.{Needs}
use Rattle.file_model.specs.Groups.{Ks}
use Rattle.group_room.specs.Index.{addresses}
use Rattle.group_layout.specs.Growth.{AreWider}
use Rattle.group_layout.specs.Laying.{ats_of}
use Rattle.group_layout.specs.declared.row.Row.{Row}
use Rattle.group_facts.specs.Rows.{top_row}
use Rattle.node_codec.specs.GroupNodes.{group_node_len}
use Rattle.group_edit.specs.Grown.{AreLeavesFor, IsGrown, kept_rows, next_node}

-- the uppermost row is the last
top_at : (leaves : List ℕ) (rows : List (List ℕ)) (row : List ℕ) (n : ℕ) → suc n ≡ length rows
    → slice_get rows n ≡ Some row → top_row leaves rows ≡ row
top_at leaves [] row n long is = absurd (omega (arith, long))
top_at leaves (r ∷ []) row zero long is = cc
top_at leaves (r ∷ []) row (suc n) long is = absurd (omega (arith, long))
top_at leaves (r ∷ s ∷ rows) row zero long is = absurd (omega (arith, long))
top_at leaves (r ∷ s ∷ rows) row (suc n) long is = top_at r (s ∷ rows) row n (omega (arith, long)) is

pub top_last : (leaves : List ℕ) (rows : List (List ℕ)) (row : List ℕ)
    → slice_get rows (length rows - 1) ≡ Some row → top_row leaves rows ≡ row
top_last leaves [] row is = absurd cc
top_last leaves (r ∷ rows) row is = top_at leaves (r ∷ rows) row (length rows) refl
    (subst (λ (n : ℕ). slice_get (r ∷ rows) n ≡ Some row) (omega arith) is)

module _ (v : SpaceView) (ks : Ks) (ahead behind : Needs) (count : ℕ) (leaves : List ℕ) (rows kept : List (List ℕ))
    (tree below at step : ℕ) (row : Row) (w : List Row) (kept_is : kept ≡ kept_rows leaves rows)
    (are : AreLeavesFor v ks.leaf ahead count leaves row behind) (below_is : below ≡ length row.old + length row.new)
    (at_is : at ≡ next_node v behind) (step_is : step ≡ group_node_len ks.internal)
    (wider : AreWider (2 * ks.internal) below kept (map ats_of w))
    (olds : map (λ (r : Row). r.old) w ≡ kept ++ replicate (length w - length kept) [])
    (news : at + step * length (flat_map (λ (r : Row). r.new) w) < 2 ^ 64 → flat_map (λ (r : Row). r.new) w
    ≡ addresses at step (length (flat_map (λ (r : Row). r.new) w))) where
  pub is_grown : IsGrown v ks ahead count leaves rows tree (record { leaves = row; rows = w; tree = tree })
  is_grown = record {
    behind = behind;
    are_leaves = are;
    wider = subst (λ (n : ℕ). AreWider (2 * ks.internal) n (kept_rows leaves rows) (map ats_of w))
        (below_is ∙ sym (length-append row.old row.new))
        (subst (λ (k : List (List ℕ)). AreWider (2 * ks.internal) below k (map ats_of w)) kept_is wider);
    olds = subst (λ (k : List (List ℕ)). map (λ (r : Row). r.old) w ≡ k ++ replicate (length w - length k) []) kept_is
        olds;
    news = λ fits. let taken = news (subst (λ (n : ℕ). n < 2 ^ 64)
        (λ i. sym at_is i + sym step_is i * length (flat_map (λ (r : Row). r.new) w)) fits) in
        subst (λ (l : List ℕ). flat_map (λ (r : Row). r.new) w ≡ l)
        (λ i. addresses (at_is i) (step_is i) (length (flat_map (λ (r : Row). r.new) w))) taken;
    root = refl;
  }
