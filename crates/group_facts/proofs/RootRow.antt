-- The uppermost row is that of the root's children.
use Rattle.std.proofs.Common.{◌≡◌, ℕ, zero, suc, List, [], ◌∷◌, ◌++◌, length, refl, sym, ◌∙◌, ap, arith}
use Rattle.std.specs.List.{flat_map}
use Rattle.outside.specs.Array.{Array}
use Rattle.file_model.specs.Index.{Bottom, Node, NoMore, Next, each}
use Rattle.file_model.specs.Groups.{Ks, AreIndexes, GroupIndexes, address_of}
use Rattle.group_facts.specs.Rows.{NothingBelow, RootsChildren, top_row}
use Rattle.group_facts.proofs.IndexRows.{below, bottoms, leafs, rows_above_below, rows_in, rows_root}

top_pushed : (lowest : List ℕ) (rows : List (List ℕ)) (row : List ℕ) → top_row lowest (rows ++ row ∷ []) ≡ row
top_pushed lowest [] row = refl
top_pushed lowest (r ∷ rows) row = top_pushed r rows row

top_is : (b : Array) (ks : Ks) (s : List ℕ) (level : ℕ) (xs : GroupIndexes) → AreIndexes b ks s level xs
    → top_row (leafs xs) (rows_in xs level) ≡ each address_of xs
top_is b ks s zero xs h = bottoms b ks s xs h
top_is b ks s (suc level) xs h =
    ap (top_row (leafs xs)) (rows_above_below b ks s level xs h)
    ∙ top_pushed (leafs xs) (rows_in (below xs) level) (each address_of xs)

pub roots_children : RootsChildren
roots_children b ks s level (Bottom l) h = absurd h
roots_children b ks s level (Node n xs) h =
    ap length (h.0.children_are ∙ sym (top_is b ks s level xs h.1)
    ∙ ap (top_row (leafs xs)) (sym (rows_root n xs level)))

no_rows : (level : ℕ) → flat_map (λ (row : List ℕ). row) (rows_in NoMore level) ≡ []
no_rows zero = refl
no_rows (suc level) = no_rows level

pub nothing_below : NothingBelow
nothing_below b ks s level (Bottom l) h none = absurd h
nothing_below b ks s level (Node n NoMore) h none = (
  refl,
  refl,
  ap (flat_map (λ (row : List ℕ). row)) (rows_root n NoMore level) ∙ no_rows level,
)
nothing_below b ks s level (Node n (Next x xs)) h none = absurd (omega (arith, ap length h.0.children_are, none))
