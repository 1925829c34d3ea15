-- The nodes of a row, one by one from the left.
use Rattle.std.proofs.Common.{◌≡◌, ℕ, suc, ◌+◌, ◌-◌, ◌*◌, ◌<◌, min, List, [], ◌∷◌, ◌++◌, length, take, drop}
use Rattle.std.proofs.Common.{get_or, refl, sym, ◌∙◌, ap, arith}
use Rattle.std.specs.List.{All}
use Rattle.std.proofs.lemmas.List.{length-take, length-drop, drop-drop, drop_more, append_assoc}
use Rattle.std.proofs.lemmas.List.Elements.{All-nil, All-cons}
use Rattle.node_codec.specs.GroupNodes.{FitsGroupNode}
use Rattle.node_codec.specs.declared.group_node.GroupNode.{GroupNode}
use Rattle.file_model.specs.Index.{next_of}
use Rattle.group_layout.specs.Nodes.{nodes_above}
use Rattle.group_layout.proofs.Parts.{part_length, part_rest, part_is}

-- a node with these siblings, over a part of a row
abbrev pub part_node : (level left right : ℕ) (keys children : List ℕ) → GroupNode
part_node level left right keys children =
    record { level = level; left = left; right = right; keys = keys; children = children }

pub nodes_step : (level room left : ℕ) (done : List GroupNode) (ats keys below : List ℕ) (i from to : ℕ)
    → i < length ats → to ≡ from + min room (length below - from)
    → done ++ nodes_above level room left (drop i ats) (drop from keys) (drop from below)
    ≡ (done ++ part_node level left (next_of (λ (a : ℕ). a) (drop (i + 1) ats)) (take (to + 1 - from) (drop from keys))
    (take (to - from) (drop from below)) ∷ [])
    ++ nodes_above level room (get_or ats i 0) (drop (i + 1) ats) (drop to keys) (drop to below)
nodes_step level room left done ats keys below i from to lt is =
    let m : ℕ = min room (length below - from) in
    let at : ℕ = get_or ats i 0 in
    let next = drop (i + 1) ats in
    let right : ℕ = next_of (λ (a : ℕ). a) next in
    let part = take room (drop from below) in
    let own = take (suc (length part)) (drop from keys) in
    let node = λ (ks cs : List ℕ). part_node level left right ks cs in
    let count : length part ≡ m = part_length room from below in
    let wide : suc (length part) ≡ to + 1 - from = omega (arith, count, is) in
    ap (λ (l : List ℕ). done ++ nodes_above level room left l (drop from keys) (drop from below)) (drop_more ats i 0 lt)
    ∙ ap (λ (n : ℕ). done ++ node own part ∷ nodes_above level room at next (drop n (drop from keys))
    (drop room (drop from below))) count
    ∙ ap (λ (l : List ℕ). done ++ node own part ∷ nodes_above level room at next l (drop room (drop from below)))
    (drop-drop m from keys ∙ ap (λ (n : ℕ). drop n keys) (sym is))
    ∙ ap (λ (l : List ℕ). done ++ node own part ∷ nodes_above level room at next (drop to keys) l)
    (part_rest room from below ∙ ap (λ (n : ℕ). drop n below) (sym is))
    ∙ ap (λ (l : List ℕ). done ++ node own l ∷ nodes_above level room at next (drop to keys) (drop to below))
    (sym (part_is room from to below is))
    ∙ ap (λ (n : ℕ). done ++ node (take n (drop from keys)) (take (to - from) (drop from below))
    ∷ nodes_above level room at next (drop to keys) (drop to below)) wide
    ∙ sym (append_assoc done (node (take (to + 1 - from) (drop from keys)) (take (to - from) (drop from below)) ∷ []) _)

pub count_nodes : (level room left : ℕ) (ats keys below : List ℕ)
    → length (nodes_above level room left ats keys below) ≡ length ats
count_nodes level room left [] keys below = refl
count_nodes level room left (at ∷ ats) keys below =
    ap suc (count_nodes level room at ats (drop (length (take room below)) keys) (drop room below))

pub nodes_fit : (k level left : ℕ) (ats keys below : List ℕ) → length keys ≡ length below + 1
    → All (FitsGroupNode k) (nodes_above level (2 * k) left ats keys below)
nodes_fit k level left [] keys below more = All-nil (FitsGroupNode k)
nodes_fit k level left (at ∷ ats) keys below more =
    let room : ℕ = 2 * k in
    let part = take room below in
    let own = take (suc (length part)) keys in
    let behind = drop (length part) keys in
    let count : length part ≡ min room (length below) = length-take room below in
    let node = part_node level left (next_of (λ (a : ℕ). a) ats) own part in
    let fits : FitsGroupNode k node = record {
      room = omega (arith, count);
      one_more = omega (arith, count, length-take (suc (length part)) keys);
    } in
    let left_over : length behind ≡ length (drop room below) + 1 =
    omega (arith, count, length-drop (length part) keys, length-drop room below) in
    All-cons (FitsGroupNode k) node (nodes_above level room at ats behind (drop room below)) fits
    (nodes_fit k level at ats behind (drop room below) left_over)

pub same_nodes : (level room left : ℕ) (ats keys keyed below under : List ℕ) → keys ≡ keyed → below ≡ under
    → nodes_above level room left ats keys below ≡ nodes_above level room left ats keyed under
same_nodes level room left ats keys keyed below under k b =
    ap (λ (l : List ℕ). nodes_above level room left ats l below) k ∙ ap (nodes_above level room left ats keyed) b
