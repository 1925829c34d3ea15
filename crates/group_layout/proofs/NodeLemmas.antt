-- What blocks tell from addresses and keys alone are the nodes of the rows.
use Rattle.std.proofs.Common.{◌≡◌, ℕ, zero, suc, ◌*◌, List, [], ◌∷◌, length, take, drop, map, refl, ◌∙◌, ap, subst}
use Rattle.std.proofs.lemmas.List.{take-map, drop-map}
use Rattle.outside.specs.Array.{Array}
use Rattle.h5_base.specs.Fields.{undefined}
use Rattle.file_model.specs.Groups.{Ks, GroupIndex, address_of}
use Rattle.group_layout.specs.Rows.{keys_above, row_above, AreSpelled}
use Rattle.group_layout.specs.Nodes.{nodes_above, AreNodesSpelled, AllNodesSpelled, NodesSuffice}

count_addresses : (n : ℕ) (xs : List GroupIndex) → length (take n (map address_of xs)) ≡ length (take n xs)
count_addresses zero xs = refl
count_addresses (suc n) [] = refl
count_addresses (suc n) (x ∷ xs) = ap suc (count_addresses n xs)

-- the keys of a row depend on how many stand below it alone
same_keys : (room : ℕ) (ats keys : List ℕ) (xs : List GroupIndex)
    → keys_above room ats keys (map address_of xs) ≡ keys_above room ats keys xs
same_keys room [] [] xs = refl
same_keys room [] (k ∷ keys) xs = refl
same_keys room (at ∷ ats) [] xs = refl
same_keys room (at ∷ ats) (k ∷ keys) xs =
    let count = count_addresses room xs in
    let left = drop-map address_of room xs in
    ap (λ (l : List ℕ). k ∷ l) (ap (λ (n : ℕ). keys_above room ats (drop n (k ∷ keys)) (drop room (map address_of xs)))
    count ∙ ap (λ (l : List ℕ). keys_above room ats (drop (length (take room xs)) (k ∷ keys)) l) left
    ∙ same_keys room ats (drop (length (take room xs)) (k ∷ keys)) (drop room xs))

row_addresses : (level room before : ℕ) (ats keys : List ℕ) (xs : List GroupIndex)
    → ats ≡ map address_of (row_above level room before ats keys xs)
row_addresses level room before [] keys xs = refl
row_addresses level room before (at ∷ ats) keys xs =
    ap (λ (l : List ℕ). at ∷ l) (row_addresses level room at ats (drop (length (take room xs)) keys) (drop room xs))

row_spelled : (b : Array) (ks : Ks) (level room before : ℕ) (ats keys : List ℕ) (xs : List GroupIndex)
    → AreNodesSpelled b ks ats (nodes_above level room before ats keys (map address_of xs))
    → AreSpelled b ks (row_above level room before ats keys xs)
row_spelled b ks level room before [] keys xs h = tt
row_spelled b ks level room before (at ∷ ats) keys xs h =
    let own = rw (count_addresses room xs, take-map address_of room xs) at h.0 in
    let later = rw (count_addresses room xs, drop-map address_of room xs) at h.1 in
    (own, row_spelled b ks level room at ats (drop (length (take room xs)) keys) (drop room xs) later)

pub nodes_suffice : NodesSuffice
nodes_suffice b ks level [] keys xs h = tt
nodes_suffice b ks level (ats ∷ rows) keys xs h =
    let c : ℕ = 2 * ks.internal in
    let above = keys_above c ats keys xs in
    let ys = row_above level c undefined ats keys xs in
    let named = subst (λ (l : List ℕ). AllNodesSpelled b ks (suc level) rows l ats) (same_keys c ats keys xs) h.1 in
    let next = subst (λ (l : List ℕ). AllNodesSpelled b ks (suc level) rows above l)
    (row_addresses level c undefined ats keys xs) named in
    (row_spelled b ks level c undefined ats keys xs h.0, nodes_suffice b ks (suc level) rows above ys next)
