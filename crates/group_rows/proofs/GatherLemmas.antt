-- What is gathered of nodes one after the other.
use Rattle.std.proofs.Common.{◌≡◌, ℕ, ◌+◌, ◌<◌, ◌≤◌, List, [], ◌∷◌, ◌++◌, length, map, take, get_or, refl, sym, ◌∙◌, ap}
use Rattle.std.proofs.Common.{subst, arith}
use Rattle.std.specs.List.{flat_map}
use Rattle.std.proofs.lemmas.List.{append_assoc, append-nil, length-append, take_more, take_all}
use Rattle.std.proofs.lemmas.List.Concat.{flat_map-append}
use Rattle.std.proofs.lemmas.List.Folds.{length-flat_map-take}
use Rattle.outside.specs.Array.{Array}
use Rattle.group_rows.proofs.ListLemmas.{map-append}
use Rattle.file_model.specs.Groups.{key_offsets, entry_offsets}
use Rattle.plan_pieces.specs.declared.image.Image.{Image}
use Rattle.node_codec.specs.declared.snod.SnodEntry.{SnodEntry}
use Rattle.group_rows.specs.declared.gathered.Gathered.{Gathered}
use Rattle.group_heap.specs.Greatest.{IsGreatest}
use Rattle.group_rows.specs.Rows.{node_at, entries_at, node_image, leaf_image, row_children, row_offsets, row_entries}
use Rattle.group_rows.specs.Gathering.{Adds, AddsNodes, AddsLeaves}

pub adds_none : (a : Gathered) → Adds [] [] 0 a a
adds_none a = record {
  images = sym (append-nil a.images.items);
  last = λ os h. subst (λ (l : List ℕ). IsGreatest l a.last) (sym (append-nil os)) h;
  left = omega arith;
}

pub adds_then : (is js : List Image) (os ps : List ℕ) (n m : ℕ) (a b c : Gathered) → Adds is os n a b
    → Adds js ps m b c → Adds (is ++ js) (os ++ ps) (n + m) a c
adds_then is js os ps n m a b c h k = record {
  images = k.images ∙ ap (λ (l : List Image). l ++ js) h.images ∙ append_assoc a.images.items is js;
  last = λ qs g. subst (λ (l : List ℕ). IsGreatest l c.last) (append_assoc qs os ps) (k.last (qs ++ os) (h.last qs g));
  left = omega (arith, h.left, k.left);
}

as_lists : (is js : List Image) (os ps : List ℕ) (n m : ℕ) (a c : Gathered) → is ≡ js → os ≡ ps → n ≡ m
    → Adds js ps m a c → Adds is os n a c
as_lists is js os ps n m a c e f g h =
    subst (λ (x : List Image). Adds x os n a c) (sym e) (subst (λ (x : List ℕ). Adds js x n a c) (sym f)
    (subst (λ (x : ℕ). Adds js ps x a c) (sym g) h))

pub nodes_then : (b : Array) (k : ℕ) (xs ys : List ℕ) (a m c : Gathered) → AddsNodes b k xs a m → AddsNodes b k ys m c
    → AddsNodes b k (xs ++ ys) a c
nodes_then b k xs ys a m c h g =
    as_lists _ (map (node_image b k) xs ++ map (node_image b k) ys) _ (row_offsets b k xs ++ row_offsets b k ys) _
    (length (row_children b k xs) + length (row_children b k ys)) a c (map-append (node_image b k) xs ys)
    (flat_map-append (λ (at : ℕ). key_offsets (node_at b k at)) xs ys)
    (ap (λ (l : List ℕ). length l) (flat_map-append (λ (at : ℕ). (node_at b k at).children) xs ys)
    ∙ length-append (row_children b k xs) (row_children b k ys))
    (adds_then (map (node_image b k) xs) (map (node_image b k) ys) (row_offsets b k xs) (row_offsets b k ys)
    (length (row_children b k xs)) (length (row_children b k ys)) a m c h g)

pub leaves_then : (b : Array) (k : ℕ) (xs ys : List ℕ) (a m c : Gathered) → AddsLeaves b k xs a m
    → AddsLeaves b k ys m c → AddsLeaves b k (xs ++ ys) a c
leaves_then b k xs ys a m c h g =
    let os = flat_map entry_offsets (row_entries b k xs) in
    let ps = flat_map entry_offsets (row_entries b k ys) in
    as_lists _ (map (leaf_image b k) xs ++ map (leaf_image b k) ys) _ (os ++ ps) _ 0 a c
    (map-append (leaf_image b k) xs ys)
    (ap (λ (l : List SnodEntry). flat_map entry_offsets l) (flat_map-append (entries_at b k) xs ys)
    ∙ flat_map-append entry_offsets (row_entries b k xs) (row_entries b k ys)) refl
    (adds_then (map (leaf_image b k) xs) (map (leaf_image b k) ys) os ps 0 0 a m c h g)

-- ---- one more of a row

pub nodes_more : (b : Array) (k : ℕ) (ats : List ℕ) (i : ℕ) (a m c : Gathered) → i < length ats
    → AddsNodes b k (take i ats) a m → AddsNodes b k (get_or ats i 0 ∷ []) m c → AddsNodes b k (take (i + 1) ats) a c
nodes_more b k ats i a m c lt h g =
    subst (λ (l : List ℕ). AddsNodes b k l a c) (sym (take_more ats i 0 lt))
    (nodes_then b k (take i ats) (get_or ats i 0 ∷ []) a m c h g)

pub leaves_more : (b : Array) (k : ℕ) (ats : List ℕ) (i : ℕ) (a m c : Gathered) → i < length ats
    → AddsLeaves b k (take i ats) a m → AddsLeaves b k (get_or ats i 0 ∷ []) m c
    → AddsLeaves b k (take (i + 1) ats) a c
leaves_more b k ats i a m c lt h g =
    subst (λ (l : List ℕ). AddsLeaves b k l a c) (sym (take_more ats i 0 lt))
    (leaves_then b k (take i ats) (get_or ats i 0 ∷ []) a m c h g)

-- all of it
pub nodes_all : (b : Array) (k : ℕ) (ats : List ℕ) (i : ℕ) (a c : Gathered) → length ats ≤ i
    → AddsNodes b k (take i ats) a c → AddsNodes b k ats a c
nodes_all b k ats i a c le h = subst (λ (l : List ℕ). AddsNodes b k l a c) (take_all i ats le) h

pub leaves_all : (b : Array) (k : ℕ) (ats : List ℕ) (i : ℕ) (a c : Gathered) → length ats ≤ i
    → AddsLeaves b k (take i ats) a c → AddsLeaves b k ats a c
leaves_all b k ats i a c le h = subst (λ (l : List ℕ). AddsLeaves b k l a c) (take_all i ats le) h

-- how many children are left for the node at an index
pub room_left : (b : Array) (k : ℕ) (ats : List ℕ) (i : ℕ) (a m : Gathered) → i < length ats
    → AddsNodes b k (take i ats) a m → length (row_children b k ats) ≤ a.left
    → length (node_at b k (get_or ats i 0)).children ≤ m.left
room_left b k ats i a m lt h le =
    omega (arith, h.left, length-flat_map-take (λ (at : ℕ). (node_at b k at).children) ats i 0 lt)
