-- The blocks of a tree beside a path, and those of what the path leads to.
use Rattle.std.proofs.Common.{◌≡◌, Bool, true, false, cond, List, [], ◌∷◌, ◌++◌, Option, Some, None, Ok, Err, refl, sym, ◌∙◌, ap, subst}
use Rattle.std.proofs.lemmas.List.{append_assoc}
use Rattle.std.specs.List.Sorted.{IsPermutation}
use Rattle.std.proofs.lemmas.List.Sorted.{IsPermutation-refl, IsPermutation-sym, IsPermutation-trans, IsPermutation-append_left, IsPermutation-append_right, IsPermutation-append_comm}
use Rattle.object_model.specs.declared.answer.Code.TheVariants.{Absent}
use Rattle.object_model.specs.Tree.{Group, Leaf, Empty, Link, Name, same_name, find, walk}
use Rattle.outside.specs.Blocks.{Block}
use Rattle.file_model.specs.Holds.{Full, FullLinks, GroupAt, blocks_of, blocks_in}
use Rattle.file_model.specs.Laws.{beside, beside_in}
use Rattle.file_model.specs.EditLaws.{PathBlocks, PathApart}
use Rattle.file_model.proofs.BlockOrder.{apart_order}

abbrev Leads : FullLinks → Name → List Name → Full → Type 0
Leads ls n ns u = (x : Full) × (find ls n ≡ Some x) × (walk x ns ≡ Ok u)

-- what a name leads to, on the way to the end of a path
pub leads_on : (g : GroupAt) (ls : FullLinks) (n : Name) (ns : List Name) (u : Full) → walk (Group g ls) (n ∷ ns) ≡ Ok u → Leads ls n ns u
leads_on g ls n ns u h = go (find ls n) refl
  where
    go : (o : Option Full) → find ls n ≡ o → Leads ls n ns u
    go None is = let none : walk (Group g ls) (n ∷ ns) ≡ Err Absent = rw is refl in cc
    go (Some x) is = (x, is, rw is at h)

-- a part in the middle goes behind
pub to_end : (ts xs us rest : List Block) → IsPermutation ts (xs ++ us) → IsPermutation (ts ++ rest) ((xs ++ rest) ++ us)
to_end ts xs us rest h = IsPermutation-trans _ _ _ (IsPermutation-append_left rest ts (xs ++ us) h)
    (rw (append_assoc xs us rest, append_assoc xs rest us) (IsPermutation-append_right xs _ _ (IsPermutation-append_comm us rest)))

pub behind : (xs ts rest us : List Block) → IsPermutation ts (rest ++ us) → IsPermutation (xs ++ ts) ((xs ++ rest) ++ us)
behind xs ts rest us h = rw (append_assoc xs rest us) (IsPermutation-append_right xs ts (rest ++ us) h)

links_blocks : (n : Name) (ns : List Name) (ls : FullLinks) (u : Full) → ((x : Full) → walk x ns ≡ Ok u → IsPermutation (blocks_of x) (beside ns x ++ blocks_of u))
    → Leads ls n ns u → IsPermutation (blocks_in ls) (beside_in n ns ls ++ blocks_of u)
links_blocks n ns Empty u below leads = let none = leads.1 in cc
links_blocks n ns (Link m t rest) u below leads = go (same_name m n) refl (links_blocks n ns rest u below)
  where
    go : (s : Bool) → same_name m n ≡ s → (Leads rest n ns u → IsPermutation (blocks_in rest) (beside_in n ns rest ++ blocks_of u))
        → IsPermutation (blocks_of t ++ blocks_in rest) (cond s (beside ns t ++ blocks_in rest) (blocks_of t ++ beside_in n ns rest) ++ blocks_of u)
    go true is later =
        let found : Some t ≡ Some leads.0 = rw is at leads.1 in
        let here : leads.0 ≡ t = cc in
        to_end (blocks_of t) (beside ns t) (blocks_of u) (blocks_in rest) (below t (ap (λ (x : Full). walk x ns) (sym here) ∙ leads.2))
    go false is later = behind (blocks_of t) (blocks_in rest) (beside_in n ns rest) (blocks_of u) (later (leads.0, rw is at leads.1, leads.2))

pub path_blocks : PathBlocks
path_blocks [] t u h = let here : t ≡ u = cc in subst (λ (x : Full). IsPermutation (blocks_of t) (blocks_of x)) here (IsPermutation-refl (blocks_of t))
path_blocks (n ∷ ns) (Leaf l) u h = cc
path_blocks (n ∷ ns) (Group g ls) u h =
    behind g.own (blocks_in ls) (beside_in n ns ls) (blocks_of u) (links_blocks n ns ls u (λ x on. path_blocks ns x u on) (leads_on g ls n ns u h))

pub path_apart : PathApart
path_apart p t u h =
    let moved = path_blocks p t u h in
    (apart_order _ _ moved, apart_order _ _ (IsPermutation-sym _ _ moved))
