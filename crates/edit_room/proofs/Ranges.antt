-- Ranges that are listed one after the other, and then put in order.
use Rattle.std.proofs.Common.{◌≡◌, ℕ, ◌+◌, ◌<◌, List, [], ◌∷◌, ◌++◌, length, take, get_or, append_assoc, append-nil, ap}
use Rattle.std.proofs.Common.{◌∙◌, subst}
use Rattle.std.specs.List.{flat_map}
use Rattle.std.specs.List.Sorted.{IsPermutation}
use Rattle.std.proofs.lemmas.Grind.{flat_map-append}
use Rattle.std.proofs.lemmas.List.{take_more}
use Rattle.std.proofs.lemmas.List.Sorted.{IsPermutation-map, IsPermutation-sym}
use Rattle.h5_base.specs.declared.extent.Extent.{Extent}
use Rattle.outside.specs.Blocks.{Block}
use Rattle.outside.specs.Space.{SpaceView}
use Rattle.block_space.specs.Catalogue.{block_of, blocks_of}
use Rattle.block_space.specs.Plans.{classes}
use Rattle.block_space.specs.declared.plan.EditPlan.{EditPlan}
use Rattle.edit_room.specs.Touched.{cut_range, filled_ranges, touched_blocks}

-- the blocks of one member more
pub flat_more : {X : Type 0} (f : X → List Block) (xs : List X) (i : ℕ) (d : X) (given old new : List Block)
    → i < length xs → old ≡ given ++ flat_map f (take i xs) → new ≡ old ++ f (get_or xs i d)
    → new ≡ given ++ flat_map f (take (i + 1) xs)
flat_more f xs i d given old new l before one =
    let more : flat_map f (take (i + 1) xs) ≡ flat_map f (take i xs) ++ f (get_or xs i d) =
    ap (flat_map f) (take_more xs i d l)
    ∙ flat_map-append f (take i xs) (get_or xs i d ∷ [])
    ∙ ap (λ (bs : List Block). flat_map f (take i xs) ++ bs) (append-nil (f (get_or xs i d))) in
    rw (one, before, more) (append_assoc given (flat_map f (take i xs)) (f (get_or xs i d)))

-- ranges in another order
pub ordered_blocks : (old new : List Extent) (all : List Block) → blocks_of old ≡ all → IsPermutation old new
    → IsPermutation (blocks_of new) all
ordered_blocks old new all is ordered =
    subst (IsPermutation (blocks_of new)) is (IsPermutation-sym _ _ (IsPermutation-map block_of _ _ ordered))

-- the same where the member is known
pub flat_more_item : {X : Type 0} (f : X → List Block) (xs : List X) (i : ℕ) (x : X) (given old new : List Block)
    → i < length xs → x ≡ get_or xs i x → old ≡ given ++ flat_map f (take i xs) → new ≡ old ++ f x
    → new ≡ given ++ flat_map f (take (i + 1) xs)
flat_more_item f xs i x given old new l is before one =
    flat_more f xs i x given old new l before (one ∙ ap (λ y. old ++ f y) is)

-- ranges listed in two steps, first those of the writes, then those behind the ends
pub both_listed : (v : SpaceView) (plan : EditPlan) (none first all writes : List Extent) → none ≡ []
    → writes ≡ plan.writes → blocks_of first ≡ blocks_of none ++ filled_ranges writes
    → blocks_of all ≡ blocks_of first ++ flat_map (cut_range v plan.needs) classes
    → blocks_of all ≡ touched_blocks v plan
both_listed v plan none first all writes empty same one two =
    let start : blocks_of first ≡ filled_ranges plan.writes = one
    ∙ ap (λ (xs : List Extent). blocks_of xs ++ filled_ranges writes) empty ∙ ap filled_ranges same in
    two ∙ ap (λ (bs : List Block). bs ++ flat_map (cut_range v plan.needs) classes) start
