-- The file with an edited tree is held.
use Rattle.std.proofs.Common.{◌≡◌, Bool, true, false, cond, List, [], ◌∷◌, ◌++◌, Ok, refl, sym, ◌∙◌, ap, subst, inl, inr, Option, None, Some, ℕ}
use Rattle.std.specs.List.Sorted.{IsPermutation}
use Rattle.std.proofs.lemmas.List.Sorted.{IsPermutation-sym, IsPermutation-cons}
use Rattle.outside.specs.Blocks.{Block, Bounds, AreKept}
use Rattle.h5_base.specs.declared.extent.MemClass.TheVariants.{Super}
use Rattle.super_codec.specs.Super.{super_len}
use Rattle.super_codec.specs.declared.superblock.Superblock.{Superblock}
use Rattle.object_model.specs.Tree.{Group, Leaf, Empty, Link, Name, same_name, walk, edit, replace}
use Rattle.object_model.proofs.TreeLemmas.{walk-edit}
use Rattle.file_model.specs.Holds.{Full, FullLinks, GroupAt, IsHeld, blocks_of, blocks_in, target_of, ks_of, HasDriver, plain}
use Rattle.outside.specs.Array.{Array}
use Rattle.file_model.specs.Laws.{beside, beside_in, Rises, all_blocks}
use Rattle.file_model.specs.EditLaws.{BesideEdit, FileBlocks, EditFull, EditHolds, DriverStays, EndFull, AreApartFrom, file_beside}
use Rattle.file_model.proofs.FrameBytes.{agree_left, agree_right}
use Rattle.file_model.proofs.FrameLemmas.{frame, kept_stays, super_stays, driver_stays}
use Rattle.file_model.proofs.EditLemmas.{edit_held, plain_edit}
use Rattle.file_model.proofs.BlockOrder.{kept_order, kept_both, kept_together}
use Rattle.file_model.proofs.PathBlocks.{path_blocks, behind}

-- ---- blocks beside the path

beside_links : (n : Name) (ns : List Name) (f : Full → Full) (ls : FullLinks) → ((x : Full) → beside ns (edit ns f x) ≡ beside ns x) → beside_in n ns (replace ls n (edit ns f)) ≡ beside_in n ns ls
beside_links n ns f Empty below = refl
beside_links n ns f (Link m t rest) below = go (same_name m n) refl (beside_links n ns f rest below)
  where
    go : (s : Bool) → same_name m n ≡ s → beside_in n ns (replace rest n (edit ns f)) ≡ beside_in n ns rest
        → beside_in n ns (cond s (Link m (edit ns f t) rest) (Link m t (replace rest n (edit ns f)))) ≡ cond s (beside ns t ++ blocks_in rest) (blocks_of t ++ beside_in n ns rest)
    go true is later = rw is (ap (λ (bs : List Block). bs ++ blocks_in rest) (below t))
    go false is later = rw is (ap (λ (bs : List Block). blocks_of t ++ bs) later)

pub beside_edit : BesideEdit
beside_edit [] f t = refl
beside_edit (n ∷ ns) f (Leaf l) = refl
beside_edit (n ∷ ns) f (Group g ls) = ap (λ (bs : List Block). g.own ++ bs) (beside_links n ns f ls (beside_edit ns f))

pub file_blocks : FileBlocks
file_blocks s driver p t u h =
    let first : Block = record { start = 0; len = super_len s.version } in
    IsPermutation-cons first _ _ (behind driver (blocks_of t) (beside p t) (blocks_of u) (path_blocks p t u h))

-- ---- the file

target_edit : (p : List Name) (t u v : Full) → walk t p ≡ Ok u → target_of v ≡ target_of u → target_of (edit p (λ _. v) t) ≡ target_of t
target_edit [] t u v h same = let here : t ≡ u = cc in same ∙ ap target_of (sym here)
target_edit (n ∷ ns) (Group g ls) u v h same = refl
target_edit (n ∷ ns) (Leaf l) u v h same = refl

same_root : (g g' : GroupAt) (ls ls' : FullLinks) → target_of (Group g' ls') ≡ target_of (Group g ls) → g'.header_at ≡ g.header_at
same_root g g' ls ls' h = cc

-- the blocks beside the path are kept, and so all blocks with those of the new object
edit_kept : (e f : Bounds) (s : Superblock) (driver : List Block) (p : List Name) (t u v : Full) → walk t p ≡ Ok u → Rises e f → AreKept e (all_blocks s driver t)
    → AreKept f (blocks_of v) → AreApartFrom (blocks_of v) (file_beside s driver p t) → AreKept f (all_blocks s driver (edit p (λ _. v) t))
edit_kept e f s driver p t u v on r h new apart =
    let old = kept_order e _ _ (file_blocks s driver p t u on) h in
    let stay = kept_stays e f (file_beside s driver p t) r ((kept_together e (file_beside s driver p t) (blocks_of u)).0 old).0 in
    let all = kept_both f (file_beside s driver p t) (blocks_of v) stay new apart in
    let moved : IsPermutation (all_blocks s driver (edit p (λ _. v) t)) (file_beside s driver p t ++ blocks_of v) =
    subst (λ (bs : List Block). IsPermutation (all_blocks s driver (edit p (λ _. v) t)) ((record { start = 0; len = super_len s.version } ∷ driver ++ bs) ++ blocks_of v)) (beside_edit p (λ _. v) t)
    (file_blocks s driver p (edit p (λ _. v) t) v (walk-edit p (λ _. v) t u on)) in
    kept_order f _ _ (IsPermutation-sym _ _ moved) all

pub edit_full : EditFull
edit_full b c e f s g g' ls ls' p u v h on same new r agree kept apart is =
    let t = Group g ls in
    let driver = agree_left b c h.driver (beside p t) agree.1 in
    let held = edit_held b c (ks_of s) p t u v on h.held (agree_right b c h.driver (beside p t) agree.1) new same in
    let target : target_of (Group g' ls') ≡ target_of (Group g ls) = ap target_of (sym is) ∙ target_edit p t u v on same in
    record {
      super = super_stays b c e f s (r.ends Super) agree.0 h.super;
      driver = h.driver;
      driver_is = subst (λ o. HasDriver c o s.driver_at h.driver) (sym r.own) (driver_stays b c e.own s.driver_at h.driver driver h.driver_is);
      root = same_root g g' ls ls' target ∙ h.root;
      held = subst (λ (x : Full). IsHeld c (ks_of s) x) is held;
      kept = subst (λ (x : Full). AreKept f (all_blocks s h.driver x)) is (edit_kept e f s h.driver p t u v on r h.kept kept apart);
    }

pub edit_holds : EditHolds
edit_holds b c e f s g g' ls ls' p u v h on same new r agree kept apart is = record {
  super = s;
  root = g';
  links = ls';
  full = edit_full b c e f s g g' ls ls' p u v h on same new r agree kept apart is;
  tree = sym (plain_edit p (Group g ls) v) ∙ ap plain is;
}

one_driver : (b : Array) (own : Option (List ℕ)) (at : ℕ) (xs ys : List Block) → HasDriver b own at xs → HasDriver b own at ys → xs ≡ ys
one_driver b None at xs ys h k = h ∙ sym k
one_driver b (Some ident) at xs ys (inl h) (inl k) = h.1 ∙ sym k.1
one_driver b (Some ident) at xs ys (inl h) (inr k) = absurd (k.0 h.0)
one_driver b (Some ident) at xs ys (inr h) (inl k) = absurd (h.0 k.0)
one_driver b (Some ident) at xs ys (inr h) (inr k) = h.2 ∙ sym k.2

pub driver_same : DriverStays
driver_same b c e f s r g g' ls ls' h h' rises place agree =
    let old = driver_stays b c e.own s.driver_at h.driver agree h.driver_is in
    let new = subst (λ n. HasDriver c e.own n h'.driver) place (subst (λ o. HasDriver c o r.driver_at h'.driver) rises.own h'.driver_is) in
    one_driver c e.own s.driver_at h'.driver h.driver new old

pub end_full : EndFull
end_full b c e f s n g ls h r super agree =
    let driver = agree_left b c h.driver (blocks_of (Group g ls)) agree in
    record {
      super = super;
      driver = h.driver;
      driver_is = subst (λ o. HasDriver c o s.driver_at h.driver) (sym r.own) (driver_stays b c e.own s.driver_at h.driver driver h.driver_is);
      root = h.root;
      held = frame b c (ks_of s) (Group g ls) (agree_right b c h.driver (blocks_of (Group g ls)) agree) h.held;
      kept = kept_stays e f (all_blocks s h.driver (Group g ls)) r h.kept;
    }
