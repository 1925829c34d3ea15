-- What is known of the group that a line edits, before the edit is planned: it is held, its blocks are in the catalogue,
-- and it has, or lacks, the name.
use Rattle.std.proofs.Common.{◌≡◌, ◌≢◌, ◌⊎◌, inl, inr, ℕ, Bool, true, false, cond, List, [], ◌∷◌, ◌++◌, Option, Some, None, Ok}
use Rattle.std.proofs.Common.{refl, sym, ◌∙◌, ap, subst, ⊎_elim}
use Rattle.std.specs.List.{Contains}
use Rattle.std.specs.List.Sorted.{IsPermutation}
use Rattle.std.proofs.lemmas.List.{append_assoc}
use Rattle.std.proofs.lemmas.List.Sorted.{IsPermutation-append_left, IsPermutation-trans}
use Rattle.outside.specs.Array.{Array}
use Rattle.outside.specs.Blocks.{Block}
use Rattle.outside.specs.Space.{SpaceView}
use Rattle.block_space.specs.Blocks.{Keeps, space_of}
use Rattle.block_space.specs.declared.blocks.Blocks.{Blocks}
use Rattle.block_space.proofs.Apart.{contains_cons, contains_head, contains_tail, none_contained}
use Rattle.object_model.specs.Tree.{Empty, Group, Link, Name, dir_of, find, last_of, same_name, walk}
use Rattle.object_model.proofs.TreeLemmas.{same_or_not}
use Rattle.file_model.specs.EditLaws.{file_beside}
use Rattle.file_model.specs.Groups.{Found, HasLinks}
use Rattle.file_model.specs.Headers.{header_blocks}
use Rattle.file_model.specs.Holds.{Full, FullLinks, GroupAt, blocks_in, founds, ks_of, target_of}
use Rattle.file_model.specs.Limits.{IsSmallHeap}
use Rattle.file_model.proofs.EditFull.{file_blocks}
use Rattle.file_model.proofs.UniqueGroups.{links_are}
use Rattle.super_codec.specs.declared.superblock.Superblock.{Superblock}
use Rattle.group_edit.specs.Links.{HasName, HoldsGroup}
use Rattle.group_rows.specs.Reading.{IsHeld}
use Rattle.group_rows.specs.declared.group.GroupAt.{GroupAt as GroupPlace}
use Rattle.group_lines.specs.Lines.{place_of}
use Rattle.group_lines.specs.States.{StandsFor, plain_setting}
use Rattle.group_lines.proofs.Around.{to_front}
use Rattle.group_lines.proofs.Plans.{group, was}
use Rattle.group_lines.proofs.Walked.{walked_fits}
use Rattle.session_model.specs.State.{State, full_of}
use Rattle.h5_session.specs.Session.{IsSameButEnd}

-- ---- names

pub lacks_name : (ls : FullLinks) (n : Name) → find ls n ≡ None → HasName (founds ls) n → ⊥
lacks_name Empty n none has = none_contained has.link has.one
lacks_name (Link m t rest) n none has =
    go (same_or_not m n) (contains_cons (record { name = m; target = target_of t }) (founds rest) has.link has.one)
    (λ on later. lacks_name rest n on (record { link = has.link; one = later; is = has.is }))
  where
    go : (same_name m n ≡ true) × (m ≡ n) ⊎ (same_name m n ≡ false) × (m ≢ n)
        → (record { name = m; target = target_of t } ≡ has.link) ⊎ Contains (founds rest) has.link
        → (find rest n ≡ None → Contains (founds rest) has.link → ⊥) → ⊥
    go (inl (same, is)) where_is below = let some : Some t ≡ None = rw same at none in cc
    go (inr (other, differ)) (inl here) below = differ (ap (λ (f : Found). f.name) here ∙ has.is)
    go (inr (other, differ)) (inr later) below = below (rw other at none) later

pub has_name : (ls : FullLinks) (n : Name) (u : Full) → find ls n ≡ Some u → HasName (founds ls) n
has_name Empty n u is = absurd cc
has_name (Link m t rest) n u is = go (same_or_not m n) (λ on. has_name rest n u on)
  where
    go : (same_name m n ≡ true) × (m ≡ n) ⊎ (same_name m n ≡ false) × (m ≢ n)
        → (find rest n ≡ Some u → HasName (founds rest) n) → HasName (founds (Link m t rest)) n
    go (inl (same, here)) below = record {
      link = record { name = m; target = target_of t };
      one = contains_head (record { name = m; target = target_of t }) (founds rest);
      is = here;
    }
    go (inr (other, differ)) below =
        let h = below (rw other at is) in
        record { link = h.link; one = contains_tail _ (founds rest) h.link h.one; is = h.is }

-- ---- the group

-- the place of a group is the same by two superblocks that differ in the end alone
pub same_place : (kept now : Superblock) (g : GroupAt) → IsSameButEnd kept now → place_of kept g ≡ place_of now g
same_place kept now g (end, is) = ap (λ (s : Superblock). place_of s g) is

module _ (v : SpaceView) (s : State) (met : List Block) (stands : StandsFor (plain_setting v) v s met) (dir : List Name)
    (parent : GroupAt) (below : FullLinks) (walked : walk (full_of s) dir ≡ Ok (Group parent below)) where
  abbrev own : List Block
  own = (was v s met stands dir parent below walked).index

  abbrev beside : List Block
  beside = file_beside s.super stands.held.driver dir (full_of s)

  abbrev header : List Block
  header = header_blocks parent.header_at (was v s met stands dir parent below walked).prefix
      (was v s met stands dir parent below walked).parts

  abbrev rest : List Block
  rest = beside ++ (header ++ blocks_in below)

  -- the group's blocks are some of the catalogue's
  among : IsPermutation met (own ++ (rest ++ stands.given_up))
  among = subst (IsPermutation met) (append_assoc own rest stands.given_up)
      (IsPermutation-trans _ _ _ stands.among (IsPermutation-append_left stands.given_up _ _
      (IsPermutation-trans _ _ _
      (file_blocks s.super stands.held.driver dir (full_of s) (Group parent below) walked)
      (subst (λ (g : List Block). IsPermutation (beside ++ (g ++ blocks_in below)) (own ++ rest))
      (sym (was v s met stands dir parent below walked).blocks) (to_front beside header own (blocks_in below))))))

  small : IsSmallHeap v.array parent.heap_at
  small = subst (λ (b : Array). IsSmallHeap b parent.heap_at) stands.told.array
      (walked_fits s.array dir (full_of s) (Group parent below) walked stands.within.parts).1

  module _ {V : Type 0} (view : V → SpaceView) (blocks : Blocks V) (same : view (space_of blocks) ≡ v)
      (keeps : Keeps view blocks met) (g : GroupPlace) (is : g ≡ place_of s.super parent) where
    pub held : IsHeld view blocks g
    held = subst (IsHeld view blocks) (sym is) (record {
      links = founds below;
      own = own;
      has = subst (λ (w : SpaceView). HasLinks w.array (ks_of s.super) parent.tree_at parent.heap_at (founds below) own)
          (sym same) (group v s met stands dir parent below walked);
      met = met;
      others = rest ++ stands.given_up;
      keeps = keeps;
      among = among;
      small = subst (λ (w : SpaceView). IsSmallHeap w.array parent.heap_at) (sym same) small;
    })

    -- each reading of the group has these links
    pub links_there : (fs : List Found) (bs : List Block) → HoldsGroup (view (space_of blocks)).array g fs bs
        → fs ≡ founds below
    links_there fs bs other =
        let here : HoldsGroup v.array (place_of s.super parent) fs bs =
        subst (λ (p : GroupPlace). HoldsGroup v.array p fs bs) is
        (subst (λ (w : SpaceView). HoldsGroup w.array g fs bs) same other) in
        (links_are v.array (ks_of s.super) parent.tree_at parent.heap_at fs (founds below) bs own here
        (group v s met stands dir parent below walked)).0

    pub lacks_there : (n : Name) → find below n ≡ None → (fs : List Found) (bs : List Block)
        → HoldsGroup (view (space_of blocks)).array g fs bs → HasName fs n → ⊥
    lacks_there n none fs bs other has =
        lacks_name below n none (subst (λ (l : List Found). HasName l n) (links_there fs bs other) has)

    pub has_there : (n : Name) (u : Full) → find below n ≡ Some u → (fs : List Found) (bs : List Block)
        → HoldsGroup (view (space_of blocks)).array g fs bs → HasName fs n
    has_there n u some fs bs other =
        subst (λ (l : List Found). HasName l n) (sym (links_there fs bs other)) (has_name below n u some)
