-- The file in which one group has another index: the group is held with all below it, and beside all that stays.
use Rattle.std.proofs.Common.{◌≡◌, List, ◌∷◌, ◌++◌, Ok, refl, sym, ◌∙◌, ap, subst}
use Rattle.std.specs.List.Sorted.{IsPermutation}
use Rattle.std.proofs.lemmas.List.{append_assoc}
use Rattle.std.proofs.lemmas.List.Sorted.{IsPermutation-append_left, IsPermutation-append_right, IsPermutation-sym}
use Rattle.std.proofs.lemmas.List.Sorted.{IsPermutation-trans}
use Rattle.outside.specs.Array.{Array}
use Rattle.outside.specs.Blocks.{Block, Bounds, AreKept}
use Rattle.object_model.specs.Tree.{Group, Name, edit, walk}
use Rattle.object_model.proofs.TreeLemmas.{walk-edit}
use Rattle.super_codec.specs.Super.{super_len}
use Rattle.super_codec.specs.declared.superblock.Superblock.{Superblock}
use Rattle.file_model.specs.EditLaws.{file_beside}
use Rattle.file_model.specs.Headers.{header_blocks}
use Rattle.file_model.specs.Holds.{Full, FullLinks, GroupAt, HoldsFull, IsHeld, blocks_in, blocks_of, ks_of}
use Rattle.file_model.specs.Laws.{all_blocks, beside}
use Rattle.file_model.proofs.BlockOrder.{kept_order, kept_together}
use Rattle.file_model.proofs.EditFull.{beside_edit, driver_same, file_blocks}
use Rattle.file_model.proofs.FrameBytes.{agree_left, agree_right}
use Rattle.file_model.proofs.FrameHeaders.{header_stays}
use Rattle.tree_places.specs.Held.{IsGroupEdit}
use Rattle.tree_places.specs.Kept.{IsSameGroup}
use Rattle.group_lines.specs.Edits.{IsIndexEdit}

-- two lists before and behind ones that are as many together
around : (header changed after gone index below taken : List Block)
    → IsPermutation (changed ++ (after ++ gone)) (index ++ (below ++ taken))
    → IsPermutation (((header ++ changed) ++ after) ++ gone) (((header ++ index) ++ below) ++ taken)
around header changed after gone index below taken moved =
    rw (
      append_assoc (header ++ changed) after gone,
      append_assoc header changed (after ++ gone),
      append_assoc (header ++ index) below taken,
      append_assoc header index (below ++ taken),
    )
    (IsPermutation-append_right header _ _ moved)

module _ (b c : Array) (e f : Bounds) (s : Superblock) (g : GroupAt) (ls : FullLinks) (h : HoldsFull b e s g ls)
    (dir : List Name) (old : GroupAt) (below after : FullLinks) (taken gone : List Block)
    (k : IsIndexEdit b c e f s g ls h dir old below after taken gone) where
  header : List Block
  header = header_blocks old.header_at k.was.prefix k.was.parts

  -- the group, with its other blocks
  pub now : GroupAt
  now = record old { own = header ++ k.changed }

  pub same_group : IsSameGroup now old
  unfolding now
  same_group = record { header = refl; tree = refl; heap = refl }

  group_held : IsHeld c (ks_of s) (Group now after)
  unfolding now header
  group_held = (
    record {
      prefix = k.was.prefix;
      parts = k.was.parts;
      header = header_stays b c old.header_at k.was.prefix k.was.parts k.header k.was.header;
      table = k.was.table;
      index = k.changed;
      links = k.now;
      blocks = refl;
    },
    k.rest,
  )

  -- the group's blocks, with those that are gone, are those that it had and those taken
  group_blocks : IsPermutation (blocks_of (Group now after) ++ gone) (blocks_of (Group old below) ++ taken)
  unfolding now header
  group_blocks = subst
      (λ (own : List Block). IsPermutation (((header ++ k.changed) ++ blocks_in after) ++ gone)
      ((own ++ blocks_in below) ++ taken)) (sym k.was.blocks)
      (around header k.changed (blocks_in after) gone k.was.index (blocks_in below) taken k.blocks)

  abbrev stay : List Block
  stay = file_beside s h.driver dir (Group g ls)

  abbrev all_old : List Block
  all_old = all_blocks s h.driver (Group g ls)

  all_moved : IsPermutation ((stay ++ blocks_of (Group now after)) ++ gone) (all_old ++ taken)
  all_moved =
      let first : IsPermutation (stay ++ (blocks_of (Group now after) ++ gone))
      (stay ++ (blocks_of (Group old below) ++ taken)) =
      IsPermutation-append_right stay _ _ group_blocks in
      let second : IsPermutation ((stay ++ blocks_of (Group old below)) ++ taken) (all_old ++ taken) =
      IsPermutation-append_left taken _ _
      (IsPermutation-sym _ _ (file_blocks s h.driver dir (Group g ls) (Group old below) k.walked)) in
      rw (append_assoc stay (blocks_of (Group now after)) gone)
      (IsPermutation-trans _ _ _ first
      (subst (λ (xs : List Block). IsPermutation xs (all_old ++ taken))
      (append_assoc stay (blocks_of (Group old below)) taken) second))

  kept_now : AreKept f (stay ++ blocks_of (Group now after))
  kept_now = ((kept_together f (stay ++ blocks_of (Group now after)) gone).0
      (kept_order f _ _ (IsPermutation-sym _ _ all_moved) k.kept)).0

  pub edited : IsGroupEdit b c e f s g ls h dir (Group now after)
  edited =
      let parts = (kept_together f stay (blocks_of (Group now after))).0 kept_now in
      record {
        held = group_held;
        rises = k.rises;
        stays = k.stays;
        kept = parts.1;
        apart = parts.2;
      }

  -- all blocks of the file with the edited tree, and those that are gone, are those that it had and those taken
  pub blocks_moved : (r : GroupAt) (rs : FullLinks) (held : HoldsFull c f s r rs)
      → Group r rs ≡ edit dir (λ _. Group now after) (Group g ls)
      → IsPermutation (all_blocks s held.driver (Group r rs) ++ gone) (all_blocks s h.driver (Group g ls) ++ taken)
  blocks_moved r rs held is = IsPermutation-trans _ _ _ (IsPermutation-append_left gone _ _ there) all_moved
    where
      driver : held.driver ≡ h.driver
      driver = driver_same b c e f s s g r ls rs h held k.rises refl
          (agree_left b c h.driver (beside dir (Group g ls)) k.stays.1)

      leads : walk (Group r rs) dir ≡ Ok (Group now after)
      leads = ap (λ (x : Full). walk x dir) is
          ∙ walk-edit dir (λ _. Group now after) (Group g ls) (Group old below) k.walked

      beside_it : beside dir (Group r rs) ≡ beside dir (Group g ls)
      beside_it = ap (beside dir) is ∙ beside_edit dir (λ _. Group now after) (Group g ls)

      file_first : List Block → List Block → List Block
      file_first driver rest = record { start = 0; len = super_len s.version } ∷ driver ++ rest

      there : IsPermutation (all_blocks s held.driver (Group r rs)) (stay ++ blocks_of (Group now after))
      there = subst (λ (xs : List Block). IsPermutation (all_blocks s held.driver (Group r rs))
          (xs ++ blocks_of (Group now after))) (λ i. file_first (driver i) (beside_it i))
          (file_blocks s held.driver dir (Group r rs) (Group now after) leads)
