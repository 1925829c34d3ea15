-- The file after an edit of one group.
use Rattle.std.proofs.Common.{sym, ap, ◌∙◌}
use Rattle.object_model.specs.Tree.{Group, insert, remove, dir_of, last_of}
use Rattle.file_model.specs.Groups.{Header}
use Rattle.file_model.proofs.EditFull.{edit_full}
use Rattle.tree_places.specs.Held.{AddHeld, RemoveHeld}
use Rattle.tree_places.proofs.Places.{root_stays}
use Rattle.tree_places.proofs.Steps.{add_there, remove_there}

pub add_held : AddHeld
add_held b c e f s g old now ls below p new h w same k =
    let (r, rs, is) = (root_stays (λ _. now) p new g ls).0 in (
      r,
      rs,
      is,
      edit_full b c e f s g r ls rs (dir_of p) (Group old below) (Group now (insert below (last_of p) new)) h w
          (ap Header same.header) k.held k.rises k.stays k.kept k.apart
          (sym (add_there (λ _. now) p new (Group g ls) old below w) ∙ is),
    )

pub remove_held : RemoveHeld
remove_held b c e f s g old now ls below p h w same k =
    let (r, rs, is) = (root_stays (λ _. now) p (Group g ls) g ls).1 in (
      r,
      rs,
      is,
      edit_full b c e f s g r ls rs (dir_of p) (Group old below) (Group now (remove below (last_of p))) h w
          (ap Header same.header) k.held k.rises k.stays k.kept k.apart
          (sym (remove_there (λ _. now) p (Group g ls) old below w) ∙ is),
    )
