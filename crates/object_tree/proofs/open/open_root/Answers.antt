use Rattle.std.proofs.Common.{None, [], ◌∷◌, refl, sym, ◌∙◌}
use Rattle.outside.proofs.Causes.{one_later}
use Rattle.outside.specs.Space.{bounds_of}
use Rattle.block_space.specs.Blocks.{space_of}
use Rattle.block_space.proofs.Taken.{taken_over}
use Rattle.file_model.specs.RefusedTree.{super_block}
use Rattle.header_reader.specs.declared.reading.Header.TheVariants as header
use Rattle.object_tree.proofs.NodesFound.{found_as}
use Rattle.object_tree.proofs.Rooted.{all_opened, all_sound, all_refused, root_kind_refused, root_later_refused}
use Rattle.object_tree.proofs.Rooted.{root_header_refused}
use Rattle.object_tree.proofs.open.open_root.Goals as goal

pub returns-in-Some-clause-opened : goal.returns-in-Some-clause-opened
returns-in-Some-clause-opened g c = λ told spelled.
    let b = (g.V.Space.view (space_of c.args.blocks.now)).array in
    let at = c.args.superblock.root.header_at in
    let first = found_as g.V.Space.view c.args.blocks.now _ b at c.in-Ok-Known.field-0 (header.Known c.in-Ok-Known.node)
    c.in-Ok-Known.field-0-is (c.in-Ok-Known.ensures.found told) in
    let same = g.met.V.Space.alike _ _ c.in-Ok-Known.ensures.alike in
    let now = sym (g.met.V.Space.alike _ _
    (g.V.Kept.transitive _ _ _ c.in-Ok-Known.ensures.alike c.open_below.ensures.alike)) in
    all_opened g.V.Space.view c.args.blocks.now _ _ (g.V.Space.view (space_of c.args.blocks.now)) _ c.args.superblock
    c.in-Ok-Known.node c.in-Some.table.tree_at c.in-Some.table.heap_at g.V.Space.tells c.open_below.result same now told
    spelled c.requires.taken (sym c.table_of.ensures ∙ c.in-Some.is) first c.open_below.ensures.superblock
    c.open_below.ensures.few c.open_below.ensures.sound c.open_below.ensures.opened

pub returns-in-Some-clause-sound : goal.returns-in-Some-clause-sound
returns-in-Some-clause-sound g c =
    all_sound g.V.Space.view _ _ _ _ c.args.superblock c.in-Ok-Known.node c.in-Some.table.tree_at
    c.in-Some.table.heap_at g.V.Space.tells c.open_below.result (sym c.table_of.ensures ∙ c.in-Some.is) c.requires.fits
    c.open_below.ensures.superblock c.open_below.ensures.sound c.open_below.ensures.opened

pub returns-in-Some-clause-refused : goal.returns-in-Some-clause-refused
returns-in-Some-clause-refused g c = λ told spelled.
    let b = (g.V.Space.view (space_of c.args.blocks.now)).array in
    let at = c.args.superblock.root.header_at in
    let first = found_as g.V.Space.view c.args.blocks.now _ b at c.in-Ok-Known.field-0 (header.Known c.in-Ok-Known.node)
    c.in-Ok-Known.field-0-is (c.in-Ok-Known.ensures.found told) in
    let same = g.met.V.Space.alike _ _ c.in-Ok-Known.ensures.alike in
    all_refused g.V.Space.view c.args.blocks.now _ (g.V.Space.view (space_of c.args.blocks.now)) _ c.args.superblock
    c.in-Ok-Known.node c.in-Some.table.tree_at c.in-Some.table.heap_at c.open_below.result same same spelled
    c.requires.taken (sym c.table_of.ensures ∙ c.in-Some.is) first (c.open_below.ensures.refused told)

pub returns-in-Some-clause-failed : goal.returns-in-Some-clause-failed
returns-in-Some-clause-failed g c = λ failed.
    one_later _ _ _ (g.met.V.Space.goes_counts _ _ (g.met.V.Space.goes_alike _ _ c.in-Ok-Known.ensures.alike))
    (c.open_below.ensures.failed failed)

pub returns-in-Some-clause-alike : goal.returns-in-Some-clause-alike
returns-in-Some-clause-alike g c = g.V.Kept.transitive _ _ _ c.in-Ok-Known.ensures.alike c.open_below.ensures.alike

pub returns-in-None-clause-refused : goal.returns-in-None-clause-refused
returns-in-None-clause-refused g c = λ told spelled.
    let b = (g.V.Space.view (space_of c.args.blocks.now)).array in
    let first = found_as g.V.Space.view c.args.blocks.now _ b c.args.superblock.root.header_at c.in-Ok-Known.field-0
    (header.Known c.in-Ok-Known.node) c.in-Ok-Known.field-0-is (c.in-Ok-Known.ensures.found told)
    (super_block c.args.superblock ∷ []) c.requires.taken in
    let v = g.V.Space.view (space_of c.args.blocks.now) in
    let same = g.met.V.Space.alike _ _ c.in-Ok-Known.ensures.alike in
    rw c.unsupported.ensures (root_kind_refused b (bounds_of v None) c.args.superblock c.in-Ok-Known.node first.0 spelled refl
    (taken_over g.V.Space.view c.args.blocks.now v [] (super_block c.args.superblock ∷ []) None refl c.requires.taken)
    (taken_over g.V.Space.view _ v (super_block c.args.superblock ∷ []) first.0 None same first.2)
    (sym c.table_of.ensures ∙ c.in-None.is) first.1)

pub returns-in-Ok-Later-clause-refused : goal.returns-in-Ok-Later-clause-refused
returns-in-Ok-Later-clause-refused g c = λ told spelled.
    let b = (g.V.Space.view (space_of c.args.blocks.now)).array in
    let first = found_as g.V.Space.view c.args.blocks.now _ b c.args.superblock.root.header_at c.in-Ok-Later.field-0
    header.Later c.in-Ok-Later.field-0-is (c.in-Ok-Later.ensures.found told) (super_block c.args.superblock ∷ [])
    c.requires.taken in
    let v = g.V.Space.view (space_of c.args.blocks.now) in
    let same = g.met.V.Space.alike _ _ c.in-Ok-Later.ensures.alike in
    rw c.unsupported-in-Ok-Later.ensures (root_later_refused b (bounds_of v None) c.args.superblock first.0 spelled refl
    (taken_over g.V.Space.view c.args.blocks.now v [] (super_block c.args.superblock ∷ []) None refl c.requires.taken)
    (taken_over g.V.Space.view _ v (super_block c.args.superblock ∷ []) first.0 None same first.2) first.1)

pub returns-in-Err-clause-refused : goal.returns-in-Err-clause-refused
returns-in-Err-clause-refused g c = λ told spelled.
    root_header_refused (g.V.Space.view (space_of c.args.blocks.now)).array
    (bounds_of (g.V.Space.view (space_of c.args.blocks.now)) None) c.args.superblock c.in-Err.stop spelled refl
    (taken_over g.V.Space.view c.args.blocks.now _ [] (super_block c.args.superblock ∷ []) None refl c.requires.taken)
    (c.in-Err.ensures.refused told (super_block c.args.superblock ∷ []) None c.requires.taken)
