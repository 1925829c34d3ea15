use Rattle.std.proofs.Common.{rules, ◌∷◌, [], ap, refl, sym, ◌∙◌, arith, map, ◌-◌, ◌+◌}
use Rattle.std.proofs.lemmas.List.{append_assoc}
use Rattle.outside.specs.Space.{SpaceView}
use Rattle.outside.proofs.Causes.{one_later}
use Rattle.block_space.specs.Blocks.{space_of}
use Rattle.object_model.specs.Tree.{Empty, Leaf, AreOrdered}
use Rattle.file_model.specs.Groups.{Header}
use Rattle.file_model.specs.Holds.{SoftLeaf}
use Rattle.group_reader.specs.Links.{found_of, target_of}
use Rattle.tree_nodes.specs.declared.node.Node.TheVariants as node
use Rattle.tree_nodes.specs.Shown.{single}
use Rattle.tree_nodes.specs.Entries.{LacksLink, object_count}
use Rattle.object_tree.specs.Grown.{LinksAscend}
use Rattle.object_tree.specs.Sound.{HasSoundNodes}
use Rattle.object_tree.proofs.Sounds.{sound_insert}
use Rattle.object_tree.proofs.Growth.{grows_none, grows_more, last_link, adds_leaf}
use Rattle.object_tree.proofs.SoFar.{all_links, lacks_link, next_link, so_far_none, so_far_more, refused_next, names_more, ascend_link}
use Rattle.object_tree.proofs.Objects.{soft_opened_to, keeps_none, leaf_opened, table_object, refused_counted}
use Rattle.object_tree.proofs.Joined.{table_read, names_told, opened_to, there_is, group_from, table_refused, each_refused, object_from, object_refused}
use Rattle.object_tree.proofs.opening.+opening.Goals as goal

pub open_each-loop-link-init : goal.open_each-loop-link-init
open_each-loop-link-init g c = λ d. record {
  listed = d.requires.listed;
  alike = search rules;
  calm = refl;
  few = d.requires.few;
  sound = d.requires.sound;
  left = search rules;
  opened = (Empty, grows_none d.args.opening.now.tree d.args.place.group.key, refl, λ told. so_far_none g.V.Space.view d.args.blocks.now _ d.args.place.ks d.args.place.levels);
}

pub open_each-open_link-requires : goal.open_each-open_link-requires
open_each-open_link-requires g c = λ d κs le.
    let stands = g.met.V.Space.alike_stands _ _ d.loop-link.invariant.alike d.requires.stands in
    let o = d.loop-link.invariant.opened in
    let is = next_link d.args.links.items d.loop-link.yielded _ d.in-Some.link _ d.loop-link.invariant.left d.in-Some.ensures.steps.0 in
    let lacks : LacksLink d.loop-link.opening.tree d.args.place.group d.in-Some.link.name = lacks_link d.args.opening.now.tree d.loop-link.opening.tree d.args.place.group d.args.links.items d.loop-link.yielded d.in-Some.link _ o.0 o.1 o.2 d.requires.bare is d.requires.ordered in
    let ascend : LinksAscend d.loop-link.opening.tree d.args.place.group.key = ascend_link d.args.opening.now.tree d.loop-link.opening.tree d.args.place.group d.args.links.items d.loop-link.yielded d.in-Some.link _ o.0 o.1 o.2 d.requires.bare is d.requires.ordered in
    search rules

pub open_each-loop-link-preserved : goal.open_each-loop-link-preserved
open_each-loop-link-preserved g c = λ d.
    let o = d.loop-link.invariant.opened in
    let a = d.in-Ok.ensures.opened in
    let is = next_link d.args.links.items d.loop-link.yielded _ d.in-Some.link _ d.loop-link.invariant.left d.in-Some.ensures.steps.0 in
    let same = ap (λ (v : SpaceView). v.array) (g.met.V.Space.alike _ _ d.loop-link.invariant.alike) in
    record {
      listed = search rules;
      alike = g.V.Kept.transitive _ _ _ d.loop-link.invariant.alike d.in-Ok.ensures.alike;
      calm = d.in-Ok.ensures.calm (λ failed. cc) ∙ d.loop-link.invariant.calm;
      few = search rules;
      sound = search rules;
      left = is ∙ sym (append_assoc d.loop-link.yielded (d.in-Some.link ∷ []) _);
      opened = (
        last_link o.0 d.in-Some.link.name a.0,
        grows_more d.args.opening.now.tree d.loop-link.opening.tree _ d.args.place.group.key o.0 d.in-Some.link.name a.0 o.1 a.1 d.requires.bare (names_more d.args.links.items d.loop-link.yielded d.in-Some.link _ o.0 o.2 is d.requires.ordered).0,
        (names_more d.args.links.items d.loop-link.yielded d.in-Some.link _ o.0 o.2 is d.requires.ordered).1 a.0,
        λ told. so_far_more g.V.Space.view d.args.blocks.now d.loop-link.blocks _ _ _ d.args.place.ks d.args.place.levels o.0 d.loop-link.yielded d.in-Some.link a.0 same (o.3 told) (a.2 told),
      );
    }

pub open_each-returns-clause-opened : goal.open_each-returns-clause-opened
open_each-returns-clause-opened g c = λ d.
    let o = d.loop-link.invariant.opened in
    let all = all_links d.args.links.items d.loop-link.yielded _ _ d.loop-link.invariant.left d.loop-link.link-iterator.rest.ok.0 d.in-None.ensures.steps.0 in
    (o.0, o.1, λ told met keeps. let a = o.3 told met keeps in (a.0, a.1, a.2 ∙ ap (map found_of) all, a.3))

pub open_each-returns-in-Err-clause-refused : goal.open_each-returns-in-Err-clause-refused
open_each-returns-in-Err-clause-refused g c = λ d told.
    let o = d.loop-link.invariant.opened in
    let is = next_link d.args.links.items d.loop-link.yielded _ d.in-Some.link _ d.loop-link.invariant.left d.in-Some.ensures.steps.0 in
    let same = g.met.V.Space.alike _ _ d.loop-link.invariant.alike in
    refused_next g.V.Space.view d.args.blocks.now d.loop-link.blocks _ _ d.args.place.ks d.args.place.levels d.args.opening.now.tree d.loop-link.opening.tree d.args.place.group.key o.0 d.args.links.items d.loop-link.yielded d.in-Some.link _ d.in-Err.stop same same d.loop-link.invariant.few is o.1 (o.3 told) (d.in-Err.ensures.refused told)

pub open_each-returns-in-Err-clause-alike : goal.open_each-returns-in-Err-clause-alike
open_each-returns-in-Err-clause-alike g c = λ d. g.V.Kept.transitive _ _ _ d.loop-link.invariant.alike d.in-Err.ensures.alike

pub open_link-returns-in-Object-clause-opened : goal.open_link-returns-in-Object-clause-opened
open_link-returns-in-Object-clause-opened g c = λ d.
    opened_to g.V.Space.view d.args.blocks.now _ d.args.opening.now.tree _ (g.V.Space.view (space_of d.args.blocks.now)).array d.args.place.ks d.args.place.levels d.args.place.group.key d.args.link.name g.V.Space.tells (Header d.in-Object.header_at) _ d.open_object.result
    (sym (ap target_of d.in-Object.is)) d.open_object.ensures.opened

pub open_link-returns-in-Ok-clause-opened : goal.open_link-returns-in-Ok-clause-opened
open_link-returns-in-Ok-clause-opened g c = λ d. (
  single d.in-Ok.field-0.key (node.Soft d.in-Soft.text),
  adds_leaf d.args.opening.now.tree d.add.new.tree d.args.place.group.key d.args.link.name d.in-Ok.field-0.key (node.Soft d.in-Soft.text) d.in-Ok.ensures.added,
  λ told met keeps. (
    Leaf (SoftLeaf d.in-Soft.text),
    soft_opened_to (g.V.Space.view (space_of d.args.blocks.now)).array d.args.place.ks d.args.place.levels d.in-Ok.field-0.key d.in-Soft.text _ (sym (ap target_of d.in-Soft.is)),
    keeps_none g.V.Space.view d.args.blocks.now met keeps,
  ),
)

pub open_links-open_each-requires : goal.open_links-open_each-requires
open_links-open_each-requires g c = λ d κs le.
    let stands = g.met.V.Space.alike_stands _ _ d.in-Ok.ensures.alike d.requires.stands in
    let ordered : AreOrdered (map (λ l. l.name) d.in-Ok.links.items) = names_told d.in-Ok.links.items d.in-Ok.ensures.ordered in
    search rules

pub open_links-returns-in-Err-clause-refused : goal.open_links-returns-in-Err-clause-refused
open_links-returns-in-Err-clause-refused g c = λ d told.
    table_refused g.V.Space.view d.args.blocks.now (g.V.Space.view (space_of d.args.blocks.now)) d.args.place.ks d.args.place.levels _ d.args.table.tree_at d.args.table.heap_at d.in-Err.stop (d.in-Err.ensures.refused told)

pub open_links-returns-in-Ok-clause-opened : goal.open_links-returns-in-Ok-clause-opened
open_links-returns-in-Ok-clause-opened g c = λ d.
    let same = ap (λ (v : SpaceView). v.array) (g.met.V.Space.alike _ _ d.in-Ok.ensures.alike) in
    group_from g.V.Space.view d.args.blocks.now _ _ d.args.opening.now.tree _ _ _ d.args.place.ks d.args.place.levels d.args.place.group.key d.args.table.tree_at d.args.table.heap_at g.V.Space.tells (map found_of d.in-Ok.links.items) d.open_each.result same
    (λ told. table_read g.V.Space.view d.args.blocks.now _ _ d.args.place.ks d.args.table.tree_at d.args.table.heap_at (map found_of d.in-Ok.links.items) (d.in-Ok.ensures.found told) (d.in-Ok.ensures.small told)) d.open_each.ensures.opened

pub open_links-returns-in-Ok-clause-refused : goal.open_links-returns-in-Ok-clause-refused
open_links-returns-in-Ok-clause-refused g c = λ d told.
    let same = g.met.V.Space.alike _ _ d.in-Ok.ensures.alike in
    each_refused g.V.Space.view d.args.blocks.now _ _ _ d.args.place.ks d.args.place.levels _ d.args.table.tree_at d.args.table.heap_at (map found_of d.in-Ok.links.items) d.open_each.result same same
    (table_read g.V.Space.view d.args.blocks.now _ _ d.args.place.ks d.args.table.tree_at d.args.table.heap_at (map found_of d.in-Ok.links.items) (d.in-Ok.ensures.found told) (d.in-Ok.ensures.small told)) (d.open_each.ensures.refused told)

pub open_object-returns-in-Err-clause-refused : goal.open_object-returns-in-Err-clause-refused
open_object-returns-in-Err-clause-refused g c = λ d told met own keeps.
    refused_counted _ _ d.args.place.ks d.args.place.levels d.objects.result _ met d.args.at d.in-Err.stop d.objects.ensures.count (omega (arith, d.if-place-eq0.false)) (d.in-Err.ensures.refused told (d.args.place.levels - 1) met own keeps)

pub open_object-returns-in-None-clause-opened : goal.open_object-returns-in-None-clause-opened
open_object-returns-in-None-clause-opened g c = λ d. (
  single d.in-Ok-add.id.key d.in-Ok.node,
  adds_leaf d.args.opening.now.tree d.add.new.tree d.args.place.group.key d.args.name d.in-Ok-add.id.key d.in-Ok.node d.in-Ok-add.ensures.added,
  λ told met keeps.
      let f = d.in-Ok.ensures.found told met keeps in
      leaf_opened g.V.Space.view _ (g.V.Space.view (space_of d.args.blocks.now)).array d.args.place.ks d.args.place.levels d.args.at d.in-Ok-add.id.key d.in-Ok.node met f.0 (omega (arith, d.if-place-eq0.false))
      (sym d.table_of-table.ensures ∙ d.in-None.is) f.1 f.2,
)

pub open_object-returns-in-Some-clause-opened : goal.open_object-returns-in-Some-clause-opened
open_object-returns-in-Some-clause-opened g c = λ d.
    let same = ap (λ (v : SpaceView). v.array) (g.met.V.Space.alike _ _ d.in-Ok.ensures.alike) in
    let there = there_is d.args.opening.now.tree d.add.new.tree d.args.place.group d.args.name d.in-Ok-add.id.key d.in-Ok.node d.requires.lacks d.requires.ordered d.in-Ok-add.ensures.added in
    object_from g.V.Space.view d.args.blocks.now _ _ d.args.opening.now.tree d.add.new.tree _ _ _ d.args.place.ks d.args.place.levels d.args.at d.args.place.group.key d.in-Ok-add.id.key d.in-Some.table.tree_at d.in-Some.table.heap_at d.args.name d.in-Ok.node
    g.V.Space.tells d.open_links.result same (omega (arith, d.if-place-eq0.false)) (sym d.table_of-table.ensures ∙ d.in-Some.is) there d.in-Ok-add.ensures.added d.in-Ok.ensures.found d.open_links.ensures.opened

pub open_object-returns-in-Some-clause-refused : goal.open_object-returns-in-Some-clause-refused
open_object-returns-in-Some-clause-refused g c = λ d told.
    let same = g.met.V.Space.alike _ _ d.in-Ok.ensures.alike in
    let table = sym d.table_of-table.ensures ∙ d.in-Some.is in
    object_refused g.V.Space.view d.args.blocks.now _ _ _ d.args.place.ks d.args.place.levels _ _ d.args.at d.in-Some.table.tree_at d.in-Some.table.heap_at d.in-Ok.node d.open_links.result same same (omega (arith, d.in-Ok.ensures.few, d.objects.ensures.count)) (omega (arith, d.if-place-eq0.false)) table
    (d.in-Ok-add.ensures.added.objects ∙ ap (λ k. object_count d.args.opening.now.tree + k) (table_object d.in-Ok.node d.in-Some.table.tree_at d.in-Some.table.heap_at table)) (d.in-Ok.ensures.found told) (d.open_links.ensures.refused told)

pub open_link-returns-in-Ok-clause-sound : goal.open_link-returns-in-Ok-clause-sound
open_link-returns-in-Ok-clause-sound g t c =
    sound_insert c.args.opening.now.tree c.add.new.tree c.args.place.group c.args.link.name c.in-Ok.field-0.key (node.Soft c.in-Soft.text) c.requires.lacks c.requires.ordered c.in-Ok.ensures.added tt c.requires.sound

pub open_object-open_links-requires : goal.open_object-open_links-requires
open_object-open_links-requires g t c κs within =
    let stands = g.met.V.Space.alike_stands _ _ c.in-Ok.ensures.alike c.requires.stands in
    let sound : HasSoundNodes c.add.new.tree = sound_insert c.args.opening.now.tree c.add.new.tree c.args.place.group c.args.name c.in-Ok-add.id.key c.in-Ok.node c.requires.lacks c.requires.ordered c.in-Ok-add.ensures.added c.in-Ok.ensures.sound c.requires.sound in
    search rules

pub open_object-returns-in-None-clause-sound : goal.open_object-returns-in-None-clause-sound
open_object-returns-in-None-clause-sound g t c =
    sound_insert c.args.opening.now.tree c.add.new.tree c.args.place.group c.args.name c.in-Ok-add.id.key c.in-Ok.node c.requires.lacks c.requires.ordered c.in-Ok-add.ensures.added c.in-Ok.ensures.sound c.requires.sound

pub open_each-returns-in-Err-clause-failed : goal.open_each-returns-in-Err-clause-failed
open_each-returns-in-Err-clause-failed g c = λ d failed.
    one_later _ _ _ (g.met.V.Space.goes_counts _ _ (g.met.V.Space.goes_alike _ _ d.loop-link.invariant.alike))
    (d.in-Err.ensures.failed failed)

pub open_links-returns-in-Ok-clause-failed : goal.open_links-returns-in-Ok-clause-failed
open_links-returns-in-Ok-clause-failed g c = λ d failed.
    one_later _ _ _ (g.met.V.Space.goes_counts _ _ (g.met.V.Space.goes_alike _ _ d.in-Ok.ensures.alike))
    (d.open_each.ensures.failed failed)

pub open_object-returns-in-Some-clause-failed : goal.open_object-returns-in-Some-clause-failed
open_object-returns-in-Some-clause-failed g c = λ d failed.
    one_later _ _ _ (g.met.V.Space.goes_counts _ _ (g.met.V.Space.goes_alike _ _ d.in-Ok.ensures.alike))
    (d.open_links.ensures.failed failed)
