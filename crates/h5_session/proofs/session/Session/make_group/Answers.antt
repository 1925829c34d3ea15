use Rattle.std.proofs.Common.{◌≡◌, [], Err, refl, sym, ◌∙◌, ap, subst}
use Rattle.object_model.specs.declared.answer.Answer.TheVariants as answer
use Rattle.object_model.specs.declared.answer.Code.TheVariants as code
use Rattle.tree_nodes.specs.Entries.{superblock_of}
use Rattle.h5_session.specs.declared.stop.StepStop.{StepStop}
use Rattle.object_model.specs.Tree.{last_of}
use Rattle.tree_places.proofs.Edited.{same_stays}
use Rattle.h5_session.specs.Doing.{ComesTo}
use Rattle.h5_session.proofs.Ended.{after, closing_given, closing_kept, cut_stepped, done_sound, full_stepped, leaves_done}
use Rattle.h5_session.proofs.Ended.{leaves_stop, limit_stepped, only_memory, planned_line}
use Rattle.h5_session.proofs.Kept.{next, readied_in, readied_sound, same_in, same_sound}
use Rattle.h5_session.proofs.MadeStep.{made_answered}
use Rattle.h5_session.proofs.Waited.{waited, waited_leaves, waits_in, waits_sound}
use Rattle.h5_session.proofs.session.Session.make_group.Goals as goal

pub returns-in-Err-clause-steps : goal.returns-in-Err-clause-steps
returns-in-Err-clause-steps g c = λ told s secs i can.
    let w = c.in-Err.ensures.waits in
    waited g.V.Space.view g.V.Kept.Alike g.V.Space.GoesOn g.V.Space.Stands g.V.Space.faults g.V.Space.copy_faults
    c.args.self.now c.plan_group.new.self _ c.in-Err.stop refl w (g.met.V.Space.alike _ _ w.alike) s _ secs i
    (c.in-Err.ensures.well told s i can)

pub returns-in-Err-clause-leaves : goal.returns-in-Err-clause-leaves
returns-in-Err-clause-leaves g c =
    let w = c.in-Err.ensures.waits in
    waited_leaves g.V.Space.view g.V.Kept.Alike g.V.Space.GoesOn g.V.Space.Stands g.V.Space.faults g.V.Space.copy_faults
    c.args.self.now c.plan_group.new.self _ c.in-Err.stop refl w (g.met.V.Space.alike _ _ w.alike) c.requires.sound
    (g.met.V.Space.alike_stands _ _ w.alike c.requires.stands) (g.met.V.Space.goes_alike _ _ w.alike)
    (g.met.V.Space.alike_copy _ _ w.alike)

pub insert_node-requires-clause-sound : goal.insert_node-requires-clause-sound
insert_node-requires-clause-sound g c =
    (same_stays c.args.self.now.tree c.plan_group.new.self.tree c.in-Ok.ensures.waits.tree).sound c.requires.sound.tree

pub insert_node-requires-clause-can : goal.insert_node-requires-clause-can
insert_node-requires-clause-can g c = (
  c.args.path.now,
  sym c.in-Ok.ensures.name,
  (same_stays c.args.self.now.tree c.plan_group.new.self.tree c.in-Ok.ensures.waits.tree).add c.args.path.now
      c.args.parent c.requires.adds,
)

pub returns-in-Ok-Limit-clause-steps : goal.returns-in-Ok-Limit-clause-steps
returns-in-Ok-Limit-clause-steps g c = λ told s secs i can.
    let view = g.V.Space.view in
    let old = c.args.self.now in
    let mid = c.plan_group.new.self in
    let blocks = c.do_plan.new.blocks in
    let plan = c.in-Ok.new.made.plan in
    let w = c.in-Ok.ensures.waits in
    let same = g.met.V.Space.alike _ _ w.alike in
    let fits = c.in-Ok.ensures.fits i.met i.keeps in
    let keeps = w.kept i.met i.keeps in
    let comes = subst (ComesTo view g.V.Space.tells mid.blocks blocks i.met plan) c.in-Ok-Limit.field-0-is
    (c.in-Ok-Limit.ensures.comes i.met keeps fits) in
    let l = planned_line view old mid same s i c.args.path.now c.args.parent can c.in-Ok.new.made c.requires.writable
    (c.in-Ok.ensures.planned told s can i) in
    record {
      answered = (
        s,
        limit_stepped view g.V.Space.tells old mid blocks same s (waits_in view g.V.Kept.Alike g.V.Space.faults old mid _ w same s i)
            plan fits _ l comes secs,
        same_in view mid blocks comes.comes.1.view_is s (waits_in view g.V.Kept.Alike g.V.Space.faults old mid _ w same s i)
            comes.comes.1.keeps,
      );
      stays = tt;
      well = tt;
      cut_off = tt;
    }

pub returns-in-Ok-Done-clause-steps : goal.returns-in-Ok-Done-clause-steps
returns-in-Ok-Done-clause-steps g c = λ told s secs i can.
    let view = g.V.Space.view in
    let old = c.args.self.now in
    let mid = c.plan_group.new.self in
    let blocks = c.do_plan.new.blocks in
    let w = c.in-Ok.ensures.waits in
    let same = g.met.V.Space.alike _ _ w.alike in
    let fits = c.in-Ok.ensures.fits i.met i.keeps in
    let keeps = w.kept i.met i.keeps in
    let stays = same_stays old.tree mid.tree w.tree in
    let comes = subst (ComesTo view g.V.Space.tells mid.blocks blocks i.met c.in-Ok.new.made.plan) c.in-Ok-Done.field-0-is
    (c.in-Ok-Done.ensures.comes i.met keeps fits) in
    let stands = g.met.V.Space.alike_stands _ _ w.alike c.requires.stands in
    record {
      answered = made_answered view g.V.Space.tells told old mid same blocks c.insert_node.new.tree s
          (waits_in view g.V.Kept.Alike g.V.Space.faults old mid _ w same s i) c.args.path.now c.args.parent can
          c.in-Ok.new.made (c.in-Ok.ensures.planned told s can i) c.requires.writable (g.met.V.Space.sound _ stands).regions
          (stays.sound c.requires.sound.tree) fits comes secs c.insert_node.result.key c.node_at.result c.node_at.ensures
          (λ f t u has leaves matches. c.insert_node.ensures.places c.args.path.now f t u (sym c.in-Ok.ensures.name)
          (stays.add c.args.path.now c.args.parent c.requires.adds) has leaves matches)
          c.insert_node.ensures.entry.superblock;
      stays = tt;
      well = tt;
      cut_off = tt;
    }

pub returns-in-Ok-Done-clause-leaves : goal.returns-in-Ok-Done-clause-leaves
returns-in-Ok-Done-clause-leaves g c =
    let view = g.V.Space.view in
    let old = c.args.self.now in
    let mid = c.plan_group.new.self in
    let blocks = c.do_plan.new.blocks in
    let plan = c.in-Ok.new.made.plan in
    let h = c.requires.sound in
    let w = c.in-Ok.ensures.waits in
    let same = g.met.V.Space.alike _ _ w.alike in
    let edited = c.in-Ok-Done.ensures.edited in
    let kind = g.met.V.Space.edited_kind _ _ edited in
    let done = c.in-Ok-Done.field-0-is in
    let comes = subst (ComesTo view g.V.Space.tells mid.blocks blocks h.met plan) done
    (c.in-Ok-Done.ensures.comes h.met (w.kept h.met h.keeps) (c.in-Ok.ensures.fits h.met h.keeps)) in
    leaves_done view g.V.Space.Stands g.V.Space.GoesOn g.V.Space.faults g.V.Space.copy_faults old mid
    (after view mid blocks c.insert_node.new.tree [] c.insert_node.ensures.entry.superblock) same (w.calm (λ f. cc))
    (g.met.V.Space.alike_copy _ _ w.alike) kind
    (g.met.V.Space.goes_further _ _ _ (g.met.V.Space.goes_alike _ _ w.alike) (g.met.V.Space.edited_goes _ _ edited))
    c.in-Ok-Done.field-0 answer.Done tt
    (done_sound view mid blocks c.insert_node.new.tree _ c.insert_node.ensures.entry.superblock
    (waits_sound view g.V.Kept.Alike g.V.Space.faults old mid _ w same h) c.insert_node.ensures.sound comes.comes.1.keeps
    (λ none. closing_given (superblock_of mid.tree).version _ _ c.closing-closing.result (kind.revisions.0 none)
    c.closing-closing.ensures.with c.closing-closing.ensures.without (c.in-Ok-Done.ensures.closes done)))
    c.in-Ok-Done.ensures.stands c.in-Ok-Done.ensures.cause

pub returns-in-Ok-Limit-clause-leaves : goal.returns-in-Ok-Limit-clause-leaves
returns-in-Ok-Limit-clause-leaves g c =
    let view = g.V.Space.view in
    let old = c.args.self.now in
    let mid = c.plan_group.new.self in
    let blocks = c.do_plan.new.blocks in
    let plan = c.in-Ok.new.made.plan in
    let h = c.requires.sound in
    let w = c.in-Ok.ensures.waits in
    let same = g.met.V.Space.alike _ _ w.alike in
    let edited = c.in-Ok-Limit.ensures.edited in
    let comes = subst (ComesTo view g.V.Space.tells mid.blocks blocks h.met plan) c.in-Ok-Limit.field-0-is
    (c.in-Ok-Limit.ensures.comes h.met (w.kept h.met h.keeps) (c.in-Ok.ensures.fits h.met h.keeps)) in
    leaves_done view g.V.Space.Stands g.V.Space.GoesOn g.V.Space.faults g.V.Space.copy_faults old mid
    (next view mid blocks) same (w.calm (λ f. cc)) (g.met.V.Space.alike_copy _ _ w.alike)
    (g.met.V.Space.edited_kind _ _ edited)
    (g.met.V.Space.goes_further _ _ _ (g.met.V.Space.goes_alike _ _ w.alike) (g.met.V.Space.edited_goes _ _ edited))
    c.in-Ok-Limit.field-0 (answer.No code.Limit) tt
    (same_sound view mid blocks comes.comes.1.view_is (waits_sound view g.V.Kept.Alike g.V.Space.faults old mid _ w same h)
    comes.comes.1.keeps) c.in-Ok-Limit.ensures.stands c.in-Ok-Limit.ensures.cause

pub returns-in-Ok-Full-clause-leaves : goal.returns-in-Ok-Full-clause-leaves
returns-in-Ok-Full-clause-leaves g c =
    let view = g.V.Space.view in
    let old = c.args.self.now in
    let mid = c.plan_group.new.self in
    let blocks = c.do_plan.new.blocks in
    let plan = c.in-Ok.new.made.plan in
    let h = c.requires.sound in
    let w = c.in-Ok.ensures.waits in
    let same = g.met.V.Space.alike _ _ w.alike in
    let edited = c.in-Ok-Full.ensures.edited in
    let comes = subst (ComesTo view g.V.Space.tells mid.blocks blocks h.met plan) c.in-Ok-Full.field-0-is
    (c.in-Ok-Full.ensures.comes h.met (w.kept h.met h.keeps) (c.in-Ok.ensures.fits h.met h.keeps)) in
    leaves_done view g.V.Space.Stands g.V.Space.GoesOn g.V.Space.faults g.V.Space.copy_faults old mid
    (next view mid blocks) same (w.calm (λ f. cc)) (g.met.V.Space.alike_copy _ _ w.alike)
    (g.met.V.Space.edited_kind _ _ edited)
    (g.met.V.Space.goes_further _ _ _ (g.met.V.Space.goes_alike _ _ w.alike) (g.met.V.Space.edited_goes _ _ edited))
    c.in-Ok-Full.field-0 (answer.Full c.in-Ok-Full.end c.in-Ok-Full.need) tt
    (same_sound view mid blocks comes.comes.2.view_is (waits_sound view g.V.Kept.Alike g.V.Space.faults old mid _ w same h)
    comes.comes.2.keeps) c.in-Ok-Full.ensures.stands c.in-Ok-Full.ensures.cause

pub returns-in-Ok-Full-clause-steps : goal.returns-in-Ok-Full-clause-steps
returns-in-Ok-Full-clause-steps g c = λ told s secs i can.
    let view = g.V.Space.view in
    let old = c.args.self.now in
    let mid = c.plan_group.new.self in
    let blocks = c.do_plan.new.blocks in
    let plan = c.in-Ok.new.made.plan in
    let w = c.in-Ok.ensures.waits in
    let same = g.met.V.Space.alike _ _ w.alike in
    let fits = c.in-Ok.ensures.fits i.met i.keeps in
    let keeps = w.kept i.met i.keeps in
    let comes = subst (ComesTo view g.V.Space.tells mid.blocks blocks i.met plan) c.in-Ok-Full.field-0-is
    (c.in-Ok-Full.ensures.comes i.met keeps fits) in
    let l = planned_line view old mid same s i c.args.path.now c.args.parent can c.in-Ok.new.made c.requires.writable
    (c.in-Ok.ensures.planned told s can i) in
    record {
      answered = (
        s,
        full_stepped view g.V.Space.tells old mid blocks same s (waits_in view g.V.Kept.Alike g.V.Space.faults old mid _ w same s i)
            plan fits _ l c.in-Ok-Full.end c.in-Ok-Full.need comes secs,
        same_in view mid blocks comes.comes.2.view_is s (waits_in view g.V.Kept.Alike g.V.Space.faults old mid _ w same s i)
            comes.comes.2.keeps,
      );
      stays = tt;
      well = tt;
      cut_off = tt;
    }

pub returns-clause-steps : goal.returns-clause-steps
returns-clause-steps g c = λ told s secs i can.
    let view = g.V.Space.view in
    let old = c.args.self.now in
    let mid = c.plan_group.new.self in
    let blocks = c.do_plan.new.blocks in
    let plan = c.in-Ok.new.made.plan in
    let w = c.in-Ok.ensures.waits in
    let same = g.met.V.Space.alike _ _ w.alike in
    let fits = c.in-Ok.ensures.fits i.met i.keeps in
    let keeps = w.kept i.met i.keeps in
    let end = c.in-Err-do_plan.ensures in
    let l = planned_line view old mid same s i c.args.path.now c.args.parent can c.in-Ok.new.made c.requires.writable
    (c.in-Ok.ensures.planned told s can i) in
    record {
      answered = tt;
      stays = λ calm.
          let no_memory = ap (λ (x : StepStop). Err x) (only_memory c.in-Err-do_plan.stop calm end.well) in
          readied_in view mid blocks (g.met.V.Space.readied_view _ _ (end.readied no_memory)) s
          (waits_in view g.V.Kept.Alike g.V.Space.faults old mid _ w same s i) (end.kept no_memory i.met keeps);
      well = end.well;
      cut_off = λ fault. cut_stepped view g.V.Space.tells old mid blocks same s
          (waits_in view g.V.Kept.Alike g.V.Space.faults old mid _ w same s i) plan fits _ l
          (end.in_part told fault i.met keeps fits);
    }

pub returns-clause-leaves : goal.returns-clause-leaves
returns-clause-leaves g c =
    let view = g.V.Space.view in
    let old = c.args.self.now in
    let mid = c.plan_group.new.self in
    let blocks = c.do_plan.new.blocks in
    let h = c.requires.sound in
    let w = c.in-Ok.ensures.waits in
    let same = g.met.V.Space.alike _ _ w.alike in
    let end = c.in-Err-do_plan.ensures in
    leaves_stop view g.V.Space.Stands g.V.Space.GoesOn g.V.Space.faults g.V.Space.copy_faults old mid
    (next view mid blocks) same (w.calm (λ f. cc)) (g.met.V.Space.alike_copy _ _ w.alike)
    (g.met.V.Space.edited_kind _ _ end.edited)
    (g.met.V.Space.goes_further _ _ _ (g.met.V.Space.goes_alike _ _ w.alike) (g.met.V.Space.edited_goes _ _ end.edited))
    c.in-Err-do_plan.stop
    (λ calm.
    let no_memory = ap (λ (x : StepStop). Err x) (only_memory c.in-Err-do_plan.stop calm end.well) in
    readied_sound view mid blocks (g.met.V.Space.readied_view _ _ (end.readied no_memory))
    (λ had none. closing_kept (superblock_of mid.tree).version _ _ _ c.closing-closing.result none c.closing-closing.ensures.with
    c.closing-closing.ensures.without (end.given no_memory) had)
    (waits_sound view g.V.Kept.Alike g.V.Space.faults old mid _ w same h)
    (end.kept no_memory h.met (w.kept h.met h.keeps)))
    (λ calm. g.met.V.Space.readied_stands _ _ (end.readied (ap (λ (x : StepStop). Err x)
    (only_memory c.in-Err-do_plan.stop calm end.well))) (g.met.V.Space.alike_stands _ _ w.alike c.requires.stands))
    end.cause
