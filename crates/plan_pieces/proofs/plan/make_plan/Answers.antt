use Rattle.std.proofs.Common.{◌∙◌, List, ap, sym, subst, length}
use Rattle.std.specs.List.{All}
use Rattle.block_space.specs.Catalogue.{blocks_of}
use Rattle.block_space.specs.Plans.{sum_of}
use Rattle.plan_pieces.specs.declared.image.NewBlock.{NewBlock}
use Rattle.plan_pieces.specs.Images.{image_blocks, takes_of}
use Rattle.plan_pieces.specs.Plan.{EndsBelow}
use Rattle.plan_pieces.proofs.Ranged.{changed_below, plan_of}
use Rattle.plan_pieces.proofs.plan.make_plan.Goals as goal

pub ranges_in-requires : goal.ranges_in-requires
ranges_in-requires c = record {
  ends = subst (All EndsBelow) (sym c.deref-2.ensures.value)
      (changed_below c.args.old.items c.args.writes.items c.in_ok-images.images.items c.in_ok-images.ensures.changed
      c.requires.ends);
}

pub returns : goal.returns
returns c = plan_of c.args.old.items c.args.writes.items c.args.fills.items c.in_ok-images.images.items
    (record {
      needs = c.needs_of-needs.result;
      takes = c.from_vec.result;
      writes = c.from_vec-2.result;
      images = c.from_vec-3.result;
    })
    c.in_ok-images.ensures.changed c.in_ok-images.ensures.ascend c.requires.sums
    (ap blocks_of c.from_vec-2.ensures ∙ c.in_ok-ranges.ensures ∙ ap image_blocks c.deref-2.ensures.value)
    (c.from_vec.ensures ∙ c.in_ok-takes.ensures ∙ ap takes_of c.deref-3.ensures.value)
    (c.from_vec-3.ensures ∙ c.in_ok-bytes.ensures)
    (λ k. c.needs_of-needs.ensures.bytes k ∙ ap (λ (ns : List NewBlock). sum_of k (takes_of ns)) c.deref.ensures.value)
    (c.needs_of-needs.ensures.blocks ∙ ap (λ (ns : List NewBlock). length ns) c.deref.ensures.value)
