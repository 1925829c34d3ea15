use Rattle.std.proofs.Common.{ℕ, List, ◌++◌, [], ◌∷◌, map, get_or, arith, sym, ap, ◌∙◌}
use Rattle.std.proofs.lemmas.List.{map_push, map_more, take_all}
use Rattle.outside.specs.Blocks.{Block}
use Rattle.file_model.specs.Groups.{leaf_block}
use Rattle.plan_pieces.specs.Images.{image_block}
use Rattle.group_layout.proofs.ImageLemmas.{leaf_image_block, leaf_image_more, none_left, part_fits}
use Rattle.group_layout.proofs.leaves.leaf_images.Goals as goal

pub loop-at-preserved : goal.loop-at-preserved
loop-at-preserved c =
    let ks = c.args.ks in
    let ats = c.args.ats.now in
    let i = c.loop-at.at-index in
    let from = c.loop-at.from in
    let before = c.loop-at.images.items in
    let image = c.in_ok-image.image in
    let at : ℕ = get_or ats i 0 in
    let items = c.in-Ok.ensures.items in
    let told = c.in_ok-image.ensures in
    let block = leaf_image_block ks at _ image told in
    record {
      inside = omega arith;
      blocks = ap (map image_block) items ∙ map_push image_block before image
          ∙ ap (λ (b : Block). map image_block before ++ b ∷ []) block
          ∙ ap (λ (l : List Block). l ++ leaf_block ks at ∷ []) c.loop-at.invariant.blocks
          ∙ sym (map_more (leaf_block ks) ats i 0 c.loop-at-test.true);
      spelled = λ b h.
          leaf_image_more b ks before ats c.args.entries.now i from c.part_end-to.result image c.loop-at-test.true
          c.part_end-to.ensures told (c.loop-at.invariant.spelled b) (rw items at h);
    }

pub loop-at-init : goal.loop-at-init
loop-at-init c = record {
  inside = omega arith;
  blocks = ap (map image_block) c.new-images.ensures.items;
  spelled = λ b h s. s;
}

pub leaf_image-requires : goal.leaf_image-requires
leaf_image-requires c = record {
  k = c.requires.k;
  fits = part_fits c.args.ks.leaf c.loop-at.from c.part_end-to.result c.args.entries.now c.requires.caches
      c.part_end-to.ensures;
}

pub returns : goal.returns
returns c =
    let ats = c.args.ats.now in
    let i = c.loop-at.at-index in
    record {
      blocks = c.loop-at.invariant.blocks ∙ ap (map (leaf_block c.args.ks)) (take_all i ats c.loop-at-test.false);
      spelled = λ b h.
          none_left b c.args.ks ats c.args.entries.now i c.loop-at.from c.loop-at-test.false
          (c.loop-at.invariant.spelled b h);
    }
