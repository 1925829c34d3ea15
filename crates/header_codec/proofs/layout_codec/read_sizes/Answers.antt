use Rattle.std.proofs.Common.{◌<◌, ◌∙◌, length, sym, arith, length-set}
use Rattle.std.proofs.lemmas.List.{take_more_set}
use Rattle.header_codec.proofs.SizeLaws.{u32s_at-more}
use Rattle.header_codec.proofs.layout_codec.read_sizes.Goals as goal

pub loop-i-preserved : goal.loop-i-preserved
loop-i-preserved c =
    let room : c.loop-i.i < length c.loop-i.sizes = omega arith in
    record {
      room = length-set c.loop-i.sizes c.loop-i.i c.from.result ∙ c.loop-i.invariant.room;
      read =
          take_more_set c.loop-i.sizes c.loop-i.i c.from.result room
          ∙ rw (c.loop-i.invariant.read, c.from.ensures, c.u32_of.ensures) (sym (u32s_at-more c.args.bytes.now c.args.at c.loop-i.i));
    }
