use Rattle.new_group.proofs.Counted.{all_more}
use Rattle.new_group.proofs.places.next_block.Goals as goal

pub returns : goal.returns
returns g c = record {
  at_is = c.next-at.ensures;
  counted = c.with_block.ensures;
  sum = all_more c.args.ahead.now c.with_block.result c.args.class c.args.len c.with_block.ensures;
}
