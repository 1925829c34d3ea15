use Rattle.std.proofs.lemmas.Result.{IfOk-weaker}
use Rattle.group_heap.proofs.naming.put_name.Goals as goal

pub returns-then-used-name : goal.returns-then-used-name
returns-then-used-name c = record {
  puts = IfOk-weaker c.put_in_place.result _ _ (λ edit h. h c.args.segment_at) c.put_in_place.ensures;
}
