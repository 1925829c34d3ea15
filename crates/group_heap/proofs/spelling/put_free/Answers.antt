use Rattle.std.proofs.Common.{refl}
use Rattle.h5_base.proofs.FieldLemmas.{puts_more}
use Rattle.group_heap.proofs.spelling.put_free.Goals as goal

pub returns : goal.returns
returns c = puts_more _ _ _ _ _ _ _ refl c.put_u64.ensures c.put_u64-2.ensures
