use Rattle.std.proofs.Common.{refl}
use Rattle.h5_base.proofs.FieldLemmas.{puts_more}
use Rattle.node_codec.proofs.tree_head.put_tree_head.Goals as goal

pub returns-clause-put : goal.returns-clause-put
returns-clause-put c =
    puts_more _ _ _ _ _ _ _ refl
    (puts_more _ _ _ _ _ _ _ refl (puts_more _ _ _ _ _ _ _ refl c.put_bytes.ensures c.put_u16.ensures) c.put_u64.ensures)
    c.put_u64-2.ensures
