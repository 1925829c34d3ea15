use Rattle.std.proofs.Common.{refl}
use Rattle.h5_base.proofs.FieldLemmas.{puts_more}
use Rattle.node_codec.proofs.snod.put_entry.Goals as goal

pub returns-clause-put : goal.returns-clause-put
returns-clause-put c =
    puts_more _ _ _ _ _ _ _ refl
    (puts_more _ _ _ _ _ _ _ refl
    (puts_more _ _ _ _ _ _ _ refl
    (puts_more _ _ _ _ _ _ _ refl (puts_more _ _ _ _ _ _ _ refl c.put_u64.ensures c.put_u64-2.ensures) c.put_u32.ensures)
    c.put_u32-2.ensures)
    c.put_u64-3.ensures)
    c.put_u64-4.ensures
