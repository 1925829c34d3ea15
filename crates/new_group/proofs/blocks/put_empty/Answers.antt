use Rattle.std.proofs.Common.{List, ℕ, ◌++◌, refl, subst}
use Rattle.std.specs.Int.{w64, to_le_bytes}
use Rattle.h5_base.specs.Fields.{Puts}
use Rattle.h5_base.proofs.FieldLemmas.{puts_more}
use Rattle.new_group.proofs.Bytes.{segment_is}
use Rattle.new_group.proofs.blocks.put_empty.Goals as goal

pub returns : goal.returns
returns c = segment_is c.put_u64-2.new.out
    (subst (λ (old : List ℕ). Puts old c.put_u64-2.new.out 8 (to_le_bytes w64 1 ++ to_le_bytes w64 80)) c.requires
    (puts_more _ _ _ _ _ _ _ refl c.put_u64.ensures c.put_u64-2.ensures))
