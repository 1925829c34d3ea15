use Rattle.std.proofs.Common.{◌≡◌, ℕ, ◌+◌, ◌*◌, List, ◌++◌, length, refl, arith, length-append}
use Rattle.std.specs.Int.{w32, to_le_bytes}
use Rattle.std.proofs.lemmas.List.Elements.{All-from_get_or}
use Rattle.h5_base.specs.Fields.{u64s_bytes}
use Rattle.h5_base.proofs.FieldLemmas.{puts_more, length-u64s_bytes}
use Rattle.node_codec.specs.TreeHead.{IsU64}
use Rattle.node_codec.proofs.chunk_node.put_parts.Goals as goal

pub returns-clause-put : goal.returns-clause-put
returns-clause-put c =
    let os = c.args.offset.now in
    let head : List ℕ = to_le_bytes w32 c.args.bytes ++ to_le_bytes w32 c.args.mask in
    let e : c.args.at + 8 + 8 * length os ≡ c.args.at + length (head ++ u64s_bytes os) =
    omega (arith, length-append head (u64s_bytes os), length-u64s_bytes os) in
    puts_more _ _ _ _ _ _ _ e
    (puts_more _ _ _ _ _ _ _ refl (puts_more _ _ _ _ _ _ _ refl c.put_u32.ensures c.put_u32-2.ensures) c.put_u64s.ensures)
    c.put_u64.ensures

pub returns-clause-range : goal.returns-clause-range
returns-clause-range c = record {
  bytes = omega arith;
  mask = omega arith;
  offset = All-from_get_or IsU64 c.args.offset.now 0 (λ i lt. omega (arith, c.type_inv.offset i));
}
