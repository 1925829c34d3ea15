use Rattle.std.proofs.Common.{◌≡◌, ◌-◌, ◌<◌, suc, length, arith, sym, ap, ◌∙◌}
use Rattle.node_codec.specs.declared.snod.SnodEntry.{SnodEntry}
use Rattle.group_layout.proofs.Parts.{last_key_at}
use Rattle.group_layout.proofs.keys.last_key.Goals as goal

pub returns-in-Some : goal.returns-in-Some
returns-in-Some c =
    let es = c.args.entries.now in
    let e : SnodEntry = c.in-Some.entry.now in
    let item = c.in-Some.ensures.item in
    let some : 0 < length es = item.3.0 in
    let last = item.4 (omega arith) e in
    let count : length es ≡ suc (length es - 1) = omega arith in
    ap (λ (x : SnodEntry). x.name_at) last ∙ sym (last_key_at c.args.before es (length es - 1) e count)
