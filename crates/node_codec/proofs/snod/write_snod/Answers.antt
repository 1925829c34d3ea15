use Rattle.std.proofs.Common.{◌≡◌, ℕ, length, replicate, refl, ap, ◌∙◌}
use Rattle.std.specs.List.{flat_map}
use Rattle.std.specs.Int.{w16, to_le_bytes}
use Rattle.h5_base.specs.Fields.{Puts}
use Rattle.h5_base.proofs.FieldLemmas.{puts_more}
use Rattle.node_codec.specs.Snod.{snod_bytes, snod_len, entry_bytes}
use Rattle.node_codec.proofs.PutLemmas.{puts-padded}
use Rattle.node_codec.proofs.SnodLemmas.{snod-spelled}
use Rattle.node_codec.proofs.snod.write_snod.Goals as goal

pub returns-clause-bytes : goal.returns-clause-bytes
unfolding snod_bytes
returns-clause-bytes c =
    let es = c.args.v.now.items in
    let zeros : c.fill.new.self ≡ replicate {A = ℕ} (snod_len c.args.k) 0 =
    c.fill.ensures.after (λ y e. e) ∙ ap (λ m. replicate {A = ℕ} m 0) c.requires.room in
    let count : Puts c.put_bytes.new.out c.put_u16.new.out 6 (to_le_bytes w16 (length es)) = rw (← c.as_slice-entries.ensures.value) c.put_u16.ensures in
    let entries : Puts c.put_u16.new.out c.put_entries.new.out 8 (flat_map entry_bytes es) = rw (← c.as_slice-entries.ensures.value) c.put_entries.ensures.put in
    let all = puts_more _ _ _ 0 8 _ _ refl (puts_more _ _ _ 0 6 _ _ refl c.put_bytes.ensures count) entries in
    puts-padded (snod_len c.args.k) c.put_entries.new.out _ (rw zeros at all)

pub returns-clause-spelled : goal.returns-clause-spelled
returns-clause-spelled c =
    let r = c.requires in
    rw (returns-clause-bytes c) (snod-spelled c.args.k c.args.v.now.items r.k r.counts (rw c.as_slice-entries.ensures.value at c.put_entries.ensures.range))
