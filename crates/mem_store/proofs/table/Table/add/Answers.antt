use Rattle.std.proofs.Common.{rules, ◌≡◌, ◌∷◌, ◌++◌, [], length, refl, ◌∙◌}
use Rattle.mem_store.specs.Table.{contents_of}
use Rattle.mem_store.specs.declared.table.Entry.{Entry}
use Rattle.mem_store.proofs.TableLemmas.{contents-added}
use Rattle.mem_store.proofs.table.Table.add.Goals as goal

pub returns-clause-contents : goal.returns-clause-contents
returns-clause-contents c =
    let entry : Entry = record { len = length c.args.bytes.now; made = c.new.result } in
    let entries : c.push.new.self.items ≡ c.args.self.now.entries.items ++ entry ∷ [] = search rules in
    let bytes : c.extend_from_slice.new.self.items ≡ c.args.self.now.bytes.items ++ c.args.bytes.now = search rules in
    (λ j. contents_of (entries j) (bytes j))
    ∙ contents-added c.args.self.now.entries.items entry c.args.self.now.bytes.items c.args.bytes.now refl c.args.self.now.full
