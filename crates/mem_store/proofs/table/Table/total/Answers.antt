use Rattle.std.proofs.Common.{arith}
use Rattle.std.proofs.lemmas.Grind.{common_steps}
use Rattle.mem_store.specs.Table.{lens_of}
use Rattle.mem_store.proofs.CutLemmas.{sum_by-cut}
use Rattle.mem_store.proofs.table.Table.total.Goals as goal

pub returns-clause-sum : goal.returns-clause-sum
returns-clause-sum c =
    let whole = sum_by-cut (lens_of c.args.self.now.entries.items) c.args.self.now.bytes.items (omega (arith, c.args.self.now.full)) in
    grind (arith, common_steps, whole, c.args.self.now.full, c.len.ensures)
