use Rattle.std.proofs.Common.{sym, ◌∙◌, arith}
use Rattle.std.proofs.lemmas.List.{length-map}
use Rattle.mem_store.specs.Table.{lens_of}
use Rattle.mem_store.proofs.CutLemmas.{length-piece}
use Rattle.mem_store.proofs.TableLemmas.{len_at}
use Rattle.mem_store.proofs.table.Table.len_at.Goals as goal

pub returns-clause-len : goal.returns-clause-len
returns-clause-len c =
    len_at c.args.self.now.entries.items c.args.i c.index.result.now c.requires c.index.ensures
    ∙ sym (length-piece (lens_of c.args.self.now.entries.items) c.args.self.now.bytes.items c.args.i (rw length-map c.requires) (omega (arith, c.args.self.now.full)))

pub returns-clause-entry : goal.returns-clause-entry
returns-clause-entry c = len_at c.args.self.now.entries.items c.args.i c.index.result.now c.requires c.index.ensures

pub returns-clause-within : goal.returns-clause-within
returns-clause-within c = omega (arith, len_at c.args.self.now.entries.items c.args.i c.index.result.now c.requires c.index.ensures, c.start-start.ensures.within)
