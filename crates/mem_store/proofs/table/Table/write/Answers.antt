use Rattle.std.proofs.Common.{◌≡◌, take, drop, get_or, set, List, ℕ, ◌∙◌, ap, arith}
use Rattle.outside.specs.Files.{written}
use Rattle.mem_store.specs.Table.{lens_of, contents_of}
use Rattle.mem_store.proofs.ArenaLemmas.{written_size}
use Rattle.mem_store.proofs.TableLemmas.{len_at, contents-relaid, sum-relaid, content_at}
use Rattle.mem_store.proofs.table.Table.write.Goals as goal

pub invariant_of-self : goal.invariant_of-self
invariant_of-self c =
    let here : c.index.result.now.len ≡ get_or (lens_of c.args.self.now.entries.items) c.args.i 0 = len_at c.args.self.now.entries.items c.args.i c.index.result.now c.requires.within c.index.ensures in
    record {
      full = sum-relaid c.args.self.now.entries.items (record c.index_mut.result.now { len = c.max.result }) c.args.self.now.bytes.items c.overwrite.new.bytes.items (written c.args.at c.args.piece.now (take c.index.result.now.len (drop c.start-start.result c.args.self.now.bytes.items))) c.args.i c.start-start.result c.index.result.now.len
          c.requires.within c.start-start.ensures.full c.start-start.ensures.start here (written_size c.max.result c.args.at c.start-start.result c.index.result.now.len c.args.self.now.bytes.items c.args.piece.now (omega (arith, here, c.start-start.ensures.within)) c.max.ensures) c.overwrite.ensures.items;
    }

pub returns-clause-contents : goal.returns-clause-contents
returns-clause-contents c =
    let here : c.index.result.now.len ≡ get_or (lens_of c.args.self.now.entries.items) c.args.i 0 = len_at c.args.self.now.entries.items c.args.i c.index.result.now c.requires.within c.index.ensures in
    let part = content_at c.args.self.now.entries.items c.args.self.now.bytes.items c.args.i c.start-start.result c.index.result.now.len c.requires.within c.start-start.ensures.start here in
    contents-relaid c.args.self.now.entries.items (record c.index_mut.result.now { len = c.max.result }) c.args.self.now.bytes.items c.overwrite.new.bytes.items (written c.args.at c.args.piece.now (take c.index.result.now.len (drop c.start-start.result c.args.self.now.bytes.items))) c.args.i c.start-start.result c.index.result.now.len
    c.requires.within c.start-start.ensures.full c.start-start.ensures.start here (written_size c.max.result c.args.at c.start-start.result c.index.result.now.len c.args.self.now.bytes.items c.args.piece.now (omega (arith, here, c.start-start.ensures.within)) c.max.ensures) c.overwrite.ensures.items
    ∙ ap (λ (l : List ℕ). set (contents_of c.args.self.now.entries.items c.args.self.now.bytes.items) c.args.i (written c.args.at c.args.piece.now l)) part
