use Rattle.std.proofs.Common.{◌≡◌, take, drop, get_or, set, List, ℕ, sym, ◌∙◌, ap}
use Rattle.outside.specs.Files.{resized}
use Rattle.mem_store.specs.Table.{lens_of, contents_of}
use Rattle.mem_store.proofs.ArenaLemmas.{resized_length}
use Rattle.mem_store.proofs.TableLemmas.{len_at, contents-relaid, sum-relaid, content_at}
use Rattle.mem_store.proofs.table.Table.set_len.Goals as goal

pub invariant_of-self : goal.invariant_of-self
invariant_of-self c =
    let here : c.index.result.now.len ≡ get_or (lens_of c.args.self.now.entries.items) c.args.i 0 = len_at c.args.self.now.entries.items c.args.i c.index.result.now c.requires.within c.index.ensures in
    record {
      full = sum-relaid c.args.self.now.entries.items (record c.index_mut.result.now { len = c.args.n }) c.args.self.now.bytes.items c.refit.new.bytes.items (resized c.args.n (take c.index.result.now.len (drop c.start-start.result c.args.self.now.bytes.items))) c.args.i c.start-start.result c.index.result.now.len
          c.requires.within c.start-start.ensures.full c.start-start.ensures.start here (sym (resized_length c.args.n (take c.index.result.now.len (drop c.start-start.result c.args.self.now.bytes.items)))) c.refit.ensures.items;
    }

pub returns-clause-contents : goal.returns-clause-contents
returns-clause-contents c =
    let here : c.index.result.now.len ≡ get_or (lens_of c.args.self.now.entries.items) c.args.i 0 = len_at c.args.self.now.entries.items c.args.i c.index.result.now c.requires.within c.index.ensures in
    let part = content_at c.args.self.now.entries.items c.args.self.now.bytes.items c.args.i c.start-start.result c.index.result.now.len c.requires.within c.start-start.ensures.start here in
    contents-relaid c.args.self.now.entries.items (record c.index_mut.result.now { len = c.args.n }) c.args.self.now.bytes.items c.refit.new.bytes.items (resized c.args.n (take c.index.result.now.len (drop c.start-start.result c.args.self.now.bytes.items))) c.args.i c.start-start.result c.index.result.now.len
    c.requires.within c.start-start.ensures.full c.start-start.ensures.start here (sym (resized_length c.args.n (take c.index.result.now.len (drop c.start-start.result c.args.self.now.bytes.items)))) c.refit.ensures.items
    ∙ ap (λ (l : List ℕ). set (contents_of c.args.self.now.entries.items c.args.self.now.bytes.items) c.args.i (resized c.args.n l)) part
