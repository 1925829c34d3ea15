use Rattle.std.proofs.Common.{◌≡◌, ◌+◌, ◌-◌, ◌<◌, length, take, drop, get_or, sym, ◌∙◌, ap, arith}
use Rattle.std.proofs.lemmas.List.{length-map}
use Rattle.mem_store.specs.declared.table.Entry.{Entry}
use Rattle.mem_store.specs.Table.{lens_of}
use Rattle.mem_store.proofs.CutLemmas.{get_or-cut}
use Rattle.mem_store.proofs.TableLemmas.{map_at}
use Rattle.mem_store.proofs.table.Table.bytes_at.Goals as goal

pub returns : goal.returns
returns c =
    let lt : c.args.i < length (lens_of c.args.self.now.entries.items) = rw length-map c.requires in
    let here : c.index.result.now.len ≡ get_or (lens_of c.args.self.now.entries.items) c.args.i 0 =
    ap (λ (e : Entry). e.len) c.index.ensures ∙ sym (map_at (λ (e : Entry). e.len) c.args.self.now.entries.items c.args.i 0 c.index.result.now c.requires) in
    let size : c.start-start.result + c.index.result.now.len - c.start-start.result ≡ get_or (lens_of c.args.self.now.entries.items) c.args.i 0 = omega (arith, here) in
    (λ j. take (size j) (drop (c.start-start.ensures.start j) (c.deref.ensures.value j)))
    ∙ sym (get_or-cut (lens_of c.args.self.now.entries.items) c.args.self.now.bytes.items c.args.i lt)
