use Rattle.std.proofs.Common.{◌≡◌, ◌<◌, length, take, sum, List, sym, ◌∙◌, ap, arith}
use Rattle.std.proofs.lemmas.List.{take-map, length-map}
use Rattle.mem_store.specs.declared.table.Entry.{Entry}
use Rattle.mem_store.specs.Table.{lens_of}
use Rattle.mem_store.proofs.CutLemmas.{sum_part}
use Rattle.mem_store.proofs.table.Table.start.Goals as goal

pub sum_of-requires : goal.sum_of-requires
sum_of-requires c =
    let front : sum (lens_of (take c.args.i c.deref.result.now)) ≡ sum (take c.args.i (lens_of c.args.self.now.entries.items)) =
    ap (λ (es : List Entry). sum (lens_of (take c.args.i es))) c.deref.ensures.value ∙ ap sum (sym (take-map (λ (e : Entry). e.len) c.args.i c.args.self.now.entries.items)) in
    let lt : c.args.i < length (lens_of c.args.self.now.entries.items) = rw length-map c.requires in
    omega (arith, front, sum_part (lens_of c.args.self.now.entries.items) c.args.i lt, c.args.self.now.full, c.args.self.now.bytes.small)

pub returns-clause-start : goal.returns-clause-start
returns-clause-start c =
    c.sum_of.ensures ∙ ap (λ (es : List Entry). sum (lens_of (take c.args.i es))) c.deref.ensures.value ∙ ap sum (sym (take-map (λ (e : Entry). e.len) c.args.i c.args.self.now.entries.items))

pub returns-clause-within : goal.returns-clause-within
returns-clause-within c =
    let start : c.sum_of.result ≡ sum (take c.args.i (lens_of c.args.self.now.entries.items)) =
    c.sum_of.ensures ∙ ap (λ (es : List Entry). sum (lens_of (take c.args.i es))) c.deref.ensures.value ∙ ap sum (sym (take-map (λ (e : Entry). e.len) c.args.i c.args.self.now.entries.items)) in
    let lt : c.args.i < length (lens_of c.args.self.now.entries.items) = rw length-map c.requires in
    omega (arith, start, sum_part (lens_of c.args.self.now.entries.items) c.args.i lt, c.args.self.now.full)
