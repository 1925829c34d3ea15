-- A symbol table makes a group, and without one the parts make a dataset where all are told.
use Rattle.std.proofs.Common.{◌≡◌, ℕ, List, Option, Some, None, sym, subst, ap, ◌∙◌, refl, arith, ◌≤◌, length, Err}
use Rattle.h5_base.specs.Fields.{u64_at}
use Rattle.file_model.specs.Headers.{Met}
use Rattle.header_reader.specs.Firsts.{Firsts}
use Rattle.header_reader.specs.Seen.{firsts_of, met_of}
use Rattle.header_reader.specs.declared.kept.Kept.{Kept}
use Rattle.tree_nodes.specs.declared.node.Node.TheVariants as node
use Rattle.header_reader.proofs.KindLaws.{group_made, data_made, other_made}
use Rattle.header_reader.proofs.ToldLaws.{sound_told}
use Rattle.header_reader.proofs.messages.Messages.node.Goals as goal

table_seen : (v kept : Firsts) (place o : Option Kept) → v ≡ kept → v.table ≡ met_of 0x11 place → place ≡ o → kept.table ≡ met_of 0x11 o
table_seen v kept place o see seen is = sym (ap (λ (x : Firsts). x.table) see) ∙ seen ∙ ap (met_of 0x11) is

pub returns-in-Some-clause-made : goal.returns-in-Some-clause-made
returns-in-Some-clause-made c =
    λ ms h w. let kept = c.in-Some.table in
    let table : Met = record { kind = 0x11; flags = kept.flags; at = kept.at; body = kept.body } in
    group_made c.args.self.now ms c.args.header_at table c.group.result (table_seen (firsts_of c.self.inside) c.args.self.now c.self.inside.table (Some c.in-Some.table) c.self.view_is refl c.in-Some.is)
    (subst (λ (b : List ℕ). 16 ≤ length b → c.group.result ≡ node.Group c.args.header_at (u64_at b 0) (u64_at b 8)) c.as_slice.ensures c.group.ensures.made)
    h
    w

pub returns-in-Ok-clause-made : goal.returns-in-Ok-clause-made
returns-in-Ok-clause-made c =
    λ ms h w. let none : c.self.inside.table ≡ None = grind arith in
    data_made c.args.self.now ms c.args.header_at c.in-Ok.node (table_seen (firsts_of c.self.inside) c.args.self.now c.self.inside.table None c.self.view_is refl none) c.in-Ok.ensures.found h

pub returns-in-Err-Other-clause-made : goal.returns-in-Err-Other-clause-made
returns-in-Err-Other-clause-made c =
    λ ms h w. let none : c.self.inside.table ≡ None = grind arith in (
      refl,
      other_made c.args.self.now ms (table_seen (firsts_of c.self.inside) c.args.self.now c.self.inside.table None c.self.view_is refl none)
          (c.in-Err-Other.ensures.other (ap (λ s. Err s) c.in-Err-Other.field-0-is))
          h,
    )

pub returns-in-Ok-clause-sound : goal.returns-in-Ok-clause-sound
returns-in-Ok-clause-sound c = sound_told c.args.self.now c.args.header_at c.in-Ok.node c.in-Ok.ensures.found
