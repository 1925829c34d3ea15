use Rattle.std.proofs.Common.{◌≡◌, IfSome, drop, refl, ◌∙◌}
use Rattle.h5_base.specs.Refusals.{refusal_of}
use Rattle.h5_base.specs.declared.kinds.BlockKind.TheVariants as kind
use Rattle.h5_base.specs.declared.refusal.Refusal.TheVariants.{Malformed}
use Rattle.node_codec.specs.Snod.{soft_value_at}
use Rattle.file_model.specs.RefusedGroups.{HasNoText, IsEntryRefused, Disordered, NoValue}
use Rattle.block_space.proofs.Stopped.{if_some}
use Rattle.group_reader.specs.Links.{links_of}
use Rattle.group_reader.proofs.EntryLemmas.{after_slice, add_link}
use Rattle.group_reader.proofs.Told.{tells, passed}
use Rattle.group_reader.proofs.entries.push_entry.Goals as goal

pub returns-then-not-comes_last-clause-refused : goal.returns-then-not-comes_last-clause-refused
returns-then-not-comes_last-clause-refused c =
    let after = after_slice c.args.begin c.deref.result.now c.args.gathered.now.links.items c.in-Some.name.now c.comes_last.result c.deref.ensures.value c.comes_last.ensures c.requires.ordered in
    tells c.malformed-then-not-comes_last.result _ (IsEntryRefused c.args.table.now.segment.now c.args.table.now.heap_at c.args.node_at (links_of (drop c.args.begin c.args.gathered.now.links.items)) c.args.entry.now)
    c.malformed-then-not-comes_last.ensures (Disordered c.in-Some.name.now c.in-Some.ensures.found (λ all. let yes = after.1 all in let wrong = c.if-not-comes_last.true in cc) refl)

pub returns-in_err-target-clause-refused : goal.returns-in_err-target-clause-refused
returns-in_err-target-clause-refused c =
    let s = c.args.table.now.segment.now in
    let e = c.args.entry.now in
    let stop = c.in_err-target.field-0.0 in
    let after = after_slice c.args.begin c.deref.result.now c.args.gathered.now.links.items c.in-Some.name.now c.comes_last.result c.deref.ensures.value c.comes_last.ensures c.requires.ordered in
    let Refused = IsEntryRefused s c.args.table.now.heap_at c.args.node_at (links_of (drop c.args.begin c.args.gathered.now.links.items)) e in
    passed c.from_residual.result stop (λ x. IfSome (refusal_of x) Refused) c.from_residual.ensures.1
    (if_some (refusal_of stop) (λ r. (e.cache ≡ 2) × HasNoText s (soft_value_at e) × (r ≡ Malformed c.args.table.now.heap_at kind.Heap)) Refused
    (λ r x. NoValue c.in-Some.name.now c.in-Some.ensures.found (after.0 c.if-not-comes_last.false) x.0 x.1 x.2) c.in_err-target.ensures.refused)

pub returns-clause-adds : goal.returns-clause-adds
returns-clause-adds c =
    let after = after_slice c.args.begin c.deref.result.now c.args.gathered.now.links.items c.in-Some.name.now c.comes_last.result c.deref.ensures.value c.comes_last.ensures c.requires.ordered in
    add_link c.args.table.now.segment.now (links_of (drop c.args.begin c.args.gathered.now.links.items)) c.args.entry.now c.in-Some.name.now c.args.gathered.now (record { links = c.args.gathered.now.links; texts = c.read_target.new.texts }) _ (record {
      link = record { name = c.from_bytes-name.result; target = c.in_ok-target.target };
      behind = c.in_ok-push.ensures.items;
      first = c.in_ok-target.ensures.spent;
      then = c.in_ok-keep_text.ensures.spent;
      name_is = c.from_bytes-name.ensures ∙ c.in_ok-keep_text.ensures.copied;
      there = c.in-Some.ensures.found;
      target = c.in_ok-target.ensures.found;
      ordered = after.0 c.if-not-comes_last.false;
    })
