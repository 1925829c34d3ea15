use Rattle.std.proofs.Common.{◌≡◌, ◌≤◌, List, IfSome, length, sym, subst, arith}
use Rattle.file_model.specs.Groups.{Found}
use Rattle.file_model.specs.RefusedGroups.{names_of, AreEntriesRefused}
use Rattle.h5_base.specs.Refusals.{refusal_of}
use Rattle.object_model.specs.Tree.{AreOrdered}
use Rattle.group_reader.proofs.EntryLemmas.{adds_none, adds_grows, done_is, add_entry, one_entry}
use Rattle.group_reader.proofs.Told.{passed}
use Rattle.group_reader.proofs.entries.push_entries.Goals as goal

pub loop-entry-init : goal.loop-entry-init
loop-entry-init c = adds_none c.args.gathered.now tt

pub push_entry-requires-clause-begun : goal.push_entry-requires-clause-begun
push_entry-requires-clause-begun c =
    let begin : c.len-begin.result ≡ length c.args.gathered.now.links.items = omega (arith, c.len-begin.ensures, c.args.gathered.now.links.ok.0) in
    let grows = adds_grows c.args.gathered.now c.loop-entry.gathered c.loop-entry.invariant in
    let le : c.len-begin.result ≤ length c.loop-entry.gathered.links.items = omega (arith, begin, grows) in
    le

pub push_entry-requires-clause-ordered : goal.push_entry-requires-clause-ordered
push_entry-requires-clause-ordered c =
    let begin : c.len-begin.result ≡ length c.args.gathered.now.links.items = omega (arith, c.len-begin.ensures, c.args.gathered.now.links.ok.0) in
    subst (λ (l : List Found). AreOrdered (names_of l)) (sym (done_is c.len-begin.result c.args.gathered.now c.loop-entry.gathered c.loop-entry.invariant begin)) c.loop-entry.invariant.ordered

pub returns-in_err-push_entry-clause-refused : goal.returns-in_err-push_entry-clause-refused
returns-in_err-push_entry-clause-refused c =
    let begin : c.len-begin.result ≡ length c.args.gathered.now.links.items = omega (arith, c.len-begin.ensures, c.args.gathered.now.links.ok.0) in
    let a = c.loop-entry.invariant in
    let stop = c.in_err-push_entry.field-0.0 in
    passed c.from_residual.result stop (λ x. IfSome (refusal_of x) (AreEntriesRefused c.args.table.now.segment.now c.args.table.now.heap_at c.args.node_at c.args.entries.now)) c.from_residual.ensures.1
    (one_entry c.args.table.now.segment.now c.args.table.now.heap_at c.args.node_at c.args.entries.now c.loop-entry.entry-index _ _ (refusal_of stop) c.args.gathered.now c.loop-entry.gathered a c.loop-entry-test.true
    (done_is c.len-begin.result c.args.gathered.now c.loop-entry.gathered a begin) c.in_err-push_entry.ensures.refused)

pub loop-entry-preserved : goal.loop-entry-preserved
loop-entry-preserved c =
    let begin : c.len-begin.result ≡ length c.args.gathered.now.links.items = omega (arith, c.len-begin.ensures, c.args.gathered.now.links.ok.0) in
    let a = c.loop-entry.invariant in
    add_entry c.args.table.now.segment.now c.args.entries.now c.loop-entry.entry-index _ _ c.args.gathered.now c.loop-entry.gathered _ a c.loop-entry-test.true
    (done_is c.len-begin.result c.args.gathered.now c.loop-entry.gathered a begin) c.in_ok-push_entry.ensures.adds
