use Rattle.std.proofs.Common.{Err, ◌≡◌, ℕ, suc, ◌+◌, ◌-◌, List, IsTrue, IfErr, IfSome, OnOk, length, get_or, refl, sym}
use Rattle.std.proofs.Common.{◌∙◌, ap, subst, arith}
use Rattle.outside.proofs.Causes.{one_later}
use Rattle.h5_base.specs.Refusals.{refusal_of}
use Rattle.block_space.specs.Blocks.{Takes, Refuses, array_of}
use Rattle.file_model.specs.Groups.{StandsAt}
use Rattle.file_model.specs.RefusedGroups.{FitKeys, IsKeyRefused, IsIndexRefused}
use Rattle.group_reader.specs.declared.link.FoundLink.{FoundLink}
use Rattle.group_reader.specs.Links.{Adds}
use Rattle.group_reader.specs.Reading.{AreChildren}
use Rattle.group_reader.proofs.ChildSteps.{as_node, cut_at, cut_on, child_none, child_all, child_stops, add_child}
use Rattle.group_reader.proofs.ChildSteps.{key_stops, handed, parts_are, told_of}
use Rattle.group_reader.proofs.EntryLemmas.{adds_grows}
use Rattle.group_reader.proofs.IndexLemmas.{head_index, other_level, index_found, index_refused}
use Rattle.group_reader.proofs.Told.{passed, passed_failed}
use Rattle.group_reader.proofs.index.+index.Goals as goal

pub read_child-returns-then-level-eq0-clause-adds : goal.read_child-returns-then-level-eq0-clause-adds
read_child-returns-then-level-eq0-clause-adds g t c =
    let x = c.args.table.now in
    subst (λ (n : ℕ). OnOk c.read_leaf.result (Adds c.args.gathered.now c.read_leaf.new.gathered
    (λ fs. Takes g.V.Space.view c.args.blocks.now c.read_leaf.new.blocks (λ bs.
    IsTrue g.V.Space.tells → StandsAt (array_of g.V.Space.view c.args.blocks.now) x.ks x.segment.now n c.args.at fs
    bs)))) (sym c.if-level-eq0.true) c.read_leaf.ensures.adds

pub read_child-returns-then-level-eq0-clause-refused : goal.read_child-returns-then-level-eq0-clause-refused
read_child-returns-then-level-eq0-clause-refused g t c = λ told.
    let x = c.args.table.now in
    subst (λ (n : ℕ). IfErr c.read_leaf.result (Refuses g.V.Space.view c.args.blocks.now (λ e met.
    IsIndexRefused (array_of g.V.Space.view c.args.blocks.now) e x.ks x.segment.now x.heap_at n met c.args.at)))
    (sym c.if-level-eq0.true) (c.read_leaf.ensures.refused told)

pub read_child-returns-else-level-eq0-clause-adds : goal.read_child-returns-else-level-eq0-clause-adds
read_child-returns-else-level-eq0-clause-adds g t c =
    let x = c.args.table.now in
    let more : suc (c.args.level - 1) ≡ c.args.level = omega (arith, c.if-level-eq0.false) in
    subst (λ (n : ℕ). OnOk c.read_index.result (Adds c.args.gathered.now c.read_index.new.gathered
    (λ fs. Takes g.V.Space.view c.args.blocks.now c.read_index.new.blocks (λ bs.
    IsTrue g.V.Space.tells → StandsAt (array_of g.V.Space.view c.args.blocks.now) x.ks x.segment.now n c.args.at fs
    bs)))) more c.read_index.ensures.adds

pub read_child-returns-else-level-eq0-clause-refused : goal.read_child-returns-else-level-eq0-clause-refused
read_child-returns-else-level-eq0-clause-refused g t c = λ told.
    let x = c.args.table.now in
    let more : suc (c.args.level - 1) ≡ c.args.level = omega (arith, c.if-level-eq0.false) in
    subst (λ (n : ℕ). IfErr c.read_index.result (Refuses g.V.Space.view c.args.blocks.now (λ e met.
    IsIndexRefused (array_of g.V.Space.view c.args.blocks.now) e x.ks x.segment.now x.heap_at n met c.args.at))) more
    (c.read_index.ensures.refused told)

pub read_children-loop-i-init : goal.read_children-loop-i-init
read_children-loop-i-init g t c =
    let x = c.args.table.now in
    record {
      alike = g.V.Kept.reflexive _;
      calm = refl;
      adds = child_none g.V.Space.tells g.V.Space.view x.ks x.segment.now x.heap_at c.args.node.now.level c.args.node_at
          c.as_slice-keys.result.now c.as_slice-children.result.now c.args.blocks.now c.args.gathered.now;
    }

pub read_children-returns-in_err-read_child-clause-refused : goal.read_children-returns-in_err-read_child-clause-refused
read_children-returns-in_err-read_child-clause-refused g t c = λ told.
    let x = c.args.table.now in
    let cut = cut_at c.as_slice-keys.result.now c.as_slice-children.result.now _ _ c.as_slice-keys.ensures
    c.as_slice-children.ensures c.requires.one_more c.loop-i.i c.loop-i-test.true in
    let same = sym (g.met.V.Space.alike _ _ c.loop-i.invariant.alike) in
    let stop = c.in_err-read_child.field-0.0 in
    handed g.V.Space.tells g.V.Space.view x.ks x.segment.now x.heap_at c.args.node.now.level c.args.node_at
    c.as_slice-keys.result.now c.as_slice-children.result.now
    _ _ c.as_slice-keys.ensures c.as_slice-children.ensures c.args.blocks.now c.from_residual.result stop
    c.from_residual.ensures.1
    (child_stops g.V.Space.tells g.V.Space.view x.ks x.segment.now x.heap_at c.args.node.now.level c.args.node_at
    c.as_slice-keys.result.now c.as_slice-children.result.now
    c.args.blocks.now c.loop-i.blocks _ _ _ _ _ _ _ c.args.gathered.now c.loop-i.gathered cut same
    c.loop-i.invariant.adds stop told (c.in_err-read_child.ensures.refused told))

pub read_children-returns-in_err-read_child-clause-failed : goal.read_children-returns-in_err-read_child-clause-failed
read_children-returns-in_err-read_child-clause-failed g t c =
    passed_failed c.from_residual.result c.in_err-read_child.field-0.0 c.from_residual.ensures.1
    (λ failed. one_later _ _ _ (g.met.V.Space.goes_counts _ _ (g.met.V.Space.goes_alike _ _ c.loop-i.invariant.alike))
    (c.in_err-read_child.ensures.failed (ap Err failed)))

pub read_children-parts_at-requires-clause-order : goal.read_children-parts_at-requires-clause-order
read_children-parts_at-requires-clause-order g t c =
    omega (
      arith,
      c.len-begin.ensures,
      c.args.gathered.now.links.ok.0,
      c.len-middle.ensures,
      c.loop-i.gathered.links.ok.0,
      adds_grows c.args.gathered.now c.loop-i.gathered c.loop-i.invariant.adds,
    )

pub read_children-parts_at-requires-clause-inside : goal.read_children-parts_at-requires-clause-inside
read_children-parts_at-requires-clause-inside g t c =
    omega (
      arith,
      c.len-middle.ensures,
      c.loop-i.gathered.links.ok.0,
      ap (λ (l : List FoundLink). length l)
          c.deref.ensures.value,
      adds_grows c.loop-i.gathered c.read_child.new.gathered c.in_ok-read_child.ensures.adds,
    )

pub read_children-returns-in_err-check_keys-clause-refused : goal.read_children-returns-in_err-check_keys-clause-refused
read_children-returns-in_err-check_keys-clause-refused g t c = λ told.
    let x = c.args.table.now in
    let cut = cut_at c.as_slice-keys.result.now c.as_slice-children.result.now _ _ c.as_slice-keys.ensures
    c.as_slice-children.ensures c.requires.one_more c.loop-i.i c.loop-i-test.true in
    let same = sym (g.met.V.Space.alike _ _ c.loop-i.invariant.alike) in
    let a = c.loop-i.invariant.adds in
    let r = c.in_ok-read_child.ensures.adds in
    let begin : c.len-begin.result ≡ length c.args.gathered.now.links.items = omega
    (arith, c.len-begin.ensures, c.args.gathered.now.links.ok.0) in
    let middle : c.len-middle.result ≡ length c.loop-i.gathered.links.items = omega
    (arith, c.len-middle.ensures, c.loop-i.gathered.links.ok.0) in
    let parts = parts_are c.len-begin.result c.len-middle.result c.args.gathered.now.links.items
    c.loop-i.gathered.links.items c.read_child.new.gathered.links.items c.deref.result.now _ _ a.added r.added
    begin middle c.deref.ensures.value a.behind r.behind c.parts_at.ensures.done c.parts_at.ensures.here in
    let stop = c.in_err-check_keys.field-0.0 in
    let why = told_of (λ d h. IfSome (refusal_of stop) (IsKeyRefused x.segment.now x.heap_at c.args.node_at
    (get_or c.as_slice-keys.result.now c.loop-i.i 0) (get_or c.as_slice-keys.result.now (c.loop-i.i + 1) 0) d h))
    _ _ a.added r.added parts a.ordered r.ordered c.in_err-check_keys.ensures.refused in
    handed g.V.Space.tells g.V.Space.view x.ks x.segment.now x.heap_at c.args.node.now.level c.args.node_at
    c.as_slice-keys.result.now c.as_slice-children.result.now
    _ _ c.as_slice-keys.ensures c.as_slice-children.ensures c.args.blocks.now c.from_residual-in_err-check_keys.result
    stop c.from_residual-in_err-check_keys.ensures.1
    (key_stops g.V.Space.tells g.V.Space.view x.ks x.segment.now x.heap_at c.args.node.now.level c.args.node_at
    c.as_slice-keys.result.now c.as_slice-children.result.now
    c.args.blocks.now c.loop-i.blocks _ _ _ _ _ _ _ c.args.gathered.now c.loop-i.gathered cut same a
    c.read_child.new.blocks c.read_child.new.gathered (sym
    (g.met.V.Space.alike _ _ c.in_ok-read_child.ensures.alike)) r stop told why)

pub read_children-loop-i-preserved : goal.read_children-loop-i-preserved
read_children-loop-i-preserved g t c =
    let x = c.args.table.now in
    let cut = cut_at c.as_slice-keys.result.now c.as_slice-children.result.now _ _ c.as_slice-keys.ensures
    c.as_slice-children.ensures c.requires.one_more c.loop-i.i c.loop-i-test.true in
    let same = sym (g.met.V.Space.alike _ _ c.loop-i.invariant.alike) in
    let a = c.loop-i.invariant.adds in
    let r = c.in_ok-read_child.ensures.adds in
    let begin : c.len-begin.result ≡ length c.args.gathered.now.links.items = omega
    (arith, c.len-begin.ensures, c.args.gathered.now.links.ok.0) in
    let middle : c.len-middle.result ≡ length c.loop-i.gathered.links.items = omega
    (arith, c.len-middle.ensures, c.loop-i.gathered.links.ok.0) in
    let parts = parts_are c.len-begin.result c.len-middle.result c.args.gathered.now.links.items
    c.loop-i.gathered.links.items c.read_child.new.gathered.links.items c.deref.result.now _ _ a.added r.added
    begin middle c.deref.ensures.value a.behind r.behind c.parts_at.ensures.done c.parts_at.ensures.here in
    let fit = told_of (λ d h. FitKeys x.segment.now (get_or c.as_slice-keys.result.now c.loop-i.i 0)
    (get_or c.as_slice-keys.result.now (c.loop-i.i + 1) 0) d h)
    _ _ a.added r.added parts a.ordered r.ordered c.in_ok-check_keys.ensures.found in
    record {
      alike = g.V.Kept.transitive _ _ _ c.loop-i.invariant.alike c.in_ok-read_child.ensures.alike;
      calm = c.in_ok-read_child.ensures.calm (λ e. cc) ∙ c.loop-i.invariant.calm;
      adds = add_child g.V.Space.tells g.V.Space.view x.ks x.segment.now x.heap_at c.args.node.now.level c.args.node_at
          c.as_slice-keys.result.now c.as_slice-children.result.now
          c.args.blocks.now c.loop-i.blocks _ _ _ _ _ _ _ c.args.gathered.now c.loop-i.gathered cut same a
          c.read_child.new.blocks c.read_child.new.gathered
          (sym (g.met.V.Space.alike _ _ c.in_ok-read_child.ensures.alike)) r _
          (cut_on c.as_slice-keys.result.now c.as_slice-children.result.now _ _ c.as_slice-keys.ensures
          c.as_slice-children.ensures c.requires.one_more c.loop-i.i c.loop-i-test.true) fit;
    }

pub read_children-returns-clause-adds : goal.read_children-returns-clause-adds
read_children-returns-clause-adds g t c =
    let x = c.args.table.now in
    as_node (λ ks cs. Adds c.args.gathered.now c.loop-i.gathered
    (λ fs. Takes g.V.Space.view c.args.blocks.now c.loop-i.blocks (λ bs. IsTrue g.V.Space.tells →
    AreChildren x.segment.now (StandsAt (array_of g.V.Space.view c.args.blocks.now) x.ks x.segment.now
    c.args.node.now.level) ks cs fs bs)))
    _ _ _ _ c.as_slice-keys.ensures c.as_slice-children.ensures
    (child_all g.V.Space.tells g.V.Space.view x.ks x.segment.now x.heap_at c.args.node.now.level c.args.node_at
    c.as_slice-keys.result.now c.as_slice-children.result.now
    c.args.blocks.now c.loop-i.blocks _ c.loop-i.i c.args.gathered.now c.loop-i.gathered c.loop-i-test.false
    c.loop-i.invariant.adds)

pub read_index-returns-in_err-node-clause-refused : goal.read_index-returns-in_err-node-clause-refused
read_index-returns-in_err-node-clause-refused g t c = λ told.
    let x = c.args.table.now in
    let stop = c.in_err-node.field-0.0 in
    passed c.from_residual.result stop (Refuses g.V.Space.view c.args.blocks.now
    (λ e met. IsIndexRefused (array_of g.V.Space.view c.args.blocks.now) e x.ks x.segment.now x.heap_at
    (suc c.args.level) met c.args.at))
    c.from_residual.ensures.1 (head_index g.V.Space.view c.args.blocks.now x.ks x.segment.now x.heap_at c.args.level
    c.args.at stop (c.in_err-node.ensures.refused told))

pub read_index-returns-then-node-level-clause-refused : goal.read_index-returns-then-node-level-clause-refused
read_index-returns-then-node-level-clause-refused g t c = λ told.
    let x = c.args.table.now in
    other_level g.V.Space.tells g.V.Space.view c.args.blocks.now c.read_node.new.blocks x.ks x.segment.now x.heap_at
    c.args.level c.args.at c.in_ok-node.node (sym (g.met.V.Space.alike _ _ c.in_ok-node.ensures.alike))
    c.in_ok-node.ensures.taken
    c.malformed.result c.malformed.ensures (c.in_ok-node.ensures.found told)
    (λ same. let other = c.if-node-level.true in absurd (other same))

pub read_index-returns-clause-adds : goal.read_index-returns-clause-adds
read_index-returns-clause-adds g t c =
    let x = c.args.table.now in
    index_found g.V.Space.tells g.V.Space.view c.args.blocks.now c.read_node.new.blocks x.ks x.segment.now x.heap_at
    c.args.level c.args.at c.in_ok-node.node (sym (g.met.V.Space.alike _ _ c.in_ok-node.ensures.alike))
    c.in_ok-node.ensures.taken
    c.read_children.new.blocks c.args.gathered.now c.read_children.new.gathered c.read_children.result
    c.in_ok-node.ensures.found (λ told. c.if-node-level.false) c.read_children.ensures.adds

pub read_index-returns-clause-refused : goal.read_index-returns-clause-refused
read_index-returns-clause-refused g t c = λ told.
    let x = c.args.table.now in
    index_refused g.V.Space.tells g.V.Space.view c.args.blocks.now c.read_node.new.blocks x.ks x.segment.now x.heap_at
    c.args.level c.args.at c.in_ok-node.node (sym (g.met.V.Space.alike _ _ c.in_ok-node.ensures.alike))
    c.in_ok-node.ensures.taken
    c.read_children.result (c.in_ok-node.ensures.found told) c.if-node-level.false
    (c.read_children.ensures.refused told)
