use Rattle.std.proofs.Common.{◌≡◌, ℕ, ◌++◌, ◌∷◌, [], ◌∙◌, length, ap, sym, subst, arith}
use Rattle.std.proofs.lemmas.List.Elements.{Contains-push}
use Rattle.std.proofs.lemmas.Bool.{eqb-true}
use Rattle.outside.specs.Array.{Array, over, SameOutside}
use Rattle.outside.specs.Blocks.{Block}
use Rattle.outside.specs.Space.{IsWritten}
use Rattle.block_space.specs.Plans.{padded_to, rounded}
use Rattle.block_space.proofs.Overlaid.{over_none, over_raised, outside_after, raised_outside}
use Rattle.block_space.proofs.Pages.{patched_tells, raised_tells}
use Rattle.block_space.proofs.Stopped.{on_ok, on_ok_then}
use Rattle.block_space.proofs.blocks.Blocks.take_with.Goals as goal

pub patch-requires-clause-block : goal.patch-requires-clause-block
patch-requires-clause-block g c =
    let t = c.args.take in
    let block : Block = record { start = (g.V.Space.view c.args.self.now.space).ends t.class; len = t.len } in
    let k = c.requires.kept in
    let at = c.in_ok-at.ensures.at in (
      k.0 ++ block ∷ [],
      c.in_ok-at.ensures.found k.0 k.1 k.2,
      (block, Contains-push k.0 block, omega (arith, at), omega (arith, at, c.requires.short)),
    )

pub patch-requires-clause-ready : goal.patch-requires-clause-ready
patch-requires-clause-ready g c =
    let ready = c.requires.ready in
    let at = c.in_ok-at.ensures.at in
    let short = c.requires.short in
    record {
      writable = rw (g.met.V.Space.edited_kind _ _ c.take.ensures.edited).writable ready.writable;
      covered = λ a low high. rw c.in_ok-at.ensures.done.prepared (ready.covered a (omega (
        arith,
        low,
        at,
      )) (omega (arith, high, at, short)));
      room = c.in_ok-at.ensures.room;
    }

pub returns-then-is_empty-clause-array : goal.returns-then-is_empty-clause-array
returns-then-is_empty-clause-array g c = λ told.
    let v = g.V.Space.view c.args.self.now.space in
    let t = c.args.take in
    let none : length c.args.image.now ≡ 0 = eqb-true _ 0 (sym c.is_empty.ensures ∙ c.if-is_empty.true) in
    (c.in_ok-at.ensures.done.wrote told).array ∙ sym (over_none _ (v.ends t.class) c.args.image.now none)
    ∙ over_raised v.array (v.ends t.class) (rounded t.len) c.args.image.now (omega (arith, none))

pub returns-clause-array : goal.returns-clause-array
returns-clause-array g c = λ told.
    let v = g.V.Space.view c.args.self.now.space in
    let mid = g.V.Space.view c.take.new.self.space in
    let new = g.V.Space.view c.patch.new.self.space in
    let t = c.args.take in
    let short = c.requires.short in
    on_ok_then c.patch.result (IsWritten g.V.Space.tells c.in_ok-at.at c.args.image.now mid new)
    (new.array ≡ over v.array (v.ends t.class) (padded_to (rounded t.len) c.args.image.now))
    (λ done. (done.wrote told).array
    ∙ ap (λ (at : ℕ). over mid.array at c.args.image.now) c.in_ok-at.ensures.at
    ∙ ap (λ (b : Array). over b (v.ends t.class) c.args.image.now) (c.in_ok-at.ensures.done.wrote told).array
    ∙ over_raised v.array (v.ends t.class) (rounded t.len) c.args.image.now (omega (arith, short)))
    c.patch.ensures.done

pub returns-clause-found : goal.returns-clause-found
returns-clause-found g c = on_ok c.patch.result _ (λ met keeps few.
    c.patch.ensures.kept _ (c.in_ok-at.ensures.found met keeps few))

pub returns-clause-in_part : goal.returns-clause-in_part
returns-clause-in_part g c = λ told.
    let v = g.V.Space.view c.args.self.now.space in
    let mid = g.V.Space.view c.take.new.self.space in
    let new = g.V.Space.view c.patch.new.self.space in
    let t = c.args.take in
    let short = c.requires.short in
    let at = c.in_ok-at.ensures.at in
    outside_after c.patch.result (v.ends t.class) (rounded t.len) c.args.image.now v.array mid.array new.array
    (omega (arith, short))
    (λ a beside. ap (λ (b : Array). b a) (c.in_ok-at.ensures.done.wrote told).array
    ∙ raised_outside v.array (v.ends t.class) (rounded t.len) a beside)
    (λ wo. c.patch.ensures.wrote_main told wo ∙ ap (λ (at : ℕ). over mid.array at c.args.image.now) at)
    (λ failed. subst (λ (at : ℕ). SameOutside at (length c.args.image.now) mid.array new.array) at
    (c.patch.ensures.in_part told failed))

pub returns-clause-edited : goal.returns-clause-edited
returns-clause-edited g c = g.met.V.Space.edited_further _ _ _ c.in_ok-at.ensures.steady c.take.ensures.edited
    c.patch.ensures.edited

pub returns-then-is_empty-clause-pages : goal.returns-then-is_empty-clause-pages
returns-then-is_empty-clause-pages g c =
    let v = g.V.Space.view c.args.self.now.space in
    let t = c.args.take in
    raised_tells (v.ends t.class) (rounded t.len) v.committed (g.V.Space.view c.take.new.self.space).committed
    c.in_ok-at.ensures.done.pages

pub returns-clause-pages : goal.returns-clause-pages
returns-clause-pages g c =
    let v = g.V.Space.view c.args.self.now.space in
    let mid = g.V.Space.view c.take.new.self.space in
    let new = g.V.Space.view c.patch.new.self.space in
    let t = c.args.take in
    let short = c.requires.short in
    let at = c.in_ok-at.ensures.at in
    on_ok_then c.patch.result (IsWritten g.V.Space.tells c.in_ok-at.at c.args.image.now mid new) _
    (λ done. patched_tells (v.ends t.class) (rounded t.len) c.in_ok-at.at (length c.args.image.now)
    v.committed mid.committed new.committed (omega (arith, at)) (omega (arith, at, short))
    c.in_ok-at.ensures.done.pages done.pages)
    c.patch.ensures.done
