use Rattle.std.proofs.Common.{List, ℕ, ◌<◌, ◌-◌, ◌^◌, length, refl, sym, ap, arith}
use Rattle.plain_space.specs.File.{file_in}
use Rattle.plain_space.proofs.Bytes.{length-resized}
use Rattle.plain_space.proofs.Seen.{longer_outside, seen_whole}
use Rattle.plain_space.proofs.Steps.{is_open, came_raised}
use Rattle.plain_space.proofs.Views.{raised_nowhere, raised_to, told_outside}
use Rattle.plain_space.proofs.space.PlainSpaceSpace.raise.Goals as goal

pub returns-then-end-self-clause-done : goal.returns-then-end-self-clause-done
returns-then-end-self-clause-done g c =
    let s = c.args.self.now in
    record {
      wrote = λ told. raised_nowhere g.S.Store.tells_files (g.S.Store.view s.store) s.id.n s.end c.args.end s.prepared.items c.args.arg2 c.if-end-self.true;
      pages = refl;
      ends = (λ k d. sym c.if-end-self.true k);
      prepared = refl;
    }

pub returns-in-Ok-clause-done : goal.returns-in-Ok-clause-done
returns-in-Ok-clause-done g c =
    let s = c.args.self.now in
    record {
      wrote = λ told. raised_to g.S.Store.tells_files (g.S.Store.view s.store) (g.S.Store.view c.set_len.new.self) s.id.n s.end c.args.end s.prepared.items c.args.arg2 told c.in-Ok.ensures.names (c.in-Ok.ensures.resized told)
          (c.requires.stands.length_is told) (omega (arith, c.requires.up, c.if-end-self.false)) c.requires.below;
      pages = refl;
      ends = refl;
      prepared = refl;
    }

pub returns-in-Ok-clause-stands : goal.returns-in-Ok-clause-stands
returns-in-Ok-clause-stands g c =
    let s = c.args.self.now in
    let v = g.S.Store.view s.store in
    is_open g.S.Store.tells_files v (g.S.Store.view c.set_len.new.self) s.id.n c.args.end c.requires.stands.given c.in-Ok.ensures.names
    (λ told. omega (arith, c.requires.below, ap (λ (f : List ℕ). length f) (c.in-Ok.ensures.resized told), length-resized c.args.end (file_in v s.id.n)))

pub returns-in-Ok-clause-edited : goal.returns-in-Ok-clause-edited
returns-in-Ok-clause-edited g c =
    let s = c.args.self.now in
    let v = g.S.Store.view s.store in
    came_raised g.S.Store.tells_files g.S.Store.tells_images _ _ v (g.S.Store.view c.set_len.new.self)
    (g.S.Store.leaves s.store) (g.S.Store.leaves c.set_len.new.self) (g.S.Store.past s.store) (g.S.Store.past c.set_len.new.self)
    s _ refl c.requires.stands (omega (arith, c.requires.up, c.if-end-self.false)) c.requires.below c.in-Ok.ensures.call c.in-Ok.ensures.names c.in-Ok.ensures.ids
    (λ told. omega (arith, ap (λ (f : List ℕ). length f) (c.in-Ok.ensures.resized told), length-resized c.args.end (file_in v s.id.n)))
    c.in-Ok.ensures.images c.in-Ok.ensures.time

pub returns-in-Err-clause-in_part : goal.returns-in-Err-clause-in_part
returns-in-Err-clause-in_part g c = λ told.
    let s = c.args.self.now in
    let v = g.S.Store.view s.store in
    let w = g.S.Store.view c.set_len.new.self in
    told_outside g.S.Store.tells_files v w s.id.n s.end (c.args.end - s.end) told c.in-Err.ensures.names
    (longer_outside (2 ^ 48) s.end c.args.end (v.files (v.names s.id.n)) (w.files (v.names s.id.n)) (c.requires.stands.length_is told)
    (omega (arith, c.requires.up, c.if-end-self.false)) c.requires.below (c.in-Err.ensures.in_part told))

pub returns-in-Err-clause-edited : goal.returns-in-Err-clause-edited
returns-in-Err-clause-edited g c =
    let s = c.args.self.now in
    let v = g.S.Store.view s.store in
    let up : s.end < c.args.end = omega (arith, c.requires.up, c.if-end-self.false) in
    came_raised g.S.Store.tells_files g.S.Store.tells_images _ _ v (g.S.Store.view c.set_len.new.self)
    (g.S.Store.leaves s.store) (g.S.Store.leaves c.set_len.new.self) (g.S.Store.past s.store) (g.S.Store.past c.set_len.new.self)
    s _ refl c.requires.stands up c.requires.below c.in-Err.ensures.call c.in-Err.ensures.names c.in-Err.ensures.ids
    (λ told. omega (arith, (c.in-Err.ensures.in_part told).no_longer, seen_whole (2 ^ 48) s.end (file_in v s.id.n) (c.requires.stands.length_is told) (omega (arith, up, c.requires.below))))
    c.in-Err.ensures.images c.in-Err.ensures.time
