use Rattle.std.proofs.Common.{◌^◌, length, refl, arith}
use Rattle.plain_space.proofs.Seen.{part_outside}
use Rattle.plain_space.proofs.Steps.{done_in_part, open_still, came_written}
use Rattle.plain_space.proofs.Views.{wrote, told_outside}
use Rattle.plain_space.proofs.space.PlainSpaceSpace.write.Goals as goal

pub returns-in-Ok-clause-done : goal.returns-in-Ok-clause-done
returns-in-Ok-clause-done g c =
    let s = c.args.self.now in
    record {
      wrote = λ told.
          wrote g.S.Store.tells_files (g.S.Store.view s.store) (g.S.Store.view c.write.new.self) s.id.n s.end c.args.at s.prepared.items c.args.bytes.now told c.in-Ok.ensures.names (c.in-Ok.ensures.written told)
          (omega (arith, c.requires.inside.1.high, s.short));
      pages = refl;
      ends = refl;
      prepared = refl;
    }

pub returns-in-Ok-clause-stands : goal.returns-in-Ok-clause-stands
returns-in-Ok-clause-stands g c =
    let s = c.args.self.now in
    let v = g.S.Store.view s.store in
    let w = g.S.Store.view c.write.new.self in
    open_still g.S.Store.tells_files v w s.id.n s.end c.args.at (length c.args.bytes.now) c.requires.stands c.requires.inside.1.high c.in-Ok.ensures.names
    (λ told. done_in_part g.S.Store.tells_files v w s.id.n s.end c.args.at c.args.bytes.now c.requires.stands c.requires.inside.1.high told (c.in-Ok.ensures.written told))

pub returns-in-Ok-clause-edited : goal.returns-in-Ok-clause-edited
returns-in-Ok-clause-edited g c =
    let s = c.args.self.now in
    let v = g.S.Store.view s.store in
    let w = g.S.Store.view c.write.new.self in
    came_written g.S.Store.tells_files g.S.Store.tells_images _ _ c.args.at (length c.args.bytes.now) v w (g.S.Store.leaves s.store) (g.S.Store.leaves c.write.new.self) (g.S.Store.past s.store) (g.S.Store.past c.write.new.self)
    s _ refl refl c.requires.stands c.requires.inside.1.high s.short c.in-Ok.ensures.call c.in-Ok.ensures.names c.in-Ok.ensures.ids
    (λ told. done_in_part g.S.Store.tells_files v w s.id.n s.end c.args.at c.args.bytes.now c.requires.stands c.requires.inside.1.high told (c.in-Ok.ensures.written told))
    c.in-Ok.ensures.images c.in-Ok.ensures.time

pub returns-in-Err-clause-in_part : goal.returns-in-Err-clause-in_part
returns-in-Err-clause-in_part g c = λ told failed.
    let s = c.args.self.now in
    let v = g.S.Store.view s.store in
    let w = g.S.Store.view c.write.new.self in
    told_outside g.S.Store.tells_files v w s.id.n c.args.at (length c.args.bytes.now) told c.in-Err.ensures.names
    (part_outside (2 ^ 48) c.args.at (length c.args.bytes.now) (v.files (v.names s.id.n)) (w.files (v.names s.id.n)) (c.in-Err.ensures.in_part told))

pub returns-in-Err-clause-edited : goal.returns-in-Err-clause-edited
returns-in-Err-clause-edited g c =
    let s = c.args.self.now in
    came_written g.S.Store.tells_files g.S.Store.tells_images _ _ c.args.at (length c.args.bytes.now) (g.S.Store.view s.store) (g.S.Store.view c.write.new.self)
    (g.S.Store.leaves s.store) (g.S.Store.leaves c.write.new.self) (g.S.Store.past s.store) (g.S.Store.past c.write.new.self)
    s _ refl refl c.requires.stands c.requires.inside.1.high s.short c.in-Err.ensures.call c.in-Err.ensures.names c.in-Err.ensures.ids
    c.in-Err.ensures.in_part c.in-Err.ensures.images c.in-Err.ensures.time_failed
