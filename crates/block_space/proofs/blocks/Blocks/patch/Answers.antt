use Rattle.std.proofs.Common.{sym, subst, length, List}
use Rattle.h5_base.specs.declared.extent.Extent.{Extent}
use Rattle.outside.specs.Space.{HasRoom, IsWritten}
use Rattle.block_space.proofs.Fresh.{kept_over, lies_in_one}
use Rattle.block_space.proofs.Room.{room_stays}
use Rattle.block_space.proofs.Stopped.{on_ok_then}
use Rattle.block_space.proofs.blocks.Blocks.patch.Goals as goal

pub write-requires-clause-inside : goal.write-requires-clause-inside
write-requires-clause-inside g c =
    let block = c.requires.block in
    lies_in_one (g.V.Space.view c.args.self.now.space) _ block.0 c.args.at _ block.1 block.2

pub returns-clause-kept : goal.returns-clause-kept
returns-clause-kept g c = λ met keeps. kept_over (g.V.Space.view c.args.self.now.space) (g.V.Space.view
    c.write.new.self) _ met
    (g.met.V.Space.edited_kind _ _ c.write.ensures.edited).regions c.write.ensures.ends keeps

pub returns-clause-room : goal.returns-clause-room
returns-clause-room g c =
    let v = g.V.Space.view c.args.self.now.space in
    let w = g.V.Space.view c.write.new.self in
    on_ok_then c.write.result (IsWritten g.V.Space.tells c.args.at c.args.bytes.now v w) (HasRoom w.committed
    w.prepared)
    (λ done. subst (λ (rs : List Extent). HasRoom w.committed rs) (sym done.prepared)
    (room_stays c.args.at (length c.args.bytes.now) v.committed w.committed v.prepared
    (g.met.V.Space.sound _ c.requires.stands).revisions c.requires.ready.covered done.pages c.requires.ready.room))
    c.write.ensures.done
