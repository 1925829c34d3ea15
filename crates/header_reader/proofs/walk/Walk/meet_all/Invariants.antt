use Rattle.std.proofs.Common.{◌≡◌, ◌≤◌, ◌++◌, List, length}
use Rattle.std.specs.List.{flat_map}
use Rattle.outside.specs.Blocks.{Block}
use Rattle.block_space.specs.Blocks.{Keeps, space_of}
use Rattle.file_model.specs.Headers.{Met, Stand, after, AreWhole, continued}
use Rattle.header_reader.specs.Walks.{Meets}
use Rattle.header_reader.proofs.walk.Walk.meet_all.Given as goal

abbrev pub invariant-messages : goal.invariant-messages
invariant-messages g l = record {
  ms : List Met;
  stand : Stand l.start l.bytes 0 ms;
  whole : AreWhole ms;
  here : l.place ≡ after 0 ms;
  within : l.place ≤ length l.bytes;
  meets : Meets l.initial.self l.self ms;
  kept : (met : List Block) → Keeps g.V.Space.view l.initial.blocks met → Keeps g.V.Space.view l.blocks (met ++ flat_map continued ms);
  same : space_of l.blocks ≡ space_of l.initial.blocks;
}

abbrev pub decreases-messages : goal.decreases-messages
decreases-messages g l = l.self.wanted
