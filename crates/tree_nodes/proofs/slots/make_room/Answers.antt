use Rattle.std.proofs.Common.{◌∙◌, ap}
use Rattle.slab.specs.Slab.{Slab, get}
use Rattle.tree_nodes.specs.declared.entry.Entry.{Entry}
use Rattle.tree_nodes.proofs.SlotLemmas.{kept_same}
use Rattle.tree_nodes.proofs.slots.make_room.Goals as goal

pub returns-clause-kept : goal.returns-clause-kept
returns-clause-kept c = λ k. kept_same c.make_link_room.new.nodes c.reserve.new.self k k (ap (λ (s : Slab Entry). get s k) c.reserve.ensures.rest_kept) ∙ c.make_link_room.ensures.kept k
