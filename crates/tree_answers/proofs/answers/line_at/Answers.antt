use Rattle.tree_answers.specs.Kept.{line_by}
use Rattle.tree_places.proofs.Nodes.{kept_here}
use Rattle.tree_answers.proofs.Places.{got_has, inside_some, line_got}
use Rattle.tree_answers.proofs.answers.line_at.Goals as goal

pub line_of-requires : goal.line_of-requires
line_of-requires c =
    let tree = c.args.tree.now in
    let (e, at) = kept_here tree c.args.id c.requires.has in
    got_has tree e.links c.args.k c.in-Some.link.now (c.in-Some.ensures.entry e at)
    (c.requires.sound.nodes.entries c.args.id.key e at).linked

pub unreachable-requires : goal.unreachable-requires
unreachable-requires c =
    let (e, at) = kept_here c.args.tree.now c.args.id c.requires.has in
    inside_some e.links c.args.k (c.requires.inside e at) (c.in-None.ensures.entry e at)

pub returns : goal.returns
returns c = λ e at. line_got (line_by c.args.tree.now) e.links c.args.k c.in-Some.link.now c.line_of.result
    (c.in-Some.ensures.entry e at) c.line_of.ensures
