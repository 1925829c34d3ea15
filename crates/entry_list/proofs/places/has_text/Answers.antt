use Rattle.std.proofs.lemmas.Bool.Decides.{Decides-eqb}
use Rattle.std.proofs.lemmas.Slice.Eq.{slice_eq-Decides}
use Rattle.entry_list.proofs.NamedLemmas.{same_text}
use Rattle.entry_list.proofs.places.has_text.Goals as goal

pub returns-in-Some : goal.returns-in-Some
returns-in-Some c =
    same_text c.args.segment.now c.args.at c.in-Some.text.now c.args.name.now c.in-Some.ensures.found c.eq.result
    (slice_eq-Decides Decides-eqb c.in-Some.text.now c.args.name.now c.eq.result c.eq.ensures)
