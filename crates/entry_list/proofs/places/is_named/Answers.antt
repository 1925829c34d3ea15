use Rattle.std.proofs.Common.{length}
use Rattle.std.proofs.lemmas.Bool.{le-ltb}
use Rattle.entry_list.proofs.NamedLemmas.{told_past, told_there}
use Rattle.entry_list.proofs.places.is_named.Goals as goal

pub returns-then-place-entries-clause-has : goal.returns-then-place-entries-clause-has
returns-then-place-entries-clause-has c = λ fs links ordered place.
    told_there c.args.segment.now c.args.entries.now c.args.place c.args.name.now fs links ordered place
    c.if-place-entries.true _ c.has_text.result c.has_text.ensures

pub returns-else-place-entries-clause-has : goal.returns-else-place-entries-clause-has
returns-else-place-entries-clause-has c = λ fs links ordered place.
    told_past c.args.segment.now c.args.entries.now c.args.place c.args.name.now fs links ordered place
    c.if-place-entries.false _ (le-ltb c.args.place (length c.args.entries.now) c.if-place-entries.false)
