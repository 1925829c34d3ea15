use Rattle.std.proofs.Common.{ap, ◌∙◌}
use Rattle.script.specs.Line.{can_be_made}
use Rattle.script.proofs.ArgumentLemmas.{admits_new}
use Rattle.script.proofs.paths.admits.Goals as goal

pub returns-in-Some : goal.returns-in-Some
returns-in-Some c =
    admits_new c.args.leads c.args.names.now c.in-Some.name.now c.can_be_made.result c.in-ToNewLink.is c.in-Some.ensures.value
    (c.can_be_made.ensures ∙ ap can_be_made c.as_slice.ensures)
