use Rattle.std.proofs.Common.{◌++◌, ap, ◌∙◌}
use Rattle.script.specs.Print.{link_text}
use Rattle.script.proofs.PrintLemmas.{more_items}
use Rattle.script.proofs.answers.put_links.Goals as goal

pub loop-link-preserved : goal.loop-link-preserved
loop-link-preserved c =
    more_items link_text c.args.text.now.items c.loop-link.text.items _ c.args.links.now c.loop-link.link-index c.link-item.result c.loop-link-test.true c.loop-link.invariant
    (c.in_ok-put_link.ensures ∙ ap (λ l. c.loop-link.text.items ++ link_text l) c.link-item.is)
