use Rattle.object_tree.proofs.Objects.{table_group}
use Rattle.object_tree.proofs.Rooted.{root_grown}
use Rattle.object_tree.proofs.open.open_below.Goals as goal

pub returns-in-Ok-open_links-clause-opened : goal.returns-in-Ok-open_links-clause-opened
returns-in-Ok-open_links-clause-opened g c =
    let (kls, grows, below) = c.in-Ok-open_links.ensures.opened in (
      kls,
      root_grown c.in-Ok.tree _ c.args.root kls c.root.result c.root.ensures c.in-Ok.ensures.root
          c.in-Ok.ensures.others c.in-Ok.ensures.objects grows,
      rw c.k_values-ks.ensures at below,
    )
