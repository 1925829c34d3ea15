use Rattle.group_layout.proofs.GroupLemmas.{group_laid}
use Rattle.group_layout.proofs.laws.group_laid.Goals as goal

pub returns : goal.returns
returns c = group_laid
