use Rattle.group_lines.proofs.Removing.{line}
use Rattle.group_lines.proofs.laws.remove_line.Goals as goal

pub returns : goal.returns
returns c = line
