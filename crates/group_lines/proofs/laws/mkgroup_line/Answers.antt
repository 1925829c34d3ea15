use Rattle.group_lines.proofs.Making.{line}
use Rattle.group_lines.proofs.laws.mkgroup_line.Goals as goal

pub returns : goal.returns
returns c = line
