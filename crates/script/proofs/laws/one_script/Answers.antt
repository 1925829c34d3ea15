use Rattle.script.proofs.OneCommand as law
use Rattle.script.proofs.laws.one_script.Goals as goal

pub returns : goal.returns
returns c = law.one_script
