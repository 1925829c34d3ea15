use Rattle.script.proofs.PrintedAgain.{names_again, types_again}
use Rattle.script.proofs.laws.printed_again.Goals as goal

pub returns : goal.returns
returns c = record { names = names_again; types = types_again }
