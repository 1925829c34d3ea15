use Rattle.std.proofs.Common.{rules}
use Rattle.std.proofs.lemmas.Result.{IfOk-weaker}
use Rattle.node_codec.proofs.SnodLemmas.{snod-fits}
use Rattle.node_codec.proofs.snod.read_snod.Goals as goal

pub returns-clause-found : goal.returns-clause-found
returns-clause-found c = search rules

pub returns-clause-fits : goal.returns-clause-fits
returns-clause-fits c = IfOk-weaker _ _ _ (λ v p. snod-fits c.args.k _ c.args.bytes.now p) (returns-clause-found c)
