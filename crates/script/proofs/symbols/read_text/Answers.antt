use Rattle.std.proofs.Common.{sym, arith}
use Rattle.script.specs.Names.{IsChar}
use Rattle.script.proofs.Runs.{goes_on, is_done, is_bad}
use Rattle.script.proofs.CharLemmas.{char_rest, no_char}
use Rattle.script.proofs.symbols.read_text.Goals as goal

pub returns-in-None-clause-bad : goal.returns-in-None-clause-bad
returns-in-None-clause-bad c = λ _. is_bad (IsChar c.args.within) c.args.text.now c.loop-rest.bytes.items c.loop-rest.rest.now (omega arith) (no_char c.args.within c.loop-rest.rest.now c.in-None.ensures) c.loop-rest.invariant

pub loop-rest-preserved : goal.loop-rest-preserved
loop-rest-preserved c = rw c.in_ok-push-in-Some.ensures.items (goes_on (IsChar c.args.within) (char_rest c.args.within) c.args.text.now c.loop-rest.bytes.items c.loop-rest.rest.now c.in-Some.more.now c.in-Some.c (omega arith) (sym c.in-Some.ensures) c.loop-rest.invariant)

pub returns-clause-found : goal.returns-clause-found
returns-clause-found c = is_done (IsChar c.args.within) c.args.text.now c.loop-rest.bytes.items c.loop-rest.rest.now (omega arith) c.loop-rest.invariant
