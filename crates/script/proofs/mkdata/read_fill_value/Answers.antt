use Rattle.std.proofs.Common.{◌≡◌, [], sym, subst, arith}
use Rattle.dtype.specs.Values.{CanHold}
use Rattle.script.proofs.ArgumentLemmas.{one_value, value_rest}
use Rattle.script.proofs.CommandLemmas.{refuses, some_left}
use Rattle.script.proofs.mkdata.read_fill_value.Goals as goal

pub returns-then-rest-ne0-clause-bad : goal.returns-then-rest-ne0-clause-bad
returns-then-rest-ne0-clause-bad c = λ e v h held.
    some_left c.in_ok-value.rest.now (omega arith) (sym (value_rest c.args.text.now c.in_ok-value.value v c.in_ok-value.rest.now [] c.in_ok-value.ensures.found h))

pub returns-then-not-can_hold-clause-bad : goal.returns-then-not-can_hold-clause-bad
returns-then-not-can_hold-clause-bad c = λ e v h held.
    let same : c.in_ok-value.value ≡ v = (one_value c.args.text.now c.in_ok-value.value v c.in_ok-value.rest.now [] c.in_ok-value.ensures.found h).0 in
    refuses c.can_hold.result (CanHold c.args.elem_type.now c.in_ok-value.value) c.can_hold.ensures c.if-not-can_hold.true (subst (CanHold c.args.elem_type.now) (sym same) held)
