use Rattle.std.proofs.Common.{subst}
use Rattle.group_heap.specs.Greatest.{IsGreatest}
use Rattle.group_rows.proofs.OffsetLemmas.{greater_of, greater_left, greater_right}
use Rattle.group_rows.proofs.offsets.greater.Goals as goal

pub returns-in-Some-Some : goal.returns-in-Some-Some
returns-in-Some-Some c = λ os ps a b.
    greater_of os ps c.in-Some-Some.x c.in-Some-Some.y c.max.result c.max.ensures
    (subst (IsGreatest os) c.in-Some-Some.is-0 a) (subst (IsGreatest ps) c.in-Some-Some.is-1 b)

pub returns-in-Some-None : goal.returns-in-Some-None
returns-in-Some-None c = λ os ps a b.
    greater_left os ps c.in-Some-None.x (subst (IsGreatest os) c.in-Some-None.is-0 a)
    (subst (IsGreatest ps) c.in-Some-None.is-1 b)

pub returns-in-None-default : goal.returns-in-None-default
returns-in-None-default c = λ os ps a b.
    greater_right os ps c.args.b (subst (IsGreatest os) c.in-None-default.is-0 a) b
