use Rattle.storage_reader.proofs.Places.{join_ends}
use Rattle.storage_reader.proofs.ends.join.Goals as goal

pub returns-in-Some-Some : goal.returns-in-Some-Some
returns-in-Some-Some c = λ done cs before here.
    let b = c.in-Some-Some.before in
    let h = c.in-Some-Some.here in
    join_ends b.first b.last h.first h.last done cs (rw c.in-Some-Some.is-0 at before) (rw c.in-Some-Some.is-1 at here)
