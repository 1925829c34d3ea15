use Rattle.storage_reader.proofs.Places.{follow_tested}
use Rattle.storage_reader.proofs.ends.follows.Goals as goal

pub returns-in-Some : goal.returns-in-Some
returns-in-Some c = λ done cs before ends b.
    let b' = c.in-Some.before in
    let ends' = c.args.ends.now in
    follow_tested b'.first b'.last ends'.first ends'.last c.comes_before.result c.comes_before.ensures done cs (rw c.in-Some.is at before.ends_are) ends before.ordered b
