use Rattle.std.proofs.Common.{ℕ, ◌≡◌, ◌≤◌, ◌-◌, ◌++◌, List, length, replicate, take, drop, arith, ◌∙◌, ap}
use Rattle.std.proofs.lemmas.List.{length-take, length-drop}
use Rattle.plain_space.specs.File.{file_in, seen}
use Rattle.plain_space.proofs.Bytes.{read_all, zeros_behind}
use Rattle.plain_space.proofs.part.read_part.Goals as goal

pub returns-clause-bytes : goal.returns-clause-bytes
returns-clause-bytes g c = λ told.
    let file : List ℕ = seen (file_in (g.S.Store.view c.args.store.now) c.args.id.n) in
    let out : List ℕ = c.read_below.new.out in
    let n : ℕ = c.in_ok-count.count in
    let same : length out ≡ length c.args.out.now = c.read_below.auto.out in
    let few : n ≤ length out = omega (arith, c.in_ok-count.ensures.count, same) in
    let zeros = c.fill.ensures.after (λ y is. is) in
    zeros_behind out c.fill.new.self n _ few (omega (arith, length-take (length out - n) (drop n out), length-drop n out)) zeros
    ∙ ap (λ (m : ℕ). take n out ++ replicate {A = ℕ} (m - n) 0) same
    ∙ read_all file out c.args.at n (length c.args.out.now) same c.in_ok-count.ensures.count (c.in_ok-count.ensures.bytes told)
