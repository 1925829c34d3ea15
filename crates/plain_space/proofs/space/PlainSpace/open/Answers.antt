use Rattle.std.proofs.Common.{ℕ, ◌^◌, List, length, ap, arith}
use Rattle.std.proofs.lemmas.List.{length-take}
use Rattle.plain_space.specs.File.{file_in}
use Rattle.plain_space.proofs.Steps.{is_open}
use Rattle.plain_space.proofs.space.PlainSpace.open.Goals as goal

pub returns-in-Ok-clause-end : goal.returns-in-Ok-clause-end
returns-in-Ok-clause-end g c = λ told. omega (arith, c.min.ensures, c.in-Ok.ensures.len told, length-take (2 ^ 48) (file_in (g.S.Store.view c.args.store) c.args.id.n))

pub returns-in-Ok-clause-stands : goal.returns-in-Ok-clause-stands
returns-in-Ok-clause-stands g c =
    let v = g.S.Store.view c.args.store in
    is_open g.S.Store.tells_files v (g.S.Store.view c.len.new.self) c.args.id.n c.min.result c.requires c.in-Ok.ensures.names
    (λ told. omega (arith, c.min.ensures, c.in-Ok.ensures.len told, ap (λ (f : List ℕ). length f) (c.in-Ok.ensures.call.others told (v.names c.args.id.n) (λ changed. changed))))
