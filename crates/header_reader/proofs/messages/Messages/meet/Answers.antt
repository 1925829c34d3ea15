-- Each type that counts changes its own place, and the others nothing.
use Rattle.std.proofs.Common.{refl, arith}
use Rattle.header_reader.specs.Seen.{firsts_of, met_of}
use Rattle.header_reader.proofs.FirstLaws.{kept_as, met_as, met_other, IsOther}
use Rattle.header_reader.proofs.messages.Messages.meet.Goals as goal

pub returns-in-1-clause-ok : goal.returns-in-1-clause-ok
returns-in-1-clause-ok c =
    let v = firsts_of c.self.inside in
    kept_as c.keep.result v c.args.self.now (λ o. record v { space = o }) (λ k. met_of k c.keep.new.place)
    (λ k. met_of k c.self.inside.space) c.args.kind 1 c.args.flags c.args.at c.args.body.now c.self.view_is
    c.in-1.is refl c.keep.ensures.kept

pub returns-in-3-clause-ok : goal.returns-in-3-clause-ok
returns-in-3-clause-ok c =
    let v = firsts_of c.self.inside in
    kept_as c.keep-in-3.result v c.args.self.now (λ o. record v { elem = o }) (λ k. met_of k c.keep-in-3.new.place)
    (λ k. met_of k c.self.inside.elem) c.args.kind 3 c.args.flags c.args.at c.args.body.now c.self.view_is
    c.in-3.is refl c.keep-in-3.ensures.kept

pub returns-in-5-clause-ok : goal.returns-in-5-clause-ok
returns-in-5-clause-ok c =
    let v = firsts_of c.self.inside in
    kept_as c.keep-in-5.result v c.args.self.now (λ o. record v { fill = o }) (λ k. met_of k c.keep-in-5.new.place)
    (λ k. met_of k c.self.inside.fill) c.args.kind 5 c.args.flags c.args.at c.args.body.now c.self.view_is
    c.in-5.is refl c.keep-in-5.ensures.kept

pub returns-in-8-clause-ok : goal.returns-in-8-clause-ok
returns-in-8-clause-ok c =
    let v = firsts_of c.self.inside in
    kept_as c.keep-in-8.result v c.args.self.now (λ o. record v { layout = o }) (λ k. met_of k c.keep-in-8.new.place)
    (λ k. met_of k c.self.inside.layout) c.args.kind 8 c.args.flags c.args.at c.args.body.now c.self.view_is
    c.in-8.is refl c.keep-in-8.ensures.kept

pub returns-in-17-clause-ok : goal.returns-in-17-clause-ok
returns-in-17-clause-ok c =
    let v = firsts_of c.self.inside in
    kept_as c.keep-in-17.result v c.args.self.now (λ o. record v { table = o }) (λ k. met_of k c.keep-in-17.new.place)
    (λ k. met_of k c.self.inside.table) c.args.kind 17 c.args.flags c.args.at c.args.body.now c.self.view_is
    c.in-17.is refl c.keep-in-17.ensures.kept

pub returns-in-4-clause-ok : goal.returns-in-4-clause-ok
returns-in-4-clause-ok c =
    λ ms h. met_as (firsts_of c.self.inside) c.args.self.now _ ms c.args.kind 4 c.args.flags c.args.at c.args.body.now
    c.self.view_is c.in-4.is refl h

pub returns-in-7-clause-ok : goal.returns-in-7-clause-ok
returns-in-7-clause-ok c =
    λ ms h. met_as (firsts_of c.self.inside) c.args.self.now _ ms c.args.kind 7 c.args.flags c.args.at c.args.body.now
    c.self.view_is c.in-7.is refl h

pub returns-in-11-clause-ok : goal.returns-in-11-clause-ok
returns-in-11-clause-ok c =
    λ ms h. met_as (firsts_of c.self.inside) c.args.self.now _ ms c.args.kind 11 c.args.flags c.args.at c.args.body.now
    c.self.view_is c.in-11.is refl h

pub returns-in_default-clause-ok : goal.returns-in_default-clause-ok
returns-in_default-clause-ok c =
    let other : IsOther c.args.kind =
    record {
      space = omega arith;
      elem = omega arith;
      fill = omega arith;
      layout = omega arith;
      table = omega arith;
      old_fill = omega arith;
      files = omega arith;
      filters = omega arith;
    } in
    λ ms h. met_other c.args.self.now ms c.args.kind c.args.flags c.args.at c.args.body.now other h
