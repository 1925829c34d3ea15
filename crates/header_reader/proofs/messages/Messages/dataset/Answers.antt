-- The parts are told at most once, so that what is refused of one of them is refused of every dataset.
use Rattle.std.proofs.Common.{◌≡◌, ℕ, false, Err, sym, subst}
use Rattle.std.specs.Prelude.{IsTrue}
use Rattle.std.proofs.lemmas.Result.{err_from_is_err_and}
use Rattle.dtype.specs.declared.types.PartStop.TheVariants as stop
use Rattle.header_reader.specs.Seen.{firsts_of, met_of}
use Rattle.header_reader.specs.Told.{TellsFill}
use Rattle.header_reader.proofs.ToldLaws.{no_fill, no_fit}
use Rattle.header_reader.proofs.messages.Messages.dataset.Goals as goal

pub returns-in_err-fill-clause-other : goal.returns-in_err-fill-clause-other
returns-in_err-fill-clause-other c =
    λ refused s t f l parts. let p = err_from_is_err_and c.from_residual-in_err-fill.result c.from_residual-in_err-fill.ensures.1 in
    let was : c.read_filling.result ≡ Err stop.Other = cc (p.1, p.2, refused, c.in_err-fill.was) in
    no_fill (firsts_of c.self.inside) c.args.self.now c.in_ok-elem.elem t s f l c.self.view_is c.in_ok-elem.ensures.found
    (λ g here. c.read_filling.ensures.other was g (subst (λ (n : ℕ). TellsFill c.self.inside.old_fill n (met_of 0x5 c.self.inside.fill) g) (sym c.size.ensures) here))
    parts

pub returns-then-not-fit-clause-other : goal.returns-then-not-fit-clause-other
returns-then-not-fit-clause-other c =
    λ refused s t f l parts. no_fit (firsts_of c.self.inside) c.args.self.now c.in_ok-shape.shape s c.in_ok-elem.elem t c.in_ok-layout.layout l f c.self.view_is c.in_ok-shape.ensures.found c.in_ok-elem.ensures.found
    c.in_ok-layout.ensures.found
    (λ fits. let e : IsTrue false = c.if-not-fit.ensures.1 fits in cc)
    parts
