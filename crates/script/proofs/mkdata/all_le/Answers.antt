use Rattle.std.proofs.Common.{sym, arith}
use Rattle.script.proofs.SizeLemmas.{each_le, not_all_le, not_ranked}
use Rattle.script.proofs.mkdata.all_le.Goals as goal

pub returns-then-dims-max : goal.returns-then-dims-max
returns-then-dims-max c = sym (not_ranked c.args.dims.now c.args.max.now (λ e. omega (arith, e, c.if-dims-max.true)))

pub returns-then-dims-i : goal.returns-then-dims-i
returns-then-dims-i c = sym (not_all_le c.args.dims.now c.args.max.now c.loop-i.i (omega arith) (omega arith) (omega (arith, c.if-dims-i.true)))

pub returns : goal.returns
returns c = sym (each_le c.args.dims.now c.args.max.now (omega arith) (λ k lt. c.loop-i.invariant k (omega (arith, lt))))
