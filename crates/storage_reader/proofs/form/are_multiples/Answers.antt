use Rattle.std.proofs.Common.{length, refl, subst, arith}
use Rattle.std.proofs.Common.{◌≡◌}
use Rattle.storage_reader.proofs.ChunkSizes.{EachMultiple, multiples, multiple_at}
use Rattle.storage_reader.proofs.form.are_multiples.Goals as goal

pub returns-then-n-sizes-ne0 : goal.returns-then-n-sizes-ne0
returns-then-n-sizes-ne0 c = (
  λ no. cc,
  λ h. let here = multiple_at c.args.sizes.now c.args.offset.now c.loop-i.i c.requires.room c.loop-i-test.true h in
      absurd (omega arith),
)

pub returns : goal.returns
returns c =
    let end : c.loop-i.i ≡ length c.args.offset.now = omega arith in
    (λ yes. multiples c.args.sizes.now c.args.offset.now c.requires.room (subst (EachMultiple c.args.sizes.now c.args.offset.now) end c.loop-i.invariant), λ h. refl)
