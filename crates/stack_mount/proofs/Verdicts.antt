-- A file is refused for one reason or mounted, and never both.
use Rattle.std.proofs.Common.{ℕ, ◌≡◌, ◌≢◌, min, sym, ◌∙◌, ap, arith}
use Rattle.std.proofs.lemmas.List.FromFn.{length-map-range_with_len}
use Rattle.outside.specs.Array.{Array}
use Rattle.super_codec.specs.Super.{Spells}
use Rattle.super_codec.specs.declared.superblock.Superblock.{Superblock}
use Rattle.file_model.specs.Holds.{super_bytes_of}
use Rattle.file_model.specs.Laws.{one_region}
use Rattle.stack_mount.specs.Mounted.{EmptyFile, NoSuper, ShortFile, OneVerdict, OneFault}
use Rattle.h5_base.specs.declared.refusal.Refusal.TheVariants as why

-- what spells a superblock isn't empty
some_bytes : (b : Array) (end : ℕ) (s : Superblock) → Spells s (super_bytes_of b (one_region end)) → end ≢ 0
some_bytes b end s spelled empty = omega (arith, empty, spelled.block.whole, length-map-range_with_len b 0 (min 100 end))

pub one_verdict : OneVerdict
one_verdict b end f (EmptyFile empty is) admitted = admitted.some empty
one_verdict b end f (NoSuper some lacks) admitted = lacks.none admitted.superblock admitted.spelled
one_verdict b end f (ShortFile s spelled short is) admitted =
    let same : s ≡ admitted.superblock = spelled.value ∙ sym admitted.spelled.value in
    omega (arith, short, admitted.whole, ap (λ (r : Superblock). r.end_at) same)

pub one_fault : OneFault
one_fault b end f g (EmptyFile empty is) (EmptyFile also that) = is ∙ sym that
one_fault b end f g (EmptyFile empty is) (NoSuper some lacks) = absurd (some empty)
one_fault b end f g (EmptyFile empty is) (ShortFile s spelled short that) = absurd (some_bytes b end s spelled empty)
one_fault b end f g (NoSuper some lacks) (EmptyFile empty that) = absurd (some empty)
one_fault b end f g (NoSuper some lacks) (NoSuper also lack) = lacks.line ∙ sym lack.line
one_fault b end f g (NoSuper some lacks) (ShortFile s spelled short that) = absurd (lacks.none s spelled)
one_fault b end f g (ShortFile s spelled short is) (EmptyFile empty that) = absurd (some_bytes b end s spelled empty)
one_fault b end f g (ShortFile s spelled short is) (NoSuper some lacks) = absurd (lacks.none s spelled)
one_fault b end f g (ShortFile s spelled short is) (ShortFile r spells less that) =
    let same : s ≡ r = spelled.value ∙ sym spells.value in
    is ∙ ap (λ (x : Superblock). why.Truncated end x.end_at) same ∙ sym that
