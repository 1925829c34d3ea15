-- Where blocks are taken behind what is ahead.
use Rattle.std.proofs.Common.{◌≡◌, ℕ, zero, suc, ◌+◌, ◌∷◌, map, replicate, refl, ◌∙◌, ap, arith}
use Rattle.std.proofs.Common.{inl, inr}
use Rattle.std.proofs.lemmas.Bool.{cases_Bool}
use Rattle.std.proofs.Math.Path.{fun_ext}
use Rattle.h5_base.specs.declared.extent.MemClass.{MemClass}
use Rattle.h5_base.specs.declared.extent.MemClass.TheVariants.{Super, Tree, Raw, GlobalHeap, LocalHeap, Header}
use Rattle.h5_base.specs.declared.extent.Region.{Region}
use Rattle.outside.specs.Array.{Ends}
use Rattle.outside.specs.Space.{raised, same_region}
use Rattle.block_space.specs.Plans.{rounded, taken_blocks}
use Rattle.block_space.specs.declared.plan.Take.{Take}
use Rattle.block_space.proofs.Needed.{need_le}
use Rattle.block_space.proofs.Ends.{ends_as_one, raised_itself, raised_one, raised_other}
use Rattle.group_room.specs.Index.{addresses}
use Rattle.group_facts.specs.Places.{InARow, NothingAhead, OneAhead, TakenBehind, ends_ahead}
use Rattle.group_facts.proofs.NeedLemmas.{need_other_region, need_same_region}

pub one_ahead : OneAhead
one_ahead v ahead needs class len sound is = fun_ext (λ c.
    elim (cases_Bool (same_region (v.regions c) (v.regions class))) [
      | inl one ↦ omega (
        arith,
        raised_one v.regions (ends_ahead v ahead) class (ends_ahead v ahead class + rounded len) c one,
        need_same_region v.regions ahead needs class len c is one,
        ends_as_one v.regions v.ends sound class c one,
      )
      | inr other ↦ omega (
        arith,
        raised_other v.regions (ends_ahead v ahead) class (ends_ahead v ahead class + rounded len) c other,
        need_other_region v.regions ahead needs class len c is other,
      )
    ])

pub taken_behind : TakenBehind
taken_behind v ahead needs t ts sound is =
    ap (λ (ends : Ends). record { start = ends_ahead v ahead t.class; len = t.len } ∷ taken_blocks v.regions ends ts)
    (one_ahead v ahead needs t.class t.len sound is)

-- blocks of one class and length, from wherever its region ends
row_from : (regions : MemClass → Region) (ends : Ends) (t : Take) (n at : ℕ) → rounded t.len ≡ t.len
    → ends t.class ≡ at → taken_blocks regions ends (replicate n t)
    ≡ map (λ (at : ℕ). record { start = at; len = t.len }) (addresses at t.len n)
row_from regions ends t zero at whole is = refl
row_from regions ends t (suc n) at whole is =
    let next : Ends = raised regions ends t.class (ends t.class + rounded t.len) in
    let here : next t.class ≡ at + t.len =
    raised_itself regions ends t.class (ends t.class + rounded t.len) ∙ omega (arith, whole, is) in
    let later = row_from regions next t n (at + t.len) whole here in
    λ i. record { start = is i; len = t.len } ∷ later i

pub in_a_row : InARow
in_a_row v ahead t n sound eights =
    row_from v.regions (ends_ahead v ahead) t n (ends_ahead v ahead t.class) (omega (arith, eights)) refl

pub nothing_ahead : NothingAhead
nothing_ahead v needs none = fun_ext (λ c. omega (
  arith,
  need_le v.regions needs c,
  none Super,
  none Tree,
  none Raw,
  none GlobalHeap,
  none LocalHeap,
  none Header,
))
