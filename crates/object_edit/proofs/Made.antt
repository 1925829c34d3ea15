-- The plan of a new group and the one of the link to it, as one: what it takes, and what it makes of an array.
use Rattle.std.proofs.Common.{◌≡◌, ◌+◌, ◌^◌, ◌<◌, Bool, true, false, List, [], ◌∷◌, ◌++◌, replicate, refl, sym}
use Rattle.std.proofs.Common.{◌∙◌, ap, subst, subst₂, arith, cond}
use Rattle.std.specs.Prelude.{nat_le}
use Rattle.std.specs.List.{All, Contains}
use Rattle.std.proofs.lemmas.List.Elements.{All-append, All-cons, All-nil, All-replicate}
use Rattle.std.proofs.lemmas.List.Elements.{Contains-append_left, Contains-append_right}
use Rattle.h5_base.specs.declared.extent.Extent.{Extent}
use Rattle.h5_base.specs.declared.extent.MemClass.{MemClass}
use Rattle.h5_base.specs.declared.extent.MemClass.TheVariants.{Super, Tree, Raw, GlobalHeap, LocalHeap, Header}
use Rattle.outside.specs.Array.{Array, Ends}
use Rattle.outside.specs.Blocks.{Block, Agree, AllApart, AreApart, IsApart}
use Rattle.outside.specs.Space.{SpaceView}
use Rattle.block_space.specs.Plans.{FitsCatalogue, LiesInOne, all_needed, ends_after, needed, planned, taken_blocks}
use Rattle.block_space.specs.declared.plan.EditPlan.{EditPlan}
use Rattle.block_space.specs.declared.plan.Needs.{Needs}
use Rattle.block_space.specs.declared.plan.Take.{Take}
use Rattle.block_space.proofs.Apart.{each_apart, none_contained}
use Rattle.node_codec.specs.GroupNodes.{group_node_len}
use Rattle.object_model.specs.Tree.{Name}
use Rattle.file_model.specs.Groups.{Found, Ks}
use Rattle.file_model.proofs.BlockOrder.{agree_through}
use Rattle.group_room.specs.Index.{AreSmall}
use Rattle.group_room.specs.Room.{Takes, group_takes, header_take, heap_take, leaf_take, node_take}
use Rattle.group_room.specs.Used.{name_end, segment_takes, wider_len}
use Rattle.group_rows.specs.declared.group.GroupAt.{GroupAt}
use Rattle.group_facts.specs.Places.{ends_ahead, planned_ahead, taken_ahead}
use Rattle.group_facts.proofs.PlaceLemmas.{nothing_ahead}
use Rattle.new_group.specs.Group.{HoldsEmpty}
use Rattle.new_group.specs.Planned.{IsNewGroup, LieBelow}
use Rattle.new_group.specs.declared.new_group.NewGroup.{NewGroup}
use Rattle.new_group.proofs.Stays.{empty_stays}
use Rattle.group_edit.specs.Edited.{HasInserted, HasPlace, Inserts, StaysWithin, TakesLink}
use Rattle.group_edit.specs.Links.{HoldsGroup}
use Rattle.object_edit.specs.Joined.{IsJoined}
use Rattle.object_edit.specs.Making.{IsMade, MakesGroup, group_part, link_part, target_to}
use Rattle.object_edit.specs.declared.making.GroupPlan.{GroupPlan}
use Rattle.object_edit.proofs.Beside.{IsWholeTake, across, across_left, agree_beside, all_left, all_right}
use Rattle.object_edit.proofs.Beside.{all_skip, narrowed, range_of}
use Rattle.object_edit.proofs.Joined.{joined_fits, joined_means}
use Rattle.object_edit.proofs.Parts.{taken_in_parts}

-- ---- lengths of what is taken

whole_node : (ks : Ks) → IsWholeTake (node_take ks)
whole_node ks = omega arith

whole_group : (ks : Ks) → All IsWholeTake (group_takes ks)
whole_group ks =
    All-cons IsWholeTake (header_take 40) (node_take ks ∷ heap_take 32 ∷ heap_take 88 ∷ []) refl
    (All-cons IsWholeTake (node_take ks) (heap_take 32 ∷ heap_take 88 ∷ []) (whole_node ks)
    (All-cons IsWholeTake (heap_take 32) (heap_take 88 ∷ []) refl
    (All-cons IsWholeTake (heap_take 88) [] refl (All-nil IsWholeTake))))

maybe_whole : (b : Bool) (t : Take) → IsWholeTake t → All IsWholeTake (cond b [] (t ∷ []))
maybe_whole true t w = All-nil IsWholeTake
maybe_whole false t w = All-cons IsWholeTake t [] w (All-nil IsWholeTake)

whole_name : (v : SpaceView) (g : GroupAt) (fs : List Found) (bs : List Block) (old : HoldsGroup v.array g fs bs)
    (name : Name) (ts : List Take) → Takes v.array g.ks g.tree_at g.heap_at fs bs old name ts → All IsWholeTake ts
whole_name v g fs bs old name ts t =
    let segment = segment_takes t.used old.head.len name in
    let leaves = replicate t.leaves (leaf_take g.ks) in
    let nodes = replicate t.nodes (node_take g.ks) in
    subst (All IsWholeTake) (sym t.are)
    (All-append IsWholeTake (segment ++ leaves) nodes
    (All-append IsWholeTake segment leaves
    (maybe_whole (nat_le (name_end t.used name) old.head.len) (heap_take (wider_len t.used old.head.len name))
    (omega arith))
    (All-replicate IsWholeTake t.leaves (leaf_take g.ks) (omega arith)))
    (All-replicate IsWholeTake t.nodes (node_take g.ks) (whole_node g.ks)))

-- ---- what is needed

module _ (v : SpaceView) (ks : Ks) (nothing : Needs) (own : NewGroup) (is : IsNewGroup v ks nothing own)
    (none : (c : MemClass) → needed nothing c ≡ 0) (small : AreSmall ks) where
  own_needs : all_needed own.plan.needs ≡ all_needed own.ahead
  own_needs = omega (
    arith,
    none Super,
    none Tree,
    none Raw,
    none GlobalHeap,
    none LocalHeap,
    none Header,
    is.behind.bytes Super,
    is.behind.bytes Tree,
    is.behind.bytes Raw,
    is.behind.bytes GlobalHeap,
    is.behind.bytes LocalHeap,
    is.behind.bytes Header,
  )

  ahead_sum : all_needed own.ahead ≡ 160 + group_node_len ks.internal
  ahead_sum = omega (
    arith,
    is.sum,
    none Super,
    none Tree,
    none Raw,
    none GlobalHeap,
    none LocalHeap,
    none Header,
  )

  pub both_small : (link : EditPlan) → all_needed link.needs < 2 ^ 63
      → all_needed own.plan.needs + all_needed link.needs < 2 ^ 64
  both_small link h = omega (arith, own_needs, ahead_sum, small.internal.1, h)

  -- ---- the plan

  module _ (link joined : EditPlan) (j : IsJoined own.plan link joined) where
    pub fits_both : (met : List Block) → FitsCatalogue met link → all_needed link.needs < 2 ^ 63
        → FitsCatalogue met joined
    fits_both met fits h = joined_fits met own.plan link joined j is.writes (is.fits met) fits (both_small link h)

    ends_none : ends_ahead v nothing ≡ v.ends
    ends_none = nothing_ahead v nothing none

    own_taken : taken_ahead v nothing own.plan ≡ group_part v ks
    own_taken = λ i. taken_blocks v.regions (ends_none i) (is.takes i)

    ends_then : ends_after v.regions v.ends own.plan.takes ≡ ends_ahead v own.ahead
    ends_then = sym (is.behind.ends ∙ ap (λ (e : Ends). ends_after v.regions e own.plan.takes) ends_none)

    ends_are : ends_after v.regions v.ends (group_takes ks) ≡ ends_ahead v own.ahead
    ends_are = ap (λ (ts : List Take). ends_after v.regions v.ends ts) (sym is.takes) ∙ ends_then

    link_taken : taken_ahead v own.ahead link ≡ link_part v ks link.takes
    link_taken = ap (λ (e : Ends). taken_blocks v.regions e link.takes) (sym ends_are)

    pub takes_are : joined.takes ≡ group_takes ks ++ link.takes
    takes_are = j.takes ∙ ap (λ (ts : List Take). ts ++ link.takes) is.takes

    taken_are : taken_blocks v.regions v.ends joined.takes ≡ group_part v ks ++ link_part v ks link.takes
    taken_are = ap (λ (ts : List Take). taken_blocks v.regions v.ends ts) takes_are
        ∙ taken_in_parts v.regions v.ends (group_takes ks) link.takes

    -- the array once the group's blocks are taken
    abbrev after : Array → Array
    after c = planned_ahead v nothing own.plan c

    whole_is : (met : List Block) → FitsCatalogue met link → (c : Array)
        → planned v.regions v.ends joined c ≡ planned_ahead v own.ahead link (after c)
    whole_is met fits c =
        joined_means v.regions v.ends met own.plan link joined c j is.writes (is.fits met) fits
        ∙ (λ i. planned v.regions (ends_then i) link (planned v.regions (sym ends_none i) own.plan c))

-- ---- what it makes

module _ (v : SpaceView) (g : GroupAt) (name : Name) (nothing : Needs) (own : NewGroup)
    (is : IsNewGroup v g.ks nothing own) (none : (c : MemClass) → needed nothing c ≡ 0)
    (small : AreSmall g.ks) (link joined : EditPlan) (j : IsJoined own.plan link joined) (met : List Block)
    (fits : FitsCatalogue met link) (inserts : Inserts v g own.ahead name (target_to own.at) link)
    (takes : TakesLink v g name link) (within : StaysWithin v g link) where
  abbrev first : List Block
  first = group_part v g.ks

  abbrev second : List Block
  second = link_part v g.ks link.takes

  abbrev new : GroupPlan
  new = record { plan = joined; at = own.at }

  abbrev then : Array → Array
  then c = after v g.ks nothing own is none small link joined j c

  abbrev last : Array → Array
  last c = planned_ahead v own.ahead link (then c)

  first_is : taken_ahead v nothing own.plan ≡ first
  first_is = own_taken v g.ks nothing own is none small link joined j

  second_is : taken_ahead v own.ahead link ≡ second
  second_is = link_taken v g.ks nothing own is none small link joined j

  all_is : taken_blocks v.regions v.ends joined.takes ≡ first ++ second
  all_is = taken_are v g.ks nothing own is none small link joined j

  module _ (fs : List Found) (bs : List Block) (old : HoldsGroup v.array g fs bs) (c : Array)
      (agree : Agree v.array c bs) (below : (x : Block) → Contains (first ++ second) x → x.start + x.len < 2 ^ 64)
      (apart : AllApart (bs ++ (first ++ second))) where
    own_below : LieBelow v nothing own.plan
    own_below = subst (λ (ts : List Block). (x : Block) → Contains ts x → x.start + x.len < 2 ^ 64) (sym first_is)
        (λ x there. below x (Contains-append_left first second x there))

    empty : HoldsEmpty (then c) own.at first
    empty = subst (HoldsEmpty (then c) own.at) first_is (is.holds c own_below
        (subst AllApart (sym first_is) (all_left first second (all_right bs (first ++ second) apart))))

    agree_first : Agree c (then c) bs
    agree_first = agree_beside v.regions (ends_ahead v nothing) met own.plan c (is.fits met)
        (subst (All IsWholeTake) (sym is.takes) (whole_group g.ks)) bs
        (λ x there. subst (IsApart x) (sym first_is) (across_left bs first second apart x there))
        (λ x there w has. absurd (none_contained w (subst (λ (ws : List Extent). Contains ws w) is.writes has)))

    place : HasPlace v own.ahead bs link
    place = record {
      below = subst (λ (ts : List Block). (x : Block) → Contains ts x → x.start + x.len < 2 ^ 64) (sym second_is)
          (λ x there. below x (Contains-append_right first second x there));
      apart = subst (λ (ts : List Block). AllApart (bs ++ ts)) (sym second_is) (all_skip bs first second apart);
    }

    inserted : HasInserted v.array (last c) g fs bs old name (target_to own.at) (taken_ahead v own.ahead link)
    inserted = inserts fs bs old (then c) (agree_through v.array c (then c) bs agree agree_first) place

    -- what the link's plan writes lies in the parent's blocks
    beside_writes : (x : Block) → Contains first x → (w : Extent) → Contains link.writes w → AreApart x (range_of w)
    beside_writes x there w has =
        let lies : LiesInOne bs w.start w.len = within fs bs old w has in
        let y : Block = lies.0 in
        narrowed x y (range_of w) (each_apart y first (across_left bs first second apart y lies.1) x there)
        lies.2 lies.3

    agree_second : Agree (then c) (last c) first
    agree_second = agree_beside v.regions (ends_ahead v own.ahead) met link (then c) fits
        (whole_name v g fs bs old name link.takes (takes fs bs old)) first
        (λ x there. subst (IsApart x) (sym second_is)
        (across first second (all_right bs (first ++ second) apart) x there))
        beside_writes

    is_made : IsMade v g fs bs old name new link.takes c
    is_made =
        let same : planned v.regions v.ends joined c ≡ last c =
        whole_is v g.ks nothing own is none small link joined j met fits c in
        record {
          taken = all_is;
          empty = subst (λ (d : Array). HoldsEmpty d own.at first) (sym same)
              (empty_stays (then c) (last c) own.at first agree_second empty);
          inserted = subst₂
              (λ (d : Array) (ts : List Block). HasInserted v.array d g fs bs old name (target_to own.at) ts)
              (sym same) second_is inserted;
        }

  pub makes_group : MakesGroup v g name new
  makes_group = record {
    link_takes = link.takes;
    ks = is.ks_are;
    takes = takes_are v g.ks nothing own is none small link joined j;
    name_takes = takes;
    within = λ fs bs old. subst (λ (ws : List Extent). (w : Extent) → Contains ws w → LiesInOne bs w.start w.len)
        (sym j.writes) (within fs bs old);
    makes = λ fs bs old c agree below apart. is_made fs bs old c agree
        (subst (λ (ts : List Block). (x : Block) → Contains ts x → x.start + x.len < 2 ^ 64) all_is below)
        (subst (λ (ts : List Block). AllApart (bs ++ ts)) all_is apart);
  }
