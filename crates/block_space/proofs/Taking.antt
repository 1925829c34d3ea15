-- What was taken so far of the blocks of a plan.
use Rattle.std.proofs.Common.{◌≡◌, ℕ, ◌+◌, ◌-◌, ◌<◌, ◌≤◌, Bool, List, [], ◌∷◌, ◌++◌, append_assoc, append-nil, drop}
use Rattle.std.proofs.Common.{get_or, map, length, length-append, IsTrue, inl, inr, refl, sym, ◌∙◌, ap, subst, arith}
use Rattle.std.specs.List.{Contains}
use Rattle.std.proofs.lemmas.List.{drop_more, drop_all, get_or-drop, length-drop, map-append}
use Rattle.std.proofs.lemmas.List.Elements.{Contains-get_or}
use Rattle.h5_base.specs.declared.extent.MemClass.{MemClass}
use Rattle.h5_base.specs.declared.extent.Region.{Region}
use Rattle.outside.specs.Array.{Array, Ends, over, SameOutside}
use Rattle.outside.specs.Blocks.{Block, most_blocks}
use Rattle.outside.specs.Space.{AreCovered, AreRegions, HasRoom, IsReady, IsSound, RaisedInPart, SpaceView}
use Rattle.outside.specs.Space.{raised}
use Rattle.block_space.specs.Blocks.{Keeps}
use Rattle.block_space.specs.Written.{TellsAllWritten, whole_block}
use Rattle.block_space.specs.declared.blocks.Blocks.{Blocks}
use Rattle.block_space.specs.declared.plan.Take.{Take}
use Rattle.block_space.specs.Plans.{AreFilled, LiesBesideTake, RisenInPart, ends_after, padded_to, rounded, taken_blocks}
use Rattle.block_space.specs.Plans.{with_takes}
use Rattle.block_space.proofs.Ends.{EndsAsOne, ends_as_one, raised_itself, raised_up}
use Rattle.block_space.proofs.Overlaid.{over_outside, padded_length}
use Rattle.block_space.proofs.Pages.{tells_both, tells_none}
use Rattle.block_space.proofs.Planned.{after_up, ends_with, filled_short, own_as_one, with_as_one}

pub record Took (tells : Bool) (v w : SpaceView) (ts : List Take) (is : List (List ℕ)) (i : ℕ) : Type 0 where
  pub regions : w.regions ≡ v.regions
  pub writable : w.writable ≡ v.writable
  pub prepared : w.prepared ≡ v.prepared
  pub history : IsTrue tells → w.history ≡ v.history
  pub room : HasRoom w.committed w.prepared
  pub up : (c : MemClass) → v.ends c ≤ w.ends c
  pub ends : ends_after v.regions w.ends (drop i ts) ≡ ends_after v.regions v.ends ts
  pub filled : AreFilled (drop i ts) (drop i is)
  pub array : IsTrue tells → with_takes v.regions w.ends (drop i ts) (drop i is) w.array ≡ with_takes v.regions v.ends
      ts is v.array
  pub beside : IsTrue tells → (a : ℕ) → ((c : MemClass) → LiesBesideTake v.regions v.ends ts a c)
      → w.array a ≡ v.array a

-- the catalogue has the blocks that were taken so far
pub record HasFound {V : Type 0} (view : V → SpaceView) (old now : Blocks V) (ts : List Take) (i : ℕ) : Type 0 where
  pub blocks : List Block
  pub count : length blocks ≡ i
  pub rest : blocks ++ taken_blocks (view old.space).regions (view now.space).ends (drop i ts)
      ≡ taken_blocks (view old.space).regions (view old.space).ends ts
  pub pages : TellsAllWritten (map whole_block blocks) (view old.space).committed (view now.space).committed
  pub kept : (met : List Block) → Keeps view old met → length met + length ts ≤ most_blocks
      → Keeps view now (met ++ blocks)

pub took_none : (tells : Bool) (v : SpaceView) (ts : List Take) (is : List (List ℕ)) → HasRoom v.committed v.prepared
    → AreFilled ts is → Took tells v v ts is 0
took_none tells v ts is room filled = record {
  regions = refl;
  writable = refl;
  prepared = refl;
  history = λ told. refl;
  room = room;
  up = λ c. omega arith;
  ends = refl;
  filled = filled;
  array = λ told. refl;
  beside = λ told a beside. refl;
}

pub found_none : {V : Type 0} (view : V → SpaceView) (old : Blocks V) (ts : List Take) (tells : Bool)
    → IsSound tells (view old.space) → HasFound view old old ts 0
found_none view old ts tells sound = record {
  blocks = [];
  count = refl;
  rest = refl;
  pages = tells_none (view old.space).committed sound.revisions;
  kept = λ met keeps few. rw append-nil keeps;
}

pub filled_length : (ts : List Take) (is : List (List ℕ)) → AreFilled ts is → length ts ≡ length is
filled_length [] is none = sym (ap length none)
filled_length (t ∷ ts) [] filled = absurd filled
filled_length (t ∷ ts) (i ∷ is) filled = omega (arith, filled_length ts is filled.2)

-- what is there for all takes: each region has the bytes below its limit, and room was made for them
pub record AllReady (v : SpaceView) (ts : List Take) : Type 0 where
  pub below : (c : MemClass) → ends_after v.regions v.ends ts c ≤ (v.regions c).limit
  pub covered : (t : Take) → Contains ts t → 0 < t.len
      → AreCovered v.prepared (v.ends t.class) (ends_after v.regions v.ends ts t.class - v.ends t.class)

-- the next take, with its image
pub record Turn (tells : Bool) (v w : SpaceView) (ts : List Take) (is : List (List ℕ)) (i : ℕ) (t : Take) (image : List
    ℕ) : Type 0 where
  pub here : i < length ts
  pub split : drop i ts ≡ t ∷ drop (i + 1) ts
  pub image_split : drop i is ≡ image ∷ drop (i + 1) is
  pub contained : Contains ts t
  pub sound : AreRegions w.regions w.ends
  pub took : Took tells v w ts is i

-- it is there, and its image too
pub image_there : (tells : Bool) (v w : SpaceView) (ts : List Take) (n i : ℕ) (images : List (List ℕ))
    → Took tells v w ts (drop n images) i
    → i < length ts → n + i < length images
image_there tells v w ts n i images took here = omega (
  arith,
  filled_length (drop i ts) (drop i (drop n images)) took.filled,
  length-drop i ts,
  length-drop i (drop n images),
  length-drop n images,
  here,
)

pub next_turn : (tells : Bool) (v w : SpaceView) (ts ys : List Take) (n i : ℕ) (images zs : List (List ℕ)) (t d : Take)
    (image e : List ℕ) → ys ≡ ts → zs ≡ images → i < length ys → t ≡ get_or ys i d → image ≡ get_or zs (n + i) e
    → AreRegions w.regions w.ends → Took tells v w ts (drop n images) i → Turn tells v w ts (drop n images) i t image
next_turn tells v w ts ys n i images zs t d image e same same_images near t_is image_is sound took =
    let here : i < length ts = omega (arith, near, ap length same) in
    let is : t ≡ get_or ts i d = t_is ∙ ap (λ l. get_or l i d) same in
    let there = image_there tells v w ts n i images took here in
    let image_here : i < length (drop n images) = omega (arith, there, length-drop n images) in
    let its : image ≡ get_or (drop n images) i e = image_is ∙ ap (λ l. get_or l (n + i) e) same_images
    ∙ sym (get_or-drop n images i e) in
    record {
      here = here;
      split = drop_more ts i d here ∙ ap (λ y. y ∷ drop (i + 1) ts) (sym is);
      image_split = drop_more (drop n images) i e image_here ∙ ap (λ y. y ∷ drop (i + 1) (drop n images)) (sym its);
      contained = subst (Contains ts) (sym is) (Contains-get_or ts i d here);
      sound = sound;
      took = took;
    }

module _ (tells : Bool) (v w : SpaceView) (ts : List Take) (is : List (List ℕ)) (i : ℕ) (t : Take) (image : List ℕ)
    (turn : Turn tells v w ts is i t image) where
  took : Took tells v w ts is i
  took = turn.took

  next_filled : AreFilled (t ∷ drop (i + 1) ts) (image ∷ drop (i + 1) is)
  next_filled = subst (λ ys. AreFilled ys (image ∷ drop (i + 1) is)) turn.split (subst (AreFilled (drop i ts))
      turn.image_split took.filled)

  pub take_some : 0 < t.len
  take_some = next_filled.0

  pub take_short : length image ≤ t.len
  take_short = filled_short t image next_filled.1

  ends_next : ends_after v.regions (ends_with v.regions w.ends t) (drop (i + 1) ts) ≡ ends_after v.regions v.ends ts
  ends_next = ap (ends_after v.regions w.ends) (sym turn.split) ∙ took.ends

  -- the block ends where the blocks of its region do, or before
  within : w.ends t.class + rounded t.len ≤ ends_after v.regions v.ends ts t.class
  within = omega (
    arith,
    ap (λ (e : Ends). e t.class) ends_next,
    raised_itself v.regions w.ends t.class (w.ends t.class + rounded t.len),
    after_up v.regions (ends_with v.regions w.ends t) (drop (i + 1) ts) t.class (own_as_one v.regions w.ends t),
  )

  pub take_below : AllReady v ts → w.ends t.class + rounded t.len ≤ (w.regions t.class).limit
  take_below ready =
      let limit = ready.below t.class in
      rw took.regions (omega (arith, within, limit))

  pub take_ready : AllReady v ts → IsTrue v.writable → IsReady w (w.ends t.class) (rounded t.len)
  take_ready ready writable =
      let covered = ready.covered t turn.contained take_some in
      let up = took.up t.class in
      record {
        writable = rw took.writable writable;
        covered = λ a low high. rw took.prepared (covered a (omega (arith, low, up)) (omega (arith, high, up, within)));
        room = took.room;
      }

  pub beside_still : (u : SpaceView) → SameOutside (w.ends t.class) (rounded t.len) w.array u.array → IsTrue tells
      → (a : ℕ)
      → ((c : MemClass) → LiesBesideTake v.regions v.ends ts a c) → u.array a ≡ v.array a
  beside_still u outside told a beside =
      let up = took.up t.class in
      outside a (elim (beside t.class) [
        | inl before ↦ inl (omega (arith, before, up))
        | inr behind ↦ inr (omega (arith, behind, within))
      ]) ∙ took.beside told a beside

  -- each end lies between the one before and the one behind all takes, if it does for the next
  pub risen_still : (u : SpaceView) → RaisedInPart w.regions w.ends t.class (w.ends t.class + rounded t.len) u.ends
      → RisenInPart v.regions v.ends ts u.ends
  risen_still u part =
      let whole = w.ends t.class + rounded t.len in
      let as_one = λ (c : MemClass). subst (λ (r : MemClass → Region). EndsAsOne r w.ends c) took.regions
      (ends_as_one w.regions w.ends turn.sound c) in
      record {
        low = λ c. omega (arith, took.up c, part.low c);
        high = λ c. omega (
          arith,
          part.high c,
          ap (λ (r : MemClass → Region). raised r w.ends t.class whole c) took.regions,
          after_up v.regions (ends_with v.regions w.ends t) (drop (i + 1) ts) c
              (with_as_one v.regions w.ends t c (as_one c)),
          ap (λ (e : Ends). e c) ends_next,
        );
      }

  pub took_next : (u : SpaceView) → u.regions ≡ w.regions → u.writable ≡ w.writable → u.prepared ≡ w.prepared
      → (IsTrue tells → u.history ≡ w.history) → HasRoom u.committed u.prepared → u.ends ≡ ends_with w.regions w.ends t
      → (IsTrue tells → u.array ≡ over w.array (w.ends t.class) (padded_to (rounded t.len) image))
      → Took tells v u ts is (i + 1)
  took_next u regions writable prepared history room ends array =
      let ends_by : u.ends ≡ ends_with v.regions w.ends t = ends ∙ ap (λ r. ends_with r w.ends t) took.regions in
      record {
        regions = regions ∙ took.regions;
        writable = writable ∙ took.writable;
        prepared = prepared ∙ took.prepared;
        history = λ told. history told ∙ took.history told;
        room = room;
        up = λ c.
            let before = took.up c in
            let risen = raised_up w.regions w.ends t.class (w.ends t.class + rounded t.len) (ends_as_one w.regions
            w.ends turn.sound t.class)
            (omega arith) c in
            rw ends (omega (arith, before, risen));
        ends = ap (λ (e : Ends). ends_after v.regions e (drop (i + 1) ts)) ends_by ∙ ends_next;
        filled = next_filled.2;
        array = λ told.
            ap (λ (e : Ends). with_takes v.regions e (drop (i + 1) ts) (drop (i + 1) is) u.array) ends_by
            ∙ ap (with_takes v.regions (ends_with v.regions w.ends t) (drop (i + 1) ts) (drop (i + 1) is)) (array told)
            ∙ ap (λ ys. with_takes v.regions w.ends ys (image ∷ drop (i + 1) is) w.array) (sym turn.split)
            ∙ ap (λ ys. with_takes v.regions w.ends (drop i ts) ys w.array) (sym turn.image_split) ∙ took.array told;
        beside = λ told a beside. beside_still u (λ b outside. ap (λ (c : Array). c b) (array told)
            ∙ over_outside w.array (w.ends t.class) (padded_to (rounded t.len) image) b
            (rw (padded_length (rounded t.len) image (omega (arith, take_short))) outside)) told a beside;
      }

-- The catalogue has one block more.
pub found_next : {V : Type 0} (view : V → SpaceView) (old now new : Blocks V) (tells : Bool) (ts : List Take) (is : List
    (List ℕ)) (i : ℕ)
    (t : Take) (image : List ℕ) → Turn tells (view old.space) (view now.space) ts is i t image
    → (view new.space).ends ≡ ends_with (view now.space).regions (view now.space).ends t
    → TellsAllWritten (record { start = (view now.space).ends t.class; len = rounded t.len } ∷ [])
    (view now.space).committed (view new.space).committed
    → ((met : List Block) → Keeps view now met → length met < most_blocks
    → Keeps view new (met ++ record { start = (view now.space).ends t.class; len = t.len } ∷ []))
    → HasFound view old now ts i → HasFound view old new ts (i + 1)
found_next view old now new tells ts is i t image turn ends pages takes found =
    let block : Block = record { start = (view now.space).ends t.class; len = t.len } in
    let r = (view old.space).regions in
    record {
      blocks = found.blocks ++ block ∷ [];
      count = omega (arith, length-append found.blocks (block ∷ []), found.count);
      rest = append_assoc found.blocks (block ∷ []) (taken_blocks r (view new.space).ends (drop (i + 1) ts))
          ∙ ap (λ (e : Ends). found.blocks ++ block ∷ taken_blocks r e (drop (i + 1) ts))
          (ends ∙ ap (λ s. ends_with s (view now.space).ends t) turn.took.regions)
          ∙ ap (λ ys. found.blocks ++ taken_blocks r (view now.space).ends ys) (sym turn.split) ∙ found.rest;
      pages = subst (λ (bs : List Block). TellsAllWritten bs (view old.space).committed (view new.space).committed)
          (sym (map-append whole_block found.blocks (block ∷ [])))
          (tells_both (map whole_block found.blocks) (whole_block block ∷ []) (view old.space).committed
          (view now.space).committed (view new.space).committed found.pages pages);
      kept = λ met keeps few. subst (Keeps view new) (append_assoc met found.blocks (block ∷ []))
          (takes (met ++ found.blocks) (found.kept met keeps few)
          (omega (arith, length-append met found.blocks, found.count, few, turn.here)));
    }

pub took_all : (tells : Bool) (v w : SpaceView) (ts : List Take) (is : List (List ℕ)) (i : ℕ) → length ts ≤ i
    → Took tells v w ts is i → IsTrue tells → w.array ≡ with_takes v.regions v.ends ts is v.array
took_all tells v w ts is i all took told =
    ap (λ ys. with_takes v.regions w.ends ys (drop i is) w.array) (sym (drop_all i ts all)) ∙ took.array told

pub took_ends : (tells : Bool) (v w : SpaceView) (ts : List Take) (is : List (List ℕ)) (i : ℕ) → length ts ≤ i
    → Took tells v w ts is i → w.ends ≡ ends_after v.regions v.ends ts
took_ends tells v w ts is i all took = ap (ends_after v.regions w.ends) (sym (drop_all i ts all)) ∙ took.ends

pub took_risen : (tells : Bool) (v w : SpaceView) (ts : List Take) (is : List (List ℕ)) (i : ℕ) → length ts ≤ i
    → Took tells v w ts is i → RisenInPart v.regions v.ends ts w.ends
took_risen tells v w ts is i all took = record {
  low = took.up;
  high = λ c. omega (arith, ap (λ (e : Ends). e c) (took_ends tells v w ts is i all took));
}

pub found_all : {V : Type 0} (view : V → SpaceView) (old now : Blocks V) (ts : List Take) (i : ℕ) → length ts ≤ i
    → (found : HasFound view old now ts i) → found.blocks ≡ taken_blocks (view old.space).regions (view old.space).ends
    ts
found_all view old now ts i all found =
    sym (append-nil found.blocks)
    ∙ ap (λ ys. found.blocks ++ taken_blocks (view old.space).regions (view now.space).ends ys) (sym (drop_all i ts
    all)) ∙ found.rest
