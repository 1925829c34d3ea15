-- The plans of a flush and a commit that put the end field right, and what they leave.
use Rattle.std.proofs.Common.{◌≡◌, inl, inr, ⊎_elim, ℕ, zero, suc, ◌+◌, ◌<◌, ◌≤◌, Bool, true, false, ◌||◌}
use Rattle.std.proofs.Common.{List, [], ◌∷◌, refl, sym, ◌∙◌, ap, subst, arith, length}
use Rattle.std.specs.Prelude.{Option, Some, None, if◌then◌else◌}
use Rattle.std.specs.List.{Contains}
use Rattle.std.proofs.Math.Path.{fun_ext}
use Rattle.std.proofs.lemmas.Bool.{cases_lt}
use Rattle.h5_base.specs.declared.extent.Extent.{Extent}
use Rattle.h5_base.specs.declared.extent.MemClass.{MemClass}
use Rattle.h5_base.specs.declared.extent.MemClass.TheVariants as class
use Rattle.h5_base.specs.declared.extent.Region.{Region}
use Rattle.outside.specs.Array.{Array, Ends, SameOutside}
use Rattle.outside.specs.Blocks.{Block}
use Rattle.outside.specs.Revisions.{Committed, IsLogicalEnd}
use Rattle.outside.specs.Space.{AreSound, SpaceView, bounds_of, same_region}
use Rattle.block_space.specs.Catalogue.{blocks_of as ranges_of}
use Rattle.block_space.specs.Plans.{need_of}
use Rattle.block_space.specs.Written.{TellsAllWritten}
use Rattle.block_space.specs.declared.plan.Take.{Take}
use Rattle.block_space.proofs.Pages.{tells_none}
use Rattle.object_model.specs.declared.command.Command.TheVariants as command
use Rattle.file_model.specs.EditLaws.{end_place}
use Rattle.file_model.specs.Holds.{HoldsFull}
use Rattle.session_model.specs.EndFields.{HasEndFields, InWrongField, IsOfNumber, OfSuper, number_at}
use Rattle.session_model.specs.Line.{AreBuilt, Does, SameBeside}
use Rattle.session_model.specs.State.{InTaken, IsHeld, IsToldBy, IsTouched, IsUnwritten, Plan, Setting, State}
use Rattle.session_model.specs.State.{blocks_of, bounds, needs_of, risen, setting_of, tree_of}
use Rattle.end_fields.specs.Field.{IsTold, PutsEnd, field_of}
use Rattle.end_fields.specs.Laws.{ArePut, CommitPlan, FieldCloses, FlushDoes, FlushPlan, IsOfRanges, Right, Wrong}
use Rattle.end_fields.specs.Laws.{retold, state_with}
use Rattle.end_fields.proofs.Held.{end_held, fields_told}

-- ---- nothing is taken

abbrev zero_if : Bool → ℕ
zero_if b = if b then 0 else 0

nothing_if : (b : Bool) → zero_if b ≡ 0
nothing_if true = refl
nothing_if false = refl

pub need_none : (regions : MemClass → Region) (c : MemClass) → need_of regions (needs_of []) c ≡ 0
need_none regions c =
    rw (
      nothing_if (same_region (regions class.Super) (regions c)),
      nothing_if (same_region (regions class.Tree) (regions c)),
      nothing_if (same_region (regions class.Raw) (regions c)),
      nothing_if (same_region (regions class.GlobalHeap) (regions c)),
      nothing_if (same_region (regions class.LocalHeap) (regions c)),
      nothing_if (same_region (regions class.Header) (regions c)),
    ) refl

risen_none : (k : Setting) (ends : Ends) → ends ≡ risen k ends []
risen_none k ends = fun_ext (λ c. let n = need_none k.regions c in omega arith)

none_taken : (k : Setting) (ends : Ends) (a : ℕ) → InTaken k ends [] a → ⊥
none_taken k ends a x =
    let n = need_none k.regions x.class in
    let low = x.behind in
    let high = x.before in
    omega (arith, n, low, high)

-- ---- the ranges

no_range : (r : Extent) → Contains [] r → ⊥
no_range r has = omega (arith, has.1)

is_one : (r x : Extent) → Contains (r ∷ []) x → r ≡ x
is_one r x (zero, low, is) = is
is_one r x (suc k, low, is) = absurd (omega (arith, low))

untouched : (a : ℕ) → IsTouched [] a → ⊥
untouched a (r, has, low, high) = no_range r has

touches : (r : Extent) (a : ℕ) → IsTouched (r ∷ []) a → (r.start ≤ a) × (a < r.start + r.len)
touches r a (x, has, low, high) =
    subst (λ (y : Extent). (y.start ≤ a) × (a < y.start + y.len)) (sym (is_one r x has)) (low, high)

-- what is known of the ranges that put the field right
record Put (version : ℕ) (v : SpaceView) (ranges : List Extent) : Type 0 where
  some : (r : Extent) → Contains ranges r → 0 < r.len
  inside : (a : ℕ) → IsTouched ranges a → IsOfNumber (end_place version) a
  wrong : (a : ℕ) → IsTouched ranges a → ¬ IsTold version v v.array

put_none : (version : ℕ) (v : SpaceView) → Put version v []
put_none version v = record {
  some = λ r has. absurd (no_range r has);
  inside = λ a hit. absurd (untouched a hit);
  wrong = λ a hit. absurd (untouched a hit);
}

put_one : (version : ℕ) (v : SpaceView) (r : Extent) → r.start ≡ end_place version → r.len ≡ 8
    → ¬ IsTold version v v.array → Put version v (r ∷ [])
put_one version v r start len wrong = record {
  some = λ x has. subst (λ (y : Extent). 0 < y.len) (is_one r x has) (omega (arith, len));
  inside = λ a hit. let h = touches r a hit in (omega (arith, h.0, start), omega (arith, h.1, start, len));
  wrong = λ a hit. wrong;
}

put_of : (version : ℕ) (v : SpaceView) (ranges : List Extent) → ArePut version v ranges → Put version v ranges
put_of version v ranges (Right told none) = subst (λ (rs : List Extent). Put version v rs) (sym none)
    (put_none version v)
put_of version v ranges (Wrong r wrong start len one) = subst (λ (rs : List Extent). Put version v rs) (sym one)
    (put_one version v r start len wrong)

-- ---- the plans

module _ (v : SpaceView) (own : Option (List ℕ)) (s : State) (ranges : List Extent) (told : IsToldBy v s)
    (put : Put s.super.version v ranges) where
  abbrev k : Setting
  k = setting_of v own

  in_wrong : (a : ℕ) → IsTouched ranges a → InWrongField k.regions k.own s.super s.ends s.array a
  in_wrong a hit =
      let here = end_place s.super.version in
      OfSuper (put.inside a hit) (λ right. put.wrong a hit (subst (λ (b : Array). IsLogicalEnd v.regions v.ends
      (number_at b here)) told.array
      (subst (λ (e : Ends). IsLogicalEnd v.regions e (number_at s.array here)) told.ends right)))

  flushes : (p : Plan k s command.Flush) × IsOfRanges p ranges
  flushes = (
    record {
      takes = [];
      are = refl;
      ranges = ranges;
      touched = record {
        some = put.some;
        reached = λ a hit. inl (inl (put.inside a hit));
        taken = λ a x. absurd (none_taken k s.ends a x);
      };
      spares = in_wrong;
    },
    record { takes = refl; ranges_are = refl },
  )

  -- a commit writes nothing where nothing was written since the last one
  commits : (comment : List ℕ) → (IsUnwritten s.committed → ranges ≡ [])
      → (p : Plan k s (command.Commit comment)) × IsOfRanges p ranges
  commits comment idle = (
    record {
      takes = [];
      are = refl;
      ranges = ranges;
      touched = record {
        some = put.some;
        reached = λ a hit. inl (inl (put.inside a hit));
        taken = λ a x. absurd (none_taken k s.ends a x);
      };
      spares = (in_wrong, idle);
    },
    record { takes = refl; ranges_are = refl },
  )

pub flush_plan : FlushPlan
flush_plan v own s ranges told are = flushes v own s ranges told (put_of s.super.version v ranges are)

pub commit_plan : CommitPlan
commit_plan v own s ranges comment told (inl none) =
    commits v own s ranges told (subst (λ (rs : List Extent). Put s.super.version v rs) (sym none)
    (put_none s.super.version v)) comment (λ idle. none)
commit_plan v own s ranges comment told (inr (are, written)) =
    commits v own s ranges told (put_of s.super.version v ranges are) comment (λ idle. absurd (written idle))

-- ---- what is left

-- outside the range, outside the field
beside_one : (version : ℕ) (r : Extent) (b c : Array) → r.start ≡ end_place version → r.len ≡ 8
    → SameOutside (end_place version) 8 b c → SameBeside (r ∷ []) b c
beside_one version r b c start len same a out =
    ⊎_elim (λ before. same a (inl before)) (λ low. ⊎_elim (λ high. absurd (out (
      r,
      (0, omega arith, refl),
      omega
          (arith, low, start),
      omega (arith, high, start, len),
    ))) (λ behind. same a (inr behind))
    (cases_lt a (end_place version + 8))) (cases_lt a (end_place version))

-- the bytes beside the ranges stay, and just their pages are written
record Leaves (ranges : List Extent) (v w : SpaceView) : Type 0 where
  stays : SameBeside ranges v.array w.array
  pages : TellsAllWritten (ranges_of ranges) v.committed w.committed

leaves_none : (v w : SpaceView) → ((c : Committed) → v.committed ≡ Some c → AreSound c) → w ≡ v → Leaves [] v w
leaves_none v w sound same = subst (λ (u : SpaceView). Leaves [] v u) (sym same) (record {
  stays = λ a out. refl;
  pages = tells_none v.committed sound;
})

leaves_one : (version : ℕ) (r : Extent) (v w : SpaceView) → r.start ≡ end_place version → r.len ≡ 8
    → ¬ IsTold version v v.array → PutsEnd version v w → Leaves (r ∷ []) v w
leaves_one version r v w start len wrong puts = record {
  stays = beside_one version r v.array w.array start len puts.tells.stays;
  pages =
      let blocks : field_of version ∷ [] ≡ ranges_of (r ∷ []) =
      (λ i. record { start = sym start i; len = sym len i } ∷ []) in
      subst (λ (bs : List Block). TellsAllWritten bs v.committed w.committed) blocks (puts.pages wrong);
}

leaves_of : (version : ℕ) (v w : SpaceView) (ranges : List Extent)
    → ((c : Committed) → v.committed ≡ Some c → AreSound c) → ArePut version v ranges → PutsEnd version v w
    → Leaves ranges v w
leaves_of version v w ranges sound (Right told none) puts =
    subst (λ (rs : List Extent). Leaves rs v w) (sym none) (leaves_none v w sound (puts.right told))
leaves_of version v w ranges sound (Wrong r wrong start len one) puts =
    subst (λ (rs : List Extent). Leaves rs v w) (sym one) (leaves_one version r v w start len wrong puts)

or_false : (b : Bool) → b ≡ (b || false)
or_false true = refl
or_false false = refl

module _ (v w : SpaceView) (s : State) (told : IsToldBy v s) (held : IsHeld (setting_of v None) s)
    (puts : PutsEnd s.super.version v w) where
  abbrev plain : Setting
  plain = setting_of v None

  -- the tree is held with its ends
  held_with : (ends : Ends) → ends ≡ v.ends
      → HoldsFull w.array (bounds plain ends) (retold s.super w.array) s.root s.links
  held_with ends same =
      let before : HoldsFull v.array (bounds_of v None) s.super s.root s.links =
      subst (λ (b : Array). HoldsFull b (bounds_of v None) s.super s.root s.links) told.array
      (subst (λ (e : Ends). HoldsFull s.array (bounds plain e) s.super s.root s.links) told.ends held) in
      subst (λ (e : Ends). HoldsFull w.array (bounds plain e) (retold s.super w.array) s.root s.links) (sym same)
      (end_held v w None s.super s.root s.links before puts.tells)

  right_fields : HasEndFields v.regions None s.super s.ends w.array
  right_fields = subst (λ (e : Ends). HasEndFields v.regions None s.super e w.array) (sym told.ends)
      (fields_told v w s.super puts.tells)

  does : (ranges : List Extent) (p : Plan plain s command.Flush) → IsOfRanges p ranges → Leaves ranges v w
      → Does plain s command.Flush p (tree_of s) (state_with s w)
  does ranges p are leaves =
      let full : IsHeld plain (state_with s w) = held_with s.ends told.ends in
      record {
        tree = refl;
        held = full;
        ends = risen_none plain s.ends ∙ ap (λ (ts : List Take). risen plain s.ends ts) (sym are.takes);
        built = subst (λ (ts : List Take). AreBuilt plain s.ends ts (blocks_of plain (state_with s w) full))
            (sym are.takes) (record { built = []; are = tt; apart = tt });
        stays = subst (λ (rs : List Extent). SameBeside rs s.array w.array) (sym are.ranges_are)
            (subst (λ (b : Array). SameBeside ranges b w.array) (sym told.array) leaves.stays);
        flushed = right_fields;
        blocks = let none : length p.takes ≡ 0 = ap length are.takes in omega (arith, none);
        pages = subst (λ (rs : List Extent). TellsAllWritten (ranges_of rs) s.committed w.committed)
            (sym are.ranges_are) (subst (λ (m : Option Committed). TellsAllWritten (ranges_of ranges) m w.committed)
            (sym told.committed) leaves.pages);
        history = refl;
        edited = or_false s.edited;
      }

pub flush_does : FlushDoes
flush_does v w s ranges p told sound held are of_ranges puts =
    does v w s told held puts ranges p of_ranges (leaves_of s.super.version v w ranges sound are puts)

pub field_closes : FieldCloses
field_closes v w s told held edited ends puts = record {
  held = record {
    super = retold s.super w.array;
    root = s.root;
    links = s.links;
    full = held_with v w s told held puts w.ends ends;
    tree = refl;
  };
  ends = ends ∙ sym told.ends;
  fields = λ again. right_fields v w s told held puts;
  stays = λ a out. outside a (λ inside. out (inl inside)) ∙ ap (λ (b : Array). b a) (sym told.array);
  idle = λ idle. let no : true ≡ false = sym edited ∙ idle in cc;
}
  where
    outside : (a : ℕ) → (IsOfNumber (end_place s.super.version) a → ⊥) → w.array a ≡ v.array a
    outside a out =
        ⊎_elim (λ before. puts.tells.stays a (inl before)) (λ low. ⊎_elim (λ high. absurd (out (low, high)))
        (λ behind. puts.tells.stays a (inr behind)) (cases_lt a (end_place s.super.version + 8)))
        (cases_lt a (end_place s.super.version))
