-- What a first write to a contiguous dataset takes.
use Rattle.std.proofs.Common.{◌≡◌, ℕ, List, [], ◌∷◌, Ok, Result, refl, sym, ◌∙◌, ap, subst}
use Rattle.outside.specs.Array.{Array}
use Rattle.block_space.specs.declared.plan.Take.{Take}
use Rattle.object_model.specs.declared.answer.Code.{Code}
use Rattle.object_model.specs.Tree.{Leaf}
use Rattle.file_model.specs.Holds.{DataAt, DataLeaf, Full}
use Rattle.session_model.specs.Room.{raw_take, data_len, TakesStorage}
use Rattle.session_model.specs.Examples.{IsNewData, WriteTakes, EmptyBoxTakes, write_takes}

abbrev okay : Full → Result Full Code
okay t = Ok t

abbrev leaf_of : DataAt → Full
leaf_of d = Leaf (DataLeaf d)

pub data_is : (d e : DataAt) → okay (leaf_of d) ≡ okay (leaf_of e) → d ≡ e
data_is d e h = cc

-- the whole dataset, of three bytes
len_is : (d : DataAt) → IsNewData d → data_len d ≡ 3
len_is d fresh = rw (fresh.dims, fresh.elem) refl

storage : (b : Array) (k : ℕ) (d : DataAt) → IsNewData d → (ts : List Take)
    → (TakesStorage b k d d.info.layout (0 ∷ []) (1 ∷ []) ts → ts ≡ write_takes)
    × (ts ≡ write_takes → TakesStorage b k d d.info.layout (0 ∷ []) (1 ∷ []) ts)
storage b k d fresh ts =
    let whole = ap (λ n. raw_take n ∷ []) (len_is d fresh) in
    rw fresh.layout ((λ h. h ∙ whole, λ h. h ∙ sym whole))

pub write_takes_lem : WriteTakes
write_takes_lem b ks g d values ts fresh = (
  λ w. let e = data_is d w.0 w.1 in (storage b ks.chunk d fresh ts).0
      (subst (λ (x : DataAt). TakesStorage b ks.chunk x x.info.layout (0 ∷ []) (1 ∷ []) ts) (sym e) w.2),
  λ h. (d, refl, (storage b ks.chunk d fresh ts).1 h),
)

no_storage : (b : Array) (k : ℕ) (d : DataAt) → IsNewData d → (ts : List Take)
    → (TakesStorage b k d d.info.layout (2 ∷ []) (0 ∷ []) ts → ts ≡ [])
    × (ts ≡ [] → TakesStorage b k d d.info.layout (2 ∷ []) (0 ∷ []) ts)
no_storage b k d fresh ts = rw fresh.layout ((λ h. h, λ h. h))

pub empty_box_lem : EmptyBoxTakes
empty_box_lem b ks g d values ts fresh = (
  λ w. let e = data_is d w.0 w.1 in (no_storage b ks.chunk d fresh ts).0
      (subst (λ (x : DataAt). TakesStorage b ks.chunk x x.info.layout (2 ∷ []) (0 ∷ []) ts) (sym e) w.2),
  λ h. (d, refl, (no_storage b ks.chunk d fresh ts).1 h),
)
