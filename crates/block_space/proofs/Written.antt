-- What was written so far of the ranges of a plan.
use Rattle.std.proofs.Common.{◌≡◌, ℕ, ◌+◌, ◌<◌, ◌≤◌, ◌++◌, Bool, List, [], ◌∷◌, drop, take, get_or, length, IsTrue, refl, sym}
use Rattle.std.proofs.Common.{◌∙◌, ap, subst, arith}
use Rattle.std.specs.List.{Contains}
use Rattle.h5_base.specs.declared.extent.Extent.{Extent}
use Rattle.std.proofs.lemmas.List.{drop_more, drop_all, length-drop, take_all, take_more}
use Rattle.std.proofs.lemmas.List.Elements.{Contains-get_or}
use Rattle.outside.specs.Array.{Array, over, SameOutside}
use Rattle.outside.specs.Blocks.{Block}
use Rattle.outside.specs.Space.{HasRoom, IsReady, IsSound, SpaceView, TellsWritten}
use Rattle.block_space.specs.Catalogue.{block_of, blocks_of}
use Rattle.block_space.specs.Written.{TellsAllWritten}
use Rattle.block_space.specs.Plans.{AreAsLong, LiesBesideWrites, with_writes}
use Rattle.block_space.proofs.Fresh.{blocks_push}
use Rattle.block_space.proofs.Overlaid.{over_outside}
use Rattle.block_space.proofs.Pages.{tells_both, tells_none, tells_one}

pub record Wrote (tells : Bool) (v w : SpaceView) (ws : List Extent) (is : List (List ℕ)) (i : ℕ) : Type 0 where
  pub writable : w.writable ≡ v.writable
  pub prepared : w.prepared ≡ v.prepared
  pub history : IsTrue tells → w.history ≡ v.history
  pub pages : TellsAllWritten (blocks_of (take i ws)) v.committed w.committed
  pub room : HasRoom w.committed w.prepared
  pub ends : w.ends ≡ v.ends
  pub long : AreAsLong (drop i ws) (drop i is)
  pub array : IsTrue tells → with_writes (drop i ws) (drop i is) w.array ≡ with_writes ws is v.array
  pub beside : IsTrue tells → (a : ℕ) → LiesBesideWrites ws a → w.array a ≡ v.array a

pub wrote_none : (tells : Bool) (v : SpaceView) (ws : List Extent) (is : List (List ℕ)) → IsSound tells v
    → HasRoom v.committed v.prepared → AreAsLong ws is → Wrote tells v v ws is 0
wrote_none tells v ws is sound room long = record {
  writable = refl;
  prepared = refl;
  history = λ told. refl;
  pages = tells_none v.committed sound.revisions;
  room = room;
  ends = refl;
  long = long;
  array = λ told. refl;
  beside = λ told a beside. refl;
}

pub long_length : (ws : List Extent) (is : List (List ℕ)) → AreAsLong ws is → length ws ≤ length is
long_length [] is long = omega arith
long_length (w ∷ ws) [] long = absurd long
long_length (w ∷ ws) (i ∷ is) long = omega (arith, long_length ws is long.1)

-- the next write, with its image
pub record Turn (tells : Bool) (v w : SpaceView) (ws : List Extent) (is : List (List ℕ)) (i : ℕ) (x : Extent) (image :
    List ℕ) : Type 0
  where
    pub split : drop i ws ≡ x ∷ drop (i + 1) ws
    pub more : take (i + 1) ws ≡ take i ws ++ x ∷ []
    pub image_split : drop i is ≡ image ∷ drop (i + 1) is
    pub contained : Contains ws x
    pub wrote : Wrote tells v w ws is i

pub next_turn : (tells : Bool) (v w : SpaceView) (ws ys : List Extent) (is zs : List (List ℕ)) (i : ℕ) (x d : Extent)
    (image e : List ℕ)
    → ys ≡ ws → zs ≡ is → i < length ys → x ≡ get_or ys i d → image ≡ get_or zs i e → Wrote tells v w ws is i
    → Turn tells v w ws is i x image
next_turn tells v w ws ys is zs i x d image e same same_images near x_is image_is wrote =
    let here : i < length ws = omega (arith, near, ap length same) in
    let its_x : x ≡ get_or ws i d = x_is ∙ ap (λ l. get_or l i d) same in
    let image_here : i < length is = omega (
      arith,
      here,
      long_length (drop i ws) (drop i is) wrote.long,
      length-drop i ws,
      length-drop i is,
    ) in
    let its : image ≡ get_or is i e = image_is ∙ ap (λ l. get_or l i e) same_images in
    record {
      split = drop_more ws i d here ∙ ap (λ y. y ∷ drop (i + 1) ws) (sym its_x);
      more = take_more ws i d here ∙ ap (λ y. take i ws ++ y ∷ []) (sym its_x);
      image_split = drop_more is i e image_here ∙ ap (λ y. y ∷ drop (i + 1) is) (sym its);
      contained = subst (Contains ws) (sym its_x) (Contains-get_or ws i d here);
      wrote = wrote;
    }

module _ (tells : Bool) (v w : SpaceView) (ws : List Extent) (is : List (List ℕ)) (i : ℕ) (x : Extent) (image : List ℕ)
    (turn : Turn tells v w ws is i x image) where
  wrote : Wrote tells v w ws is i
  wrote = turn.wrote

  next_long : AreAsLong (x ∷ drop (i + 1) ws) (image ∷ drop (i + 1) is)
  next_long = subst (λ ys. AreAsLong ys (image ∷ drop (i + 1) is)) turn.split (subst (AreAsLong (drop i ws))
      turn.image_split wrote.long)

  pub image_long : length image ≡ x.len
  image_long = next_long.0

  pub write_ready : ((y : Extent) → Contains ws y → IsReady v y.start y.len) → IsReady w x.start (length image)
  write_ready ready =
      let one = ready x turn.contained in
      record {
        writable = rw (wrote.writable) one.writable;
        covered = rw (wrote.prepared, image_long) one.covered;
        room = wrote.room;
      }

  pub beside_still : (u : SpaceView) → SameOutside x.start (length image) w.array u.array → IsTrue tells → (a : ℕ)
      → LiesBesideWrites ws a → u.array a ≡ v.array a
  beside_still u outside told a beside = outside a (rw image_long (beside x turn.contained))
      ∙ wrote.beside told a beside

  pages_next : (u : SpaceView) → TellsWritten x.start (length image) w.committed u.committed
      → TellsAllWritten (blocks_of (take (i + 1) ws)) v.committed u.committed
  pages_next u pages =
      let one : TellsAllWritten (block_of x ∷ []) w.committed u.committed = subst (λ (n : ℕ).
      TellsAllWritten (record { start = x.start; len = n } ∷ []) w.committed u.committed) image_long
      (tells_one x.start (length image) w.committed u.committed pages) in
      let blocks : blocks_of (take (i + 1) ws) ≡ blocks_of (take i ws) ++ block_of x ∷ [] =
      ap blocks_of turn.more ∙ blocks_push (take i ws) x in
      subst (λ (bs : List Block). TellsAllWritten bs v.committed u.committed) (sym blocks)
      (tells_both (blocks_of (take i ws)) (block_of x ∷ []) v.committed w.committed u.committed wrote.pages one)

  pub wrote_next : (u : SpaceView) → u.writable ≡ w.writable → u.prepared ≡ w.prepared
      → (IsTrue tells → u.history ≡ w.history) → TellsWritten x.start (length image) w.committed u.committed
      → HasRoom u.committed u.prepared → u.ends ≡ w.ends
      → (IsTrue tells → u.array ≡ over w.array x.start image) → Wrote tells v u ws is (i + 1)
  wrote_next u writable prepared history pages room ends array = record {
    writable = writable ∙ wrote.writable;
    prepared = prepared ∙ wrote.prepared;
    history = λ told. history told ∙ wrote.history told;
    pages = pages_next u pages;
    room = room;
    ends = ends ∙ wrote.ends;
    long = next_long.1;
    array = λ told. ap (with_writes (drop (i + 1) ws) (drop (i + 1) is)) (array told)
        ∙ ap (λ ys. with_writes ys (image ∷ drop (i + 1) is) w.array) (sym turn.split)
        ∙ ap (λ ys. with_writes (drop i ws) ys w.array) (sym turn.image_split) ∙ wrote.array told;
    beside = λ told a beside. beside_still u (λ b outside. ap (λ (c : Array). c b) (array told)
        ∙ over_outside w.array x.start image b outside) told a beside;
  }

pub wrote_all : (tells : Bool) (v w : SpaceView) (ws : List Extent) (is : List (List ℕ)) (i : ℕ) → length ws ≤ i
    → Wrote tells v w ws is i → IsTrue tells → w.array ≡ with_writes ws is v.array
wrote_all tells v w ws is i all wrote told =
    ap (λ ys. with_writes ys (drop i is) w.array) (sym (drop_all i ws all)) ∙ wrote.array told

pub wrote_pages : (tells : Bool) (v w : SpaceView) (ws : List Extent) (is : List (List ℕ)) (i : ℕ) → length ws ≤ i
    → Wrote tells v w ws is i → TellsAllWritten (blocks_of ws) v.committed w.committed
wrote_pages tells v w ws is i all wrote =
    subst (λ (xs : List Extent). TellsAllWritten (blocks_of xs) v.committed w.committed) (take_all i ws all) wrote.pages
