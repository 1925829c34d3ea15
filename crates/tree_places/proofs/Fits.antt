-- Headers and heaps stay within their limits.
use Rattle.std.proofs.Common.{◌≡◌, ◌≤◌, ℕ, Bool, true, false, cond, List, [], ◌∷◌, Some, refl, sym, subst}
use Rattle.node_codec.specs.Heap.{SpellsHeap}
use Rattle.object_model.specs.Tree.{Group, Leaf, Empty, Link, Name, name_lt, same_name, find, edit, replace, insert}
use Rattle.object_model.specs.Tree.{remove}
use Rattle.outside.specs.Array.{Array, bytes_of}
use Rattle.outside.specs.Blocks.{Agree}
use Rattle.file_model.specs.Groups.{Ks, Found}
use Rattle.file_model.specs.Headers.{header_blocks, later_header}
use Rattle.file_model.specs.Holds.{GroupAt, LeafAt, DataLeaf, SoftLeaf, OtherLeaf, Full, FullLinks, IsGroup}
use Rattle.file_model.specs.Holds.{Unsupported, Later, IsHeld, AreHeld, IsLeafHeld, blocks_of, blocks_in, leaf_blocks}
use Rattle.file_model.specs.Holds.{founds}
use Rattle.file_model.specs.Laws.{beside, beside_in}
use Rattle.file_model.specs.Limits.{IsShort, IsSmallHeap, LeafFits, Fits, AllFit, header_bytes, most_header}
use Rattle.file_model.proofs.FrameBytes.{Same, bytes_same, agree_left, agree_right}
use Rattle.file_model.proofs.FrameHeaders.{header_stays}
use Rattle.file_model.proofs.UniqueTree.{readings, not_later}
use Rattle.tree_places.specs.Laws.{ShortStays, FitsFrame, FitsEdit, FitLinks}

pub short_stays : ShortStays
short_stays b c at prefix parts header agree short = λ q qs other.
    let r = readings c at at prefix q parts qs refl (header_stays b c at prefix parts agree header) other in
    let same : header_bytes at prefix parts ≡ header_bytes at q qs = λ j. header_bytes at (r.prefix j) (r.parts j) in
    subst (λ (n : ℕ). n ≤ most_header) same (short prefix parts header)

-- a header of a later version spells no prefix
later_short : (c : Array) (at : ℕ) → bytes_of c at 4 ≡ later_header → IsShort c at
later_short c at later = λ q qs header. absurd (not_later c at q qs header later)

small_stays : (b c : Array) (at : ℕ) → Same b c at 32 → IsSmallHeap b at → IsSmallHeap c at
small_stays b c at same small = λ head spelled. small head (subst (SpellsHeap head) (sym
    (bytes_same b c at 32 same)) spelled)

-- ---- objects

group_fits : (b c : Array) (ks : Ks) (g : GroupAt) (fs : List Found) → IsGroup b ks g fs → Agree b c g.own
    → IsShort b g.header_at → IsSmallHeap b g.heap_at → IsShort c g.header_at × IsSmallHeap c g.heap_at
group_fits b c ks g fs h agree short small =
    let blocks = header_blocks g.header_at h.prefix h.parts in
    let own = subst (Agree b c) h.blocks agree in
    let index = subst (Agree b c) h.links.blocks (agree_right b c blocks h.index own) in (
      short_stays b c g.header_at h.prefix h.parts h.header (agree_left b c blocks h.index own) short,
      small_stays b c
          g.heap_at index.0 small,
    )

leaf_fits : (b c : Array) (ks : Ks) (l : LeafAt) → IsLeafHeld b ks l → Agree b c (leaf_blocks l) → LeafFits b l
    → LeafFits c l
leaf_fits b c ks (DataLeaf d) h agree short =
    short_stays b c d.header_at h.prefix h.parts h.header (agree_left b c
    (header_blocks d.header_at h.prefix h.parts) h.storage (subst (Agree b c) h.blocks agree)) short
leaf_fits b c ks (SoftLeaf text) h agree short = tt
leaf_fits b c ks (OtherLeaf o) (Unsupported h) agree short = short_stays b c o.header_at h.prefix h.parts h.header
    (subst (Agree b c) h.blocks agree) short
leaf_fits b c ks (OtherLeaf o) (Later h) agree short =
    later_short c o.header_at (subst (λ (s : List ℕ). s ≡ later_header) (bytes_same b c o.header_at 4 (subst
    (Agree b c) h.blocks agree).0) h.signature)

mutual
  fits_stay : (b c : Array) (ks : Ks) (t : Full) → IsHeld b ks t → Agree b c (blocks_of t) → Fits b t → Fits c t
  fits_stay b c ks (Group g ls) h agree fits =
      let own = group_fits b c ks g (founds ls) h.0 (agree_left b c g.own (blocks_in ls) agree) fits.0 fits.1 in
      (own.0, own.1, all_stay b c ks ls h.1 (agree_right b c g.own (blocks_in ls) agree) fits.2)
  fits_stay b c ks (Leaf l) h agree fits = leaf_fits b c ks l h agree fits

  all_stay : (b c : Array) (ks : Ks) (ls : FullLinks) → AreHeld b ks ls → Agree b c (blocks_in ls) → AllFit b ls
      → AllFit c ls
  all_stay b c ks Empty h agree fits = tt
  all_stay b c ks (Link n t rest) h agree fits = (
    fits_stay b c ks t h.0 (agree_left b c (blocks_of t) (blocks_in rest) agree) fits.0,
    all_stay b c ks rest h.1
        (agree_right b c (blocks_of t) (blocks_in rest) agree) fits.1,
  )

pub fits_frame : FitsFrame
fits_frame = fits_stay

-- ---- another object at the end of a path

-- what an edit of the object behind the name makes of the links
replaced_fit : (b c : Array) (ks : Ks) (n : Name) (ns : List Name) (v : Full) (ls : FullLinks) → AreHeld b ks ls
    → Agree b c (beside_in n ns ls) → AllFit b ls
    → ((x : Full) → find ls n ≡ Some x → IsHeld b ks x → Agree b c (beside ns x) → Fits b x
    → Fits c (edit ns (λ _. v) x)) → AllFit c (replace ls n (edit ns (λ _. v)))
replaced_fit b c ks n ns v Empty h agree fits inner = tt
replaced_fit b c ks n ns v (Link m t rest) h agree fits inner = go (same_name m n) refl agree
    (replaced_fit b c ks n ns v rest h.1)
  where
    go : (s : Bool) → same_name m n ≡ s → Agree b c (beside_in n ns (Link m t rest))
        → (Agree b c (beside_in n ns rest) → AllFit b rest → ((x : Full) → find rest n ≡ Some x → IsHeld b ks x
        → Agree b c (beside ns x) → Fits b x → Fits c (edit ns (λ _. v) x))
        → AllFit c (replace rest n (edit ns (λ _. v))))
        → AllFit c (cond s (Link m (edit ns (λ _. v) t) rest) (Link m t (replace rest n (edit ns (λ _. v)))))
    go true is all later =
        let both = rw is at all in (
          inner t (rw is refl) h.0 (agree_left b c (beside ns t)
              (blocks_in rest) both) fits.0,
          all_stay b c ks rest h.1 (agree_right b c (beside ns t)
              (blocks_in rest) both) fits.1,
        )
    go false is all later =
        let both = rw is at all in (
          fits_stay b c ks t h.0 (agree_left b c (blocks_of t) (beside_in n ns rest) both) fits.0,
          later
              (agree_right b c (blocks_of t) (beside_in n ns rest) both) fits.1 (λ x there. inner x (rw is there)),
        )

pub fits_edit : FitsEdit
fits_edit b c ks [] t u v w h agree fits new = new
fits_edit b c ks (n ∷ ns) (Leaf l) u v w h agree fits new = absurd cc
fits_edit b c ks (n ∷ ns) (Group g ls) u v w h agree fits new =
    let own = group_fits b c ks g (founds ls) h.0 (agree_left b c g.own (beside_in n ns ls) agree) fits.0 fits.1 in (
      own.0,
      own.1,
      replaced_fit b c ks n ns v ls h.1 (agree_right b c g.own (beside_in n ns ls) agree) fits.2
          (λ x there held beside_it fit. fits_edit b c ks ns x u v (rw there at w) held beside_it fit new),
    )

-- ---- one link more and one fewer

inserted_fit : (b : Array) (ls : FullLinks) (n : Name) (t : Full) → AllFit b ls → Fits b t → AllFit b (insert ls n t)
inserted_fit b Empty n t h new = (new, tt)
inserted_fit b (Link m u rest) n t h new =
    elim (name_lt n m) as (λ s. AllFit b (cond s (Link n t (Link m u rest)) (Link m u (insert rest n t)))) [
      | true ↦ (new, h)
      | false ↦ (h.0, inserted_fit b rest n t h.1 new)
    ]

removed_fit : (b : Array) (ls : FullLinks) (n : Name) → AllFit b ls → AllFit b (remove ls n)
removed_fit b Empty n h = tt
removed_fit b (Link m u rest) n h =
    elim (same_name m n) as (λ s. AllFit b (cond s rest (Link m u (remove rest n)))) [
      | true ↦ h.1
      | false ↦ (h.0, removed_fit b rest n h.1)
    ]

pub fit_links : FitLinks
fit_links b ls n t h = (inserted_fit b ls n t h, removed_fit b ls n h)
