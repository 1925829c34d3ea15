-- The bytes of a file hold one tree.
use Rattle.std.proofs.Common.{◌≡◌, ℕ, true, false, List, [], ◌∷◌, ◌++◌, is_some, refl, sym, ◌∙◌, ap, subst, arith}
use Rattle.outside.specs.Array.{Array, bytes_of}
use Rattle.super_codec.specs.declared.superblock.Superblock.{Superblock}
use Rattle.header_codec.specs.Headers.{SpellsPrefix}
use Rattle.header_codec.specs.declared.types.Prefix.{Prefix}
use Rattle.object_model.specs.Tree.{Group, Leaf, Empty, Link}
use Rattle.file_model.specs.Headers.{Met, Part, IsHeader, header_blocks, messages_of, later_header}
use Rattle.file_model.specs.Objects.{has, DataInfo, IsGroupHeader, IsDataHeader}
use Rattle.file_model.specs.Groups.{Ks, Found, Header, Text, HasLinks}
use Rattle.file_model.specs.Chunks.{IsStoredBy, elements_of}
use Rattle.file_model.specs.Holds.{GroupAt, DataAt, OtherAt, LeafAt, DataLeaf, SoftLeaf, OtherLeaf, FullLinks, founds, leaf_target, IsGroup, IsData, IsUnknown, Unsupported, Later, IsHeld, AreHeld, IsLeafHeld, ks_of, plain}
use Rattle.file_model.specs.Laws.{OneObject, OneFull, OneTree}
use Rattle.file_model.proofs.UniqueHeaders.{prefix_same, header_same, group_same, data_same}
use Rattle.file_model.proofs.UniqueGroups.{links_are}
use Rattle.file_model.proofs.UniqueChunks.{storage_same}

-- two readings of one header
pub record Readings (b : Array) (at other : ℕ) (p q : Prefix) (ps qs : List Part) : Type 0 where
  pub prefix : p ≡ q
  pub parts : ps ≡ qs

pub readings : (b : Array) (at other : ℕ) (p q : Prefix) (ps qs : List Part) → at ≡ other → IsHeader b at p ps → IsHeader b other q qs → Readings b at other p q ps qs
readings b at other p q ps qs e h k =
    let k' : IsHeader b at q qs = subst (λ (n : ℕ). IsHeader b n q qs) (sym e) k in
    record { prefix = prefix_same b at p q ps qs h k'; parts = header_same b at p q ps qs h k' }

header_blocks_same : (at other : ℕ) (p q : Prefix) (ps qs : List Part) → at ≡ other → p ≡ q → ps ≡ qs → header_blocks at p ps ≡ header_blocks other q qs
header_blocks_same at other p q ps qs e f g = (λ j. header_blocks (e j) (f j) (g j))

pub group_are : (b : Array) (ks : Ks) (g h : GroupAt) (fs gs : List Found) → g.header_at ≡ h.header_at → IsGroup b ks g fs → IsGroup b ks h gs → (g ≡ h) × (fs ≡ gs)
group_are b ks g h fs gs e x y =
    let r = readings b g.header_at h.header_at x.prefix y.prefix x.parts y.parts e x.header y.header in
    let table : IsGroupHeader (messages_of x.parts) h.tree_at h.heap_at = subst (λ (ps : List Part). IsGroupHeader (messages_of ps) h.tree_at h.heap_at) (sym r.parts) y.table in
    let at = group_same (messages_of x.parts) g.tree_at h.tree_at g.heap_at h.heap_at x.table table in
    let links : HasLinks b ks g.tree_at g.heap_at gs y.index =
    subst (λ (n : ℕ). HasLinks b ks n g.heap_at gs y.index) (sym at.0) (subst (λ (n : ℕ). HasLinks b ks h.tree_at n gs y.index) (sym at.1) y.links) in
    let same = links_are b ks g.tree_at g.heap_at fs gs x.index y.index x.links links in
    let own : g.own ≡ h.own =
    x.blocks ∙ (λ j. header_blocks_same g.header_at h.header_at x.prefix y.prefix x.parts y.parts e r.prefix r.parts j ++ same.1 j) ∙ sym y.blocks in
    ((λ j. record { header_at = e j; tree_at = at.0 j; heap_at = at.1 j; own = own j }), same.0)

data_are : (b : Array) (ks : Ks) (d e : DataAt) → d.header_at ≡ e.header_at → IsData b ks d → IsData b ks e → d ≡ e
data_are b ks d e at x y =
    let r = readings b d.header_at e.header_at x.prefix y.prefix x.parts y.parts at x.header y.header in
    let told : IsDataHeader (messages_of x.parts) e.info = subst (λ (ps : List Part). IsDataHeader (messages_of ps) e.info) (sym r.parts) y.told in
    let info : d.info ≡ e.info = data_same (messages_of x.parts) d.info e.info x.told told in
    let stored : IsStoredBy b ks.chunk d.info d.info.layout e.chunks y.storage = subst (λ (i : DataInfo). IsStoredBy b ks.chunk i i.layout e.chunks y.storage) (sym info) y.stored in
    let same = storage_same b ks.chunk d.info d.info.layout d.chunks e.chunks x.storage y.storage x.stored stored in
    let elements : d.elements ≡ e.elements = x.elements ∙ (λ j. elements_of b (info j) (same.0 j)) ∙ sym y.elements in
    let own : d.own ≡ e.own =
    x.blocks ∙ (λ j. header_blocks_same d.header_at e.header_at x.prefix y.prefix x.parts y.parts at r.prefix r.parts j ++ same.1 j) ∙ sym y.blocks in
    (λ j. record { header_at = at j; info = info j; chunks = same.0 j; elements = elements j; own = own j })

-- a header of version 1 doesn't begin as one of a later version
pub later_no_prefix : (b : Array) (at : ℕ) (p : Prefix) → bytes_of b at 4 ≡ later_header
    → SpellsPrefix p (bytes_of b at 16) → ⊥
later_no_prefix b at p is h =
    let one : b at ≡ 1 = h.prefix.version in
    let other : b at ≡ 0x4F = cc in
    omega (arith, one, other)

pub not_later : (b : Array) (at : ℕ) (p : Prefix) (ps : List Part) → IsHeader b at p ps → bytes_of b at 4 ≡ later_header → ⊥
not_later b at p ps h is = later_no_prefix b at p is h.spelled

other_are : (b : Array) (o u : OtherAt) → o.header_at ≡ u.header_at → IsUnknown b o → IsUnknown b u → o ≡ u
other_are b o u at (Unsupported x) (Unsupported y) =
    let r = readings b o.header_at u.header_at x.prefix y.prefix x.parts y.parts at x.header y.header in
    let own : o.own ≡ u.own = x.blocks ∙ header_blocks_same o.header_at u.header_at x.prefix y.prefix x.parts y.parts at r.prefix r.parts ∙ sym y.blocks in
    (λ j. record { header_at = at j; own = own j })
other_are b o u at (Unsupported x) (Later y) =
    absurd (not_later b o.header_at x.prefix x.parts x.header (ap (λ (n : ℕ). bytes_of b n 4) at ∙ y.signature))
other_are b o u at (Later x) (Unsupported y) =
    absurd (not_later b u.header_at y.prefix y.parts y.header (ap (λ (n : ℕ). bytes_of b n 4) (sym at) ∙ x.signature))
other_are b o u at (Later x) (Later y) =
    let own : o.own ≡ u.own = x.blocks ∙ ap (λ (n : ℕ). record { start = n; len = 4 } ∷ []) at ∙ sym y.blocks in
    (λ j. record { header_at = at j; own = own j })

-- a group is neither a dataset nor another object, and a dataset is no other object
pub table_or_none : (ms : List Met) (t h : ℕ) → IsGroupHeader ms t h → has 0x11 ms ≡ false → ⊥
table_or_none ms t h group none = let found : has 0x11 ms ≡ true = ap is_some group.first in cc

group_not_data : (b : Array) (ks : Ks) (g : GroupAt) (d : DataAt) (fs : List Found) → g.header_at ≡ d.header_at → IsGroup b ks g fs → IsData b ks d → ⊥
group_not_data b ks g d fs at x y =
    let r = readings b g.header_at d.header_at x.prefix y.prefix x.parts y.parts at x.header y.header in
    table_or_none (messages_of x.parts) g.tree_at g.heap_at x.table (ap (λ (ps : List Part). has 0x11 (messages_of ps)) r.parts ∙ y.told.no_table)

group_not_other : (b : Array) (ks : Ks) (g : GroupAt) (o : OtherAt) (fs : List Found) → g.header_at ≡ o.header_at → IsGroup b ks g fs → IsUnknown b o → ⊥
group_not_other b ks g o fs at x (Unsupported y) =
    let r = readings b g.header_at o.header_at x.prefix y.prefix x.parts y.parts at x.header y.header in
    table_or_none (messages_of x.parts) g.tree_at g.heap_at x.table (ap (λ (ps : List Part). has 0x11 (messages_of ps)) r.parts ∙ y.told.no_table)
group_not_other b ks g o fs at x (Later y) = not_later b g.header_at x.prefix x.parts x.header (ap (λ (n : ℕ). bytes_of b n 4) at ∙ y.signature)

data_not_other : (b : Array) (ks : Ks) (d : DataAt) (o : OtherAt) → d.header_at ≡ o.header_at → IsData b ks d → IsUnknown b o → ⊥
data_not_other b ks d o at x (Unsupported y) =
    let r = readings b d.header_at o.header_at x.prefix y.prefix x.parts y.parts at x.header y.header in
    y.told.no_data d.info (subst (λ (ps : List Part). IsDataHeader (messages_of ps) d.info) r.parts x.told)
data_not_other b ks d o at x (Later y) = not_later b d.header_at x.prefix x.parts x.header (ap (λ (n : ℕ). bytes_of b n 4) at ∙ y.signature)

pub header_is : (x y : ℕ) → Header x ≡ Header y → x ≡ y
header_is x y h = cc

text_is : (x y : List ℕ) → Text x ≡ Text y → x ≡ y
text_is x y h = cc

leaf_same : (b : Array) (ks : Ks) (l m : LeafAt) → IsLeafHeld b ks l → IsLeafHeld b ks m → leaf_target l ≡ leaf_target m → l ≡ m
leaf_same b ks (DataLeaf d) (DataLeaf e) x y at = ap DataLeaf (data_are b ks d e (header_is _ _ at) x y)
leaf_same b ks (DataLeaf d) (SoftLeaf t) x y at = cc
leaf_same b ks (DataLeaf d) (OtherLeaf o) x y at = absurd (data_not_other b ks d o (header_is _ _ at) x y)
leaf_same b ks (SoftLeaf t) (DataLeaf e) x y at = cc
leaf_same b ks (SoftLeaf t) (SoftLeaf u) x y at = ap SoftLeaf (text_is t u at)
leaf_same b ks (SoftLeaf t) (OtherLeaf o) x y at = cc
leaf_same b ks (OtherLeaf o) (DataLeaf e) x y at = absurd (data_not_other b ks e o (sym (header_is _ _ at)) y x)
leaf_same b ks (OtherLeaf o) (SoftLeaf u) x y at = cc
leaf_same b ks (OtherLeaf o) (OtherLeaf u) x y at = ap OtherLeaf (other_are b o u (header_is _ _ at) x y)

pub group_no_leaf : (b : Array) (ks : Ks) (g : GroupAt) (fs : List Found) (l : LeafAt) → IsGroup b ks g fs → IsLeafHeld b ks l → Header g.header_at ≡ leaf_target l → ⊥
group_no_leaf b ks g fs (DataLeaf d) x y at = group_not_data b ks g d fs (header_is _ _ at) x y
group_no_leaf b ks g fs (SoftLeaf t) x y at = cc
group_no_leaf b ks g fs (OtherLeaf o) x y at = group_not_other b ks g o fs (header_is _ _ at) x y

first_is : (f g : Found) (fs gs : List Found) → f ∷ fs ≡ g ∷ gs → f ≡ g
first_is f g fs gs h = cc

rest_is : (f g : Found) (fs gs : List Found) → f ∷ fs ≡ g ∷ gs → fs ≡ gs
rest_is f g fs gs h = cc

mutual
  pub one_object : OneObject
  one_object b ks (Group g ls) (Group h ms) x y at =
      let same = group_are b ks g h (founds ls) (founds ms) (header_is _ _ at) x.0 y.0 in
      (λ j. Group (same.0 j) (one_list b ks ls ms x.1 y.1 same.1 j))
  one_object b ks (Group g ls) (Leaf m) x y at = absurd (group_no_leaf b ks g (founds ls) m x.0 y at)
  one_object b ks (Leaf l) (Group h ms) x y at = absurd (group_no_leaf b ks h (founds ms) l y.0 x (sym at))
  one_object b ks (Leaf l) (Leaf m) x y at = ap Leaf (leaf_same b ks l m x y at)

  one_list : (b : Array) (ks : Ks) (ls ms : FullLinks) → AreHeld b ks ls → AreHeld b ks ms → founds ls ≡ founds ms → ls ≡ ms
  one_list b ks Empty Empty x y same = refl
  one_list b ks Empty (Link m u rest) x y same = cc
  one_list b ks (Link n t rest) Empty x y same = cc
  one_list b ks (Link n t rest) (Link m u more) x y same =
      let first = first_is _ _ (founds rest) (founds more) same in
      let name : n ≡ m = ap (λ (f : Found). f.name) first in
      let object : t ≡ u = one_object b ks t u x.0 y.0 (ap (λ (f : Found). f.target) first) in
      let list : rest ≡ more = one_list b ks rest more x.1 y.1 (rest_is _ _ (founds rest) (founds more) same) in
      (λ j. Link (name j) (object j) (list j))

pub one_full : OneFull
one_full b e s r g h ls ks x y =
    let super : s ≡ r = x.super.value ∙ sym y.super.value in
    let at : g.header_at ≡ h.header_at = x.root ∙ ap (λ (z : Superblock). z.root.header_at) super ∙ sym y.root in
    let held = subst (λ (z : Superblock). IsHeld b (ks_of z) (Group h ks)) (sym super) y.held in
    (super, one_object b (ks_of s) (Group g ls) (Group h ks) x.held held (ap Header at))

pub one_tree : OneTree
one_tree b e t u x y =
    let same = one_full b e x.super y.super x.root y.root x.links y.links x.full y.full in
    x.tree ∙ ap plain same.1 ∙ sym y.tree
