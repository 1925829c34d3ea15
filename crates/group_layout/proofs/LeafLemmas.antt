-- Symbol table nodes that are filled from the left are a row in order.
use Rattle.std.proofs.Common.{◌≡◌, ℕ, zero, suc, ◌*◌, ◌≤◌, false, List, [], ◌∷◌, ◌++◌, length, take, drop, map}
use Rattle.std.proofs.Common.{refl, sym, ◌∙◌, ap, subst}
use Rattle.outside.specs.Array.{Array}
use Rattle.h5_base.specs.Fields.{undefined}
use Rattle.node_codec.specs.declared.snod.SnodEntry.{SnodEntry}
use Rattle.object_model.specs.Tree.{Name, name_lt, ComesFirst, AreOrdered}
use Rattle.file_model.specs.Index.{Bottom, row_in, AreSiblings}
use Rattle.file_model.specs.Groups.{Ks, Found, GroupIndex, TreeNode, HasText, AreLinks, AreBetween, AreIndexes}
use Rattle.file_model.specs.Groups.{links_within}
use Rattle.file_model.specs.Groups.{links_under}
use Rattle.std.proofs.lemmas.List.{take-append-drop}
use Rattle.file_model.specs.WellKept.{BeginsEmpty}
use Rattle.group_layout.specs.Rows.{laid, AreTexts, AreBounded}
use Rattle.group_layout.specs.Leaves.{leaves, last_key, leaf_keys, AreLeavesSpelled}
use Rattle.group_layout.specs.Laws.{LeavesInOrder, LeavesKept}
use Rattle.group_layout.proofs.NameOrder.{lt_le, le_itself, le_trans, between_wider}
use Rattle.group_layout.proofs.RowLemmas.{left_over, none_left}

abbrev names_of : List Found → List Name
names_of fs = map (λ (f : Found). f.name) fs

-- ---- parts of the links

links_take : (s : List ℕ) (n : ℕ) (es : List SnodEntry) (fs : List Found) → AreLinks s es fs
    → AreLinks s (take n es) (take n fs)
links_take s zero es fs h = tt
links_take s (suc n) [] [] h = tt
links_take s (suc n) [] (f ∷ fs) h = absurd h
links_take s (suc n) (e ∷ es) [] h = absurd h
links_take s (suc n) (e ∷ es) (f ∷ fs) h = (h.0, h.1, links_take s n es fs h.2)

links_drop : (s : List ℕ) (n : ℕ) (es : List SnodEntry) (fs : List Found) → AreLinks s es fs
    → AreLinks s (drop n es) (drop n fs)
links_drop s zero es fs h = h
links_drop s (suc n) [] [] h = tt
links_drop s (suc n) [] (f ∷ fs) h = absurd h
links_drop s (suc n) (e ∷ es) [] h = absurd h
links_drop s (suc n) (e ∷ es) (f ∷ fs) h = links_drop s n es fs h.2

-- the last of some names, or the one before them
abbrev last_name : Name → List Found → Name
last_name least [] = least
last_name least (f ∷ fs) = last_name f.name fs

last_text : (s : List ℕ) (base : ℕ) (least : Name) (es : List SnodEntry) (fs : List Found) → HasText s base least
    → AreLinks s es fs → HasText s (last_key base es) (last_name least fs)
last_text s base least [] [] t h = t
last_text s base least [] (f ∷ fs) t h = absurd h
last_text s base least (e ∷ es) [] t h = absurd h
last_text s base least (e ∷ es) (f ∷ fs) t h = last_text s e.name_at f.name es fs h.0 h.2

first_take : (n : Name) (room : ℕ) (fs : List Found) → ComesFirst n (names_of fs)
    → ComesFirst n (names_of (take room fs))
first_take n zero fs h = tt
first_take n (suc room) [] h = tt
first_take n (suc room) (f ∷ fs) h = h

-- what a node that is filled with some first links has between its keys, and what is left
record Filled (room : ℕ) (least : Name) (fs : List Found) : Type 0 where
  low : name_lt (last_name least (take room fs)) least ≡ false
  between : AreBetween least (last_name least (take room fs)) (take room fs)
  own : AreOrdered (names_of (take room fs))
  more : AreOrdered (last_name least (take room fs) ∷ names_of (drop room fs))

filled : (room : ℕ) (least : Name) (fs : List Found) → AreOrdered (least ∷ names_of fs) → Filled room least fs
filled zero least fs o = record { low = le_itself least; between = tt; own = tt; more = o }
filled (suc room) least [] o = record { low = le_itself least; between = tt; own = tt; more = o }
filled (suc room) least (f ∷ fs) o =
    let later = filled room f.name fs o.1 in
    let last = last_name f.name (take room fs) in
    let above = lt_le least f.name o.0 in record {
      low = le_trans least f.name last above later.low;
      between = (
        (o.0, later.low),
        between_wider least f.name last last (take room fs) above (le_itself last) later.between,
      );
      own = (first_take f.name room fs o.1.0, later.own);
      more = later.more;
    }

-- ---- the row

-- the names that stand at the keys
abbrev leaf_names : ℕ → Name → List ℕ → List Found → List Name
leaf_names room least [] fs = least ∷ []
leaf_names room least (at ∷ ats) fs = least ∷ leaf_names room (last_name least (take room fs)) ats (drop room fs)

leaf_texts : (s : List ℕ) (room base : ℕ) (least : Name) (ats : List ℕ) (es : List SnodEntry) (fs : List Found)
    → HasText s base least → AreLinks s es fs
    → AreTexts s (leaf_keys room base ats es) (leaf_names room least ats fs)
leaf_texts s room base least [] es fs t h = (t, tt)
leaf_texts s room base least (at ∷ ats) es fs t h = (
  t,
  leaf_texts s room (last_key base (take room es)) (last_name least (take room fs)) ats (drop room es) (drop room fs)
      (last_text s base least (take room es) (take room fs) t (links_take s room es fs h)) (links_drop s room es fs h),
)

join : (room : ℕ) (least high : Name) (ats : List ℕ) (fs : List Found) (x : GroupIndex) (xs : List GroupIndex)
    → name_lt high least ≡ false → AreBetween least high (links_under x)
    → AreBounded (leaf_names room high ats fs) xs → AreBounded (least ∷ leaf_names room high ats fs) (x ∷ xs)
join room least high [] fs x xs low between h = (low, between, h)
join room least high (at ∷ ats) fs x xs low between h = (low, between, h)

leaf_bounds : (room : ℕ) (least : Name) (ats : List ℕ) (es : List SnodEntry) (fs : List Found)
    → AreOrdered (least ∷ names_of fs) → AreBounded (leaf_names room least ats fs) (leaves room ats es fs)
leaf_bounds room least [] es fs o = tt
leaf_bounds room least (at ∷ ats) es fs o =
    let own = filled room least fs o in
    let high = last_name least (take room fs) in
    let node : GroupIndex = Bottom (record { at = at; entries = take room es; links = take room fs }) in
    join room least high ats (drop room fs) node (leaves room ats (drop room es) (drop room fs)) own.low own.between
    (leaf_bounds room high ats (drop room es) (drop room fs) own.more)

leaf_stand : (b : Array) (ks : Ks) (s : List ℕ) (least : Name) (ats : List ℕ) (es : List SnodEntry) (fs : List Found)
    → AreLinks s es fs → AreOrdered (least ∷ names_of fs) → AreLeavesSpelled b ks ats es
    → AreIndexes b ks s 0 (laid (leaves (2 * ks.leaf) ats es fs))
leaf_stand b ks s least [] es fs h o spelled = tt
leaf_stand b ks s least (at ∷ ats) es fs h o spelled =
    let room : ℕ = 2 * ks.leaf in
    let own = filled room least fs o in (
      record { spelled = spelled.0; links = links_take s room es fs h; ordered = own.own },
      leaf_stand b ks s (last_name least (take room fs)) ats (drop room es) (drop room fs) (links_drop s room es fs h)
          own.more spelled.1,
    )

no_links : (s : List ℕ) (es : List SnodEntry) (fs : List Found) → AreLinks s es fs → es ≡ [] → fs ≡ []
no_links s [] [] h is = refl
no_links s [] (f ∷ fs) h is = absurd h
no_links s (e ∷ es) fs h is = absurd cc

leaf_links : (s : List ℕ) (room : ℕ) (ats : List ℕ) (es : List SnodEntry) (fs : List Found) → AreLinks s es fs
    → length es ≤ room * length ats → links_within (laid (leaves room ats es fs)) ≡ fs
leaf_links s room [] es fs h le = sym (no_links s es fs h (none_left room es le))
leaf_links s room (at ∷ ats) es fs h le =
    let later = leaf_links s room ats (drop room es) (drop room fs) (links_drop s room es fs h)
    (left_over room (length ats) es le) in
    ap (λ (l : List Found). take room fs ++ l) later ∙ take-append-drop room fs

pub leaves_in_order : LeavesInOrder
leaves_in_order b ks s base least ats es fs text h o le spelled = (
  record {
    stand = leaf_stand b ks s least ats es fs h o spelled;
    names = leaf_names (2 * ks.leaf) least ats fs;
    texts = leaf_texts s (2 * ks.leaf) base least ats es fs text h;
    bounded = leaf_bounds (2 * ks.leaf) least ats es fs o;
  },
  leaf_links s (2 * ks.leaf) ats es fs h le,
)

none_below : (depth room : ℕ) (ats : List ℕ) (es : List SnodEntry) (fs : List Found)
    → [] ≡ row_in depth (laid (leaves room ats es fs))
none_below depth room [] es fs = refl
none_below depth room (at ∷ ats) es fs = none_below depth room ats (drop room es) (drop room fs)

pub leaves_kept : LeavesKept
leaves_kept room ats es fs = record {
  siblings = λ depth. subst (AreSiblings (λ (n : TreeNode). n.at) (λ n. n.node.left) (λ n. n.node.right) undefined)
      (none_below depth room ats es fs) tt;
  leftmost = λ depth. subst BeginsEmpty (none_below depth room ats es fs) tt;
}
