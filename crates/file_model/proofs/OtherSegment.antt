-- A group has the same links with a heap whose segment has the same bytes as far as they are used.
use Rattle.std.proofs.Common.{◌≡◌, ℕ, zero, suc, ◌+◌, ◌<◌, ◌≤◌, ◌==◌, Bool, true, false, List, [], ◌∷◌, ◌++◌, length}
use Rattle.std.proofs.Common.{get_or, take, drop, refl, sym, ◌∙◌, ap, arith}
use Rattle.std.specs.Prelude.{if◌then◌else◌}
use Rattle.std.specs.List.{Contains, flat_map}
use Rattle.std.proofs.lemmas.Bool.{ne_eqb}
use Rattle.std.proofs.lemmas.List.{get_or-take, take-take, drop-take}
use Rattle.std.proofs.lemmas.List.Elements.{Contains-append_left, Contains-append_right}
use Rattle.std.proofs.lemmas.List.FromFn.{length-map-range_with_len, take-map-range_with_len}
use Rattle.outside.specs.Array.{Array, bytes_of}
use Rattle.h5_base.specs.Fields.{bytes_at}
use Rattle.node_codec.specs.Snod.{soft_value_at}
use Rattle.node_codec.specs.declared.snod.SnodEntry.{SnodEntry}
use Rattle.file_model.specs.Index.{Bottom, Node, NoMore, Next, gather_in, each}
use Rattle.file_model.specs.Groups.{HasText, Target, Header, Text, Found, IsTarget, AreLinks, Ks, GroupIndex}
use Rattle.file_model.specs.Groups.{GroupIndexes}
use Rattle.file_model.specs.Groups.{address_of, entry_offsets, key_offsets, index_offsets, AreKeyed, IsIndex}
use Rattle.file_model.specs.Groups.{AreIndexes}
use Rattle.file_model.specs.WellKept.{OtherSegment, OtherHeap}
use Rattle.file_model.proofs.FrameGroups.{index_stays}

-- ---- texts

-- what is read of a list before n
take_same : (s o : List ℕ) (n m : ℕ) → take n o ≡ take n s → m ≤ n → take m o ≡ take m s
take_same s o n m same le = sym (take-take m n o le) ∙ ap (λ (l : List ℕ). take m l) same ∙ take-take m n s le

bytes_moved : (s o : List ℕ) (n at m : ℕ) → take n o ≡ take n s → at + m ≤ n → bytes_at o at m ≡ bytes_at s at m
bytes_moved s o n at m same le =
    sym (drop-take at m o) ∙ ap (λ (l : List ℕ). drop at l) (take_same s o n (at + m) same le) ∙ drop-take at m s

at_moved : (s o : List ℕ) (n i : ℕ) → take n o ≡ take n s → i < n → get_or o i 0 ≡ get_or s i 0
at_moved s o n i same lt =
    sym (get_or-take n o i 0 lt) ∙ ap (λ (l : List ℕ). get_or l i 0) same ∙ get_or-take n s i 0 lt

text_moved : (s o : List ℕ) (n at : ℕ) (text : List ℕ) → n ≤ length o → take n o ≡ take n s → at + length text < n
    → HasText s at text → HasText o at text
text_moved s o n at text long same lt h = record {
  inside = omega (arith, long, lt);
  stands = bytes_moved s o n at (length text) same (omega (arith, lt)) ∙ h.stands;
  ended = at_moved s o n (at + length text) same lt ∙ h.ended;
  no_nul = h.no_nul;
}

-- the texts at these offsets stand in the other segment
abbrev Moves : List ℕ → List ℕ → List ℕ → Type 0
Moves s o ats = (at : ℕ) (text : List ℕ) → Contains ats at → HasText s at text → HasText o at text

moves_left : (s o xs ys : List ℕ) → Moves s o (xs ++ ys) → Moves s o xs
moves_left s o xs ys m at text c = m at text (Contains-append_left xs ys at c)

moves_right : (s o xs ys : List ℕ) → Moves s o (xs ++ ys) → Moves s o ys
moves_right s o xs ys m at text c = m at text (Contains-append_right xs ys at c)

-- ---- entries

name_used : (test : Bool) (e : SnodEntry)
    → Contains (if test then (e.name_at ∷ soft_value_at e ∷ []) else (e.name_at ∷ [])) e.name_at
name_used true e = (0, omega arith, refl)
name_used false e = (0, omega arith, refl)

value_used : (e : SnodEntry) → e.cache ≡ 2 → Contains (entry_offsets e) (soft_value_at e)
value_used e two = let test : (e.cache == 2) ≡ true = rw two refl in rw test (1, omega arith, refl)

target_moved : (s o : List ℕ) (e : SnodEntry) (t : Target) → Moves s o (entry_offsets e) → IsTarget s e t
    → IsTarget o e t
target_moved s o e (Header at) m h = h
target_moved s o e (Text text) m h = (h.0, m (soft_value_at e) text (value_used e h.0) h.1)

links_moved : (s o : List ℕ) (es : List SnodEntry) (fs : List Found) → Moves s o (flat_map entry_offsets es)
    → AreLinks s es fs → AreLinks o es fs
links_moved s o [] [] m h = h
links_moved s o [] (f ∷ fs) m h = h
links_moved s o (e ∷ es) [] m h = h
links_moved s o (e ∷ es) (f ∷ fs) m h =
    let own = moves_left s o (entry_offsets e) (flat_map entry_offsets es) m in
    let later = moves_right s o (entry_offsets e) (flat_map entry_offsets es) m in (
      own e.name_at f.name (name_used (e.cache == 2) e) h.0,
      target_moved s o e f.target own h.1,
      links_moved s o es fs later h.2,
    )

-- ---- nodes

-- the offsets in use under a node
abbrev offsets_within : GroupIndexes → List ℕ
offsets_within = gather_in (λ n. key_offsets n.node) (λ s. flat_map entry_offsets s.entries)

keyed_moved : (s o keys : List ℕ) (xs : GroupIndexes) → Moves s o keys → AreKeyed s keys xs → AreKeyed o keys xs
keyed_moved s o keys NoMore m h = h
keyed_moved s o [] (Next x xs) m h = h
keyed_moved s o (k ∷ []) (Next x xs) m h = h
keyed_moved s o (k ∷ l ∷ ks) (Next x xs) m (low, high, at_low, at_high, between, rest) = (
  low,
  high,
  m k low (0, omega arith, refl) at_low,
  m l high (1, omega arith, refl) at_high,
  between,
  keyed_moved s o (l ∷ ks) xs (moves_right s o (k ∷ []) (l ∷ ks) m) rest,
)

-- a node without children has no keys that are in use
node_moved : (s o keys children : List ℕ) (xs : GroupIndexes) → children ≡ each address_of xs
    → Moves s o (if length children == 0 then [] else keys) → AreKeyed s keys xs → AreKeyed o keys xs
node_moved s o keys children NoMore is m h = h
node_moved s o keys [] (Next x xs) is m h = absurd (omega (arith, ap length is))
node_moved s o keys (c ∷ cs) (Next x xs) is m h =
    let some : (length (c ∷ cs) == 0) ≡ false = ne_eqb (length (c ∷ cs)) 0 (λ z. omega (arith, z)) in
    let m' : Moves s o keys = rw some at m in
    keyed_moved s o keys (Next x xs) m' h

mutual
  index_moved : (b : Array) (ks : Ks) (s o : List ℕ) (height : ℕ) (x : GroupIndex) → Moves s o (index_offsets x)
      → IsIndex b ks s height x → IsIndex b ks o height x
  index_moved b ks s o zero (Bottom leaf) m h = record {
    spelled = h.spelled;
    links = links_moved s o leaf.entries leaf.links m h.links;
    ordered = h.ordered;
  }
  index_moved b ks s o zero (Node n xs) m h = h
  index_moved b ks s o (suc level) (Bottom leaf) m h = h
  index_moved b ks s o (suc level) (Node n xs) m h = (
    h.0,
    indexes_moved b ks s o level xs (moves_right s o (key_offsets n.node) (offsets_within xs) m) h.1,
    node_moved s o n.node.keys n.node.children xs h.0.children_are
        (moves_left s o (key_offsets n.node) (offsets_within xs) m) h.2,
  )

  indexes_moved : (b : Array) (ks : Ks) (s o : List ℕ) (height : ℕ) (xs : GroupIndexes) → Moves s o (offsets_within xs)
      → AreIndexes b ks s height xs → AreIndexes b ks o height xs
  indexes_moved b ks s o height NoMore m h = tt
  indexes_moved b ks s o height (Next x xs) m h = (
    index_moved b ks s o height x (moves_left s o (index_offsets x) (offsets_within xs) m) h.0,
    indexes_moved b ks s o height xs (moves_right s o (index_offsets x) (offsets_within xs) m) h.1,
  )

pub other_segment : OtherSegment
other_segment b ks s o height n x h used short long same =
    index_moved b ks s o height x (λ at text c t. text_moved s o n at text long same (used at text c t) t) h

-- ---- the heap

pub other_heap : OtherHeap
other_heap b c ks tree heap n fs bs head h used short long same spelled agree = (
  record {
    head = head;
    spelled = spelled;
    level = h.level;
    index = h.index;
    root = h.root;
    stands = other_segment c ks old new (suc h.level) n h.index
        (index_stays b c ks old (suc h.level) h.index h.stands agree) used (omega (arith, short, len_old))
        (omega (arith, long, len_new)) begins;
    links = h.links;
    ordered = h.ordered;
    blocks = refl;
  },
  refl,
)
  where
    old : List ℕ
    old = bytes_of b h.head.segment_at h.head.len

    new : List ℕ
    new = bytes_of c head.segment_at head.len

    len_old : length old ≡ h.head.len
    len_old = length-map-range_with_len b h.head.segment_at h.head.len

    len_new : length new ≡ head.len
    len_new = length-map-range_with_len c head.segment_at head.len

    begins : take n new ≡ take n old
    begins = take-map-range_with_len c head.segment_at head.len n long ∙ same
        ∙ sym (take-map-range_with_len b h.head.segment_at h.head.len n short)
