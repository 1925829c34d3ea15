-- What an index uses of a heap are texts, and its entries tell its links.
use Rattle.std.proofs.Common.{◌≡◌, ℕ, zero, suc, ◌+◌, ◌==◌, true, List, [], ◌∷◌, ◌++◌, length, refl, ◌∙◌, ap}
use Rattle.std.proofs.Common.{subst, arith, inl, inr}
use Rattle.std.specs.Prelude.{if◌then◌else◌}
use Rattle.std.specs.List.{Contains}
use Rattle.std.proofs.lemmas.List.Elements.{Contains-append_cases}
use Rattle.outside.specs.Array.{Array, bytes_of}
use Rattle.node_codec.proofs.NodeLemmas.{length-u64s_at}
use Rattle.node_codec.specs.TreeHead.{used_of}
use Rattle.node_codec.specs.GroupNodes.{SpellsGroupNode, group_node_len}
use Rattle.node_codec.specs.declared.snod.SnodEntry.{SnodEntry}
use Rattle.node_codec.specs.declared.group_node.GroupNode.{GroupNode}
use Rattle.file_model.specs.Index.{Bottom, Node, NoMore, Next, gather_in, each}
use Rattle.file_model.specs.Groups.{Ks, Found, GroupIndex, GroupIndexes, AreLinks, AreKeyed, IsIndex, AreIndexes}
use Rattle.file_model.specs.Groups.{address_of, key_offsets, index_offsets, links_under, links_within}
use Rattle.file_model.proofs.NoFault.{no_element}
use Rattle.group_room.specs.Index.{entries_in}
use Rattle.group_layout.proofs.OffsetLemmas.{one_element, offsets_within, own_keys}
use Rattle.group_facts.specs.Heap.{HasSomeText, UsedTexts}
use Rattle.group_facts.proofs.HeapTexts.{links_have_texts}

-- ---- keys

-- a node has one key more than children
one_key_more : (k : ℕ) (n : GroupNode) (b : List ℕ) → SpellsGroupNode k n b → length n.keys ≡ length n.children + 1
one_key_more k n b h =
    let keys = ap (λ (m : GroupNode). length m.keys) h.value ∙ length-u64s_at b 24 16 (used_of b + 1) in
    let children = ap (λ (m : GroupNode). length m.children) h.value ∙ length-u64s_at b 32 16 (used_of b) in
    omega (arith, keys, children)

keys_have : (s : List ℕ) (k : ℕ) (keys : List ℕ) (xs : GroupIndexes) → AreKeyed s (k ∷ keys) xs → HasSomeText s k
    → length keys ≡ length (each address_of xs) → (o : ℕ) → Contains (k ∷ keys) o → HasSomeText s o
keys_have s k [] NoMore h text count o c = subst (HasSomeText s) (one_element k o c) text
keys_have s k (l ∷ keys) NoMore h text count o c = absurd (omega (arith, count))
keys_have s k [] (Next x xs) h text count o c = absurd h
keys_have s k (l ∷ keys) (Next x xs) (low, high, at_low, at_high, between, rest) text count o c =
    elim (Contains-append_cases (k ∷ []) (l ∷ keys) o c) [
      | inl here ↦ subst (HasSomeText s) (one_element k o here) text
      | inr later ↦ keys_have s l keys xs rest (high, at_high) (omega (arith, count)) o later
    ]

node_has : (s keys children : List ℕ) (xs : GroupIndexes) → children ≡ each address_of xs
    → length keys ≡ length children + 1 → AreKeyed s keys xs → (o : ℕ)
    → Contains (if length children == 0 then [] else keys) o → HasSomeText s o
node_has s keys children NoMore is count h o c =
    let test : (length children == 0) ≡ true = rw is refl in
    let none : Contains [] o = rw test at c in absurd (no_element o none)
node_has s [] children (Next x xs) is count h o c = absurd h
node_has s (k ∷ []) children (Next x xs) is count h o c = absurd h
node_has s (k ∷ l ∷ keys) children (Next x xs) is count (low, high, at_low, at_high, between, rest) o c =
    keys_have s k (l ∷ keys) (Next x xs) (low, high, at_low, at_high, between, rest) (low, at_low)
    (omega (arith, count, ap length is)) o (own_keys (length children == 0) (k ∷ l ∷ keys) o c)

-- ---- the index

links_joined : (s : List ℕ) (es ds : List SnodEntry) (fs gs : List Found) → AreLinks s es fs → AreLinks s ds gs
    → AreLinks s (es ++ ds) (fs ++ gs)
links_joined s [] ds [] gs h k = k
links_joined s [] ds (f ∷ fs) gs h k = absurd h
links_joined s (e ∷ es) ds [] gs h k = absurd h
links_joined s (e ∷ es) ds (f ∷ fs) gs h k = (h.0, h.1, links_joined s es ds fs gs h.2 k)

abbrev entries_within : GroupIndexes → List SnodEntry
entries_within = gather_in (λ n. []) (λ s. s.entries)

mutual
  links_told : (b : Array) (ks : Ks) (s : List ℕ) (height : ℕ) (x : GroupIndex) → IsIndex b ks s height x
      → AreLinks s (entries_in x) (links_under x)
  links_told b ks s zero (Bottom leaf) h = h.links
  links_told b ks s zero (Node n xs) h = absurd h
  links_told b ks s (suc level) (Bottom leaf) h = absurd h
  links_told b ks s (suc level) (Node n xs) h = all_told b ks s level xs h.1

  all_told : (b : Array) (ks : Ks) (s : List ℕ) (height : ℕ) (xs : GroupIndexes) → AreIndexes b ks s height xs
      → AreLinks s (entries_within xs) (links_within xs)
  all_told b ks s height NoMore h = tt
  all_told b ks s height (Next x xs) h =
      links_joined s (entries_in x) (entries_within xs) (links_under x) (links_within xs)
      (links_told b ks s height x h.0) (all_told b ks s height xs h.1)

mutual
  index_has : (b : Array) (ks : Ks) (s : List ℕ) (height : ℕ) (x : GroupIndex) → IsIndex b ks s height x → (o : ℕ)
      → Contains (index_offsets x) o → HasSomeText s o
  index_has b ks s zero (Bottom leaf) h o c = links_have_texts s leaf.entries leaf.links h.links o c
  index_has b ks s zero (Node n xs) h o c = absurd h
  index_has b ks s (suc level) (Bottom leaf) h o c = absurd h
  index_has b ks s (suc level) (Node n xs) h o c =
      elim (Contains-append_cases (key_offsets n.node) (offsets_within xs) o c) [
        | inl key ↦ node_has s n.node.keys n.node.children xs h.0.children_are
            (one_key_more ks.internal n.node (bytes_of b n.at (group_node_len ks.internal)) h.0.spelled) h.2 o key
        | inr below ↦ all_have b ks s level xs h.1 o below
      ]

  all_have : (b : Array) (ks : Ks) (s : List ℕ) (height : ℕ) (xs : GroupIndexes) → AreIndexes b ks s height xs
      → (o : ℕ) → Contains (offsets_within xs) o → HasSomeText s o
  all_have b ks s height NoMore h o c = absurd (no_element o c)
  all_have b ks s height (Next x xs) h o c =
      elim (Contains-append_cases (index_offsets x) (offsets_within xs) o c) [
        | inl here ↦ index_has b ks s height x h.0 o here
        | inr later ↦ all_have b ks s height xs h.1 o later
      ]

pub used_texts : UsedTexts
used_texts b ks s level x h = (index_has b ks s (suc level) x h, links_told b ks s (suc level) x h)
