-- A group has one index, and so one list of links.
use Rattle.std.proofs.Common.{◌≡◌, ℕ, zero, suc, ◌+◌, ◌<◌, ◌≤◌, List, [], ◌∷◌, ◌++◌, length, get_or, drop, refl, sym}
use Rattle.std.proofs.Common.{◌∙◌, ap, subst, arith, inl, inr}
use Rattle.std.proofs.lemmas.Bool.{cases_lt}
use Rattle.std.proofs.lemmas.List.{get_or-take, get_or-drop}
use Rattle.outside.specs.Array.{Array, bytes_of}
use Rattle.h5_base.specs.Fields.{bytes_at}
use Rattle.node_codec.specs.Snod.{SpellsSnod, soft_value_at, snod_len}
use Rattle.node_codec.specs.GroupNodes.{SpellsGroupNode, group_node_len, group_node_of}
use Rattle.node_codec.specs.declared.snod.SnodEntry.{SnodEntry}
use Rattle.node_codec.specs.declared.group_node.GroupNode.{GroupNode}
use Rattle.node_codec.specs.declared.heap.HeapHead.{HeapHead}
use Rattle.outside.specs.Blocks.{Block, placed}
use Rattle.file_model.specs.Index.{Bottom, Node, NoMore, Next, each}
use Rattle.file_model.specs.Groups.{HasText, Target, Header, Text, Found, IsTarget, AreLinks, Ks, LeafNode, TreeNode}
use Rattle.file_model.specs.Groups.{GroupIndex, GroupIndexes, address_of, links_under, index_blocks, IsLeaf, IsNode}
use Rattle.file_model.specs.Groups.{IsIndex, AreIndexes, StandsAt, HasLinks}

-- the byte of a text is the segment's
text_at : (s : List ℕ) (at : ℕ) (t : List ℕ) (i : ℕ) → bytes_at s at (length t) ≡ t → i < length t
    → get_or t i 0 ≡ get_or s (at + i) 0
text_at s at t i is lt =
    ap (λ (l : List ℕ). get_or l i 0) (sym is) ∙ get_or-take (length t) (drop at s) i 0 lt ∙ get_or-drop at s i 0

no_longer : (s : List ℕ) (at : ℕ) (t u : List ℕ) → HasText s at t → HasText s at u → length u ≤ length t
no_longer s at t u a b = elim (cases_lt (length t) (length u)) [
  | inl lt ↦ absurd (b.no_nul (length t) 0 lt (text_at s at u (length t) b.stands lt ∙ a.ended))
  | inr le ↦ le
]

pub text_same : (s : List ℕ) (at : ℕ) (t u : List ℕ) → HasText s at t → HasText s at u → t ≡ u
text_same s at t u a b =
    let e : length t ≡ length u = omega (arith, no_longer s at t u a b, no_longer s at u t b a) in
    sym a.stands ∙ ap (bytes_at s at) e ∙ b.stands

target_same : (s : List ℕ) (e : SnodEntry) (t u : Target) → IsTarget s e t → IsTarget s e u → t ≡ u
target_same s e (Header x) (Header y) a b = ap Header (sym a.1 ∙ b.1)
target_same s e (Header x) (Text y) a b = absurd (omega (arith, a.0, b.0))
target_same s e (Text x) (Header y) a b = absurd (omega (arith, a.0, b.0))
target_same s e (Text x) (Text y) a b = ap Text (text_same s (soft_value_at e) x y a.1 b.1)

pub link_same : (s : List ℕ) (e : SnodEntry) (f g : Found) → HasText s e.name_at f.name → IsTarget s e f.target
    → HasText s e.name_at g.name → IsTarget s e g.target → f ≡ g
link_same s e f g a b c d = λ j. record {
  name = text_same s e.name_at f.name g.name a c j;
  target = target_same s e f.target g.target b d j;
}

pub links_same : (s : List ℕ) (es : List SnodEntry) (fs gs : List Found) → AreLinks s es fs → AreLinks s es gs → fs ≡ gs
links_same s [] [] [] a b = refl
links_same s [] [] (g ∷ gs) a b = absurd b
links_same s [] (f ∷ fs) gs a b = absurd a
links_same s (e ∷ es) [] gs a b = absurd a
links_same s (e ∷ es) (f ∷ fs) [] a b = absurd b
links_same s (e ∷ es) (f ∷ fs) (g ∷ gs) a b =
    (λ j. link_same s e f g a.0 a.1 b.0 b.1 j ∷ links_same s es fs gs a.2 b.2 j)

-- ---- the index as a value

-- the bytes at an address spell one list of entries, and one node
entries_same : (b : Array) (k at to : ℕ) (es fs : List SnodEntry) → at ≡ to
    → SpellsSnod k es (bytes_of b at (snod_len k))
    → SpellsSnod k fs (bytes_of b to (snod_len k)) → es ≡ fs
entries_same b k at to es fs is h l =
    h.value ∙ sym (subst (λ (a : ℕ). SpellsSnod k fs (bytes_of b a (snod_len k))) (sym is) l).value

spelled_same : (b : Array) (k at to : ℕ) (n m : GroupNode) → at ≡ to
    → SpellsGroupNode k n (bytes_of b at (group_node_len k)) → SpellsGroupNode k m (bytes_of b to (group_node_len k))
    → n ≡ m
spelled_same b k at to n m is h l =
    h.value ∙ sym (subst (λ (a : ℕ). SpellsGroupNode k m (bytes_of b a (group_node_len k))) (sym is) l).value

leaf_same : (b : Array) (ks : Ks) (s : List ℕ) (m n : LeafNode) → IsLeaf b ks s m → IsLeaf b ks s n → m.at ≡ n.at
    → m ≡ n
leaf_same b ks s m n h k at =
    let entries : m.entries ≡ n.entries = entries_same b ks.leaf m.at n.at m.entries n.entries at h.spelled k.spelled in
    let links : m.links ≡ n.links = links_same s m.entries m.links n.links h.links
    (subst (λ (es : List SnodEntry). AreLinks s es n.links) (sym entries) k.links) in
    λ j. record { at = at j; entries = entries j; links = links j }

node_same : (b : Array) (ks : Ks) (level height : ℕ) (m n : TreeNode) (cs ds : List ℕ) → IsNode b ks level m cs
    → IsNode b ks height n ds → m.at ≡ n.at → m ≡ n
node_same b ks level height m n cs ds h k at =
    let node : m.node ≡ n.node = spelled_same b ks.internal m.at n.at m.node n.node at h.spelled k.spelled in
    λ j. record { at = at j; node = node j }

-- an index of this height that stands at an address is one value
mutual
  pub index_same : (b : Array) (ks : Ks) (s : List ℕ) (height : ℕ) (x y : GroupIndex) → IsIndex b ks s height x
      → IsIndex b ks s height y → address_of x ≡ address_of y → x ≡ y
  index_same b ks s zero (Bottom m) (Bottom n) h k at = ap Bottom (leaf_same b ks s m n h k at)
  index_same b ks s zero (Bottom m) (Node n ys) h k at = absurd k
  index_same b ks s zero (Node m xs) y h k at = absurd h
  index_same b ks s (suc level) (Bottom m) y h k at = absurd h
  index_same b ks s (suc level) (Node m xs) (Bottom n) h k at = absurd k
  index_same b ks s (suc level) (Node m xs) (Node n ys) h k at =
      let node : m ≡ n = node_same b ks level level m n (each address_of xs) (each address_of ys) h.0 k.0 at in
      let children : each address_of xs ≡ each address_of ys =
      sym h.0.children_are ∙ ap (λ (n : TreeNode). n.node.children) node ∙ k.0.children_are in
      let below : xs ≡ ys = indexes_same b ks s level xs ys h.1 k.1 children in
      λ j. Node (node j) (below j)

  indexes_same : (b : Array) (ks : Ks) (s : List ℕ) (height : ℕ) (xs ys : GroupIndexes) → AreIndexes b ks s height xs
      → AreIndexes b ks s height ys → each address_of xs ≡ each address_of ys → xs ≡ ys
  indexes_same b ks s height NoMore NoMore h k is = refl
  indexes_same b ks s height NoMore (Next y ys) h k is = absurd (omega (arith, ap length is))
  indexes_same b ks s height (Next x xs) NoMore h k is = absurd (omega (arith, ap length is))
  indexes_same b ks s height (Next x xs) (Next y ys) h k is =
      let first : x ≡ y = index_same b ks s height x y h.0 k.0 (ap (λ (l : List ℕ). get_or l 0 0) is) in
      let rest : xs ≡ ys = indexes_same b ks s height xs ys h.1 k.1 (ap (λ (l : List ℕ). drop 1 l) is) in
      λ j. Next (first j) (rest j)

-- the block of a node tells its level
pub level_of : (b : Array) (ks : Ks) (s : List ℕ) (level : ℕ) (x : GroupIndex) → IsIndex b ks s (suc level) x
    → level ≡ (group_node_of (bytes_of b (address_of x) (group_node_len ks.internal))).level
level_of b ks s level (Bottom n) h = absurd h
level_of b ks s level (Node n xs) h = sym h.0.level_is ∙ ap (λ (n : GroupNode). n.level) h.0.spelled.value

-- and so an index of any level is one value
pub root_same : (b : Array) (ks : Ks) (s : List ℕ) (level height : ℕ) (x y : GroupIndex) → IsIndex b ks s (suc level) x
    → IsIndex b ks s (suc height) y → address_of x ≡ address_of y → (level ≡ height) × (x ≡ y)
root_same b ks s level height x y h k at =
    let told : (address_of x ≡ address_of y) → level ≡ height = λ at. level_of b ks s level x h
    ∙ ap (λ (a : ℕ). (group_node_of (bytes_of b a (group_node_len ks.internal))).level) at
    ∙ sym (level_of b ks s height y k) in
    let k' = subst (λ (n : ℕ). IsIndex b ks s (suc n) y) (sym (told at)) k in
    (told at, index_same b ks s (suc level) x y h k' at)

-- ---- links and blocks

-- one list of links and one of blocks
abbrev pub Same : List Found → List Found → List Block → List Block → Type 0
Same fs gs bs cs = (fs ≡ gs) × (bs ≡ cs)

pub stands_same : (b : Array) (ks : Ks) (s : List ℕ) (height at : ℕ) (fs gs : List Found) (bs cs : List Block)
    → StandsAt b ks s height at fs bs → StandsAt b ks s height at gs cs → Same fs gs bs cs
stands_same b ks s height at fs gs bs cs h k =
    let same : h.index ≡ k.index =
    index_same b ks s height h.index k.index h.stands k.stands (h.address ∙ sym k.address) in
    (h.links ∙ ap links_under same ∙ sym k.links, h.blocks ∙ ap (index_blocks ks) same ∙ sym k.blocks)

-- the head of a heap, and the index of a group, are one value
pub head_same : (b : Array) (ks : Ks) (tree heap : ℕ) (fs gs : List Found) (bs cs : List Block)
    (h : HasLinks b ks tree heap fs bs) (k : HasLinks b ks tree heap gs cs) → h.head ≡ k.head
head_same b ks tree heap fs gs bs cs h k = h.spelled.value ∙ sym k.spelled.value

pub links_index : (b : Array) (ks : Ks) (tree heap : ℕ) (fs gs : List Found) (bs cs : List Block)
    (h : HasLinks b ks tree heap fs bs) (k : HasLinks b ks tree heap gs cs) → h.index ≡ k.index
links_index b ks tree heap fs gs bs cs h k =
    let head = head_same b ks tree heap fs gs bs cs h k in
    let s = bytes_of b h.head.segment_at h.head.len in
    let other : IsIndex b ks s (suc k.level) k.index =
    subst (λ (x : HeapHead). IsIndex b ks (bytes_of b x.segment_at x.len) (suc k.level) k.index) (sym head) k.stands in
    (root_same b ks s h.level k.level h.index k.index h.stands other (h.root ∙ sym k.root)).1

pub links_are : (b : Array) (ks : Ks) (tree heap : ℕ) (fs gs : List Found) (bs cs : List Block)
    → HasLinks b ks tree heap fs bs → HasLinks b ks tree heap gs cs → Same fs gs bs cs
links_are b ks tree heap fs gs bs cs h k =
    let head = head_same b ks tree heap fs gs bs cs h k in
    let index = links_index b ks tree heap fs gs bs cs h k in
    let first : Block = record { start = heap; len = 32 } in (
      h.links ∙ ap links_under index ∙ sym k.links,
      h.blocks ∙ (λ j. first ∷ placed (head j).segment_at (head j).len ++ index_blocks ks (index j)) ∙ sym k.blocks,
    )
