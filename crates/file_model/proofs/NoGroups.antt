-- A group's heap and B-tree that are held aren't refused.
use Rattle.std.proofs.Common.{◌≡◌, ℕ, zero, suc, List, [], ◌∷◌, ◌++◌, refl, sym, ◌∙◌, ap, subst, arith, inl, inr}
use Rattle.std.proofs.lemmas.List.{append_assoc}
use Rattle.outside.specs.Array.{Array, bytes_of}
use Rattle.outside.specs.Blocks.{Block, Bounds, placed}
use Rattle.h5_base.specs.declared.kinds.BlockKind.TheVariants as kind
use Rattle.node_codec.specs.Snod.{SpellsSnod, soft_value_at, snod_len}
use Rattle.node_codec.specs.Heap.{SpellsHeap}
use Rattle.node_codec.specs.declared.snod.SnodEntry.{SnodEntry}
use Rattle.node_codec.specs.declared.group_node.GroupNode.{GroupNode}
use Rattle.node_codec.specs.declared.heap.HeapHead.{HeapHead}
use Rattle.object_model.specs.Tree.{Name, AreOrdered}
use Rattle.file_model.specs.Index.{Bottom, Node, NoMore, Next, each}
use Rattle.file_model.specs.Groups.{Ks, Found, Header, Text, HasText, IsTarget, AreLinks, AreBetween, Under, LeafNode}
use Rattle.file_model.specs.Groups.{TreeNode, GroupIndex, GroupIndexes, address_of, links_under, links_within}
use Rattle.file_model.specs.Groups.{leaf_block}
use Rattle.file_model.specs.Groups.{node_block, index_blocks, blocks_within, AreKeyed, IsLeaf, IsNode, IsIndex}
use Rattle.file_model.specs.Groups.{AreIndexes}
use Rattle.file_model.specs.Groups.{StandsAt, HasLinks}
use Rattle.file_model.specs.Limits.{IsSmallHeap}
use Rattle.h5_base.specs.declared.refusal.Refusal.{Refusal}
use Rattle.outside.specs.Blocks.{IsPlacedRefused}
use Rattle.file_model.specs.RefusedGroups.{RefusedUnder, names_of, IsEntryRefused, NoName, Disordered, NoValue}
use Rattle.file_model.specs.RefusedGroups.{IsLeafRefused, LeafBlock, NoLeaf, InEntries, IsKeyRefused, NoKey, NotBetween}
use Rattle.file_model.specs.RefusedGroups.{LinksDisordered, AreChildrenRefused, IsNodeRefused, NodeBlock, NoNode}
use Rattle.file_model.specs.RefusedGroups.{InChildren, IsIndexRefused, heap_block, root_level, IsTableRefused}
use Rattle.file_model.specs.RefusedGroups.{HeapBlock, NoHeap, LargeHeap, SegmentBlock, InNodes}
use Rattle.object_model.proofs.OrderLemmas.{ordered_front}
use Rattle.file_model.proofs.UniqueGroups.{text_same, link_same, index_same, level_of}
use Rattle.file_model.proofs.NoFault.{Room, free_of, not_refused, room_after, placed_not_refused}

-- ---- names in order

pub ordered_back : (ms ns : List Name) → AreOrdered (ms ++ ns) → AreOrdered ns
ordered_back [] ns h = h
ordered_back (m ∷ ms) ns h = ordered_back ms ns h.1

pub names_both : (fs gs : List Found) → names_of (fs ++ gs) ≡ names_of fs ++ names_of gs
names_both [] gs = refl
names_both (f ∷ fs) gs = ap (λ (l : List Name). f.name ∷ l) (names_both fs gs)

-- ---- a symbol table node

value_of : (segment : List ℕ) (e : SnodEntry) (f : Found) → IsTarget segment e f.target → e.cache ≡ 2
    → (text : List ℕ) × HasText segment (soft_value_at e) text
value_of segment e f h two = go f.target h
  where
    go : (t : _) → IsTarget segment e t → (text : List ℕ) × HasText segment (soft_value_at e) text
    go (Header at) h = absurd (omega (arith, h.0, two))
    go (Text text) h = (text, h.1)

-- the link that an entry tells, behind those of the entries before it
pub record Behind (segment : List ℕ) (x : SnodEntry) (done fs : List Found) : Type 0 where
  pub link : Found
  pub more : List Found
  pub are : fs ≡ done ++ link ∷ more
  pub name : HasText segment x.name_at link.name
  pub target : IsTarget segment x link.target

pub link_behind : (segment : List ℕ) (before later : List SnodEntry) (x : SnodEntry) (done fs : List Found)
    → AreLinks segment before done → AreLinks segment (before ++ x ∷ later) fs → Behind segment x done fs
link_behind segment [] later x [] [] h k = absurd k
link_behind segment [] later x [] (f ∷ fs) h k = record { link = f; more = fs; are = refl; name = k.0; target = k.1 }
link_behind segment [] later x (d ∷ done) fs h k = absurd h
link_behind segment (e ∷ before) later x [] fs h k = absurd h
link_behind segment (e ∷ before) later x (d ∷ done) [] h k = absurd k
link_behind segment (e ∷ before) later x (d ∷ done) (f ∷ fs) h k =
    let next = link_behind segment before later x done fs h.2 k.2 in
    let same : f ≡ d = link_same segment e f d k.0 k.1 h.0 h.1 in
    record {
      link = next.link;
      more = next.more;
      are = (λ j. same j ∷ next.are j);
      name = next.name;
      target = next.target;
    }

ordered_to : (done more : List Found) (f : Found) → AreOrdered (names_of (done ++ f ∷ more))
    → AreOrdered (names_of done ++ f.name ∷ [])
ordered_to done more f ordered =
    let all : AreOrdered (names_of done ++ f.name ∷ names_of more) =
    subst AreOrdered (names_both done (f ∷ more)) ordered in
    ordered_front (names_of done ++ f.name ∷ []) (names_of more)
    (subst AreOrdered (sym (append_assoc (names_of done) (f.name ∷ []) (names_of more))) all)

pub entry_not : (segment : List ℕ) (heap node : ℕ) (done fs : List Found) (x : SnodEntry) (r : Refusal)
    → Behind segment x done fs → AreOrdered (names_of fs) → IsEntryRefused segment heap node done x r → ⊥
entry_not segment heap node done fs x r h ordered (NoName none line) = none h.link.name h.name
entry_not segment heap node done fs x r h ordered (Disordered name there wrong line) =
    let to = ordered_to done h.more h.link (subst (λ (l : List Found). AreOrdered (names_of l)) h.are ordered) in
    let same : h.link.name ≡ name = text_same segment x.name_at h.link.name name h.name there in
    wrong (subst (λ (n : Name). AreOrdered (names_of done ++ n ∷ [])) same to)
entry_not segment heap node done fs x r h ordered (NoValue name there behind two none line) =
    let t = value_of segment x h.link h.target two in
    none t.0 t.1

leaf_not : (b : Array) (e : Bounds) (ks : Ks) (segment : List ℕ) (heap : ℕ) (s : LeafNode) (met later : List Block)
    (r : Refusal) → IsLeaf b ks segment s → Room e met (leaf_block ks s.at ∷ later)
    → IsLeafRefused b e ks segment heap met s.at r → ⊥
leaf_not b e ks segment heap s met later r h room refused = go refused
  where
    links : (entries : List SnodEntry) → SpellsSnod ks.leaf entries (bytes_of b s.at (snod_len ks.leaf))
        → AreLinks segment entries s.links
    links entries k = subst (λ (l : List SnodEntry). AreLinks segment l s.links) (h.spelled.value ∙ sym k.value) h.links

    go : IsLeafRefused b e ks segment heap met s.at r → ⊥
    go (LeafBlock k) =
        not_refused e met (leaf_block ks s.at) kind.Snod r (free_of e met (leaf_block ks s.at) later room) k
    go (NoLeaf taken none line) = none s.entries h.spelled
    go (InEntries entries taken spelled k) =
        let all = subst (λ (l : List SnodEntry). AreLinks segment l s.links) k.split (links entries spelled) in
        let behind = link_behind segment k.before k.later k.entry k.done s.links k.links all in
        entry_not segment heap s.at k.done s.links k.entry r behind h.ordered k.refused

-- ---- nodes

pub key_not : (segment : List ℕ) (heap node k l : ℕ) (low high : Name) (done here : List Found) (r : Refusal)
    → HasText segment k low → HasText segment l high → AreBetween low high here → AreOrdered (names_of (done ++ here))
    → IsKeyRefused segment heap node k l done here r → ⊥
key_not segment heap node k l low high done here r a b between ordered (NoKey (inl none) line) = none low a
key_not segment heap node k l low high done here r a b between ordered (NoKey (inr none) line) = none high b
key_not segment heap node k l low high done here r a b between ordered (NotBetween m n first second wrong line) =
    let one : low ≡ m = text_same segment k low m a first in
    let two : high ≡ n = text_same segment l high n b second in
    wrong (subst (λ (x : Name). AreBetween x n here) one (subst (λ (x : Name). AreBetween low x here) two between))
key_not segment heap node k l low high done here r a b between ordered (LinksDisordered m n first second mid wrong line) =
    wrong ordered

-- none of these children is refused, behind those before them
abbrev NotBehind : Bounds → List ℕ → (heap node : ℕ) → Under → RefusedUnder → (keys : List ℕ) → List ℕ → List Found
    → List Block → Refusal → Type 0
NotBehind e segment heap node Child Refused keys children done met r =
    AreChildrenRefused e segment heap node Child Refused keys children done met r → ⊥

child_not : (b : Array) (e : Bounds) (ks : Ks) (segment : List ℕ) (heap node height : ℕ) (Refused : RefusedUnder)
    (k l : ℕ) (keys children : List ℕ) (x : GroupIndex) (low high : Name) (done : List Found) (met : List Block)
    (r : Refusal) → IsIndex b ks segment height x → HasText segment k low → HasText segment l high
    → AreBetween low high (links_under x) → AreOrdered (names_of (done ++ links_under x))
    → (Refused met (address_of x) r → ⊥)
    → NotBehind e segment heap node (StandsAt b ks segment height) Refused (l ∷ keys) children (done ++ links_under x)
    (met ++ index_blocks ks x) r
    → NotBehind e segment heap node (StandsAt b ks segment height) Refused (k ∷ l ∷ keys)
    (address_of x ∷ children) done met r
child_not b e ks segment heap node height Refused k l keys children x low high done met r h a c between ordered own next =
    go
  where
    Child : Under
    Child = StandsAt b ks segment height

    -- a later child is refused, behind these links and blocks
    AreLaterRefused : List Found → List Block → Type 0
    AreLaterRefused fs bs =
        AreChildrenRefused e segment heap node Child Refused (l ∷ keys) children (done ++ fs) (met ++ bs) r

    -- what stands there is this index
    here : (fs : List Found) (bs : List Block) → StandsAt b ks segment height (address_of x) fs bs
        → (fs ≡ links_under x) × (bs ≡ index_blocks ks x)
    here fs bs s =
        let same : s.index ≡ x = index_same b ks segment height s.index x s.stands h s.address in
        (s.links ∙ ap links_under same, s.blocks ∙ ap (index_blocks ks) same)

    go : AreChildrenRefused e segment heap node Child Refused (k ∷ l ∷ keys) (address_of x ∷ children) done met r → ⊥
    go (inl bad) = own bad
    go (inr (fs, bs, child, taken, inl (mine, bad))) =
        let bad' = subst (λ (l' : List Found). IsKeyRefused segment heap node k l done l' r) (here fs bs child).0 bad in
        key_not segment heap node k l low high done (links_under x) r a c between ordered bad'
    go (inr (fs, bs, child, taken, inr (fit, later))) =
        let later' = subst (λ (l' : List Found). AreLaterRefused l' bs) (here fs bs child).0 later in
        next (subst (λ (l' : List Block). AreLaterRefused (links_under x) l') (here fs bs child).1 later')

node_not : (b : Array) (e : Bounds) (ks : Ks) (segment : List ℕ) (heap level : ℕ) (Child : Under)
    (Refused : RefusedUnder) (n : TreeNode) (children : List ℕ) (met later : List Block) (r : Refusal)
    → IsNode b ks level n children → Room e met (node_block ks n.at ∷ later)
    → NotBehind e segment heap n.at Child Refused n.node.keys children [] (met ++ node_block ks n.at ∷ []) r
    → IsNodeRefused b e ks segment heap level Child Refused met n.at r → ⊥
node_not b e ks segment heap level Child Refused n children met later r h room below refused = go refused
  where
    own : Block
    own = node_block ks n.at

    Below : List ℕ → List ℕ → Type 0
    Below keys cs = AreChildrenRefused e segment heap n.at Child Refused keys cs [] (met ++ own ∷ []) r

    go : IsNodeRefused b e ks segment heap level Child Refused met n.at r → ⊥
    go (NodeBlock k) = not_refused e met own kind.Tree r (free_of e met own later room) k
    go (NoNode taken none line) = none n.node h.spelled h.level_is
    go (InChildren m taken spelled is k) =
        let node : m ≡ n.node = spelled.value ∙ sym h.spelled.value in
        let k' = subst (λ (x : GroupNode). Below x.keys x.children) node k in
        below (subst (λ (cs : List ℕ). Below n.node.keys cs) h.children_are k')

-- the links under a child, and those under it and the children before it, are in order
own_order : (done here later : List Found) → AreOrdered (names_of (done ++ (here ++ later)))
    → AreOrdered (names_of here)
own_order done here later ordered =
    let all : AreOrdered (names_of done ++ names_of (here ++ later)) =
    subst AreOrdered (names_both done (here ++ later)) ordered in
    let rest = ordered_back (names_of done) (names_of (here ++ later)) all in
    ordered_front (names_of here) (names_of later) (subst AreOrdered (names_both here later) rest)

next_order : (done here later : List Found) → AreOrdered (names_of (done ++ (here ++ later)))
    → AreOrdered (names_of ((done ++ here) ++ later))
next_order done here later ordered =
    subst (λ (l : List Found). AreOrdered (names_of l)) (sym (append_assoc done here later)) ordered

order_so_far : (done here later : List Found) → AreOrdered (names_of (done ++ (here ++ later)))
    → AreOrdered (names_of (done ++ here))
order_so_far done here later ordered = ordered_front (names_of (done ++ here)) (names_of later)
    (subst AreOrdered (names_both (done ++ here) later) (next_order done here later ordered))

mutual
  pub index_not : (b : Array) (e : Bounds) (ks : Ks) (segment : List ℕ) (heap height : ℕ) (x : GroupIndex)
      (met later : List Block) (r : Refusal) → IsIndex b ks segment height x → AreOrdered (names_of (links_under x))
      → Room e met (index_blocks ks x ++ later) → IsIndexRefused b e ks segment heap height met (address_of x) r → ⊥
  index_not b e ks segment heap zero (Bottom s) met later r h ordered room refused =
      leaf_not b e ks segment heap s met later r h room refused
  index_not b e ks segment heap zero (Node n xs) met later r h ordered room refused = h
  index_not b e ks segment heap (suc level) (Bottom s) met later r h ordered room refused = h
  index_not b e ks segment heap (suc level) (Node n xs) met later r h ordered room refused =
      node_not b e ks segment heap level (StandsAt b ks segment level) (IsIndexRefused b e ks segment heap level) n
      (each address_of xs) met (blocks_within ks xs ++ later) r h.0 room
      (indexes_not b e ks segment heap n.at level n.node.keys xs [] (met ++ node_block ks n.at ∷ []) later r h.1 h.2
      ordered (room_after e met (node_block ks n.at ∷ []) (blocks_within ks xs ++ later) room))
      refused

  indexes_not : (b : Array) (e : Bounds) (ks : Ks) (segment : List ℕ) (heap node height : ℕ) (keys : List ℕ)
      (xs : GroupIndexes) (done : List Found) (met later : List Block) (r : Refusal) → AreIndexes b ks segment height xs
      → AreKeyed segment keys xs → AreOrdered (names_of (done ++ links_within xs))
      → Room e met (blocks_within ks xs ++ later)
      → NotBehind e segment heap node (StandsAt b ks segment height) (IsIndexRefused b e ks segment heap height) keys
      (each address_of xs) done met r
  indexes_not b e ks segment heap node height keys NoMore done met later r h keyed ordered room refused = refused
  indexes_not b e ks segment heap node height [] (Next x xs) done met later r h keyed ordered room refused = keyed
  indexes_not b e ks segment heap node height (k ∷ []) (Next x xs) done met later r h keyed ordered room refused = keyed
  indexes_not b e ks segment heap node height (k ∷ l ∷ keys) (Next x xs) done met later r h keyed ordered room refused =
      let own = index_blocks ks x in
      let more = blocks_within ks xs ++ later in
      let room' : Room e met (own ++ more) = subst (Room e met) (append_assoc own (blocks_within ks xs) later) room in
      let mine = own_order done (links_under x) (links_within xs) ordered in
      child_not b e ks segment heap node height (IsIndexRefused b e ks segment heap height) k l keys
      (each address_of xs) x keyed.0 keyed.1 done met r h.0 keyed.2 keyed.3 keyed.4 (order_so_far done (links_under x) (links_within xs) ordered)
      (index_not b e ks segment heap height x met more r h.0 mine room')
      (indexes_not b e ks segment heap node height (l ∷ keys) xs (done ++ links_under x) (met ++ own) later r h.1 keyed.5
      (next_order done (links_under x) (links_within xs) ordered) (room_after e met own more room'))
      refused

-- ---- heap and B-tree

pub table_not : (b : Array) (e : Bounds) (ks : Ks) (met later : List Block) (tree heap : ℕ) (fs : List Found)
    (bs : List Block) (r : Refusal) → HasLinks b ks tree heap fs bs → Room e met (bs ++ later) → IsSmallHeap b heap
    → IsTableRefused b e ks met tree heap r → ⊥
table_not b e ks met later tree heap fs bs r h room small refused = go refused
  where
    segment : List Block
    segment = placed h.head.segment_at h.head.len

    nodes : List Block
    nodes = index_blocks ks h.index

    room' : Room e met (heap_block heap ∷ (segment ++ (nodes ++ later)))
    room' =
        let apart = ap (λ (l : List Block). heap_block heap ∷ l) (append_assoc segment nodes later) in
        subst (Room e met) (ap (λ (l : List Block). l ++ later) h.blocks ∙ apart) room

    room_segment : Room e (met ++ heap_block heap ∷ []) (segment ++ (nodes ++ later))
    room_segment = room_after e met (heap_block heap ∷ []) (segment ++ (nodes ++ later)) room'

    room_nodes : Room e (met ++ heap_block heap ∷ segment) (nodes ++ later)
    room_nodes = room_after e met (heap_block heap ∷ segment) (nodes ++ later) room'

    same : (k : HeapHead) → SpellsHeap k (bytes_of b heap 32) → k ≡ h.head
    same k s = s.value ∙ sym h.spelled.value

    text : HeapHead → List ℕ
    text y = bytes_of b y.segment_at y.len

    Nodes : HeapHead → (level at : ℕ) → Type 0
    Nodes y level at = IsIndexRefused b e ks (text y) heap (suc level)
        (met ++ heap_block heap ∷ placed y.segment_at y.len) at r

    go : IsTableRefused b e ks met tree heap r → ⊥
    go (HeapBlock k) = not_refused e met (heap_block heap) kind.Heap r
        (free_of e met (heap_block heap) (segment ++ (nodes ++ later)) room') k
    go (NoHeap taken none line) = none h.head h.spelled
    go (LargeHeap k taken s large line) = omega (arith, large, small k s)
    go (SegmentBlock k taken s few x) =
        let before = met ++ heap_block heap ∷ [] in
        let x' = subst (λ (y : HeapHead). IsPlacedRefused e before y.segment_at y.len kind.Heap r) (same k s) x in
        placed_not_refused e before h.head.segment_at h.head.len (nodes ++ later) kind.Heap r room_segment x'
    go (InNodes k taken s few x) =
        let level : h.level ≡ root_level b ks tree =
        level_of b ks (text h.head) h.level h.index h.stands ∙ ap (root_level b ks) h.root in
        let x' = subst (λ (y : HeapHead). Nodes y (root_level b ks tree) tree) (same k s) x in
        let x'' = subst (λ (n : ℕ). Nodes h.head n tree) (sym level) x' in
        let here = subst (λ (at : ℕ). Nodes h.head h.level at) (sym h.root) x'' in
        let ordered = subst (λ (l : List Found). AreOrdered (names_of l)) h.links h.ordered in
        index_not b e ks (text h.head) heap (suc h.level) h.index (met ++ heap_block heap ∷ segment) later r h.stands
        ordered room_nodes here
