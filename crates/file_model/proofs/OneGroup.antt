-- A group's heap and B-tree are refused for one reason.
use Rattle.std.proofs.Common.{◌≡◌, ◌⊎◌, ℕ, zero, suc, ◌<◌, ◌≤◌, List, [], ◌∷◌, ◌++◌, refl, sym, ◌∙◌}
use Rattle.std.proofs.Common.{ap, subst, arith, inl, inr}
use Rattle.std.proofs.lemmas.List.{append-nil}
use Rattle.outside.specs.Array.{Array, bytes_of}
use Rattle.outside.specs.Blocks.{Block, Bounds, placed, AreTaken, IsPlacedRefused}
use Rattle.h5_base.specs.declared.kinds.BlockKind.TheVariants as kind
use Rattle.h5_base.specs.declared.refusal.Refusal.{Refusal}
use Rattle.node_codec.specs.Heap.{SpellsHeap}
use Rattle.node_codec.specs.declared.snod.SnodEntry.{SnodEntry}
use Rattle.node_codec.specs.declared.group_node.GroupNode.{GroupNode}
use Rattle.node_codec.specs.declared.heap.HeapHead.{HeapHead}
use Rattle.object_model.specs.Tree.{Name, AreOrdered}
use Rattle.file_model.specs.Groups.{Ks, Found, HasText, AreLinks, Under, index_blocks}
use Rattle.file_model.specs.Groups.{leaf_block, node_block, StandsAt}
use Rattle.file_model.specs.RefusedGroups.{RefusedUnder, names_of, HasNoText, IsEntryRefused, NoName, Disordered}
use Rattle.file_model.specs.RefusedGroups.{NoValue, AreEntriesRefused, IsLeafRefused, LeafBlock, NoLeaf, InEntries}
use Rattle.file_model.specs.RefusedGroups.{IsKeyRefused, NoKey, NotBetween, LinksDisordered, FitKeys}
use Rattle.file_model.specs.RefusedGroups.{AreChildrenRefused, IsNodeRefused, NodeBlock, NoNode, InChildren}
use Rattle.file_model.specs.RefusedGroups.{IsIndexRefused, heap_block, root_level, IsTableRefused, HeapBlock, NoHeap}
use Rattle.file_model.specs.RefusedGroups.{LargeHeap, SegmentBlock, InNodes}
use Rattle.file_model.specs.Limits.{most_segment}
use Rattle.file_model.proofs.UniqueGroups.{Same, text_same, links_same, stands_same}
use Rattle.file_model.proofs.NoFault.{room_after}
use Rattle.file_model.proofs.NoGroups.{ordered_back, names_both, link_behind, entry_not, key_not, index_not}
use Rattle.file_model.proofs.OneBlock.{block_one, placed_one, taken_not, placed_not}

-- ---- a symbol table node

pub entry_one : (segment : List ℕ) (heap node : ℕ) (done : List Found) (x : SnodEntry) (r q : Refusal)
    → IsEntryRefused segment heap node done x r → IsEntryRefused segment heap node done x q → r ≡ q
entry_one segment heap node done x r q h g = go h g
  where
    Entry : Refusal → Type 0
    Entry z = IsEntryRefused segment heap node done x z

    -- the entry has one name
    moved : (name other : Name) → HasText segment x.name_at name → HasText segment x.name_at other
        → AreOrdered (names_of done ++ name ∷ []) → AreOrdered (names_of done ++ other ∷ [])
    moved name other a c ordered =
        let same : name ≡ other = text_same segment x.name_at name other a c in
        subst (λ (n : Name). AreOrdered (names_of done ++ n ∷ [])) same ordered

    go : Entry r → Entry q → r ≡ q
    go (NoName none line) (NoName none' line') = line ∙ sym line'
    go (NoName none line) (Disordered name a wrong line') = absurd (none name a)
    go (NoName none line) (NoValue name a behind two none' line') = line ∙ sym line'
    go (Disordered name a wrong line) (NoName none line') = absurd (none name a)
    go (Disordered name a wrong line) (Disordered name' a' wrong' line') = line ∙ sym line'
    go (Disordered name a wrong line) (NoValue name' a' behind two none line') =
        absurd (wrong (moved name' name a' a behind))
    go (NoValue name a behind two none line) (NoName none' line') = line ∙ sym line'
    go (NoValue name a behind two none line) (Disordered name' a' wrong line') =
        absurd (wrong (moved name name' a a' behind))
    go (NoValue name a behind two none line) (NoValue name' a' behind' two' none' line') = line ∙ sym line'

-- a list that is split at an element after some others, and again
data AreSplit (xs : List SnodEntry) (x : SnodEntry) (ys : List SnodEntry) (y : SnodEntry) : Type 0 where
  Here : xs ≡ ys → x ≡ y → AreSplit xs x ys y
  Before : (more : List SnodEntry) → ys ≡ xs ++ x ∷ more → AreSplit xs x ys y
  After : (more : List SnodEntry) → xs ≡ ys ++ y ∷ more → AreSplit xs x ys y

split_of : (xs ys : List SnodEntry) (x y : SnodEntry) (us vs : List SnodEntry) → xs ++ x ∷ us ≡ ys ++ y ∷ vs
    → AreSplit xs x ys y
split_of [] [] x y us vs h = Here refl cc
split_of [] (b ∷ ys) x y us vs h = let first : b ≡ x = cc in Before ys (λ j. first j ∷ ys)
split_of (a ∷ xs) [] x y us vs h = let first : a ≡ y = cc in After xs (λ j. first j ∷ xs)
split_of (a ∷ xs) (b ∷ ys) x y us vs h = go (split_of xs ys x y us vs cc)
  where
    first : a ≡ b
    first = cc

    go : AreSplit xs x ys y → AreSplit (a ∷ xs) x (b ∷ ys) y
    go (Here same is) = Here (λ j. first j ∷ same j) is
    go (Before more is) = Before more (λ j. sym first j ∷ is j)
    go (After more is) = After more (λ j. first j ∷ is j)

-- what one says is refused, the other has read
entry_read : (segment : List ℕ) (heap node : ℕ) (before ys more : List SnodEntry) (x : SnodEntry)
    (done fs : List Found) (r : Refusal) → AreLinks segment before done → AreLinks segment ys fs
    → ys ≡ before ++ x ∷ more → AreOrdered (names_of fs) → IsEntryRefused segment heap node done x r → ⊥
entry_read segment heap node before ys more x done fs r first links is ordered refused =
    let links' = subst (λ (l : List SnodEntry). AreLinks segment l fs) is links in
    let behind = link_behind segment before more x done fs first links' in
    entry_not segment heap node done fs x r behind ordered refused

pub entries_one : (segment : List ℕ) (heap node : ℕ) (entries : List SnodEntry) (r q : Refusal)
    → AreEntriesRefused segment heap node entries r → AreEntriesRefused segment heap node entries q → r ≡ q
entries_one segment heap node entries r q h k =
    go (split_of h.before k.before h.entry k.entry h.later k.later (sym h.split ∙ k.split))
  where
    go : AreSplit h.before h.entry k.before k.entry → r ≡ q
    go (Here same is) =
        let done : h.done ≡ k.done = links_same segment h.before h.done k.done h.links
        (subst (λ (l : List SnodEntry). AreLinks segment l k.done) (sym same) k.links) in
        let k' = subst (λ (x : SnodEntry). IsEntryRefused segment heap node h.done x q) (sym is)
        (subst (λ (l : List Found). IsEntryRefused segment heap node l k.entry q) (sym done) k.refused) in
        entry_one segment heap node h.done h.entry r q h.refused k'
    go (Before more is) = absurd (entry_read segment heap node h.before k.before more h.entry h.done k.done r
        h.links k.links is k.ordered h.refused)
    go (After more is) = absurd (entry_read segment heap node k.before h.before more k.entry k.done h.done q
        k.links h.links is h.ordered k.refused)

pub leaf_one : (b : Array) (e : Bounds) (ks : Ks) (segment : List ℕ) (heap : ℕ) (met : List Block) (at : ℕ)
    (r q : Refusal) → IsLeafRefused b e ks segment heap met at r → IsLeafRefused b e ks segment heap met at q → r ≡ q
leaf_one b e ks segment heap met at r q h g = go h g
  where
    own : Block
    own = leaf_block ks at

    Leaf : Refusal → Type 0
    Leaf x = IsLeafRefused b e ks segment heap met at x

    go : Leaf r → Leaf q → r ≡ q
    go (LeafBlock x) (LeafBlock y) = block_one e met own kind.Snod r q x y
    go (LeafBlock x) (NoLeaf taken none line) = absurd (taken_not e met own [] kind.Snod r taken x)
    go (LeafBlock x) (InEntries entries taken spelled y) = absurd (taken_not e met own [] kind.Snod r taken x)
    go (NoLeaf taken none line) (LeafBlock y) = absurd (taken_not e met own [] kind.Snod q taken y)
    go (NoLeaf taken none line) (NoLeaf taken' none' line') = line ∙ sym line'
    go (NoLeaf taken none line) (InEntries entries taken' spelled y) = absurd (none entries spelled)
    go (InEntries entries taken spelled x) (LeafBlock y) = absurd (taken_not e met own [] kind.Snod q taken y)
    go (InEntries entries taken spelled x) (NoLeaf taken' none line) = absurd (none entries spelled)
    go (InEntries entries taken spelled x) (InEntries entries' taken' spelled' y) =
        let same : entries' ≡ entries = spelled'.value ∙ sym spelled.value in
        entries_one segment heap at entries r q x
        (subst (λ (l : List SnodEntry). AreEntriesRefused segment heap at l q) same y)

-- ---- nodes

pub key_one : (segment : List ℕ) (heap node k l : ℕ) (done here : List Found) (r q : Refusal)
    → IsKeyRefused segment heap node k l done here r → IsKeyRefused segment heap node k l done here q → r ≡ q
key_one segment heap node k l done here r q h g = go h g
  where
    Key : Refusal → Type 0
    Key x = IsKeyRefused segment heap node k l done here x

    -- where both texts stand there, neither is missing
    absent : (low high : Name) → HasText segment k low → HasText segment l high
        → HasNoText segment k ⊎ HasNoText segment l → ⊥
    absent low high a c (inl none) = none low a
    absent low high a c (inr none) = none high c

    go : Key r → Key q → r ≡ q
    go (NoKey none line) (NoKey none' line') = line ∙ sym line'
    go (NoKey none line) (NotBetween low high a c wrong line') = absurd (absent low high a c none)
    go (NoKey none line) (LinksDisordered low high a c between wrong line') = absurd (absent low high a c none)
    go (NotBetween low high a c wrong line) (NoKey none line') = absurd (absent low high a c none)
    go (NotBetween low high a c wrong line) (NotBetween low' high' a' c' wrong' line') = line ∙ sym line'
    go (NotBetween low high a c wrong line) (LinksDisordered low' high' a' c' between wrong' line') = line ∙ sym line'
    go (LinksDisordered low high a c between wrong line) (NoKey none line') = absurd (absent low high a c none)
    go (LinksDisordered low high a c between wrong line) (NotBetween low' high' a' c' wrong' line') = line ∙ sym line'
    go (LinksDisordered low high a c between wrong line) (LinksDisordered low' high' a' c' between' wrong' line') =
        line ∙ sym line'

-- an index that stands there, in the order of names, and whose blocks are taken, isn't refused
stands_not : (b : Array) (e : Bounds) (ks : Ks) (segment : List ℕ) (heap height at : ℕ) (met own : List Block)
    (fs : List Found) (r : Refusal) → StandsAt b ks segment height at fs own → AreOrdered (names_of fs)
    → AreTaken e met own → IsIndexRefused b e ks segment heap height met at r → ⊥
stands_not b e ks segment heap height at met own fs r h ordered taken refused =
    let all : own ≡ index_blocks ks h.index ++ [] = h.blocks ∙ sym (append-nil (index_blocks ks h.index)) in
    index_not b e ks segment heap height h.index met [] r h.stands
    (subst (λ (l : List Found). AreOrdered (names_of l)) h.links ordered) (subst (AreTaken e met) all taken)
    (subst (λ (a : ℕ). IsIndexRefused b e ks segment heap height met a r) (sym h.address) refused)

-- the links under a child that fits are in order
fit_order : (segment : List ℕ) (k l : ℕ) (done here : List Found) → FitKeys segment k l done here
    → AreOrdered (names_of here)
fit_order segment k l done here fit =
    ordered_back (names_of done) (names_of here) (subst AreOrdered (names_both done here) fit.ordered)

fit_not : (segment : List ℕ) (heap node k l : ℕ) (done here : List Found) (r : Refusal)
    → FitKeys segment k l done here → IsKeyRefused segment heap node k l done here r → ⊥
fit_not segment heap node k l done here r fit refused = key_not segment heap node k l fit.low fit.high done here r
    fit.at_low fit.at_high fit.between fit.ordered refused

module _ (b : Array) (e : Bounds) (ks : Ks) (segment : List ℕ) (heap level : ℕ) where
  abbrev pub Child : Under
  Child = StandsAt b ks segment level

  abbrev pub Refused : RefusedUnder
  Refused = IsIndexRefused b e ks segment heap level

  -- the index under a node is refused for one reason
  abbrev pub IsOne : Type 0
  IsOne = (met : List Block) (at : ℕ) (r q : Refusal) → Refused met at r → Refused met at q → r ≡ q

  abbrev pub Rest : ℕ → List ℕ → List ℕ → List Found → List Block → Refusal → Type 0
  Rest node keys children done met r = AreChildrenRefused e segment heap node Child Refused keys children done met r

  pub children_one : IsOne → (node : ℕ) (keys children : List ℕ) (done : List Found) (met : List Block) (r q : Refusal)
      → Rest node keys children done met r → Rest node keys children done met q → r ≡ q
  children_one one node keys [] done met r q h g = absurd h
  children_one one node [] (c ∷ cs) done met r q h g = absurd h
  children_one one node (k ∷ []) (c ∷ cs) done met r q h g = absurd h
  children_one one node (k ∷ l ∷ keys) (c ∷ cs) done met r q h g =
      go (λ fs bs. children_one one node (l ∷ keys) cs (done ++ fs) (met ++ bs) r q) h g
    where
      All : Refusal → Type 0
      All x = Rest node (k ∷ l ∷ keys) (c ∷ cs) done met x

      Key : List Found → Refusal → Type 0
      Key fs x = IsKeyRefused segment heap node k l done fs x

      Later : List Found → List Block → Refusal → Type 0
      Later fs bs x = Rest node (l ∷ keys) cs (done ++ fs) (met ++ bs) x

      own_not : (fs : List Found) (bs : List Block) (x : Refusal) → Child c fs bs → AreOrdered (names_of fs)
          → AreTaken e met bs → Refused met c x → ⊥
      own_not fs bs x child ordered taken refused =
          stands_not b e ks segment heap level c met bs fs x child ordered taken refused

      same : (fs gs : List Found) (bs ds : List Block) → Child c fs bs → Child c gs ds → Same fs gs bs ds
      same fs gs bs ds x y = stands_same b ks segment level c fs gs bs ds x y

      go : ((fs : List Found) (bs : List Block) → Later fs bs r → Later fs bs q → r ≡ q) → All r → All q → r ≡ q
      go next (inl x) (inl y) = one met c r q x y
      go next (inl x) (inr (gs, ds, child, taken, inl (ordered, y))) = absurd (own_not gs ds r child ordered taken x)
      go next (inl x) (inr (gs, ds, child, taken, inr (fit, y))) =
          absurd (own_not gs ds r child (fit_order segment k l done gs fit) taken x)
      go next (inr (fs, bs, child, taken, inl (ordered, x))) (inl y) = absurd (own_not fs bs q child ordered taken y)
      go next (inr (fs, bs, child, taken, inr (fit, x))) (inl y) =
          absurd (own_not fs bs q child (fit_order segment k l done fs fit) taken y)
      go next (inr (fs, bs, child, taken, inl (ordered, x))) (inr (gs, ds, child', taken', inl (ordered', y))) =
          let both = same fs gs bs ds child child' in
          key_one segment heap node k l done fs r q x (subst (λ (z : List Found). Key z q) (sym both.0) y)
      go next (inr (fs, bs, child, taken, inl (ordered, x))) (inr (gs, ds, child', taken', inr (fit, y))) =
          let both = same fs gs bs ds child child' in
          absurd (fit_not segment heap node k l done gs r fit (subst (λ (z : List Found). Key z r) both.0 x))
      go next (inr (fs, bs, child, taken, inr (fit, x))) (inr (gs, ds, child', taken', inl (ordered, y))) =
          let both = same fs gs bs ds child child' in
          absurd (fit_not segment heap node k l done fs q fit (subst (λ (z : List Found). Key z q) (sym both.0) y))
      go next (inr (fs, bs, child, taken, inr (fit, x))) (inr (gs, ds, child', taken', inr (fit', y))) =
          let both = same fs gs bs ds child child' in
          let y' = subst (λ (z : List Found). Later z bs q) (sym both.0)
          (subst (λ (z : List Block). Later gs z q) (sym both.1) y) in
          next fs bs x y'

  abbrev pub Node : List Block → ℕ → Refusal → Type 0
  Node met at r = IsNodeRefused b e ks segment heap level Child Refused met at r

  pub node_one : IsOne → (met : List Block) (at : ℕ) (r q : Refusal) → Node met at r → Node met at q → r ≡ q
  node_one one met at r q h g = go h g
    where
      own : Block
      own = node_block ks at

      Below : GroupNode → Refusal → Type 0
      Below n x = Rest at n.keys n.children [] (met ++ own ∷ []) x

      go : Node met at r → Node met at q → r ≡ q
      go (NodeBlock x) (NodeBlock y) = block_one e met own kind.Tree r q x y
      go (NodeBlock x) (NoNode taken none line) = absurd (taken_not e met own [] kind.Tree r taken x)
      go (NodeBlock x) (InChildren n taken spelled is y) = absurd (taken_not e met own [] kind.Tree r taken x)
      go (NoNode taken none line) (NodeBlock y) = absurd (taken_not e met own [] kind.Tree q taken y)
      go (NoNode taken none line) (NoNode taken' none' line') = line ∙ sym line'
      go (NoNode taken none line) (InChildren n taken' spelled is y) = absurd (none n spelled is)
      go (InChildren n taken spelled is x) (NodeBlock y) = absurd (taken_not e met own [] kind.Tree q taken y)
      go (InChildren n taken spelled is x) (NoNode taken' none line) = absurd (none n spelled is)
      go (InChildren n taken spelled is x) (InChildren m taken' spelled' is' y) =
          let same : m ≡ n = spelled'.value ∙ sym spelled.value in
          children_one one at n.keys n.children [] (met ++ own ∷ []) r q x
          (subst (λ (z : GroupNode). Below z q) same y)

pub index_one : (b : Array) (e : Bounds) (ks : Ks) (segment : List ℕ) (heap height : ℕ) (met : List Block) (at : ℕ)
    (r q : Refusal) → IsIndexRefused b e ks segment heap height met at r
    → IsIndexRefused b e ks segment heap height met at q → r ≡ q
index_one b e ks segment heap zero met at r q h g = leaf_one b e ks segment heap met at r q h g
index_one b e ks segment heap (suc level) met at r q h g =
    node_one b e ks segment heap level (index_one b e ks segment heap level) met at r q h g

-- ---- heap and B-tree

pub table_one : (b : Array) (e : Bounds) (ks : Ks) (met : List Block) (tree heap : ℕ) (r q : Refusal)
    → IsTableRefused b e ks met tree heap r → IsTableRefused b e ks met tree heap q → r ≡ q
table_one b e ks met tree heap r q h g = go h g
  where
    own : Block
    own = heap_block heap

    Table : Refusal → Type 0
    Table x = IsTableRefused b e ks met tree heap x

    Segment : HeapHead → Refusal → Type 0
    Segment y x = IsPlacedRefused e (met ++ own ∷ []) y.segment_at y.len kind.Heap x

    Nodes : HeapHead → Refusal → Type 0
    Nodes y x = IsIndexRefused b e ks (bytes_of b y.segment_at y.len) heap (suc (root_level b ks tree))
        (met ++ own ∷ placed y.segment_at y.len) tree x

    same : (x y : HeapHead) → SpellsHeap x (bytes_of b heap 32) → SpellsHeap y (bytes_of b heap 32) → x ≡ y
    same x y s t = s.value ∙ sym t.value

    large_not : (x y : HeapHead) → SpellsHeap x (bytes_of b heap 32) → SpellsHeap y (bytes_of b heap 32)
        → most_segment < x.len → y.len ≤ most_segment → ⊥
    large_not x y s t large few =
        let len : x.len ≡ y.len = ap (λ (z : HeapHead). z.len) (same x y s t) in
        omega (arith, len, large, few)

    -- a segment that is taken behind the head isn't refused
    segment_not : (x y : HeapHead) (z : Refusal) → SpellsHeap x (bytes_of b heap 32)
        → SpellsHeap y (bytes_of b heap 32) → Segment x z → AreTaken e met (own ∷ placed y.segment_at y.len) → ⊥
    segment_not x y z s t refused taken =
        let room = room_after e met (own ∷ []) (placed y.segment_at y.len) taken in
        let room' = subst (AreTaken e (met ++ own ∷ [])) (sym (append-nil (placed y.segment_at y.len))) room in
        placed_not e (met ++ own ∷ []) y.segment_at y.len [] kind.Heap z room'
        (subst (λ (a : HeapHead). Segment a z) (same x y s t) refused)

    go : Table r → Table q → r ≡ q
    go (HeapBlock x) (HeapBlock y) = block_one e met own kind.Heap r q x y
    go (HeapBlock x) (NoHeap taken none line) = absurd (taken_not e met own [] kind.Heap r taken x)
    go (HeapBlock x) (LargeHeap k taken s large line) = absurd (taken_not e met own [] kind.Heap r taken x)
    go (HeapBlock x) (SegmentBlock k taken s few y) = absurd (taken_not e met own [] kind.Heap r taken x)
    go (HeapBlock x) (InNodes k taken s few y) =
        absurd (taken_not e met own (placed k.segment_at k.len) kind.Heap r taken x)
    go (NoHeap taken none line) (HeapBlock y) = absurd (taken_not e met own [] kind.Heap q taken y)
    go (NoHeap taken none line) (NoHeap taken' none' line') = line ∙ sym line'
    go (NoHeap taken none line) (LargeHeap k taken' s large line') = absurd (none k s)
    go (NoHeap taken none line) (SegmentBlock k taken' s few y) = absurd (none k s)
    go (NoHeap taken none line) (InNodes k taken' s few y) = absurd (none k s)
    go (LargeHeap k taken s large line) (HeapBlock y) = absurd (taken_not e met own [] kind.Heap q taken y)
    go (LargeHeap k taken s large line) (NoHeap taken' none line') = absurd (none k s)
    go (LargeHeap k taken s large line) (LargeHeap k' taken' s' large' line') = line ∙ sym line'
    go (LargeHeap k taken s large line) (SegmentBlock k' taken' s' few y) = absurd (large_not k k' s s' large few)
    go (LargeHeap k taken s large line) (InNodes k' taken' s' few y) = absurd (large_not k k' s s' large few)
    go (SegmentBlock k taken s few x) (HeapBlock y) = absurd (taken_not e met own [] kind.Heap q taken y)
    go (SegmentBlock k taken s few x) (NoHeap taken' none line) = absurd (none k s)
    go (SegmentBlock k taken s few x) (LargeHeap k' taken' s' large line) = absurd (large_not k' k s' s large few)
    go (SegmentBlock k taken s few x) (SegmentBlock k' taken' s' few' y) =
        placed_one e (met ++ own ∷ []) k.segment_at k.len kind.Heap r q x
        (subst (λ (a : HeapHead). Segment a q) (same k' k s' s) y)
    go (SegmentBlock k taken s few x) (InNodes k' taken' s' few' y) = absurd (segment_not k k' r s s' x taken')
    go (InNodes k taken s few x) (HeapBlock y) =
        absurd (taken_not e met own (placed k.segment_at k.len) kind.Heap q taken y)
    go (InNodes k taken s few x) (NoHeap taken' none line) = absurd (none k s)
    go (InNodes k taken s few x) (LargeHeap k' taken' s' large line) = absurd (large_not k' k s' s large few)
    go (InNodes k taken s few x) (SegmentBlock k' taken' s' few' y) = absurd (segment_not k' k q s' s y taken)
    go (InNodes k taken s few x) (InNodes k' taken' s' few' y) =
        index_one b e ks (bytes_of b k.segment_at k.len) heap (suc (root_level b ks tree))
        (met ++ own ∷ placed k.segment_at k.len) tree r q x (subst (λ (a : HeapHead). Nodes a q) (same k' k s' s) y)
