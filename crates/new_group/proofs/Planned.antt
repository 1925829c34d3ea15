-- The plan of a new group: what it takes, where, and what an array holds once it is done.
use Rattle.std.proofs.Common.{◌≡◌, ℕ, ◌+◌, ◌-◌, ◌^◌, ◌<◌, ◌≤◌, min, List, [], ◌∷◌, ◌++◌, length, refl, sym}
use Rattle.std.proofs.Common.{◌∙◌, ap, subst, arith, length-append}
use Rattle.std.specs.List.{All, Contains}
use Rattle.std.proofs.lemmas.List.{length-map, nil_from_length}
use Rattle.std.proofs.lemmas.List.Elements.{All-nil, All-cons}
use Rattle.std.proofs.lemmas.List.Sorted.{length_permutation}
use Rattle.h5_base.specs.declared.extent.MemClass.{MemClass}
use Rattle.h5_base.specs.declared.extent.MemClass.TheVariants.{Super, Tree, Raw, GlobalHeap, LocalHeap, Header}
use Rattle.h5_base.specs.declared.kinds.BlockKind.TheVariants as kind
use Rattle.header_codec.specs.declared.types.NewHeader.TheVariants as new
use Rattle.header_codec.specs.Written.{header_bytes}
use Rattle.node_codec.specs.GroupNodes.{group_node_bytes, group_node_len}
use Rattle.node_codec.specs.Heap.{heap_bytes}
use Rattle.empty_file.specs.Empty.{heap_segment}
use Rattle.outside.specs.Array.{Array, Ends, bytes_of}
use Rattle.outside.specs.Blocks.{Block, AllApart}
use Rattle.outside.specs.Space.{SpaceView, AreRegions}
use Rattle.block_space.specs.Catalogue.{block_of}
use Rattle.block_space.specs.Plans.{ends_after, needed, sum_of, taken_blocks}
use Rattle.block_space.specs.declared.plan.EditPlan.{EditPlan}
use Rattle.block_space.specs.declared.plan.Needs.{Needs}
use Rattle.block_space.specs.declared.plan.Take.{Take}
use Rattle.file_model.specs.Groups.{Ks}
use Rattle.plan_pieces.specs.declared.image.Image.{Image}
use Rattle.plan_pieces.specs.declared.image.NewBlock.{NewBlock}
use Rattle.plan_pieces.specs.Images.{HaveImages, image_blocks, images_of}
use Rattle.plan_pieces.specs.Plan.{IsPlanOf, IsWhole, NeedsBelow, TakesThere, bytes_in}
use Rattle.plan_pieces.proofs.Planned.{plan_fits, plan_has}
use Rattle.group_room.specs.Room.{group_takes, node_take}
use Rattle.group_rows.specs.declared.group.GroupAt.{GroupAt}
use Rattle.group_facts.specs.Places.{ends_ahead, planned_ahead, taken_ahead}
use Rattle.group_facts.proofs.PlaceLemmas.{one_ahead, taken_behind}
use Rattle.new_group.specs.Group.{HoldsEmpty, empty_head, group_blocks, group_images}
use Rattle.new_group.specs.Group.{header_fill, heap_fill, root_node, segment_fill, tree_fill}
use Rattle.new_group.specs.Placed.{ArePlaces, group_fills}
use Rattle.new_group.specs.Planned.{IsAheadThen, IsNewGroup, LieBelow}
use Rattle.new_group.specs.declared.places.Places.{Places}
use Rattle.new_group.proofs.Bytes.{head_len, header_len, node_len, segment_len}
use Rattle.new_group.proofs.Held.{AreU64, Stand, holds_empty}

-- ---- the blocks with their bytes

module _ (k : ℕ) (at : Places) where
  header : NewBlock
  header = header_fill at.header_at at.tree_at at.heap_at

  tree : NewBlock
  tree = tree_fill k at.tree_at

  heap : NewBlock
  heap = heap_fill at.heap_at at.segment_at

  segment : NewBlock
  segment = segment_fill at.segment_at

  whole_header : IsWhole header
  unfolding header
  whole_header = record {
    some = omega (arith, header_len at.tree_at at.heap_at);
    eights = omega (arith, header_len at.tree_at at.heap_at);
  }

  whole_tree : IsWhole tree
  unfolding tree
  whole_tree = record { some = omega (arith, node_len k); eights = omega (arith, node_len k) }

  whole_heap : IsWhole heap
  unfolding heap
  whole_heap = record {
    some = omega (arith, head_len at.segment_at);
    eights = omega (arith, head_len at.segment_at);
  }

  whole_segment : IsWhole segment
  unfolding segment
  whole_segment = record { some = omega (arith, segment_len); eights = omega (arith, segment_len) }

  pub wholes : All IsWhole (group_fills k at)
  unfolding header tree heap segment
  wholes = All-cons IsWhole header (tree ∷ heap ∷ segment ∷ []) whole_header
      (All-cons IsWhole tree (heap ∷ segment ∷ []) whole_tree
      (All-cons IsWhole heap (segment ∷ []) whole_heap
      (All-cons IsWhole segment [] whole_segment (All-nil IsWhole))))

  pub needs_below : k ≤ 1024 → NeedsBelow (group_fills k at)
  needs_below small =
      omega (arith, small, header_len at.tree_at at.heap_at, node_len k, head_len at.segment_at, segment_len)

-- where the group stands
abbrev pub group_of : Ks → Places → GroupAt
group_of ks at = record { header_at = at.header_at; tree_at = at.tree_at; heap_at = at.heap_at; ks = ks }

-- an address that is told is the true one, where that is a number of 64 bits
told_true : (at end len : ℕ) → at ≡ min end (2 ^ 64 - 1) → end + len < 2 ^ 64 → at ≡ end
told_true at end len is below = omega (arith, is, below)

told_low : (at end : ℕ) → at ≡ min end (2 ^ 64 - 1) → at < 2 ^ 64
told_low at end is = omega (arith, is)

module _ (v : SpaceView) (ks : Ks) (ahead behind : Needs) (at : Places) (small : ks.internal ≤ 1024)
    (p : ArePlaces v ks ahead at behind) (sound : AreRegions v.regions v.ends) (plan : EditPlan)
    (is : IsPlanOf [] [] (group_fills ks.internal at) plan) where
  header_take : Take
  header_take = record { class = Header; len = 40; kind = kind.Header }

  heap_take : Take
  heap_take = record { class = LocalHeap; len = 32; kind = kind.Heap }

  segment_take : Take
  segment_take = record { class = LocalHeap; len = 88; kind = kind.Heap }

  takes_are : plan.takes ≡ group_takes ks
  takes_are = is.takes ∙ (λ i.
      record { class = Header; len = header_len at.tree_at at.heap_at i; kind = kind.Header }
      ∷ record { class = Tree; len = node_len ks.internal i; kind = kind.Tree }
      ∷ record { class = LocalHeap; len = head_len at.segment_at i; kind = kind.Heap }
      ∷ record { class = LocalHeap; len = segment_len i; kind = kind.Heap } ∷ [])

  blocks_are : image_blocks (images_of (group_fills ks.internal at)) ≡ group_blocks (group_of ks at) at.segment_at
  blocks_are = λ i.
      record { start = at.header_at; len = header_len at.tree_at at.heap_at i }
      ∷ record { start = at.tree_at; len = node_len ks.internal i }
      ∷ record { start = at.heap_at; len = head_len at.segment_at i }
      ∷ record { start = at.segment_at; len = segment_len i } ∷ []

  -- ---- nothing else is written

  none_changed : is.images ≡ []
  none_changed = nil_from_length is.images (omega (
    arith,
    length_permutation [] (is.images ++ is.changed.same) is.changed.all,
    length-append is.images is.changed.same,
  ))

  none_written : plan.writes ≡ []
  none_written = nil_from_length plan.writes (omega (
    arith,
    length-map plan.writes block_of,
    ap (λ (bs : List Block). length bs) is.ranges,
    ap (λ (images : List Image). length (image_blocks images)) none_changed,
  ))

  images_are : plan.images ≡ group_images (group_of ks at) at.segment_at
  images_are = is.bytes ∙ ap (λ (images : List Image). bytes_in images
      ++ bytes_in (images_of (group_fills ks.internal at))) none_changed

  -- ---- where the blocks lie

  header_block : Block
  header_block = record { start = ends_ahead v ahead Header; len = 40 }

  tree_block : Block
  tree_block = record { start = ends_ahead v p.one Tree; len = group_node_len ks.internal }

  heap_block : Block
  heap_block = record { start = ends_ahead v p.two LocalHeap; len = 32 }

  segment_block : Block
  segment_block = record { start = ends_ahead v p.three LocalHeap; len = 88 }

  there : List Block
  there = header_block ∷ tree_block ∷ heap_block ∷ segment_block ∷ []

  taken_there : taken_ahead v ahead plan ≡ there
  unfolding there header_block tree_block heap_block segment_block header_take heap_take segment_take
  taken_there = ap (λ (ts : List Take). taken_blocks v.regions (ends_ahead v ahead) ts) takes_are
      ∙ taken_behind v ahead p.one header_take (node_take ks ∷ heap_take ∷ segment_take ∷ []) sound p.header.counted
      ∙ ap (λ (bs : List Block). header_block ∷ bs)
      (taken_behind v p.one p.two (node_take ks) (heap_take ∷ segment_take ∷ []) sound p.tree.counted)
      ∙ ap (λ (bs : List Block). header_block ∷ tree_block ∷ bs)
      (taken_behind v p.two p.three heap_take (segment_take ∷ []) sound p.heap.counted)
      ∙ ap (λ (bs : List Block). header_block ∷ tree_block ∷ heap_block ∷ bs)
      (taken_behind v p.three behind segment_take [] sound p.segment.counted)

  ends_are : ends_after v.regions (ends_ahead v ahead) (group_takes ks) ≡ ends_ahead v behind
  unfolding heap_take segment_take
  ends_are = ap (λ (ends : Ends). ends_after v.regions ends (node_take ks ∷ heap_take ∷ segment_take ∷ []))
      (one_ahead v ahead p.one Header 40 sound p.header.counted)
      ∙ ap (λ (ends : Ends). ends_after v.regions ends (heap_take ∷ segment_take ∷ []))
      (one_ahead v p.one p.two Tree (group_node_len ks.internal) sound p.tree.counted)
      ∙ ap (λ (ends : Ends). ends_after v.regions ends (segment_take ∷ []))
      (one_ahead v p.two p.three LocalHeap 32 sound p.heap.counted)
      ∙ one_ahead v p.three behind LocalHeap 88 sound p.segment.counted

  bytes_then : (c : MemClass) → needed behind c ≡ needed ahead c + sum_of c (group_takes ks)
  bytes_then Super = omega (
    arith,
    p.header.counted.others Super (omega arith),
    p.tree.counted.others Super (omega arith),
    p.heap.counted.others Super (omega arith),
    p.segment.counted.others Super (omega arith),
  )
  bytes_then Tree = omega (
    arith,
    p.header.counted.others Tree (omega arith),
    p.tree.counted.own,
    p.heap.counted.others Tree (omega arith),
    p.segment.counted.others Tree (omega arith),
  )
  bytes_then Raw = omega (
    arith,
    p.header.counted.others Raw (omega arith),
    p.tree.counted.others Raw (omega arith),
    p.heap.counted.others Raw (omega arith),
    p.segment.counted.others Raw (omega arith),
  )
  bytes_then GlobalHeap = omega (
    arith,
    p.header.counted.others GlobalHeap (omega arith),
    p.tree.counted.others GlobalHeap (omega arith),
    p.heap.counted.others GlobalHeap (omega arith),
    p.segment.counted.others GlobalHeap (omega arith),
  )
  bytes_then LocalHeap = omega (
    arith,
    p.header.counted.others LocalHeap (omega arith),
    p.tree.counted.others LocalHeap (omega arith),
    p.heap.counted.own,
    p.segment.counted.own,
  )
  bytes_then Header = omega (
    arith,
    p.header.counted.own,
    p.tree.counted.others Header (omega arith),
    p.heap.counted.others Header (omega arith),
    p.segment.counted.others Header (omega arith),
  )

  ahead_then : IsAheadThen v ahead plan behind
  ahead_then = record {
    bytes = λ c. bytes_then c
        ∙ ap (λ (n : ℕ). needed ahead c + n) (sym (is.needs c ∙ ap (λ (ts : List Take). sum_of c ts) takes_are));
    blocks = omega (
      arith,
      p.header.counted.blocks,
      p.tree.counted.blocks,
      p.heap.counted.blocks,
      p.segment.counted.blocks,
      is.count,
      ap (λ (ts : List Take). length ts) takes_are,
    );
    ends = sym (ap (λ (ts : List Take). ends_after v.regions (ends_ahead v ahead) ts) takes_are ∙ ends_are);
  }

  module _ (below : LieBelow v ahead plan) where
    each_below : (x : Block) → Contains there x → x.start + x.len < 2 ^ 64
    each_below = subst (λ (bs : List Block). (x : Block) → Contains bs x → x.start + x.len < 2 ^ 64) taken_there below

    at_there : there ≡ group_blocks (group_of ks at) at.segment_at
    unfolding there header_block tree_block heap_block segment_block
    at_there =
        let header = told_true at.header_at (ends_ahead v ahead Header) 40 p.header.at_is
        (each_below header_block (0, omega arith, refl)) in
        let tree = told_true at.tree_at (ends_ahead v p.one Tree) (group_node_len ks.internal) p.tree.at_is
        (each_below tree_block (1, omega arith, refl)) in
        let heap = told_true at.heap_at (ends_ahead v p.two LocalHeap) 32 p.heap.at_is
        (each_below heap_block (2, omega arith, refl)) in
        let segment = told_true at.segment_at (ends_ahead v p.three LocalHeap) 88 p.segment.at_is
        (each_below segment_block (3, omega arith, refl)) in
        λ i. record { start = sym header i; len = 40 }
        ∷ record { start = sym tree i; len = group_node_len ks.internal }
        ∷ record { start = sym heap i; len = 32 } ∷ record { start = sym segment i; len = 88 } ∷ []

    lie : taken_ahead v ahead plan ≡ group_blocks (group_of ks at) at.segment_at
    lie = taken_there ∙ at_there

    takes_there : TakesThere v.regions (ends_ahead v ahead) plan (group_fills ks.internal at)
    takes_there = lie ∙ sym blocks_are

    holds : (c : Array) → AllApart (taken_ahead v ahead plan)
        → HoldsEmpty (planned_ahead v ahead plan c) (group_of ks at) (taken_ahead v ahead plan)
    holds c apart =
        let d : Array = planned_ahead v ahead plan c in
        let have : HaveImages d (images_of (group_fills ks.internal at)) =
        plan_has v.regions (ends_ahead v ahead) c c [] [] (group_fills ks.internal at) plan is tt tt
        (wholes ks.internal at) takes_there (subst AllApart takes_there apart) in
        let stand : Stand d (group_of ks at) at.segment_at = record {
          header = subst (λ (n : ℕ). bytes_of d at.header_at n ≡ header_bytes (new.Group at.tree_at at.heap_at))
              (header_len at.tree_at at.heap_at) have.0;
          node = subst (λ (n : ℕ). bytes_of d at.tree_at n ≡ group_node_bytes ks.internal root_node)
              (node_len ks.internal) have.1.0;
          head = subst (λ (n : ℕ). bytes_of d at.heap_at n ≡ heap_bytes (empty_head at.segment_at))
              (head_len at.segment_at) have.1.1.0;
          segment = subst (λ (n : ℕ). bytes_of d at.segment_at n ≡ heap_segment) segment_len have.1.1.1.0;
        } in
        let low : AreU64 (group_of ks at) at.segment_at = record {
          tree = told_low at.tree_at (ends_ahead v p.one Tree) p.tree.at_is;
          heap = told_low at.heap_at (ends_ahead v p.two LocalHeap) p.heap.at_is;
          segment = told_low at.segment_at (ends_ahead v p.three LocalHeap) p.segment.at_is;
        } in
        subst (HoldsEmpty d (group_of ks at)) (sym lie) (holds_empty d (group_of ks at) at.segment_at small stand low)

  pub is_new_group : IsNewGroup v ks ahead (record { plan = plan; at = group_of ks at; ahead = behind })
  is_new_group = record {
    segment_at = at.segment_at;
    ks_are = refl;
    takes = takes_are;
    writes = none_written;
    images = images_are;
    fits = λ met. plan_fits met [] [] (group_fills ks.internal at) plan is (wholes ks.internal at)
        (λ x has. absurd (omega (arith, has.1)));
    lie = lie;
    holds = λ c below apart. holds below c apart;
    behind = ahead_then;
    sum = omega (arith, p.header.sum, p.tree.sum, p.heap.sum, p.segment.sum);
    count = omega (
      arith,
      p.header.counted.blocks,
      p.tree.counted.blocks,
      p.heap.counted.blocks,
      p.segment.counted.blocks,
    );
  }
