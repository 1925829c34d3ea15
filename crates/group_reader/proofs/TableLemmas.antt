-- A whole table: the heap, and the B-tree after it.
use Rattle.std.proofs.Common.{◌≡◌, ◌≤◌, ◌<◌, ℕ, suc, Bool, IsTrue, List, [], ◌∷◌, ◌++◌, Option, IfSome, refl, sym, ◌∙◌}
use Rattle.std.proofs.Common.{ap, subst}
use Rattle.std.proofs.lemmas.List.{append_assoc}
use Rattle.outside.specs.Array.{bytes_of}
use Rattle.outside.specs.Blocks.{Block, IsPlacedRefused, AreTaken, placed}
use Rattle.outside.specs.Space.{SpaceView, bounds_of}
use Rattle.h5_base.specs.declared.kinds.BlockKind.TheVariants as kind
use Rattle.h5_base.specs.declared.kinds.What.TheVariants as what
use Rattle.h5_base.specs.declared.refusal.Refusal.TheVariants.{Malformed, Unsupported}
use Rattle.h5_base.specs.declared.refusal.Stop.{Stop}
use Rattle.h5_base.specs.declared.refusal.Stop.TheVariants.{Refused}
use Rattle.h5_base.specs.Refusals.{refusal_of}
use Rattle.node_codec.specs.Heap.{SpellsHeap}
use Rattle.node_codec.specs.declared.heap.HeapHead.{HeapHead}
use Rattle.block_space.specs.Blocks.{Keeps, Takes, Refuses}
use Rattle.block_space.specs.declared.blocks.Blocks.{Blocks}
use Rattle.block_space.proofs.Stopped.{if_some}
use Rattle.file_model.specs.Groups.{Ks, Found, StandsAt, HasLinks}
use Rattle.file_model.specs.RefusedGroups.{root_level, IsIndexRefused, IsTableRefused, NoHeap, LargeHeap, SegmentBlock}
use Rattle.file_model.specs.RefusedGroups.{InNodes, heap_block}
use Rattle.file_model.specs.Limits.{most_segment}
use Rattle.group_reader.specs.declared.link.FoundLink.{FoundLink}
use Rattle.group_reader.specs.declared.gathered.Gathered.{Gathered}
use Rattle.group_reader.specs.Links.{links_of, Adds}
use Rattle.group_reader.specs.Reading.{TakesJust}
use Rattle.block_space.proofs.Taken.{taken}
use Rattle.group_reader.proofs.Told.{tells}

module _ {V : Type 0} (view : V → SpaceView) (old mid : Blocks V) (ks : Ks) (tree heap : ℕ)
    (same : view mid.space ≡ view old.space) (took : TakesJust view old mid (heap_block heap ∷ [])) where
  abbrev Tells : Stop → Type 0
  Tells = Refuses view old (λ e met. IsTableRefused (view old.space).array e ks met tree heap)

  -- the block of the heap's header was taken
  head_taken : (met : List Block) (own : Option (List ℕ)) → Keeps view old met
      → AreTaken (bounds_of (view old.space) own) met (heap_block heap ∷ [])
  head_taken met own keeps = taken view old mid met (heap_block heap ∷ []) own (sym same) (took met keeps)

  pub no_heap : (stop : Stop) (bytes : List ℕ) → bytes ≡ bytes_of (view old.space).array heap 32
      → ((h : HeapHead) → SpellsHeap h bytes → ⊥) → stop ≡ Refused (Malformed heap kind.Heap) → Tells stop
  no_heap stop bytes read none line = λ met own keeps.
      tells stop (Malformed heap kind.Heap) (IsTableRefused (view old.space).array (bounds_of (view old.space) own) ks
      met tree heap) line
      (NoHeap (head_taken met own keeps) (λ h x. none h (subst (SpellsHeap h) (sym read) x)) refl)

  module _ (head : HeapHead) (stop : Stop) (spelled : SpellsHeap head (bytes_of (view old.space).array heap 32)) where
    pub large_heap : most_segment < head.len → stop ≡ Refused (Unsupported what.Heap) → Tells stop
    large_heap large line = λ met own keeps.
        tells stop (Unsupported what.Heap) (IsTableRefused (view old.space).array (bounds_of (view old.space) own) ks
        met tree heap) line (LargeHeap head (head_taken met own keeps) spelled large refl)

    pub segment_refused : head.len ≤ most_segment → Refuses view mid
        (λ e met. IsPlacedRefused e met head.segment_at head.len kind.Heap) stop → Tells stop
    segment_refused few refused = λ met own keeps.
        let e = bounds_of (view old.space) own in
        let m = met ++ heap_block heap ∷ [] in
        let here = subst (λ (v : SpaceView). IfSome (refusal_of stop)
        (IsPlacedRefused (bounds_of v own) m head.segment_at head.len kind.Heap)) same
        (refused m own (took met keeps)) in
        if_some (refusal_of stop) (IsPlacedRefused e m head.segment_at head.len kind.Heap)
        (IsTableRefused (view old.space).array e ks met tree heap)
        (λ r x. SegmentBlock head (head_taken met own keeps) spelled few x) here

-- The heap was read: its header, its segment, and the blocks of both.
pub record HeapRead {V : Type 0} (view : V → SpaceView) (old mid new : Blocks V) (heap : ℕ) (head : HeapHead)
    (segment : List ℕ) : Type 0 where
  pub spelled : SpellsHeap head (bytes_of (view old.space).array heap 32)
  pub few : head.len ≤ most_segment
  pub first : view old.space ≡ view mid.space
  pub second : view mid.space ≡ view new.space
  pub bytes : segment ≡ bytes_of (view mid.space).array head.segment_at head.len
  pub head_taken : TakesJust view old mid (heap_block heap ∷ [])
  pub segment_taken : TakesJust view mid new (placed head.segment_at head.len)

pub heap_read : {V : Type 0} (view : V → SpaceView) (old mid new : Blocks V) (heap : ℕ) (head : HeapHead)
    (segment items : List ℕ) → SpellsHeap head (bytes_of (view old.space).array heap 32) → head.len ≤ most_segment
    → view old.space ≡ view mid.space → view mid.space ≡ view new.space → segment ≡ items
    → items ≡ bytes_of (view mid.space).array head.segment_at head.len
    → TakesJust view old mid (heap_block heap ∷ []) → TakesJust view mid new (placed head.segment_at head.len)
    → HeapRead view old mid new heap head segment
heap_read view old mid new heap head segment items spelled few first second value bytes head_taken segment_taken =
    record {
      spelled = spelled;
      few = few;
      first = first;
      second = second;
      bytes = value ∙ bytes;
      head_taken =
          head_taken;
      segment_taken = segment_taken;
    }

module _ {V : Type 0} (view : V → SpaceView) (old mid new : Blocks V) (ks : Ks) (tree heap : ℕ) (head : HeapHead)
    (segment : List ℕ) (h : HeapRead view old mid new heap head segment) where
  abbrev own_blocks : List Block
  own_blocks = heap_block heap ∷ placed head.segment_at head.len

  segment_is : segment ≡ bytes_of (view old.space).array head.segment_at head.len
  segment_is = h.bytes ∙ ap (λ (v : SpaceView). bytes_of v.array head.segment_at head.len) (sym h.first)

  same : view new.space ≡ view old.space
  same = sym (h.first ∙ h.second)

  both_taken : (met : List Block) → Keeps view old met → Keeps view new (met ++ own_blocks)
  both_taken met keeps =
      subst (λ (l : List Block). Keeps view new l) (append_assoc met (heap_block heap ∷ [])
      (placed head.segment_at head.len)) (h.segment_taken (met ++ heap_block heap ∷ []) (h.head_taken met keeps))

  pub table_found : (tells : Bool) (end : Blocks V) (before now : Gathered) → IsTrue tells → before.links.items ≡ []
      → Adds before now (λ fs. Takes view new end (λ bs. IsTrue tells
      → StandsAt (view new.space).array ks segment (suc (root_level (view new.space).array ks tree)) tree fs bs))
      → Takes view old end (HasLinks (view old.space).array ks tree heap (links_of now.links.items))
  table_found tells end before now told none a = λ met keeps.
      let b = (view old.space).array in
      let x = a.part (met ++ own_blocks) (both_taken met keeps) in
      let all : a.added ≡ links_of now.links.items = sym (a.behind ∙ ap (λ (l : List FoundLink). links_of l ++ a.added)
      none) in
      let there = subst (λ (v : SpaceView). StandsAt v.array ks segment (suc (root_level v.array ks tree)) tree a.added
      x.0) same (x.1 told) in
      let index = subst (λ (l : List ℕ). StandsAt b ks l (suc (root_level b ks tree)) tree a.added x.0) segment_is there
      in
      let links = subst (λ (fs : List Found). HasLinks b ks tree heap fs (own_blocks ++ x.0)) all (record {
        head = head;
        spelled = h.spelled;
        level = root_level b ks tree;
        index = index.index;
        root = index.address;
        stands = index.stands;
        links = index.links;
        ordered = a.ordered;
        blocks = ap (λ (l : List Block). own_blocks ++ l) index.blocks;
      }) in (
        own_blocks ++ x.0,
        links,
        subst (λ (l : List Block). Keeps view end l) (append_assoc met own_blocks x.0) x.2,
      )

  pub table_refused : (stop : Stop) → Refuses view new (λ e met. IsIndexRefused (view new.space).array e ks segment heap
      (suc (root_level (view new.space).array ks tree)) met tree) stop
      → Refuses view old (λ e met. IsTableRefused (view old.space).array e ks met tree heap) stop
  table_refused stop refused = λ met own keeps.
      let b = (view old.space).array in
      let e = bounds_of (view old.space) own in
      let m = met ++ own_blocks in
      let level = suc (root_level b ks tree) in
      let one = subst (λ (v : SpaceView). IfSome (refusal_of stop)
      (IsIndexRefused v.array (bounds_of v own) ks segment heap (suc (root_level v.array ks tree)) m tree)) same
      (refused m own (both_taken met keeps)) in
      let two = subst (λ (l : List ℕ). IfSome (refusal_of stop) (IsIndexRefused b e ks l heap level m tree)) segment_is
      one in
      if_some (refusal_of stop) (IsIndexRefused b e ks (bytes_of b head.segment_at head.len) heap level m tree)
      (IsTableRefused b e ks met tree heap)
      (λ r x. InNodes head (taken view old new met own_blocks own (sym same) (both_taken met keeps)) h.spelled h.few x) two
