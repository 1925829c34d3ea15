-- Links with all below them stay where the bytes of their blocks do.
use Rattle.std.proofs.Common.{◌≡◌, ◌≤◌, ℕ, List, refl, subst, sym, ◌∙◌}
use Rattle.object_model.specs.Tree.{Empty, Group, Link}
use Rattle.outside.specs.Array.{Array, bytes_of}
use Rattle.outside.specs.Blocks.{Agree}
use Rattle.node_codec.specs.Heap.{SpellsHeap}
use Rattle.node_codec.specs.declared.heap.HeapHead.{HeapHead}
use Rattle.file_model.specs.Groups.{Ks}
use Rattle.header_codec.specs.declared.types.Prefix.{Prefix}
use Rattle.file_model.specs.Headers.{IsHeader, Part, header_blocks}
use Rattle.file_model.specs.Holds.{AreHeld, FullLinks, GroupAt, IsGroup, blocks_in, blocks_of, founds}
use Rattle.file_model.specs.Limits.{AllFit, Fits, IsShort, IsSmallHeap, header_bytes, most_header, most_segment}
use Rattle.file_model.proofs.FrameBytes.{agree_left, agree_right}
use Rattle.file_model.proofs.FrameLemmas.{frame}
use Rattle.file_model.proofs.UniqueTree.{readings}
use Rattle.tree_places.proofs.Fits.{fits_frame, short_stays}

pub links_held : (b c : Array) (ks : Ks) (ls : FullLinks) → Agree b c (blocks_in ls) → AreHeld b ks ls → AreHeld c ks ls
links_held b c ks Empty agree h = tt
links_held b c ks (Link n t rest) agree h = (
  frame b c ks t (agree_left b c (blocks_of t) (blocks_in rest) agree) h.0,
  links_held b c ks rest (agree_right b c (blocks_of t) (blocks_in rest) agree) h.1,
)

pub links_fit : (b c : Array) (ks : Ks) (ls : FullLinks) → AreHeld b ks ls → Agree b c (blocks_in ls) → AllFit b ls
    → AllFit c ls
links_fit b c ks Empty h agree fits = tt
links_fit b c ks (Link n t rest) h agree fits = (
  fits_frame b c ks t h.0 (agree_left b c (blocks_of t) (blocks_in rest) agree) fits.0,
  links_fit b c ks rest h.1 (agree_right b c (blocks_of t) (blocks_in rest) agree) fits.1,
)

-- a heap whose header is spelled is as small as it tells
pub small_heap : (c : Array) (at : ℕ) (head : HeapHead) → SpellsHeap head (bytes_of c at 32) → head.len ≤ most_segment
    → IsSmallHeap c at
small_heap c at head spelled small other is =
    subst (λ (h : HeapHead). h.len ≤ most_segment) (spelled.value ∙ sym is.value) small

-- a group with other links fits where its header stays, its heap is small, and they fit
pub group_fits : (b c : Array) (ks : Ks) (old now : GroupAt) (below after : FullLinks) (was : IsGroup b ks old (founds below))
    → now.header_at ≡ old.header_at → now.heap_at ≡ old.heap_at
    → Agree b c (header_blocks old.header_at was.prefix was.parts) → Fits b (Group old below)
    → IsSmallHeap c old.heap_at → AllFit c after → Fits c (Group now after)
group_fits b c ks old now below after was header heap agree fits small all = (
  subst (λ (at : ℕ). IsShort c at) (sym header) (short_stays b c old.header_at was.prefix was.parts was.header agree fits.0),
  subst (λ (at : ℕ). IsSmallHeap c at) (sym heap) small,
  all,
)

-- a header whose blocks are few bytes is short
pub short_header : (c : Array) (at : ℕ) (prefix : Prefix) (parts : List Part) → IsHeader c at prefix parts
    → header_bytes at prefix parts ≤ most_header → IsShort c at
short_header c at prefix parts header few q qs other =
    let r = readings c at at prefix q parts qs refl header other in
    subst (λ (n : ℕ). n ≤ most_header) (λ i. header_bytes at (r.prefix i) (r.parts i)) few
