-- A node of a chunk index and the nodes under it: held, or refused.
use Rattle.std.proofs.Common.{◌≡◌, ℕ, zero, suc, ◌+◌, ◌-◌, ◌<◌, ◌==◌, true, List, [], ◌∷◌, ◌++◌, length, drop, Option, None, refl, sym, ◌∙◌, ap, subst, arith}
use Rattle.outside.specs.Array.{Array}
use Rattle.outside.specs.Blocks.{Block, Bounds, AreTaken}
use Rattle.h5_base.specs.declared.kinds.BlockKind.TheVariants.{Tree}
use Rattle.h5_base.specs.declared.refusal.Refusal.{Refusal}
use Rattle.h5_base.specs.declared.refusal.Refusal.TheVariants.{Malformed}
use Rattle.node_codec.specs.declared.chunk_node.ChunkNode.{ChunkNode}
use Rattle.node_codec.specs.declared.chunk_node.ChunkKey.{ChunkKey}
use Rattle.file_model.specs.Chunks.{Chunk, Under, AreAscending}
use Rattle.file_model.specs.RefusedChunks.{RefusedChunks, NoNode, InChildren, chunk_level, AreOffsetsRefused, IsInPlace}
use Rattle.storage_reader.specs.Ends.{AreSpanned, HaveEnds, Spans}
use Rattle.storage_reader.specs.Nodes.{AreChildren, AreUnder, IsChildOf, IsIndexAt, IsIndexRefused, IsNodeAt, IsUnderRefused, IsWholeIndex, child_at, refused_child, node_block}
use Rattle.storage_reader.specs.declared.ends.Ends.{Ends}
use Rattle.storage_reader.specs.declared.form.Form.{Form}
use Rattle.storage_reader.proofs.Values.{index_of, rooted}
use Rattle.storage_reader.proofs.Children.{AreRead, none_read, all_read, child_read, offsets_refused}

-- ---- a node and what stands under it

module _ (b : Array) (f : Form) where
  pub no_node : (level at : ℕ) (e : Bounds) (met xs : List Block) → AreTaken e met xs → xs ≡ node_block f at ∷ [] → ((n : ChunkNode) → IsNodeAt b f at n → n.level ≡ level → ⊥) → IsIndexRefused b f level at e met (Malformed at Tree)
  no_node level at e met xs taken block h = NoNode (subst (AreTaken e met) block taken) h refl

  -- a block spells one node
  pub other_level : (level at : ℕ) (n m : ChunkNode) → IsNodeAt b f at n → (n.level ≡ level → ⊥) → IsNodeAt b f at m → m.level ≡ level → ⊥
  other_level level at n m h other g is = other (ap (λ (x : ChunkNode). x.level) (h.value ∙ sym g.value) ∙ is)

  pub children_stopped : (level at : ℕ) (n : ChunkNode) (e : Bounds) (met xs : List Block) (r : Refusal) → AreTaken e met xs → IsNodeAt b f at n → n.level ≡ level → xs ≡ node_block f at ∷ []
      → IsUnderRefused b f at n e (met ++ xs) r → IsIndexRefused b f level at e met r
  children_stopped level at n e met xs r taken spelled is block h =
      subst (λ (m : ℕ). IsIndexRefused b f m at e met r) is
      (InChildren n (subst (AreTaken e met) block taken) spelled refl (subst (λ (l : List Block). IsUnderRefused b f at n e (met ++ l) r) block h))

  node_held : (level at : ℕ) (n : ChunkNode) (cs : List Chunk) (bs : List Block) → IsNodeAt b f at n → n.level ≡ level → AreUnder b f n cs bs → IsIndexAt b f level at cs (node_block f at ∷ bs)
  node_held level at n cs bs spelled is h =
      subst (λ (m : ℕ). IsIndexAt b f m at cs (node_block f at ∷ bs)) is (index_of b f at n cs bs spelled h)

  pub node_spans : (level at : ℕ) (n : ChunkNode) (ends : Option Ends) (xs bs : List Block) → IsNodeAt b f at n → n.level ≡ level → xs ≡ node_block f at ∷ [] → Spans (AreUnder b f n) ends bs → Spans (IsIndexAt b f level at) ends (xs ++ bs)
  node_spans level at n ends xs bs spelled is block h = record {
    chunks = h.chunks;
    part = subst (λ (l : List Block). IsIndexAt b f level at h.chunks (l ++ bs)) (sym block) (node_held level at n h.chunks bs spelled is h.part);
    spanned = h.spanned;
  }

  -- the index under a root of any level
  pub whole : (at : ℕ) (n : ChunkNode) (ends : Option Ends) (xs bs : List Block) → IsNodeAt b f at n → xs ≡ node_block f at ∷ [] → Spans (AreUnder b f n) ends bs → IsWholeIndex b f at (xs ++ bs)
  whole at n ends xs bs spelled block h =
      let s = node_spans n.level at n ends xs bs spelled refl block h in
      (s.chunks, rooted b f n.level at s.chunks (xs ++ bs) s.part s.spanned.ordered)

  pub root_level : (at : ℕ) (n : ChunkNode) → IsNodeAt b f at n → n.level ≡ chunk_level b f.k f.rank at
  root_level at n h = ap (λ (x : ChunkNode). x.level) h.value

  -- ---- levels

  -- under a node of level 0 stand chunks
  pub leaf_spans : (n : ChunkNode) (ends : Option Ends) (bs : List Block) → n.level ≡ 0 → (cs : List Chunk) × AreUnder b f n cs bs × AreAscending cs
      → ((cs : List Chunk) (bs : List Block) → AreChildren (child_at b f 0) true n.keys n.children cs bs → HaveEnds ends cs) → Spans (AreUnder b f n) ends bs
  leaf_spans n ends bs is (cs, held, ordered) ends_of = record {
    chunks = cs;
    part = held;
    spanned = record { ordered = ordered; ends_are = ends_of cs bs (subst (λ (m : ℕ). AreChildren (child_at b f m) true n.keys n.children cs bs) is held) };
  }

  below : (level : ℕ) → suc level - 1 ≡ level
  below level = omega arith

  -- under a node of another level stand nodes of the level below
  pub inner_child : (level : ℕ) (key : ChunkKey) (at : ℕ) (cs : List Chunk) (bs : List Block) → 0 < level → IsIndexAt b f (level - 1) at cs bs → child_at b f level key at cs bs
  inner_child zero key at cs bs some h = absurd (omega arith)
  inner_child (suc level) key at cs bs some h = subst (λ (m : ℕ). IsIndexAt b f m at cs bs) (below level) h key

  pub inner_refused : (level node : ℕ) (key : ChunkKey) (at : ℕ) (e : Bounds) (met : List Block) (r : Refusal) → 0 < level → IsIndexRefused b f (level - 1) at e met r → refused_child b f level node e met key at r
  inner_refused zero node key at e met r some h = absurd (omega arith)
  inner_refused (suc level) node key at e met r some h = subst (λ (m : ℕ). IsIndexRefused b f m at e met r) (below level) h

-- ---- the nodes under a node, as far as they were read

pub no_node_read : (Child : Under) (Refused : Bounds → RefusedChunks) (node : ℕ) (m : ChunkNode) → Spans (AreRead Child Refused node m 0) None []
no_node_read Child Refused node m = record { chunks = []; part = none_read Child Refused node m; spanned = record { ordered = tt; ends_are = refl } }

module _ (b : Array) (f : Form) (node : ℕ) (m : ChunkNode) (some : 0 < m.level) where
  -- the first nodes were read
  abbrev pub NodesRead : ℕ → Option Ends → List Block → Type 0
  NodesRead n = Spans (AreRead (child_at b f m.level) (refused_child b f m.level node) node m n)

  module _ (n : ℕ) (before here : Option Ends) (low high : ChunkKey) (a : ℕ) (at : IsChildOf m n low high a) (xs ys : List Block) (h : NodesRead n before xs) (x : Spans (IsIndexAt b f (m.level - 1) a) here ys) where
    -- the next node was read, and its offsets stand in order
    pub node_more : (after : Option Ends)
        → ((done cs : List Chunk) → AreSpanned before done → AreSpanned here cs → IsInPlace (n == 0) low.offset high.offset (drop (n + 1) m.children) done cs)
        → ((done cs : List Chunk) → HaveEnds before done → HaveEnds here cs → HaveEnds after (done ++ cs)) → NodesRead (n + 1) after (xs ++ ys)
    node_more after place joined =
        let y = place h.chunks x.chunks h.spanned x.spanned in
        record {
          chunks = h.chunks ++ x.chunks;
          part = child_read (child_at b f m.level) (refused_child b f m.level node) node m n low high a at h.chunks xs h.part x.chunks ys (inner_child b f m.level low a x.chunks ys some x.part) y;
          spanned = record { ordered = y.ordered; ends_are = joined h.chunks x.chunks h.spanned.ends_are x.spanned.ends_are };
        }

    -- the offsets under the next node don't stand in order
    pub place_stopped : (e : Bounds) (met : List Block) → AreTaken e met xs → AreTaken e (met ++ xs) ys
        → ((done cs : List Chunk) → AreSpanned before done → AreSpanned here cs → AreOffsetsRefused node (n == 0) low.offset high.offset (drop (n + 1) m.children) done cs (Malformed node Tree))
        → IsUnderRefused b f node m e met (Malformed node Tree)
    place_stopped e met taken more place =
        offsets_refused (child_at b f m.level) (refused_child b f m.level node) node m n low high a at h.chunks xs h.part x.chunks ys (inner_child b f m.level low a x.chunks ys some x.part) e met (Malformed node Tree) taken more x.spanned.ordered
        (place h.chunks x.chunks h.spanned x.spanned)

  -- all nodes were read
  pub nodes_done : (n : ℕ) (ends : Option Ends) (bs : List Block) → n ≡ length m.children → NodesRead n ends bs → Spans (AreUnder b f m) ends bs
  nodes_done n ends bs end h = record {
    chunks = h.chunks;
    part = all_read (child_at b f m.level) (refused_child b f m.level node) node m n h.chunks bs end h.part;
    spanned = h.spanned;
  }
