use Rattle.std.proofs.Common.{◌≡◌, ℕ, ◌+◌, ◌<◌, ◌++◌, [], ◌∷◌, length, arith, refl, sym, subst, ◌∙◌, ap}
use Rattle.outside.specs.Space.{SpaceView}
use Rattle.block_space.specs.Blocks.{Takes, array_of, space_of}
use Rattle.block_space.specs.declared.blocks.Blocks.{Blocks}
use Rattle.node_codec.specs.declared.chunk_node.ChunkKey.{ChunkKey}
use Rattle.file_model.specs.Chunks.{AreAscending}
use Rattle.file_model.specs.RefusedChunks.{IsChunkRefused}
use Rattle.storage_reader.specs.Nodes.{AreUnder, IsUnderRefused, child_at, refused_child}
use Rattle.storage_reader.specs.declared.form.Form.{Form}
use Rattle.storage_reader.proofs.Children.{child_refused, not_last, last_not}
use Rattle.storage_reader.proofs.LeafRead.{ChunksRead, no_chunk_read, one_chunk, stored_child, refused_chunk, chunk_more, key_stopped, chunks_done}
use Rattle.block_space.proofs.Taken.{taken}
use Rattle.storage_reader.proofs.Parts.{handed, refuses_then, takes_as, takes_none, takes_then}
use Rattle.storage_reader.proofs.chunks.adopt_chunks.Goals as goal

-- a chunk that was taken, by the space before the loop
found_from : {V : Type 0} (view : V → SpaceView) (a b c : Blocks V) (f : Form) (key : ChunkKey) (at : ℕ) → space_of b ≡ space_of a
    → Takes view b c (child_at (array_of view b) f 0 key at (one_chunk key at ∷ [])) → Takes view b c (child_at (array_of view a) f 0 key at (one_chunk key at ∷ []))
found_from view a b c f key at same = subst (λ (s : _). Takes view b c (child_at (view s).array f 0 key at (one_chunk key at ∷ []))) same

pub loop-i-init : goal.loop-i-init
loop-i-init g c = record { read = takes_none g.V.Space.view c.args.blocks.now _ (no_chunk_read _ _ _ _); space = refl }

pub returns-in_err-adopt_chunk-clause-refused : goal.returns-in_err-adopt_chunk-clause-refused
returns-in_err-adopt_chunk-clause-refused g c =
    let n = c.args.node.now in
    let i = c.loop-i.i in
    let x = c.child_of-child.result in
    let f = c.args.form.now in
    let b = array_of g.V.Space.view c.args.blocks.now in
    let stop = c.in_err-adopt_chunk.field-0.0 in
    let child = child_at b f n.level in
    let refuses = refused_child b f n.level c.args.at in
    handed c.from_residual.result stop _ c.from_residual.ensures.1
    (refuses_then g.V.Space.view c.args.blocks.now _ (ChunksRead child refuses c.args.at n i) (λ e met r. IsChunkRefused e f.rank f.sizes c.args.at met x.low.now x.at r) (IsUnderRefused b f c.args.at n) stop
    (ap g.V.Space.view (sym c.loop-i.invariant.space)) c.loop-i.invariant.read c.in_err-adopt_chunk.ensures.refused
    (λ met own xs r h kept why. child_refused child refuses c.args.at n i x.low.now x.high.now x.at c.child_of-child.ensures h.chunks xs h.read _ met r (taken g.V.Space.view c.args.blocks.now _ met xs own (ap g.V.Space.view (sym c.loop-i.invariant.space)) kept)
    (refused_chunk b f n.level c.args.at _ (met ++ xs) x.low.now x.at r c.requires.level why)))

pub returns-then-not-is_above-clause-refused : goal.returns-then-not-is_above-clause-refused
returns-then-not-is_above-clause-refused g c =
    let n = c.args.node.now in
    let i = c.loop-i.i in
    let x = c.child_of-child.result in
    let f = c.args.form.now in
    let b = array_of g.V.Space.view c.args.blocks.now in
    let no = c.if-not-is_above.ensures.no refl in
    let found = found_from g.V.Space.view c.args.blocks.now _ _ f x.low.now x.at c.loop-i.invariant.space c.in_ok-adopt_chunk.ensures.found in
    let more : i + 1 < length n.children = not_last i (length n.children) (omega arith) (rw c.len-count.ensures at no.0) in
    λ met own keeps.
    let before = c.loop-i.invariant.read met keeps in
    let here = found (met ++ before.0) before.2 in
    rw c.malformed.ensures
    (key_stopped (child_at b f n.level) (refused_child b f n.level c.args.at) c.args.at n i x.low.now x.high.now x.at c.child_of-child.ensures before.0 here.0 before.1
    (stored_child b f n.level x.low.now x.at (one_chunk x.low.now x.at ∷ []) here.0 c.requires.level here.1) _ met
    (taken g.V.Space.view c.args.blocks.now _ met before.0 own (ap g.V.Space.view (sym c.loop-i.invariant.space)) before.2) (taken g.V.Space.view c.args.blocks.now _ (met ++ before.0) here.0 own (ap g.V.Space.view (sym (c.adopt_chunk.ensures.space ∙ c.loop-i.invariant.space))) here.2) more no.1)

pub loop-i-preserved : goal.loop-i-preserved
loop-i-preserved g c =
    let n = c.args.node.now in
    let i = c.loop-i.i in
    let x = c.child_of-child.result in
    let f = c.args.form.now in
    let b = array_of g.V.Space.view c.args.blocks.now in
    let stored = child_at b f 0 x.low.now x.at (one_chunk x.low.now x.at ∷ []) in
    let child = child_at b f n.level in
    let refuses = refused_child b f n.level c.args.at in
    record {
      read = takes_then g.V.Space.view c.args.blocks.now _ _ (ChunksRead child refuses c.args.at n i) stored (ChunksRead child refuses c.args.at n (i + 1))
          c.loop-i.invariant.read
          (found_from g.V.Space.view c.args.blocks.now _ _ f x.low.now x.at c.loop-i.invariant.space c.in_ok-adopt_chunk.ensures.found)
          (λ xs ys h here. chunk_more child refuses c.args.at n i x.low.now x.high.now x.at c.child_of-child.ensures xs ys h
          (stored_child b f n.level x.low.now x.at (one_chunk x.low.now x.at ∷ []) ys c.requires.level here)
          (λ more. c.if-not-is_above.ensures.yes refl (rw c.len-count.ensures (last_not i (length n.children) more))));
      space = cc;
    }

pub returns-clause-found : goal.returns-clause-found
returns-clause-found g c =
    let n = c.args.node.now in
    let f = c.args.form.now in
    let b = array_of g.V.Space.view c.args.blocks.now in
    let child = child_at b f n.level in
    let refuses = refused_child b f n.level c.args.at in
    let end : c.loop-i.i ≡ length n.children = omega arith in
    takes_as g.V.Space.view c.args.blocks.now _ (ChunksRead child refuses c.args.at n c.loop-i.i) (λ bs. (cs : _) × AreUnder b f n cs bs × AreAscending cs) c.loop-i.invariant.read
    (λ xs h. chunks_done child refuses c.args.at n c.loop-i.i xs end h)
