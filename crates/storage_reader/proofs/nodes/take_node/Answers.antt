use Rattle.std.proofs.Common.{◌∙◌, ◌++◌, ◌∷◌, [], refl, sym, subst, ap}
use Rattle.outside.specs.Array.{bytes_of}
use Rattle.outside.specs.Blocks.{IsBlockRefused}
use Rattle.h5_base.specs.declared.kinds.BlockKind.TheVariants.{Tree}
use Rattle.node_codec.specs.ChunkNodes.{SpellsChunkNode}
use Rattle.block_space.specs.Blocks.{Keeps, array_of}
use Rattle.storage_reader.specs.Nodes.{IsIndexRefused, node_block}
use Rattle.file_model.specs.RefusedChunks.{NodeBlock}
use Rattle.storage_reader.proofs.NodeLaws.{no_node}
use Rattle.block_space.proofs.Taken.{taken}
use Rattle.storage_reader.proofs.Parts.{handed, refuses_as}
use Rattle.storage_reader.proofs.nodes.take_node.Goals as goal

pub returns-in_err-bytes-clause-refused : goal.returns-in_err-bytes-clause-refused
returns-in_err-bytes-clause-refused g c = λ tells.
    let b = array_of g.V.Space.view c.args.blocks.now in
    let f = c.args.form.now in
    let stop = c.in_err-bytes.field-0.0 in
    handed c.from_residual.result stop _ c.from_residual.ensures.1
    (λ level. refuses_as g.V.Space.view c.args.blocks.now (λ e met. IsBlockRefused e met (node_block f c.args.at) Tree) (IsIndexRefused b f level c.args.at) stop
    (rw (← c.chunk_node_size-size.ensures) c.in_err-bytes.ensures.refused) (λ e met r h. NodeBlock h))

pub returns-in-Err-NotThis-clause-refused : goal.returns-in-Err-NotThis-clause-refused
returns-in-Err-NotThis-clause-refused g c = λ tells level met own keeps.
    let b = array_of g.V.Space.view c.args.blocks.now in
    let f = c.args.form.now in
    let block = node_block f c.args.at in
    let read = c.as_slice.ensures.value ∙ c.in_ok-bytes.ensures.bytes tells ∙ ap (bytes_of b c.args.at) c.chunk_node_size-size.ensures in
    let kept : Keeps g.V.Space.view c.adopt_bytes.new.self (met ++ block ∷ []) = rw (← c.chunk_node_size-size.ensures) (c.in_ok-bytes.ensures.found met keeps) in
    rw c.malformed.ensures
    (no_node b f level c.args.at _ met (block ∷ []) (taken g.V.Space.view c.args.blocks.now c.adopt_bytes.new.self met (block ∷ []) own (g.met.V.Space.alike _ _ c.adopt_bytes.ensures.alike) kept) refl
    (λ n spelled is. c.read_chunk_node.ensures.only (cc) n (subst (SpellsChunkNode f.k f.rank n) (sym read) spelled)))
