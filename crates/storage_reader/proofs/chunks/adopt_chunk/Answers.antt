use Rattle.std.proofs.Common.{◌≡◌, ◌≢◌, ◌∷◌, [], refl, sym, ap, arith}
use Rattle.outside.specs.Blocks.{Block, IsBlockRefused}
use Rattle.dtype.specs.Products.{product}
use Rattle.h5_base.specs.declared.kinds.BlockKind.TheVariants.{Raw}
use Rattle.file_model.specs.RefusedChunks.{IsChunkRefused, WrongBytes, WrongOffset}
use Rattle.storage_reader.proofs.ChunkSizes.{some_bytes}
use Rattle.storage_reader.proofs.LeafRead.{taken_chunk, chunk_block, chunk_stands}
use Rattle.block_space.proofs.Taken.{taken}
use Rattle.storage_reader.proofs.Parts.{handed, refuses_as}
use Rattle.storage_reader.proofs.chunks.adopt_chunk.Goals as goal

pub adopt-requires-clause-some : goal.adopt-requires-clause-some
adopt-requires-clause-some g c = omega (arith, some_bytes c.args.form.now.sizes c.requires.form.chunk, c.requires.form.bytes_is)

pub returns-in_err-adopt-clause-refused : goal.returns-in_err-adopt-clause-refused
returns-in_err-adopt-clause-refused g c =
    let f = c.args.form.now in
    let stop = c.in_err-adopt.field-0.0 in
    handed c.from_residual.result stop _ c.from_residual.ensures.1
    (refuses_as g.V.Space.view c.args.blocks.now (λ e met. IsBlockRefused e met (record { start = c.args.at; len = f.bytes }) Raw) (λ e met r. IsChunkRefused e f.rank f.sizes c.args.node met c.args.key.now c.args.at r) stop
    c.in_err-adopt.ensures.refused (λ e met r h. chunk_block e f.rank f.sizes c.args.node met c.args.key.now c.args.at f.bytes r c.requires.form.bytes_is h))

pub returns-then-from-form-clause-refused : goal.returns-then-from-form-clause-refused
returns-then-from-form-clause-refused g c = λ met own keeps.
    let f = c.args.form.now in
    let block : Block = record { start = c.args.at; len = f.bytes } in
    let other : c.args.key.now.bytes ≢ product f.sizes = λ is. omega (arith, is, c.requires.form.bytes_is) in
    rw c.malformed.ensures
    (WrongBytes (taken_chunk _ met c.args.at f.bytes f.sizes c.requires.form.bytes_is
    (taken g.V.Space.view c.args.blocks.now c.adopt.new.self met (block ∷ []) own (ap g.V.Space.view (sym c.adopt.ensures.space)) (c.in_ok-adopt.ensures.found met keeps))) other refl)

pub returns-then-not-are_multiples-clause-refused : goal.returns-then-not-are_multiples-clause-refused
returns-then-not-are_multiples-clause-refused g c = λ met own keeps.
    let f = c.args.form.now in
    let block : Block = record { start = c.args.at; len = f.bytes } in
    let bytes : c.args.key.now.bytes ≡ product f.sizes = omega (arith, c.requires.form.bytes_is) in
    rw c.malformed-then-not-are_multiples.ensures
    (WrongOffset (taken_chunk _ met c.args.at f.bytes f.sizes c.requires.form.bytes_is
    (taken g.V.Space.view c.args.blocks.now c.adopt.new.self met (block ∷ []) own (ap g.V.Space.view (sym c.adopt.ensures.space)) (c.in_ok-adopt.ensures.found met keeps))) bytes
    (λ m. let yes = c.are_multiples.ensures.1 (rw (c.as_slice.ensures, c.as_slice-2.ensures, c.requires.rank) m) in cc) refl)

pub returns-clause-found : goal.returns-clause-found
returns-clause-found g c = λ met keeps.
    let f = c.args.form.now in
    let block : Block = record { start = c.args.at; len = f.bytes } in
    let fits = c.are_multiples.ensures.0 c.if-not-are_multiples.false in (
      block ∷ [],
      chunk_stands _ f c.args.key.now c.args.at f.bytes c.requires.form.bytes_is (record {
        bytes = omega (arith, c.requires.form.bytes_is);
        multiples = rw (c.as_slice.ensures, c.as_slice-2.ensures, c.requires.rank) at fits;
      }),
      c.in_ok-adopt.ensures.found met keeps,
    )
