use Rattle.std.proofs.Common.{◌≡◌, ◌*◌, List, length}
use Rattle.std.proofs.lemmas.Result.{on_ok_weaker}
use Rattle.h5_base.specs.declared.kinds.BlockKind.TheVariants.{Raw}
use Rattle.outside.specs.Blocks.{IsPlacedRefused}
use Rattle.dtype.specs.Products.{product}
use Rattle.dtype.specs.Types.{size_of}
use Rattle.block_space.specs.Blocks.{array_of}
use Rattle.block_space.proofs.Stopped.{if_err}
use Rattle.file_model.specs.Chunks.{Chunk, IsStoredBy}
use Rattle.file_model.specs.RefusedChunks.{IsStorageRefused}
use Rattle.storage_reader.specs.Nodes.{IsWholeIndex, IsWholeRefused}
use Rattle.storage_reader.proofs.Parts.{refuses_as, takes_as}
use Rattle.storage_reader.proofs.StorageLaws.{index_found, index_stopped, raw_stopped, rank_of}
use Rattle.storage_reader.proofs.storage.adopt_storage.Goals as goal

pub returns-in-Contiguous-clause-refused : goal.returns-in-Contiguous-clause-refused
returns-in-Contiguous-clause-refused g c = λ tells.
    let x = c.args.elements in
    let b = array_of g.V.Space.view c.args.blocks.now in
    if_err c.adopt_elements.result _ _
    (λ stop h i of. refuses_as g.V.Space.view c.args.blocks.now (λ e met. IsPlacedRefused e met c.in-Contiguous.at (product x.shape.now.dims * size_of x.elem) Raw) (λ e. IsStorageRefused b e c.args.k i) stop h.1
    (raw_stopped b c.args.k i x of c.in-Contiguous.at c.in-Contiguous.len c.in-Contiguous.is h.0))
    c.adopt_elements.ensures.refused

pub returns-in_ok-form-in-Chunked-clause-found : goal.returns-in_ok-form-in-Chunked-clause-found
returns-in_ok-form-in-Chunked-clause-found g c = λ tells.
    let x = c.args.elements in
    let b = array_of g.V.Space.view c.args.blocks.now in
    let tree = c.in-Chunked.tree_at in
    let f = c.in_ok-form-in-Chunked.form in
    let has = c.in_ok-form-in-Chunked.ensures in
    let rank : f.rank ≡ length x.shape.now.dims = rank_of f tree (size_of x.elem) c.in-Chunked.sizes x.shape.now.dims x.layout.now has.form has.sizes c.in-Chunked.is c.requires.stored in
    on_ok_weaker c.adopt_index.result
    (λ found i of. takes_as g.V.Space.view c.args.blocks.now _ (IsWholeIndex b f tree) (λ bs. (cs : List Chunk) × IsStoredBy b c.args.k i i.layout cs bs) found
    (index_found b c.args.k i x of tree c.in-Chunked.sizes c.in-Chunked.is c.is_read.result c.is_read.ensures f has.k has.sizes rank c.if-not-is_read.false))
    (c.adopt_index.ensures.found tells)

pub returns-in_ok-form-in-Chunked-clause-refused : goal.returns-in_ok-form-in-Chunked-clause-refused
returns-in_ok-form-in-Chunked-clause-refused g c = λ tells.
    let x = c.args.elements in
    let b = array_of g.V.Space.view c.args.blocks.now in
    let tree = c.in-Chunked.tree_at in
    let f = c.in_ok-form-in-Chunked.form in
    let has = c.in_ok-form-in-Chunked.ensures in
    let rank : f.rank ≡ length x.shape.now.dims = rank_of f tree (size_of x.elem) c.in-Chunked.sizes x.shape.now.dims x.layout.now has.form has.sizes c.in-Chunked.is c.requires.stored in
    if_err c.adopt_index.result _ _
    (λ stop refused i of. refuses_as g.V.Space.view c.args.blocks.now (IsWholeRefused b f tree) (λ e. IsStorageRefused b e c.args.k i) stop refused
    (index_stopped b c.args.k i x of tree c.in-Chunked.sizes c.in-Chunked.is c.is_read.result c.is_read.ensures f has.k has.sizes rank c.if-not-is_read.false))
    (c.adopt_index.ensures.refused tells)
