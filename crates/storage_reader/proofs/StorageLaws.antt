-- What is stored of a dataset, by what its layout tells.
use Rattle.std.proofs.Common.{◌≡◌, ◌≢◌, ℕ, ◌*◌, ◌==◌, Bool, true, false, not, ◌&&◌, List, [], length, if◌then◌else◌, refl, sym, ◌∙◌, ap, subst, arith}
use Rattle.h5_base.specs.Fields.{undefined}
use Rattle.outside.specs.Array.{Array}
use Rattle.outside.specs.Blocks.{Block, Bounds, IsPlacedRefused, placed}
use Rattle.h5_base.specs.declared.kinds.BlockKind.TheVariants.{Raw}
use Rattle.h5_base.specs.declared.refusal.Refusal.{Refusal}
use Rattle.dtype.specs.Products.{product}
use Rattle.dtype.specs.Types.{size_of}
use Rattle.header_codec.specs.Layouts.{IsOfShape}
use Rattle.header_codec.specs.declared.types.Layout.{Layout}
use Rattle.header_codec.specs.declared.types.Layout.TheVariants as layout
use Rattle.file_model.specs.Objects.{DataInfo}
use Rattle.file_model.specs.Chunks.{Chunk, IsIndexed, IsStoredBy, is_read}
use Rattle.file_model.specs.RefusedChunks.{IsStorageRefused, RawBlock, InIndex, chunk_level, IsTreeRefused}
use Rattle.storage_reader.specs.Elements.{AreOf}
use Rattle.storage_reader.specs.Forms.{IsForm}
use Rattle.storage_reader.specs.Nodes.{IsWholeIndex, IsWholeRefused}
use Rattle.storage_reader.specs.declared.form.Form.{Form}
use Rattle.storage_reader.specs.declared.storage.Elements.{Elements}

-- the bytes of the elements
abbrev elements_len : Elements → ℕ
elements_len x = product x.shape.now.dims * size_of x.elem

-- a chunk has the dimensions of its dataset
pub rank_of : (f : Form) (tree size : ℕ) (sizes dims : List ℕ) (l : Layout) → IsForm f → f.sizes ≡ sizes → l ≡ layout.Chunked tree sizes → IsOfShape (length dims) size l → f.rank ≡ length dims
rank_of f tree size sizes dims l h same is shape =
    let of_shape : IsOfShape (length dims) size (layout.Chunked tree sizes) = subst (IsOfShape (length dims) size) is shape in
    omega (arith, h.rank_is, ap length same, of_shape.0)

module _ (b : Array) (k : ℕ) (i : DataInfo) (x : Elements) (of : AreOf i x) where
  -- ---- an index

  module _ (tree : ℕ) (sizes : List ℕ) (is : x.layout.now ≡ layout.Chunked tree sizes) (t : Bool) (read : t ≡ (not (tree == undefined) && not x.filtered)) where
    reads : is_read i tree ≡ t
    reads = ap (λ (y : Bool). not (tree == undefined) && not y) of.filtered ∙ sym read

    indexed_by : (cs : List Chunk) (bs : List Block) → IsIndexed t b k (length i.shape.dims) sizes tree cs bs → IsStoredBy b k i i.layout cs bs
    indexed_by cs bs h =
        subst (λ (l : Layout). IsStoredBy b k i l cs bs) (sym (of.layout ∙ is))
        (subst (λ (y : Bool). IsIndexed y b k (length i.shape.dims) sizes tree cs bs) (sym reads) h)

    -- nothing is stored where the index isn't read
    pub not_read : t ≡ false → (cs : List Chunk) × IsStoredBy b k i i.layout cs []
    not_read off = ([], indexed_by [] [] (subst (λ (y : Bool). IsIndexed y b k (length i.shape.dims) sizes tree [] []) (sym off) (refl, refl)))

    -- the form of the chunks of a dataset
    module _ (f : Form) (k_is : f.k ≡ k) (sizes_are : f.sizes ≡ sizes) (rank : f.rank ≡ length x.shape.now.dims) (on : t ≡ true) where
      same_rank : f.rank ≡ length i.shape.dims
      same_rank = rank ∙ sym (ap (λ s. length s.dims) of.shape)

      pub index_found : (bs : List Block) → IsWholeIndex b f tree bs → (cs : List Chunk) × IsStoredBy b k i i.layout cs bs
      index_found bs (cs, h) = (
        cs,
        indexed_by cs bs (subst (λ (y : Bool). IsIndexed y b k (length i.shape.dims) sizes tree cs bs) (sym on)
            (subst (λ (n : ℕ). IsIndexed true b k n sizes tree cs bs) same_rank
            (subst (λ (s : List ℕ). IsIndexed true b k f.rank s tree cs bs) sizes_are
            (subst (λ (n : ℕ). IsIndexed true b n f.rank f.sizes tree cs bs) k_is h)))),
      )

      pub index_stopped : (e : Bounds) (met : List Block) (r : Refusal) → IsWholeRefused b f tree e met r → IsStorageRefused b e k i met r
      index_stopped e met r h = InIndex tree sizes (of.layout ∙ is) (reads ∙ on)
          (subst (λ (n : ℕ). IsTreeRefused b e k n sizes (chunk_level b k n tree) met tree r) same_rank
          (subst (λ (s : List ℕ). IsTreeRefused b e k f.rank s (chunk_level b k f.rank tree) met tree r) sizes_are
          (subst (λ (n : ℕ). IsTreeRefused b e n f.rank f.sizes (chunk_level b n f.rank tree) met tree r) k_is h)))

  -- ---- one block

  module _ (at len : ℕ) (is : x.layout.now ≡ layout.Contiguous at len) where
    bytes_are : elements_len x ≡ product i.shape.dims * size_of i.elem
    bytes_are = sym (ap (λ s. product s.dims * size_of i.elem) of.shape ∙ ap (λ t. product x.shape.now.dims * size_of t) of.elem)

    pub block_found : (bs : List Block) → bs ≡ (if at == undefined then [] else placed at (elements_len x)) → (cs : List Chunk) × IsStoredBy b k i i.layout cs bs
    block_found bs same =
        ([], subst (λ (l : Layout). IsStoredBy b k i l [] bs) (sym (of.layout ∙ is)) (refl, same ∙ ap (λ (n : ℕ). if at == undefined then [] else placed at n) bytes_are))

    pub raw_stopped : at ≢ undefined → (e : Bounds) (met : List Block) (r : Refusal) → IsPlacedRefused e met at (elements_len x) Raw r → IsStorageRefused b e k i met r
    raw_stopped there e met r h = RawBlock at len (of.layout ∙ is) there (subst (λ (n : ℕ). IsPlacedRefused e met at n Raw r) bytes_are h)
