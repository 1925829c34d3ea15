-- The elements of a dataset stay where the bytes of its blocks stay.
use Rattle.std.proofs.Common.{◌≡◌, ℕ, zero, suc, ◌+◌, ◌*◌, ◌-◌, ◌/◌, ◌%◌, ◌<◌, ◌≤◌, Bool, true, false, nat_lt, List, [], ◌∷◌, ◌++◌, length, map, take, get_or, refl, sym, ap, subst, ◌∙◌, arith, inl, inr, length-take}
use Rattle.std.specs.Prelude.{◌==◌, Some, None, if◌then◌else◌}
use Rattle.std.specs.List.{All}
use Rattle.std.specs.Str.{bytes_eq}
use Rattle.std.proofs.lemmas.Bool.Decides.{nat_tests}
use Rattle.std.proofs.lemmas.List.Elements.{All-head, All-tail, All-take}
use Rattle.std.proofs.Math.Nat.{mul_comm, mul_assoc}
use Rattle.h5_base.specs.Fields.{undefined}
use Rattle.outside.specs.Array.{Array}
use Rattle.dtype.specs.Products.{product}
use Rattle.dtype.specs.Types.{size_of}
use Rattle.header_codec.specs.Layouts.{IsOfShape, SpellsLayout}
use Rattle.header_codec.specs.declared.types.Layout.{Layout}
use Rattle.header_codec.specs.declared.types.Layout.TheVariants as layout
use Rattle.object_model.specs.Boxes.{indices, place, minus, floor_to, all_lt}
use Rattle.object_model.proofs.BoxLemmas.{and_both, and_true, place-lt, indices-below, map-each}
use Rattle.outside.specs.Blocks.{Block, placed, Agree}
use Rattle.file_model.specs.Index.{Bottom, Node, NoMore, Next}
use Rattle.file_model.specs.Chunks.{Chunk, ChunkIndex, ChunkIndexes, chunks_under, chunks_within, index_blocks, blocks_within}
use Rattle.file_model.specs.Chunks.{IsStoredBy, IsIndexed, is_read, chunk_at, chunk_sizes, beyond, bytes_or, stored_at, elements_of}
use Rattle.file_model.specs.Objects.{DataInfo, IsDataHeader}
use Rattle.file_model.specs.Headers.{Met}
use Rattle.file_model.proofs.FrameBytes.{Same, bytes_same, within_same, agree_left, agree_right, placed_same}

-- ---- indices

-- the index within a chunk
pub remainder_lt : (c i : ℕ) → 1 ≤ c → i - i / c * c < c
remainder_lt c i some = let turned : i / c * c ≡ c * (i / c) = mul_comm (i / c) c in let below : i % c < c = omega arith in omega arith

abbrev AreSome : List ℕ → Type 0
AreSome ns = All (λ n. 1 ≤ n) ns

pub within_chunk : (own index : List ℕ) → AreSome own → length index ≡ length own → all_lt (minus index (floor_to own index)) own ≡ true
within_chunk [] [] some same = refl
within_chunk [] (i ∷ is) some same = cc
within_chunk (c ∷ cs) [] some same = cc
within_chunk (c ∷ cs) (i ∷ is) some same =
    let lt : i - i / c * c < c = remainder_lt c i (All-head (λ n. 1 ≤ n) c cs some) in
    and_true (nat_lt (i - i / c * c) c) (all_lt (minus is (floor_to cs is)) cs) (grind (arith, nat_tests)) (within_chunk cs is (All-tail (λ n. 1 ≤ n) c cs some) (omega arith))

pub same_length : (index dims : List ℕ) → all_lt index dims ≡ true → length index ≡ length dims
same_length [] [] h = refl
same_length [] (d ∷ ds) h = cc
same_length (i ∷ is) [] h = cc
same_length (i ∷ is) (d ∷ ds) h = ap suc (same_length is ds (and_both (nat_lt i d) (all_lt is ds) h).1)

-- the bytes of a chunk are its elements, and each one's bytes
pub chunk_bytes : (rank : ℕ) (sizes : List ℕ) → length sizes ≡ rank + 1 → product sizes ≡ product (take rank sizes) * get_or sizes rank 0
chunk_bytes zero [] same = absurd (omega arith)
chunk_bytes zero (n ∷ []) same = omega arith
chunk_bytes zero (n ∷ m ∷ ns) same = absurd (omega arith)
chunk_bytes (suc rank) [] same = absurd (omega arith)
chunk_bytes (suc rank) (n ∷ ns) same =
    ap (λ (p : ℕ). n * p) (chunk_bytes rank ns (omega arith)) ∙ sym (mul_assoc n (product (take rank ns)) (get_or ns rank 0))

-- an element lies before the end
pub element_ends : (size k m : ℕ) → k < m → size * k + size ≤ m * size
element_ends size k zero lt = absurd (omega arith)
element_ends size zero (suc m) lt = omega arith
element_ends size (suc k) (suc m) lt = omega (arith, element_ends size k m (omega arith))

-- ---- chunks

-- each chunk has the same bytes
abbrev pub ChunksSame : Array → Array → ℕ → List Chunk → Type 0
ChunksSame b c n [] = Unit {0}
ChunksSame b c n (x ∷ xs) = Same b c x.at n × ChunksSame b c n xs

pub in_chunk : (b c : Array) (cs : List Chunk) (offset : List ℕ) (n d size : ℕ) (fill : List ℕ) → ChunksSame b c n cs → d + size ≤ n
    → bytes_or b (beyond (chunk_at cs offset) d) size fill ≡ bytes_or c (beyond (chunk_at cs offset) d) size fill
in_chunk b c [] offset n d size fill h le = refl
in_chunk b c (x ∷ xs) offset n d size fill h le =
    elim (bytes_eq x.offset offset) as (λ t. bytes_or b (beyond (if t then Some x.at else chunk_at xs offset) d) size fill ≡ bytes_or c (beyond (if t then Some x.at else chunk_at xs offset) d) size fill) [
      | true ↦ bytes_same b c (x.at + d) size (within_same b c (x.at + d) size x.at n h.0 (omega arith) (omega arith))
      | false ↦ in_chunk b c xs offset n d size fill h.1 le
    ]

-- ---- the chunks under an index

chunks_both : (b c : Array) (n : ℕ) (xs ys : List Chunk) → ChunksSame b c n xs → ChunksSame b c n ys → ChunksSame b c n (xs ++ ys)
chunks_both b c n [] ys h k = k
chunks_both b c n (x ∷ xs) ys h k = (h.0, chunks_both b c n xs ys h.1 k)

-- what the blocks of an index cover has the same bytes in each chunk
mutual
  under_same : (b c : Array) (k rank : ℕ) (sizes : List ℕ) (x : ChunkIndex) → Agree b c (index_blocks k rank sizes x)
      → ChunksSame b c (product sizes) (chunks_under x)
  under_same b c k rank sizes (Bottom d) agree = (agree.0, tt)
  under_same b c k rank sizes (Node n xs) agree = all_same b c k rank sizes xs agree.1

  all_same : (b c : Array) (k rank : ℕ) (sizes : List ℕ) (xs : ChunkIndexes)
      → Agree b c (blocks_within k rank sizes xs) → ChunksSame b c (product sizes) (chunks_within xs)
  all_same b c k rank sizes NoMore agree = tt
  all_same b c k rank sizes (Next x xs) agree =
      let own = index_blocks k rank sizes x in
      let later = blocks_within k rank sizes xs in
      chunks_both b c (product sizes) (chunks_under x) (chunks_within xs)
      (under_same b c k rank sizes x (agree_left b c own later agree))
      (all_same b c k rank sizes xs (agree_right b c own later agree))

-- ---- elements

-- no size of a chunk is 0
abbrev HasSizes : Layout → Type 0
HasSizes (layout.Contiguous at len) = Unit {0}
HasSizes (layout.Chunked tree sizes) = AreSome sizes

has_sizes : (l : Layout) (body : List ℕ) → SpellsLayout l body → HasSizes l
has_sizes l body (inl h) = subst HasSizes (sym h.1) tt
has_sizes l body (inr h) = subst HasSizes (sym h.1) h.0.chunk.some

contiguous_same : (b c : Array) (at size count place : ℕ) (fill : List ℕ) (bs : List Block) (none : Bool) → place < count → bs ≡ (if none then [] else placed at (count * size)) → Agree b c bs
    → bytes_or b (if none then None else Some (at + size * place)) size fill ≡ bytes_or c (if none then None else Some (at + size * place)) size fill
contiguous_same b c at size count place fill bs true lt e agree = refl
contiguous_same b c at size count place fill bs false lt e agree =
    let same = placed_same b c at (count * size) (subst (Agree b c) e agree) in
    let ends = element_ends size place count lt in
    bytes_same b c (at + size * place) size (within_same b c (at + size * place) size at (count * size) same (omega arith) (omega arith))

chunked_same : (b c : Array) (size rank : ℕ) (sizes index fill : List ℕ) (cs : List Chunk) → length index ≡ rank → AreSome sizes → length sizes ≡ rank + 1 → get_or sizes rank 0 ≡ size → ChunksSame b c (product sizes) cs
    → (let own = chunk_sizes rank sizes in
    let at = beyond (chunk_at cs (floor_to own index)) (size * place own (minus index (floor_to own index))) in
    bytes_or b at size fill ≡ bytes_or c at size fill)
chunked_same b c size rank sizes index fill cs same some one last chunks =
    let own = take rank sizes in
    let long : length index ≡ length own = omega (arith, length-take rank sizes) in
    let some_own = All-take (λ n. 1 ≤ n) rank sizes some in
    let lt = place-lt own (minus index (floor_to own index)) (within_chunk own index some_own long) in
    let ends = element_ends size (place own (minus index (floor_to own index))) (product own) lt in
    let whole : product sizes ≡ product own * size = chunk_bytes rank sizes one ∙ ap (λ (n : ℕ). product own * n) last in
    in_chunk b c cs (floor_to own index) (product sizes) (size * place own (minus index (floor_to own index))) size fill chunks (omega arith)

indexed_same : (b c : Array) (read : Bool) (k rank : ℕ) (sizes : List ℕ) (tree : ℕ) (cs : List Chunk) (bs : List Block) → IsIndexed read b k rank sizes tree cs bs → Agree b c bs → ChunksSame b c (product sizes) cs
indexed_same b c false k rank sizes tree cs bs h agree = subst (ChunksSame b c (product sizes)) (sym h.0) tt
indexed_same b c true k rank sizes tree cs bs h agree =
    subst (ChunksSame b c (product sizes)) (sym h.chunks)
    (under_same b c k rank sizes h.index (subst (Agree b c) h.blocks agree))

element_same : (b c : Array) (k : ℕ) (i : DataInfo) (l : Layout) (cs : List Chunk) (bs : List Block) → HasSizes l → IsOfShape (length i.shape.dims) (size_of i.elem) l → IsStoredBy b k i l cs bs → Agree b c bs
    → (index : List ℕ) → all_lt index i.shape.dims ≡ true → bytes_or b (stored_at i l cs index) (size_of i.elem) i.fill ≡ bytes_or c (stored_at i l cs index) (size_of i.elem) i.fill
element_same b c k i (layout.Contiguous at len) cs bs some shape h agree index lt =
    contiguous_same b c at (size_of i.elem) (product i.shape.dims) (place i.shape.dims index) i.fill bs (at == undefined) (place-lt i.shape.dims index lt) h.1 agree
element_same b c k i (layout.Chunked tree sizes) cs bs some shape h agree index lt =
    chunked_same b c (size_of i.elem) (length i.shape.dims) sizes index i.fill cs (same_length index i.shape.dims lt) some shape.0 shape.1
    (indexed_same b c (is_read i tree) k (length i.shape.dims) sizes tree cs bs h agree)

-- each element reads the same bytes
pub elements_same : (b c : Array) (k : ℕ) (i : DataInfo) (ms : List Met) (cs : List Chunk) (bs : List Block) → IsDataHeader ms i → IsStoredBy b k i i.layout cs bs → Agree b c bs → elements_of b i cs ≡ elements_of c i cs
elements_same b c k i ms cs bs told h agree =
    let f = λ (a : Array) (index : List ℕ). bytes_or a (stored_at i i.layout cs index) (size_of i.elem) i.fill in
    let some = has_sizes i.layout told.layout.0.body told.layout.2 in
    let all : map (f b) (indices i.shape.dims) ≡ map (f c) (indices i.shape.dims) =
    map-each (λ index. all_lt index i.shape.dims ≡ true) (f b) (f c) (indices i.shape.dims) (indices-below i.shape.dims)
    (element_same b c k i i.layout cs bs some told.stored h agree) in
    ap (λ (es : List (List ℕ)). if i.filtered then [] else es) all
