-- The bytes that stand in an array once an edit is written.
use Rattle.std.proofs.Common.{◌≡◌, ℕ, ◌+◌, ◌-◌, ◌<◌, ◌≤◌, List, length, take, drop, get_or, refl, sym, ◌∙◌, ap, subst}
use Rattle.std.proofs.Common.{arith}
use Rattle.std.proofs.lemmas.List.{ext_get_or, get_or-drop, get_or-take, length-drop, length-take}
use Rattle.std.proofs.lemmas.List.FromFn.{get_or-map-range_with_len, length-map-range_with_len}
use Rattle.outside.specs.Array.{Array, bytes_of}
use Rattle.h5_base.specs.Fields.{bytes_at}
use Rattle.node_codec.specs.declared.heap.HeapHead.{HeapHead}
use Rattle.node_codec.specs.Heap.{SpellsHeap}
use Rattle.plan_pieces.specs.declared.image.Image.{Image}
use Rattle.group_heap.specs.Spelled.{IsHeadImage}
use Rattle.group_heap.proofs.PutLemmas.{stands_at}

pub byte_of : (b : Array) (a n i : ℕ) → i < n → get_or (bytes_of b a n) i 0 ≡ b (a + i)
byte_of b a n i lt = get_or-map-range_with_len b a n i (a + i) 0 lt refl

pub len_of : (b : Array) (a n : ℕ) → length (bytes_of b a n) ≡ n
len_of b a n = length-map-range_with_len b a n

-- the bytes of an image within a range
pub stands_part : (c : Array) (a n used : ℕ) (v : List ℕ) → used + length v ≤ n → bytes_of c (a + used) (length v) ≡ v
    → bytes_at (bytes_of c a n) used (length v) ≡ v
stands_part c a n used v le e = stands_at (bytes_of c a n) used v (omega (arith, len_of c a n, le))
    (λ i lt. let k : a + (used + i) ≡ a + used + i = omega arith in
    let m : used + i < n = omega (arith, lt, le) in
    byte_of c a n (used + i) m ∙ ap c k ∙ sym (byte_of c (a + used) (length v) i lt)
    ∙ ap (λ (l : List ℕ). get_or l i 0) e)

-- where two arrays have the same bytes
pub same_front : (b c : Array) (a n k : ℕ) → k ≤ n → ((i : ℕ) → i < k → c (a + i) ≡ b (a + i))
    → take k (bytes_of c a n) ≡ take k (bytes_of b a n)
same_front b c a n k le same =
    let l : length (take k (bytes_of c a n)) ≡ k = omega (arith, length-take k (bytes_of c a n), len_of c a n, le) in
    let m : length (take k (bytes_of b a n)) ≡ k = omega (arith, length-take k (bytes_of b a n), len_of b a n, le) in
    ext_get_or 0 (take k (bytes_of c a n)) (take k (bytes_of b a n)) (l ∙ sym m)
    (λ i lt. let h : i < k = omega (arith, l, lt) in
    let g : i < n = omega (arith, h, le) in
    get_or-take k (bytes_of c a n) i 0 h ∙ byte_of c a n i g ∙ same i h ∙ sym (byte_of b a n i g)
    ∙ sym (get_or-take k (bytes_of b a n) i 0 h))

pub same_rest : (b c : Array) (a n k : ℕ) → ((i : ℕ) → k ≤ i → i < n → c (a + i) ≡ b (a + i))
    → drop k (bytes_of c a n) ≡ drop k (bytes_of b a n)
same_rest b c a n k same =
    let l : length (drop k (bytes_of c a n)) ≡ n - k = omega (arith, length-drop k (bytes_of c a n), len_of c a n) in
    let m : length (drop k (bytes_of b a n)) ≡ n - k = omega (arith, length-drop k (bytes_of b a n), len_of b a n) in
    ext_get_or 0 (drop k (bytes_of c a n)) (drop k (bytes_of b a n)) (l ∙ sym m)
    (λ i lt. let g : k + i < n = omega (arith, l, lt) in
    get_or-drop k (bytes_of c a n) i 0 ∙ byte_of c a n (k + i) g ∙ same (k + i) (omega arith) g
    ∙ sym (byte_of b a n (k + i) g) ∙ sym (get_or-drop k (bytes_of b a n) i 0))

-- a header whose image is written is spelled
pub head_there : (c : Array) (at : ℕ) (head : HeapHead) (i : Image) → IsHeadImage at head i
    → bytes_of c i.at (length i.bytes) ≡ i.bytes → SpellsHeap head (bytes_of c at 32)
head_there c at head i h e = subst (SpellsHeap head) (sym e ∙ (λ j. bytes_of c (h.at_is j) (h.spelled.block.len j)))
    h.spelled
