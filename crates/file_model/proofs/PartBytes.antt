-- Parts of the bytes of an array.
use Rattle.std.proofs.Common.{◌≡◌, ℕ, zero, suc, ◌+◌, ◌-◌, ◌<◌, ◌≤◌, ◌++◌, take, drop, refl, sym, ap, ◌∙◌, arith}
use Rattle.std.specs.Prelude.{slice_index}
use Rattle.std.proofs.lemmas.List.FromFn.{take-map-range_with_len, get_or-map-range_with_len}
use Rattle.std.proofs.lemmas.List.{drop-drop, take-append-drop}
use Rattle.outside.specs.Array.{Array, bytes_of}
use Rattle.h5_base.specs.Fields.{bytes_at}
use Rattle.file_model.proofs.FrameBytes.{Same, bytes_same}

pub drop_bytes : (b : Array) (at n k : ℕ) → k ≤ n → drop k (bytes_of b at n) ≡ bytes_of b (at + k) (n - k)
drop_bytes b at n zero le = let a : at + 0 ≡ at = omega arith in let m : n - 0 ≡ n = omega arith in rw (a, m) refl
drop_bytes b at zero (suc k) le = absurd (omega arith)
drop_bytes b at (suc n) (suc k) le =
    let a : at + 1 + k ≡ at + suc k = omega arith in
    let m : n - k ≡ suc n - suc k = omega arith in
    drop_bytes b (at + 1) n k (omega arith) ∙ (λ j. bytes_of b (a j) (m j))

pub part_bytes : (b : Array) (at n k m : ℕ) → k + m ≤ n → bytes_at (bytes_of b at n) k m ≡ bytes_of b (at + k) m
part_bytes b at n k m le = ap (take m) (drop_bytes b at n k (omega arith)) ∙ take-map-range_with_len b (at + k) (n - k) m (omega arith)

-- two arrays with the same bytes there
pub part_same : (b c : Array) (m n k w : ℕ) → k + w ≤ m → k + w ≤ n → Same b c k w → bytes_at (bytes_of b 0 m) k w ≡ bytes_at (bytes_of c 0 n) k w
part_same b c m n k w le le' same =
    let here : 0 + k ≡ k = omega arith in
    part_bytes b 0 m k w le ∙ rw here (bytes_same b c k w same) ∙ sym (part_bytes c 0 n k w le')

-- and the same behind a place
pub behind_same : (b c : Array) (m n p k w : ℕ) → p + k + w ≤ m → p + k + w ≤ n → Same b c (p + k) w → bytes_at (drop p (bytes_of b 0 m)) k w ≡ bytes_at (drop p (bytes_of c 0 n)) k w
behind_same b c m n p k w le le' same =
    ap (take w) (drop-drop k p (bytes_of b 0 m)) ∙ part_same b c m n (p + k) w le le' same ∙ ap (take w) (sym (drop-drop k p (bytes_of c 0 n)))

pub byte_same : (b c : Array) (m n i : ℕ) → i < m → i < n → b i ≡ c i → slice_index (bytes_of b 0 m) i ≡ slice_index (bytes_of c 0 n) i
byte_same b c m n i lt lt' same =
    get_or-map-range_with_len b 0 m i i 0 lt (omega arith) ∙ same ∙ sym (get_or-map-range_with_len c 0 n i i 0 lt' (omega arith))

-- the first bytes, and those behind
pub split_bytes : (b : Array) (at n k : ℕ) → k ≤ n → bytes_of b at n ≡ bytes_of b at k ++ bytes_of b (at + k) (n - k)
split_bytes b at n k le =
    let front : take k (bytes_of b at n) ≡ bytes_of b at k = take-map-range_with_len b at n k le in
    let back : drop k (bytes_of b at n) ≡ bytes_of b (at + k) (n - k) = drop_bytes b at n k le in
    sym (take-append-drop k (bytes_of b at n)) ∙ (λ j. front j ++ back j)
