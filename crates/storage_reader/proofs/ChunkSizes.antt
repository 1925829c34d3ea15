-- The bytes of a chunk, and the multiples of its sizes.
use Rattle.std.proofs.Common.{◌≡◌, ℕ, zero, suc, ◌%◌, ◌^◌, ◌<◌, ◌≤◌, List, [], ◌∷◌, length, take, get_or, arith}
use Rattle.dtype.specs.Products.{product, FitsFile}
use Rattle.header_codec.specs.Layouts.{IsChunk}
use Rattle.header_codec.proofs.SizeLaws.{product-some}
use Rattle.file_model.specs.Chunks.{AreMultiples}

pub few_bytes : (ns : List ℕ) → IsChunk ns → product ns < 2 ^ 32
few_bytes ns h = h.bytes

pub some_bytes : (ns : List ℕ) → IsChunk ns → 0 < product ns
some_bytes ns h = product-some ns h.some

pub chunk_fits : (ns : List ℕ) → IsChunk ns → FitsFile ns 1
chunk_fits ns h = omega (arith, few_bytes ns h)

-- each number is a multiple of the size in its place
abbrev pub EachMultiple : List ℕ → List ℕ → ℕ → Type 0
EachMultiple ss ns n = (k : ℕ) → k < n → get_or ns k 0 % get_or ss k 0 ≡ 0

pub multiples : (ss ns : List ℕ) → length ns ≤ length ss → EachMultiple ss ns (length ns) → AreMultiples (take (length ns) ss) ns
multiples ss [] room h = tt
multiples [] (n ∷ ns) room h = absurd (omega arith)
multiples (s ∷ ss) (n ∷ ns) room h = (h 0 (omega arith), multiples ss ns (omega arith) (λ k lt. h (suc k) (omega arith)))

pub multiple_at : (ss ns : List ℕ) (k : ℕ) → length ns ≤ length ss → k < length ns → AreMultiples (take (length ns) ss) ns → get_or ns k 0 % get_or ss k 0 ≡ 0
multiple_at ss [] k room lt h = absurd (omega arith)
multiple_at [] (n ∷ ns) k room lt h = absurd (omega arith)
multiple_at (s ∷ ss) (n ∷ ns) zero room lt h = h.0
multiple_at (s ∷ ss) (n ∷ ns) (suc k) room lt h = multiple_at ss ns k (omega arith) (omega arith) h.1
