-- Blocks that were written whole.
use Rattle.std.proofs.Common.{◌≡◌, ℕ, ◌-◌, ◌≤◌, List, length, take, drop, refl, sym, ◌∙◌, arith, length-append, zero-add, replicate}
use Rattle.std.proofs.lemmas.List.{take_all, take-append-drop, drop-replicate, length-replicate}
use Rattle.h5_base.specs.Fields.{Puts}
use Rattle.node_codec.specs.Cells.{padded}

-- a write of the whole block
pub puts-whole : (old new xs : List ℕ) → Puts old new 0 xs → length new ≡ length xs → new ≡ xs
puts-whole old new xs p e =
    let f : take (length xs) new ≡ xs = rw zero-add at p.front in
    sym (take_all (length xs) new (omega arith)) ∙ f

-- a write over zeros
pub puts-padded : (len : ℕ) (new xs : List ℕ) → Puts (replicate len 0) new 0 xs → new ≡ padded len xs
puts-padded len new xs p =
    let f : take (length xs) new ≡ xs = rw zero-add at p.front in
    let r : drop (length xs) new ≡ replicate (len - length xs) 0 = rw zero-add at p.rest ∙ drop-replicate (length xs) len 0 in
    sym (take-append-drop (length xs) new) ∙ rw (f, r) refl

pub length-padded : (len : ℕ) (xs : List ℕ) → length xs ≤ len → length (padded len xs) ≡ len
length-padded len xs le = omega (arith, length-append xs (replicate (len - length xs) 0), length-replicate {A = ℕ} (len - length xs) 0)
