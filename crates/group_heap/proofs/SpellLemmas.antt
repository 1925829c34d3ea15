-- The bytes that an edit spells.
use Rattle.std.proofs.Common.{◌≡◌, ℕ, ◌+◌, ◌<◌, ◌≤◌, List, length, get_or, refl, sym, ◌∙◌, ap, subst, arith}
use Rattle.std.proofs.Common.{replicate, zero-add}
use Rattle.std.proofs.lemmas.List.{length-replicate}
use Rattle.h5_base.specs.Fields.{bytes_at, Puts}
use Rattle.block_space.specs.Plans.{rounded}
use Rattle.object_model.specs.Tree.{Name}
use Rattle.group_heap.specs.Spelled.{free_block, IsSpelled}
use Rattle.group_heap.proofs.PutLemmas.{stands_at, puts-len, puts-before, puts-inside, puts-behind, zero_at}

-- the front and the name, and 0 behind
record HasBoth (front : List ℕ) (at : ℕ) (name : Name) (len : ℕ) (v : List ℕ) : Type 0 where
  len_is : length v ≡ len
  begins : (i : ℕ) → i < length front → get_or v i 0 ≡ get_or front i 0
  gap : (i : ℕ) → length front ≤ i → i < at → get_or v i 0 ≡ 0
  named : (i : ℕ) → i < length name → get_or v (at + i) 0 ≡ get_or name i 0
  zeros : (i : ℕ) → at + length name ≤ i → get_or v i 0 ≡ 0

module _ (front : List ℕ) (at : ℕ) (name : Name) (len size : ℕ) (behind : length front ≤ at)
    (fits : at + length name + 1 ≤ len) where
  both : (v0 v1 v2 : List ℕ) → v0 ≡ replicate len 0 → Puts v0 v1 0 front → Puts v1 v2 at name → HasBoth front at name
      len v2
  both v0 v1 v2 e p q =
      let l0 : length v0 ≡ len = ap length e ∙ length-replicate len 0 in
      let f1 : 0 + length front ≤ length v0 = omega arith in
      let l1 : length v1 ≡ length v0 = puts-len v0 v1 0 front p f1 in
      let f2 : at + length name ≤ length v1 = omega arith in
      record {
        len_is = puts-len v1 v2 at name q f2 ∙ l1 ∙ l0;
        begins = λ i lt.
            puts-before v1 v2 at name q f2 i (omega (arith, lt))
            ∙ ap (λ (k : ℕ). get_or v1 k 0) (sym (zero-add i)) ∙ puts-inside v0 v1 0 front p f1 i lt;
        gap = λ i le lt.
            puts-before v1 v2 at name q f2 i lt
            ∙ puts-behind v0 v1 0 front p f1 i (omega (arith, le))
            ∙ ap (λ (l : List ℕ). get_or l i 0) e
            ∙ zero_at len i;
        named = puts-inside v1 v2 at name q f2;
        zeros = λ i le.
            puts-behind v1 v2 at name q f2 i le
            ∙ puts-behind v0 v1 0 front p f1 i (omega (arith, le))
            ∙ ap (λ (l : List ℕ). get_or l i 0) e
            ∙ zero_at len i;
      }

  spelled : (v2 v : List ℕ) → HasBoth front at name len v2 → length v ≡ len
      → ((i : ℕ) → i < rounded (at + length name + 1) → get_or v i 0 ≡ get_or v2 i 0)
      → ((i : ℕ) → rounded (at + length name + 1) + 16 ≤ i → get_or v i 0 ≡ get_or v2 i 0)
      → (rounded (at + length name + 1) + 16 ≤ len → bytes_at v (rounded (at + length name + 1)) 16 ≡ free_block size)
      → IsSpelled front at name len size v
  spelled v2 v b l before after free = record {
    len_is = l;
    begins = stands_at v 0 front (omega arith) (λ i lt. ap (λ (k : ℕ). get_or v k 0) (zero-add i) ∙ before i
        (omega (arith, lt))
        ∙ b.begins i lt);
    gap = λ i le lt. before i (omega (arith, lt)) ∙ b.gap i le lt;
    named = stands_at v at name (omega arith) (λ i lt. before (at + i) (omega (arith, lt)) ∙ b.named i lt);
    padded = λ i le lt. before i lt ∙ b.zeros i le;
    free = free;
    behind = λ i le. after i le ∙ b.zeros i (omega (arith, le));
  }

  pub spelled-with : (v0 v1 v2 v : List ℕ) → v0 ≡ replicate len 0 → Puts v0 v1 0 front → Puts v1 v2 at name
      → (next : ℕ) → next ≡ rounded (at + length name + 1) → next + 16 ≤ len → Puts v2 v next (free_block size)
      → IsSpelled front at name len size v
  spelled-with v0 v1 v2 v e p q next is room r =
      let b = both v0 v1 v2 e p q in
      let f : next + length (free_block size) ≤ length v2 = omega (arith, b.len_is) in
      let l = puts-len v2 v next (free_block size) r f in
      let whole : length v ≡ len = l ∙ b.len_is in
      spelled v2 v b whole
      (λ i lt. puts-before v2 v next (free_block size) r f i (omega (arith, is, lt)))
      (λ i le. puts-behind v2 v next (free_block size) r f i (omega (arith, is, le)))
      (λ have. subst (λ (n : ℕ). bytes_at v n 16 ≡ free_block size) is
      (stands_at v next (free_block size) (omega (arith, l, f)) (puts-inside v2 v next (free_block size) r f)))

  pub spelled-without : (v0 v1 v2 : List ℕ) → v0 ≡ replicate len 0 → Puts v0 v1 0 front → Puts v1 v2 at name
      → len < rounded (at + length name + 1) + 16 → IsSpelled front at name len size v2
  spelled-without v0 v1 v2 e p q none =
      let b = both v0 v1 v2 e p q in
      spelled v2 v2 b b.len_is (λ i lt. refl) (λ i le. refl) (λ have. absurd (omega (arith, none, have)))
