-- The children of a node as far as they were read, and the one after them.
use Rattle.std.proofs.Common.{◌≡◌, ℕ, ◌+◌, ◌<◌, ◌≤◌, ◌==◌, Bool, true, false, List, [], ◌∷◌, ◌++◌, length, drop, refl, sym, ◌∙◌, ap, subst, arith, inl, inr}
use Rattle.std.proofs.lemmas.Bool.Decides.{nat_tests}
use Rattle.std.proofs.Math.Seq.{drop-length}
use Rattle.std.proofs.lemmas.List.{append_assoc, append-nil, drop_more, length-append}
use Rattle.outside.specs.Blocks.{Block, Bounds, AreKept, AreTaken, IsApart, most_blocks}
use Rattle.node_codec.specs.declared.chunk_node.ChunkKey.{ChunkKey}
use Rattle.node_codec.specs.declared.chunk_node.ChunkNode.{ChunkNode}
use Rattle.file_model.specs.Chunks.{Chunk, Under, AreAscending}
use Rattle.h5_base.specs.declared.refusal.Refusal.{Refusal}
use Rattle.file_model.specs.RefusedChunks.{RefusedChunks, AreOffsetsRefused, IsInPlace, AreChunksRefused}
use Rattle.storage_reader.specs.Nodes.{AreChildren, IsChildOf}

-- What was read of the first children: with the others' they are all children's, and as the others are refused, the
-- children are.
pub record AreRead (Child : Under) (Refused : Bounds → RefusedChunks) (node : ℕ) (m : ChunkNode) (n : ℕ) (cs : List Chunk) (bs : List Block) : Type 0 where
  pub held : (later : List Chunk) (more : List Block) → AreChildren Child (n == 0) (drop n m.keys) (drop n m.children) later more → AreChildren Child true m.keys m.children (cs ++ later) (bs ++ more)
  pub refused : (e : Bounds) (met : List Block) (r : Refusal) → AreTaken e met bs → AreChunksRefused e node Child (Refused e) (n == 0) (drop n m.keys) (drop n m.children) cs (met ++ bs) r → AreChunksRefused e node Child (Refused e) true m.keys m.children [] met r

-- the keys and the children from one child on
pub record IsNext (m : ChunkNode) (n : ℕ) (k l : ChunkKey) (a : ℕ) : Type 0 where
  pub low_is : drop n m.keys ≡ k ∷ drop (n + 1) m.keys
  pub high_is : drop (n + 1) m.keys ≡ l ∷ drop (n + 1 + 1) m.keys
  pub child_is : drop n m.children ≡ a ∷ drop (n + 1) m.children

pub next_of : (m : ChunkNode) (n : ℕ) (k l : ChunkKey) (a : ℕ) → IsChildOf m n k l a → IsNext m n k l a
next_of m n k l a at = record {
  low_is = drop_more m.keys n k (omega arith) ∙ ap (λ (x : ChunkKey). x ∷ drop (n + 1) m.keys) (sym at.low_is);
  high_is = drop_more m.keys (n + 1) l (omega arith) ∙ ap (λ (x : ChunkKey). x ∷ drop (n + 1 + 1) m.keys) (sym at.high_is);
  child_is = drop_more m.children n 0 at.inside ∙ ap (λ (x : ℕ). x ∷ drop (n + 1) m.children) (sym at.at_is);
}

-- ---- blocks that were taken, and those of them that were taken first

apart_front : (x : Block) (xs ys : List Block) → IsApart x (xs ++ ys) → IsApart x xs
apart_front x [] ys h = tt
apart_front x (y ∷ xs) ys h = (h.0, apart_front x xs ys h.1)

kept_front : (e : Bounds) (xs ys : List Block) → AreKept e (xs ++ ys) → AreKept e xs
kept_front e [] ys h = record { some = tt; apart = tt; inside = tt }
kept_front e (x ∷ xs) ys h =
    let rest = kept_front e xs ys (record { some = h.some.1; apart = h.apart.1; inside = h.inside.1 }) in
    record { some = (h.some.0, rest.some); apart = (apart_front x xs ys h.apart.0, rest.apart); inside = (h.inside.0, rest.inside) }

taken_then : (e : Bounds) (met xs ys : List Block) → AreTaken e met (xs ++ ys) → AreTaken e (met ++ xs) ys
taken_then e met xs ys h = record {
  kept = subst (AreKept e) (sym (append_assoc met xs ys)) h.kept;
  few = subst (λ (l : List Block). length l ≤ most_blocks) (sym (append_assoc met xs ys)) h.few;
}

taken_first : (e : Bounds) (met xs ys : List Block) → AreTaken e met (xs ++ ys) → AreTaken e met xs
taken_first e met xs ys h =
    let all = taken_then e met xs ys h in
    record { kept = kept_front e (met ++ xs) ys all.kept; few = omega (arith, all.few, length-append (met ++ xs) ys) }

not_first : (n : ℕ) → (n + 1 == 0) ≡ false
not_first n = grind (arith, nat_tests)

module _ (Child : Under) (Refused : Bounds → RefusedChunks) (node : ℕ) (m : ChunkNode) where
  pub none_read : AreRead Child Refused node m 0 [] []
  none_read = record {
    held = λ later more h. h;
    refused = λ e met r taken h. subst (λ (l : List Block). AreChunksRefused e node Child (Refused e) true m.keys m.children [] l r) (append-nil met) h;
  }

  -- all were read
  pub all_read : (n : ℕ) (cs : List Chunk) (bs : List Block) → n ≡ length m.children → AreRead Child Refused node m n cs bs → AreChildren Child true m.keys m.children cs bs
  all_read n cs bs end h =
      let none : drop n m.children ≡ [] = rw end (drop-length m.children) in
      let last : AreChildren Child (n == 0) (drop n m.keys) (drop n m.children) [] [] = subst (λ (l : List ℕ). AreChildren Child (n == 0) (drop n m.keys) l [] []) (sym none) (refl, refl) in
      let whole : AreChildren Child true m.keys m.children (cs ++ []) (bs ++ []) = h.held [] [] last in
      subst (λ (l : List Chunk). AreChildren Child true m.keys m.children l bs) (append-nil cs) (subst (λ (l : List Block). AreChildren Child true m.keys m.children (cs ++ []) l) (append-nil bs) whole)

  module _ (n : ℕ) (k l : ChunkKey) (a : ℕ) (at : IsChildOf m n k l a) where
    next : IsNext m n k l a
    next = next_of m n k l a at

    -- children as they are split
    split : (cs : List Chunk) (bs : List Block) → AreChildren Child (n == 0) (k ∷ l ∷ drop (n + 1 + 1) m.keys) (a ∷ drop (n + 1) m.children) cs bs → AreChildren Child (n == 0) (drop n m.keys) (drop n m.children) cs bs
    split cs bs h =
        subst (λ (x : List ChunkKey). AreChildren Child (n == 0) x (drop n m.children) cs bs) (sym next.low_is)
        (subst (λ (x : List ChunkKey). AreChildren Child (n == 0) (k ∷ x) (drop n m.children) cs bs) (sym next.high_is)
        (subst (λ (x : List ℕ). AreChildren Child (n == 0) (k ∷ l ∷ drop (n + 1 + 1) m.keys) x cs bs) (sym next.child_is) h))

    split_refused : (e : Bounds) (done : List Chunk) (met : List Block) (r : Refusal) → AreChunksRefused e node Child (Refused e) (n == 0) (k ∷ l ∷ drop (n + 1 + 1) m.keys) (a ∷ drop (n + 1) m.children) done met r
        → AreChunksRefused e node Child (Refused e) (n == 0) (drop n m.keys) (drop n m.children) done met r
    split_refused e done met r h =
        subst (λ (x : List ChunkKey). AreChunksRefused e node Child (Refused e) (n == 0) x (drop n m.children) done met r) (sym next.low_is)
        (subst (λ (x : List ChunkKey). AreChunksRefused e node Child (Refused e) (n == 0) (k ∷ x) (drop n m.children) done met r) (sym next.high_is)
        (subst (λ (x : List ℕ). AreChunksRefused e node Child (Refused e) (n == 0) (k ∷ l ∷ drop (n + 1 + 1) m.keys) x done met r) (sym next.child_is) h))

    module _ (cs : List Chunk) (bs : List Block) (h : AreRead Child Refused node m n cs bs) where
      -- the next child is refused
      pub child_refused : (e : Bounds) (met : List Block) (r : Refusal) → AreTaken e met bs → Refused e (met ++ bs) k a r → AreChunksRefused e node Child (Refused e) true m.keys m.children [] met r
      child_refused e met r taken x = h.refused e met r taken (split_refused e cs (met ++ bs) r (inl x))

      module _ (here : List Chunk) (own : List Block) (child : Child k a here own) where
        -- the offsets under the next child are refused
        pub offsets_refused : (e : Bounds) (met : List Block) (r : Refusal) → AreTaken e met bs → AreTaken e (met ++ bs) own → AreAscending here
            → AreOffsetsRefused node (n == 0) k.offset l.offset (drop (n + 1) m.children) cs here r → AreChunksRefused e node Child (Refused e) true m.keys m.children [] met r
        offsets_refused e met r taken more ascending x = h.refused e met r taken (split_refused e cs (met ++ bs) r (inr (here, own, child, more, inl (ascending, x))))

        -- the next child is read
        pub child_read : IsInPlace (n == 0) k.offset l.offset (drop (n + 1) m.children) cs here → AreRead Child Refused node m (n + 1) (cs ++ here) (bs ++ own)
        child_read place = record { held = held_on; refused = refused_on }
          where
            rest : List ℕ
            rest = drop (n + 1) m.children

            ls : List ChunkKey
            ls = drop (n + 1 + 1) m.keys

            held_on : (later : List Chunk) (more : List Block) → AreChildren Child (n + 1 == 0) (drop (n + 1) m.keys) rest later more → AreChildren Child true m.keys m.children ((cs ++ here) ++ later) ((bs ++ own) ++ more)
            held_on later more x =
                let y : AreChildren Child false (l ∷ ls) rest later more = subst (λ (t : Bool). AreChildren Child t (l ∷ ls) rest later more) (not_first n) (subst (λ (z : List ChunkKey). AreChildren Child (n + 1 == 0) z rest later more) next.high_is x) in
                let z : AreChildren Child true m.keys m.children (cs ++ (here ++ later)) (bs ++ (own ++ more)) =
                h.held (here ++ later) (own ++ more) (split (here ++ later) (own ++ more) (here, later, own, more, child, y, place.from, place.below, refl, refl)) in
                subst (λ (c : List Chunk). AreChildren Child true m.keys m.children c ((bs ++ own) ++ more)) (sym (append_assoc cs here later))
                (subst (λ (b : List Block). AreChildren Child true m.keys m.children (cs ++ (here ++ later)) b) (sym (append_assoc bs own more)) z)

            refused_on : (e : Bounds) (met : List Block) (r : Refusal) → AreTaken e met (bs ++ own) → AreChunksRefused e node Child (Refused e) (n + 1 == 0) (drop (n + 1) m.keys) rest (cs ++ here) (met ++ (bs ++ own)) r → AreChunksRefused e node Child (Refused e) true m.keys m.children [] met r
            refused_on e met r taken x =
                let y : AreChunksRefused e node Child (Refused e) false (l ∷ ls) rest (cs ++ here) (met ++ (bs ++ own)) r =
                subst (λ (t : Bool). AreChunksRefused e node Child (Refused e) t (l ∷ ls) rest (cs ++ here) (met ++ (bs ++ own)) r) (not_first n)
                (subst (λ (z : List ChunkKey). AreChunksRefused e node Child (Refused e) (n + 1 == 0) z rest (cs ++ here) (met ++ (bs ++ own)) r) next.high_is x) in
                let z = subst (λ (b : List Block). AreChunksRefused e node Child (Refused e) false (l ∷ ls) rest (cs ++ here) b r) (sym (append_assoc met bs own)) y in
                h.refused e met r (taken_first e met bs own taken) (split_refused e cs (met ++ bs) r (inr (here, own, child, taken_then e met bs own taken, inr (place, z))))

-- the test for the last child
pub not_last : (n count : ℕ) → n < count → (n + 1 == count) ≡ false → n + 1 < count
not_last n count lt other = grind (arith, nat_tests)

pub last_not : (n count : ℕ) → n + 1 < count → (n + 1 == count) ≡ false
last_not n count lt = grind (arith, nat_tests)
