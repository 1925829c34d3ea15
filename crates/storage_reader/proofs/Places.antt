-- The ends of lists of chunks decide whether keys and lists are in order.
use Rattle.std.proofs.Common.{◌≡◌, ℕ, ◌-◌, ◌<◌, Bool, true, false, not, IsTrue, List, [], ◌∷◌, ◌++◌, length, drop, get_or, refl, sym, subst, ap, ◌∙◌, arith}
use Rattle.std.proofs.lemmas.List.{append_assoc, length-drop}
use Rattle.outside.specs.Blocks.{Block}
use Rattle.node_codec.specs.declared.chunk_node.ChunkKey.{ChunkKey}
use Rattle.outside.specs.Array.{Array}
use Rattle.file_model.specs.Index.{Bottom, Node}
use Rattle.file_model.specs.Chunks.{Chunk, ChunkIndex, chunks_under, address_of, HasKey, IsIndex}
use Rattle.file_model.specs.Chunks.{AreAscending, IsBelow, IsAtMost, IsAbove, comes_before}
use Rattle.storage_reader.specs.Ends.{AreEnds}
use Rattle.storage_reader.specs.Nodes.{AreChildren, child_at}
use Rattle.storage_reader.specs.declared.form.Form.{Form}
use Rattle.storage_reader.proofs.Orders.{at_most_all, above_all, above_last, joined, between}

-- the key is at most all of them where it is at most the first
pub at_most_ends : (key first last : List ℕ) (cs : List Chunk) → AreEnds first last cs → AreAscending cs → comes_before first key ≡ false → IsAtMost key cs
at_most_ends key first last cs h ordered low =
    subst (IsAtMost key) (sym h.begins)
    (at_most_all key h.head h.tail (subst AreAscending h.begins ordered) (subst (λ (l : List ℕ). comes_before l key ≡ false) (sym h.first_is) low))

pub at_most_first : (key first last : List ℕ) (cs : List Chunk) → AreEnds first last cs → IsAtMost key cs → comes_before first key ≡ false
at_most_first key first last cs h most =
    let m : IsAtMost key (h.head ∷ h.tail) = subst (IsAtMost key) h.begins most in
    subst (λ (l : List ℕ). comes_before l key ≡ false) h.first_is m.0

pub above_ends : (key first last : List ℕ) (cs : List Chunk) → AreEnds first last cs → AreAscending cs → IsTrue (comes_before last key) → IsAbove key cs
above_ends key first last cs h ordered high =
    subst (IsAbove key) (sym h.finishes)
    (above_all key h.front h.final (subst AreAscending h.finishes ordered) (subst (λ (l : List ℕ). IsTrue (comes_before l key)) (sym h.last_is) high))

pub above_final : (key first last : List ℕ) (cs : List Chunk) → AreEnds first last cs → IsAbove key cs → IsTrue (comes_before last key)
above_final key first last cs h above =
    subst (λ (l : List ℕ). IsTrue (comes_before l key)) h.last_is (above_last key h.front h.final (subst (IsAbove key) h.finishes above))

pub join_ordered : (f l g m : List ℕ) (done cs : List Chunk) → AreEnds f l done → AreEnds g m cs → AreAscending done → AreAscending cs → IsTrue (comes_before l g) → AreAscending (done ++ cs)
join_ordered f l g m done cs h k a b lt =
    let lt' : IsTrue (comes_before h.final.offset k.head.offset) =
    subst (λ (x : List ℕ). IsTrue (comes_before x k.head.offset)) (sym h.last_is) (subst (λ (x : List ℕ). IsTrue (comes_before l x)) (sym k.first_is) lt) in
    subst (λ (x : List Chunk). AreAscending (x ++ cs)) (sym h.finishes)
    (subst (λ (x : List Chunk). AreAscending ((h.front ++ h.final ∷ []) ++ x)) (sym k.begins)
    (joined h.front h.final k.head k.tail (subst AreAscending h.finishes a) (subst AreAscending k.begins b) lt'))

pub ordered_between : (f l g m : List ℕ) (done cs : List Chunk) → AreEnds f l done → AreEnds g m cs → AreAscending (done ++ cs) → IsTrue (comes_before l g)
ordered_between f l g m done cs h k a =
    let b : AreAscending ((h.front ++ h.final ∷ []) ++ (k.head ∷ k.tail)) =
    subst (λ (x : List Chunk). AreAscending ((h.front ++ h.final ∷ []) ++ x)) k.begins (subst (λ (x : List Chunk). AreAscending (x ++ cs)) h.finishes a) in
    subst (λ (x : List ℕ). IsTrue (comes_before l x)) k.first_is (subst (λ (x : List ℕ). IsTrue (comes_before x k.head.offset)) h.last_is (between h.front h.final k.head k.tail b))

-- ---- the tests

is_false : (t : Bool) → IsTrue (not t) → t ≡ false
is_false false h = refl
is_false true h = cc

pub from_tested : (low first last : List ℕ) (t : Bool) → t ≡ comes_before first low → (cs : List Chunk) → AreEnds first last cs → AreAscending cs → (IsTrue (not t) → IsAtMost low cs) × (IsAtMost low cs → IsTrue (not t))
from_tested low first last t is cs h ordered =
    (λ yes. at_most_ends low first last cs h ordered (sym is ∙ is_false t yes), λ most. let e : t ≡ false = is ∙ at_most_first low first last cs h most in rw e refl)

below_some : (later high first last : List ℕ) (t : Bool) → t ≡ comes_before last high → 0 < length later → (cs : List Chunk) → AreEnds first last cs → AreAscending cs → (IsTrue t → IsBelow later high cs) × (IsBelow later high cs → IsTrue t)
below_some [] high first last t is some cs h ordered = absurd (omega arith)
below_some (a ∷ later) high first last t is some cs h ordered =
    (λ yes. above_ends high first last cs h ordered (sym is ∙ yes), λ above. is ∙ above_final high first last cs h above)

pub below_tested : (children : List ℕ) (n : ℕ) (high first last : List ℕ) (t : Bool) → t ≡ comes_before last high → n < length children → (cs : List Chunk) → AreEnds first last cs → AreAscending cs
    → (IsTrue t → IsBelow (drop n children) high cs) × (IsBelow (drop n children) high cs → IsTrue t)
below_tested children n high first last t is lt = below_some (drop n children) high first last t is (omega (arith, length-drop n children))

pub follow_tested : (f l g m : List ℕ) (t : Bool) → t ≡ comes_before l g → (done cs : List Chunk) → AreEnds f l done → AreEnds g m cs → AreAscending done → AreAscending cs
    → (IsTrue t → AreAscending (done ++ cs)) × (AreAscending (done ++ cs) → IsTrue t)
follow_tested f l g m t is done cs h k a b = (λ yes. join_ordered f l g m done cs h k a b (sym is ∙ yes), λ ordered. is ∙ ordered_between f l g m done cs h k ordered)

-- ---- ends of two lists, and of the chunks of a node

pub join_ends : (f l g m : List ℕ) (done cs : List Chunk) → AreEnds f l done → AreEnds g m cs → AreEnds f m (done ++ cs)
join_ends f l g m done cs h k = record {
  head = h.head;
  tail = h.tail ++ cs;
  begins = ap (λ (x : List Chunk). x ++ cs) h.begins;
  first_is = h.first_is;
  front = done ++ k.front;
  final = k.final;
  finishes = ap (λ (x : List Chunk). done ++ x) k.finishes ∙ sym (append_assoc done k.front (k.final ∷ []));
  last_is = k.last_is;
}

-- what stands at height 0 is one chunk
chunk_is : (b : Array) (f : Form) (key : ChunkKey) (at : ℕ) (cs : List Chunk) (bs : List Block) → child_at b f 0 key at cs bs
    → cs ≡ record { offset = key.offset; at = at } ∷ []
chunk_is b f key at cs bs h = h.chunks ∙ go h.index h.stands h.behind h.address
  where
    go : (x : ChunkIndex) → IsIndex b f.k f.rank f.sizes 0 x → HasKey key x → address_of x ≡ at
        → chunks_under x ≡ record { offset = key.offset; at = at } ∷ []
    go (Bottom c) stands behind address = λ j. record { offset = (behind j).offset; at = address j } ∷ []
    go (Node n xs) stands behind address = absurd stands

stored_ends : (b : Array) (f : Form) (first : Bool) (keys : List ChunkKey) (a : ℕ) (rest : List ℕ) (cs : List Chunk) (bs : List Block) (k l : ChunkKey) → AreChildren (child_at b f 0) first keys (a ∷ rest) cs bs
    → k ≡ get_or keys 0 k → l ≡ get_or keys (length rest) l → AreEnds k.offset l.offset cs
stored_ends b f first [] a rest cs bs k l h low high = absurd h
stored_ends b f first (i ∷ []) a rest cs bs k l h low high = absurd h
stored_ends b f first (i ∷ j ∷ ks) a [] cs bs k l (here, later, own, more, child, others, from, below, cs_is, bs_is) low high =
    let own_chunk : Chunk = record { offset = i.offset; at = a } in
    let one : cs ≡ own_chunk ∷ [] = cs_is ∙ ap (λ (x : List Chunk). x ++ later) (chunk_is b f i a here own child) ∙ ap (λ (x : List Chunk). own_chunk ∷ x) others.0 in
    record {
      head = own_chunk;
      tail = [];
      begins = one;
      first_is = ap (λ (x : ChunkKey). x.offset) (sym low);
      front = [];
      final = own_chunk;
      finishes = one;
      last_is = ap (λ (x : ChunkKey). x.offset) (sym high);
    }
stored_ends b f first (i ∷ j ∷ ks) a (next_at ∷ rest) cs bs k l (here, later, own, more, child, others, from, below, cs_is, bs_is) low high =
    let own_chunk : Chunk = record { offset = i.offset; at = a } in
    let next : AreEnds j.offset l.offset later = stored_ends b f false (j ∷ ks) next_at rest later more j l others refl high in
    let all : cs ≡ own_chunk ∷ later = cs_is ∙ ap (λ (x : List Chunk). x ++ later) (chunk_is b f i a here own child) in
    record {
      head = own_chunk;
      tail = later;
      begins = all;
      first_is = ap (λ (x : ChunkKey). x.offset) (sym low);
      front = own_chunk ∷ next.front;
      final = next.final;
      finishes = all ∙ ap (λ (x : List Chunk). own_chunk ∷ x) next.finishes;
      last_is = next.last_is;
    }

pub leaf_ends : (b : Array) (f : Form) (keys : List ChunkKey) (children : List ℕ) (cs : List Chunk) (bs : List Block) (k l : ChunkKey) → AreChildren (child_at b f 0) true keys children cs bs → 0 < length children
    → k ≡ get_or keys 0 k → l ≡ get_or keys (length children - 1) l → AreEnds k.offset l.offset cs
leaf_ends b f keys [] cs bs k l h some low high = absurd (omega arith)
leaf_ends b f keys (a ∷ rest) cs bs k l h some low high =
    let n : length (a ∷ rest) - 1 ≡ length rest = omega arith in
    stored_ends b f true keys a rest cs bs k l h low (subst (λ (m : ℕ). l ≡ get_or keys m l) n high)

pub same_ends : (f g l m : List ℕ) (cs : List Chunk) → f ≡ g → l ≡ m → AreEnds f l cs → AreEnds g m cs
same_ends f g l m cs first last h = subst (λ (x : List ℕ). AreEnds x m cs) first (subst (λ (x : List ℕ). AreEnds f x cs) last h)
