-- The parts of a header one after another: the same relation as `AreMet` and `AreCounted`, by recursion over the parts.
use Rattle.std.proofs.Common.{◌≡◌, ℕ, ◌+◌, ◌-◌, ◌<◌, ◌≤◌, ◌⊎◌, List, [], ◌∷◌, ◌++◌, length, refl, sym, ◌∙◌, ap, subst, arith, inl, inr}
use Rattle.std.specs.Prelude.{All}
use Rattle.std.specs.List.{flat_map}
use Rattle.std.proofs.lemmas.List.{append_assoc, append-nil, length-append}
use Rattle.std.proofs.lemmas.List.Elements.{All-nil, All-cons, All-head, All-tail, All-append}
use Rattle.std.proofs.lemmas.Grind.{flat_map-append}
use Rattle.outside.specs.Array.{Array}
use Rattle.header_codec.specs.declared.types.Prefix.{Prefix}
use Rattle.outside.specs.Blocks.{Block}
use Rattle.file_model.specs.Headers.{Met, after, Part, part_bytes, IsMet, IsAtEnd, AreNamed, AreMet, AreCounted, continued}
use Rattle.file_model.specs.Headers.{messages_of, blocks_of_parts, first_block, IsHeader}

-- ---- parts and the blocks that wait

-- The blocks that wait are read one after another, those that the messages of a part name behind the others.
abbrev pub AreDrawn : (waiting : List Block) → List Part → (left : List Block) → Type 0
AreDrawn waiting [] left = left ≡ waiting
AreDrawn waiting (p ∷ ps) left =
    (more : List Block) × (waiting ≡ p.block ∷ more) × AreDrawn (more ++ flat_map continued p.messages) ps left

tails : (x : Block) (xs ys : List Block) → x ∷ xs ≡ x ∷ ys → xs ≡ ys
tails x xs ys e = cc

-- the blocks that wait at first, and those that a part names before those of the others
waiting_split : (more : List Block) (p : Part) (ps : List Part)
    → more ++ flat_map continued (messages_of (p ∷ ps))
    ≡ (more ++ flat_map continued p.messages) ++ flat_map continued (messages_of ps)
waiting_split more p ps =
    ap (λ (l : List Block). more ++ l) (flat_map-append continued p.messages (messages_of ps))
    ∙ sym (append_assoc more (flat_map continued p.messages) (flat_map continued (messages_of ps)))

-- all blocks that waited, and those that the messages name, were read or are left
pub drawn_all : (waiting : List Block) (parts : List Part) (left : List Block) → AreDrawn waiting parts left
    → waiting ++ flat_map continued (messages_of parts) ≡ blocks_of_parts parts ++ left
drawn_all waiting [] left h = append-nil waiting ∙ sym h
drawn_all waiting (p ∷ ps) left (more, is, h) =
    ap (λ (l : List Block). l ++ flat_map continued (messages_of (p ∷ ps))) is
    ∙ ap (λ (l : List Block). p.block ∷ l)
    (waiting_split more p ps ∙ drawn_all (more ++ flat_map continued p.messages) ps left h)

-- the parts in front were read before
pub drawn_front : (waiting : List Block) (before later : List Part) (left : List Block)
    → AreDrawn waiting (before ++ later) left → (middle : List Block) × AreDrawn waiting before middle × AreDrawn middle later left
drawn_front waiting [] later left h = (waiting, refl, h)
drawn_front waiting (p ∷ ps) later left (more, is, h) =
    let rest = drawn_front (more ++ flat_map continued p.messages) ps later left h in
    (rest.0, (more, is, rest.1), rest.2)

pub drawn_both : (waiting : List Block) (before later : List Part) (middle left : List Block)
    → AreDrawn waiting before middle → AreDrawn middle later left → AreDrawn waiting (before ++ later) left
drawn_both waiting [] later middle left h k = subst (λ (l : List Block). AreDrawn l later left) h k
drawn_both waiting (p ∷ ps) later middle left (more, is, h) k =
    (more, is, drawn_both (more ++ flat_map continued p.messages) ps later middle left h k)

-- each part is the next of the blocks that are named before it
named_of : (first : Block) (parts : List Part) (left : List Block) → AreDrawn (first ∷ []) parts left → AreNamed first parts
named_of first parts left h before later p is =
    let split = drawn_front (first ∷ []) before (p ∷ later) left
    (subst (λ (l : List Part). AreDrawn (first ∷ []) l left) is h) in
    let next = split.2 in
    (next.0, drawn_all (first ∷ []) before split.0 split.1 ∙ ap (λ (l : List Block). blocks_of_parts before ++ l) next.1)

-- and by what is named before each part, the parts are read one after another
drawn_of : (waiting : List Block) (parts : List Part) (left : List Block)
    → ((before later : List Part) (p : Part) → parts ≡ before ++ p ∷ later → (more : List Block)
    × (waiting ++ flat_map continued (messages_of before) ≡ blocks_of_parts before ++ p.block ∷ more))
    → waiting ++ flat_map continued (messages_of parts) ≡ blocks_of_parts parts ++ left → AreDrawn waiting parts left
drawn_of waiting [] left named rest = sym rest ∙ append-nil waiting
drawn_of waiting (p ∷ ps) left named rest =
    let one = named [] ps p refl in
    let more = one.0 in
    let is : waiting ≡ p.block ∷ more = sym (append-nil waiting) ∙ one.1 in
    let named' : (before later : List Part) (q : Part) → ps ≡ before ++ q ∷ later → (more' : List Block)
    × ((more ++ flat_map continued p.messages) ++ flat_map continued (messages_of before)
    ≡ blocks_of_parts before ++ q.block ∷ more') =
    λ before later q e.
    let two = named (p ∷ before) later q (ap (λ (l : List Part). p ∷ l) e) in
    (two.0, behind is before (blocks_of_parts before ++ q.block ∷ two.0) two.1) in
    (more, is, drawn_of (more ++ flat_map continued p.messages) ps left named' (behind is ps (blocks_of_parts ps ++ left) rest))
  where
    behind : {more : List Block} → waiting ≡ p.block ∷ more → (qs : List Part) (xs : List Block)
        → waiting ++ flat_map continued (messages_of (p ∷ qs)) ≡ p.block ∷ xs
        → (more ++ flat_map continued p.messages) ++ flat_map continued (messages_of qs) ≡ xs
    behind {more} is qs xs e =
        sym (waiting_split more p qs)
        ∙ tails p.block (more ++ flat_map continued (messages_of (p ∷ qs))) xs
        (sym (ap (λ (l : List Block). l ++ flat_map continued (messages_of (p ∷ qs))) is) ∙ e)

-- ---- parts that are met

pub drawn : (b : Array) (first : Block) (parts : List Part) (left : List Block) → AreMet b first parts left
    → AreDrawn (first ∷ []) parts left
drawn b first parts left h = drawn_of (first ∷ []) parts left h.named h.rest

pub met_of_drawn : (b : Array) (first : Block) (parts : List Part) (left : List Block) → AreDrawn (first ∷ []) parts left
    → All (IsMet b) parts → AreMet b first parts left
met_of_drawn b first parts left h met = record {
  named = named_of first parts left h;
  rest = drawn_all (first ∷ []) parts left h;
  met = met;
}

-- nothing was read yet
pub met_none : (b : Array) (first : Block) → AreMet b first [] (first ∷ [])
met_none b first = met_of_drawn b first [] (first ∷ []) refl (All-nil (IsMet b))

-- the next block that waits was read, and those that its messages name wait
pub met_more : (b : Array) (first : Block) (parts : List Part) (p : Part) (more : List Block)
    → AreMet b first parts (p.block ∷ more) → IsMet b p
    → AreMet b first (parts ++ p ∷ []) (more ++ flat_map continued p.messages)
met_more b first parts p more h here =
    met_of_drawn b first (parts ++ p ∷ []) (more ++ flat_map continued p.messages)
    (drawn_both (first ∷ []) parts (p ∷ []) (p.block ∷ more) (more ++ flat_map continued p.messages)
    (drawn b first parts (p.block ∷ more) h) (more, refl, refl))
    (All-append (IsMet b) parts (p ∷ []) h.met (All-cons (IsMet b) p [] here (All-nil (IsMet b))))

-- and before it was read, it was the next
pub met_before : (b : Array) (first : Block) (parts : List Part) (p : Part) (left : List Block)
    → AreMet b first (parts ++ p ∷ []) left
    → (more : List Block) × AreMet b first parts (p.block ∷ more) × IsMet b p × (left ≡ more ++ flat_map continued p.messages)
met_before b first parts p left h =
    let split = drawn_front (first ∷ []) parts (p ∷ []) left (drawn b first (parts ++ p ∷ []) left h) in
    let next = split.2 in
    let front = all_front b parts (p ∷ []) h.met in
    let was : AreDrawn (first ∷ []) parts (p.block ∷ next.0) = subst (AreDrawn (first ∷ []) parts) next.1 split.1 in
    (next.0, met_of_drawn b first parts (p.block ∷ next.0) was front.0, All-head (IsMet b) p [] front.1, next.2)
  where
    all_front : (b : Array) (ps qs : List Part) → All (IsMet b) (ps ++ qs) → All (IsMet b) ps × All (IsMet b) qs
    all_front b [] qs h = (All-nil (IsMet b), h)
    all_front b (p ∷ ps) qs h =
        let rest = all_front b ps qs (All-tail (IsMet b) p (ps ++ qs) h) in
        (All-cons (IsMet b) p ps (All-head (IsMet b) p (ps ++ qs) h) rest.0, rest.1)

-- ---- parts that are counted

-- Each part but the last was read to its end, and the last has a message.
abbrev pub AreEnded : Array → List Part → Type 0
AreEnded b [] = Unit {0}
AreEnded b (p ∷ []) = 0 < length p.messages
AreEnded b (p ∷ q ∷ ps) = IsAtEnd b p × AreEnded b (q ∷ ps)

ended_tail : (b : Array) (p : Part) (ps : List Part) → AreEnded b (p ∷ ps) → AreEnded b ps
ended_tail b p [] h = tt
ended_tail b p (q ∷ ps) h = h.1

pub ended_of : (b : Array) (count : ℕ) (parts : List Part) → AreCounted b count parts → AreEnded b parts
ended_of b count parts h = go parts h.ended h.some
  where
    go : (ps : List Part) → ((before later : List Part) (p q : Part) → ps ≡ before ++ p ∷ q ∷ later → IsAtEnd b p)
        → ((before : List Part) (p : Part) → ps ≡ before ++ p ∷ [] → 0 < length p.messages) → AreEnded b ps
    go [] ended some = tt
    go (p ∷ []) ended some = some [] p refl
    go (p ∷ q ∷ ps) ended some = (
      ended [] ps p q refl,
      go (q ∷ ps) (λ before later x y e. ended (p ∷ before) later x y (ap (λ (l : List Part). p ∷ l) e))
          (λ before x e. some (p ∷ before) x (ap (λ (l : List Part). p ∷ l) e)),
    )

pub counted_of : (b : Array) (count : ℕ) (parts : List Part) → AreEnded b parts → length (messages_of parts) ≡ count
    → AreCounted b count parts
counted_of b count parts h number = record {
  number = number;
  ended = λ before later p q e. at_end before later p q (subst (AreEnded b) e h);
  some = λ before p e. last before p (subst (AreEnded b) e h);
}
  where
    at_end : (before later : List Part) (p q : Part) → AreEnded b (before ++ p ∷ q ∷ later) → IsAtEnd b p
    at_end [] later p q h = h.0
    at_end (z ∷ zs) later p q h = at_end zs later p q (ended_tail b z (zs ++ p ∷ q ∷ later) h)

    last : (before : List Part) (p : Part) → AreEnded b (before ++ p ∷ []) → 0 < length p.messages
    last [] p h = h
    last (z ∷ zs) p h = last zs p (ended_tail b z (zs ++ p ∷ []) h)

pub number_first : (p : Part) (ps : List Part)
    → length (messages_of (p ∷ ps)) ≡ length p.messages + length (messages_of ps)
number_first p ps = length-append p.messages (messages_of ps)

ended_some : (b : Array) (p : Part) (ps : List Part) → AreEnded b (p ∷ ps) → 0 < length (messages_of (p ∷ ps))
ended_some b p [] h = omega (arith, number_first p [], h)
ended_some b p (q ∷ ps) h = omega (arith, number_first p (q ∷ ps), ended_some b q ps h.1)

-- ---- a whole reading

-- All messages of a part were read, since too few bytes for one more follow, or since as many as are wanted were.
abbrev pub IsRead : List ℕ → ℕ → List Met → Type 0
IsRead bytes count ms = (length bytes < after 0 ms + 8) ⊎ (length ms ≡ count)

-- The parts were read one after another from the blocks that wait, until so many messages were met.
pub record AreRead (b : Array) (waiting : List Block) (count : ℕ) (parts : List Part) (left : List Block) : Type 0 where
  pub drawn : AreDrawn waiting parts left
  pub met : All (IsMet b) parts
  pub ended : AreEnded b parts
  pub number : length (messages_of parts) ≡ count

-- the first part of them, and what is read behind it
pub record FirstRead (b : Array) (waiting : List Block) (count : ℕ) (p : Part) (ps : List Part)
    (left : List Block) : Type 0 where
  pub more : List Block
  pub next : waiting ≡ p.block ∷ more
  pub met : IsMet b p
  pub few : length p.messages ≤ count
  pub some : 0 < count
  pub read : IsRead (part_bytes b p) count p.messages
  pub rest : AreRead b (more ++ flat_map continued p.messages) (count - length p.messages) ps left

pub read_first : (b : Array) (waiting : List Block) (count : ℕ) (p : Part) (ps : List Part) (left : List Block)
    → AreRead b waiting count (p ∷ ps) left → FirstRead b waiting count p ps left
read_first b waiting count p ps left h =
    let number = h.number in
    let sum = number_first p ps in
    record {
      more = h.drawn.0;
      next = h.drawn.1;
      met = All-head (IsMet b) p ps h.met;
      few = omega arith;
      some = omega (arith, ended_some b p ps h.ended);
      read = is_read ps h.ended number;
      rest = record {
        drawn = h.drawn.2;
        met = All-tail (IsMet b) p ps h.met;
        ended = ended_tail b p ps h.ended;
        number = omega arith;
      };
    }
  where
    is_read : (ps : List Part) → AreEnded b (p ∷ ps) → length (messages_of (p ∷ ps)) ≡ count
        → IsRead (part_bytes b p) count p.messages
    is_read [] ended number = inr (ap length (sym (append-nil p.messages)) ∙ number)
    is_read (q ∷ qs) ended number = inl ended.0

-- a header's parts are a whole reading
pub read_of : (b : Array) (at : ℕ) (prefix : Prefix) (parts : List Part) (h : IsHeader b at prefix parts)
    → AreRead b (first_block at prefix ∷ []) prefix.messages parts h.unread
read_of b at prefix parts h = record {
  drawn = drawn b (first_block at prefix) parts h.unread h.met;
  met = h.met.met;
  ended = ended_of b prefix.messages parts h.counted;
  number = h.counted.number;
}
