-- Blocks that are taken one part after the other.
use Rattle.std.proofs.Common.{◌≤◌, List, [], ◌∷◌, ◌++◌, length, sym, subst, arith}
use Rattle.std.proofs.lemmas.List.{append_assoc, length-append}
use Rattle.outside.specs.Blocks.{Block, Bounds, IsApart, AllApart, AllInside, AllSome, AreKept, AreTaken}

some_front : (xs ys : List Block) → AllSome (xs ++ ys) → AllSome xs
some_front [] ys h = tt
some_front (x ∷ xs) ys h = (h.0, some_front xs ys h.1)

apart_front : (x : Block) (xs ys : List Block) → IsApart x (xs ++ ys) → IsApart x xs
apart_front x [] ys h = tt
apart_front x (y ∷ xs) ys h = (h.0, apart_front x xs ys h.1)

all_front : (xs ys : List Block) → AllApart (xs ++ ys) → AllApart xs
all_front [] ys h = tt
all_front (x ∷ xs) ys h = (apart_front x xs ys h.0, all_front xs ys h.1)

inside_front : (e : Bounds) (xs ys : List Block) → AllInside e (xs ++ ys) → AllInside e xs
inside_front e [] ys h = tt
inside_front e (x ∷ xs) ys h = (h.0, inside_front e xs ys h.1)

-- the rest is taken behind the first part
pub taken_rest : (e : Bounds) (met xs ys : List Block) → AreTaken e met (xs ++ ys) → AreTaken e (met ++ xs) ys
taken_rest e met xs ys h =
    let same = sym (append_assoc met xs ys) in
    record { kept = subst (AreKept e) same h.kept; few = subst (λ (l : List Block). length l ≤ 1048576) same h.few }

-- and the first part alone
pub taken_first : (e : Bounds) (met xs ys : List Block) → AreTaken e met (xs ++ ys) → AreTaken e met xs
taken_first e met xs ys h =
    let all = taken_rest e met xs ys h in
    let longer = length-append (met ++ xs) ys in
    let few = all.few in
    record {
      kept = record {
        some = some_front (met ++ xs) ys all.kept.some;
        apart = all_front (met ++ xs) ys all.kept.apart;
        inside = inside_front e (met ++ xs) ys all.kept.inside;
      };
      few = omega (arith, longer, few);
    }

-- two parts are one
pub taken_both : (e : Bounds) (met xs ys : List Block) → AreTaken e (met ++ xs) ys → AreTaken e met (xs ++ ys)
taken_both e met xs ys h =
    let same = append_assoc met xs ys in
    record { kept = subst (AreKept e) same h.kept; few = subst (λ (l : List Block). length l ≤ 1048576) same h.few }
