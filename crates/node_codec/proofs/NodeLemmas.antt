-- The keys and children of a node that is written are read again: for each width and spelling of a key.
use Rattle.std.proofs.Common.{◌≡◌, ℕ, zero, suc, ◌+◌, ◌*◌, ◌<◌, ◌≤◌, List, ◌++◌, length, take, drop, map, get_or, refl, sym, ap, ◌∙◌, arith, append_assoc, length-append, length-take}
use Rattle.std.specs.List.{All}
use Rattle.std.specs.Int.{w64, to_le_bytes}
use Rattle.std.proofs.lemmas.List.{drop_at, drop-drop, length-map, map_more, take_all}
use Rattle.std.proofs.lemmas.List.Elements.{All-map, All-take}
use Rattle.std.proofs.lemmas.Nat.{from_le_bytes-to_le_bytes_8}
use Rattle.h5_base.specs.Fields.{u64_at, u64s_at}
use Rattle.node_codec.specs.Cells.{cells, woven}
use Rattle.node_codec.specs.TreeHead.{IsU64}
use Rattle.node_codec.proofs.CellLemmas.{IsWide, woven-keys, woven-children, u64s_at-cells, map-undone, woven-more, woven-last, length-woven}

abbrev pub number : ℕ → List ℕ
number = to_le_bytes w64

pub numbers-wide : (ns : List ℕ) → All (IsWide 8) (map number ns)
numbers-wide ns = All-map (IsWide 8) number ns (λ k d lt. refl)

pub numbers-undone : (ns : List ℕ) → All IsU64 ns → map (λ c. u64_at c 0) (map number ns) ≡ ns
unfolding u64_at
numbers-undone ns all = map-undone number (λ c. u64_at c 0) ns (λ k d lt. from_le_bytes-to_le_bytes_8 (get_or ns k d) (all k d lt))

pub length-u64s_at : (b : List ℕ) (at step n : ℕ) → length (u64s_at b at step n) ≡ n
length-u64s_at b at step zero = refl
length-u64s_at b at step (suc n) = ap suc (length-u64s_at b (at + step) step n)

-- the bytes of a node from its head on
abbrev pub node : {X : Type 0} → (X → List ℕ) → List ℕ → List X → List ℕ → List ℕ → List ℕ
node f head keys children rest = (head ++ woven (map f keys) (map number children)) ++ rest

-- the keys as cells
pub keys-cells : {X : Type 0} (w : ℕ) (f : X → List ℕ) (head : List ℕ) (ks : List X) (cs rest : List ℕ) → length head ≡ 24 → All (λ x. length (f x) ≡ w) ks → length ks ≡ length cs + 1 → cells w (w + 8) (length ks) (drop 24 (node f head ks cs rest)) ≡ map f ks
keys-cells w f head ks cs rest whole wide one =
    let behind = woven (map f ks) (map number cs) ++ rest in
    let e : length (map f ks) ≡ length ks = length-map ks f in
    let counts : length (map f ks) ≡ length (map number cs) + 1 = omega (arith, length-map cs number) in
    let keys = woven-keys w 8 (map f ks) (map number cs) rest (All-map (IsWide w) f ks wide) (numbers-wide cs) counts in
    rw (append_assoc, drop_at head behind 24 whole) (ap (λ n. cells w (w + 8) n behind) (sym e) ∙ keys)

pub children-read : {X : Type 0} (w : ℕ) (f : X → List ℕ) (head : List ℕ) (ks : List X) (cs rest : List ℕ) → length head ≡ 24 → All (λ x. length (f x) ≡ w) ks → All IsU64 cs → length ks ≡ length cs + 1 → u64s_at (node f head ks cs rest) (24 + w) (w + 8) (length cs) ≡ cs
children-read w f head ks cs rest whole wide ranges one =
    let behind = woven (map f ks) (map number cs) ++ rest in
    let e : length (map number cs) ≡ length cs = length-map cs number in
    let counts : length (map f ks) ≡ length (map number cs) + 1 = omega (arith, length-map ks f) in
    let children = woven-children w 8 (map f ks) (map number cs) rest (All-map (IsWide w) f ks wide) (numbers-wide cs) counts in
    let at : drop (24 + w) (node f head ks cs rest) ≡ drop w behind =
    sym (drop-drop w 24 (node f head ks cs rest)) ∙ rw (append_assoc, drop_at head behind 24 whole) refl in
    let all : cells 8 (w + 8) (length cs) (drop w behind) ≡ map number cs = ap (λ n. cells 8 (w + 8) n (drop w behind)) (sym e) ∙ children in
    u64s_at-cells (node f head ks cs rest) (24 + w) (w + 8) (length cs) ∙ rw (at, all) (numbers-undone cs ranges)

-- how long the first keys and children are
pub length-links : {X : Type 0} (w : ℕ) (f : X → List ℕ) (ks : List X) (cs : List ℕ) (i : ℕ) → All (λ x. length (f x) ≡ w) ks → i ≤ length ks → i ≤ length cs → length (woven (map f (take i ks)) (map number (take i cs))) ≡ (w + 8) * i
length-links {X = X} w f ks cs i wide a b =
    let P : X → Type 0 = λ x. length (f x) ≡ w in
    let e : length (map number (take i cs)) ≡ i = omega (arith, length-map (take i cs) number, length-take i cs) in
    let counts : length (map f (take i ks)) ≡ length (map number (take i cs)) = omega (arith, length-map (take i ks) f, length-take i ks) in
    length-woven w 8 (map f (take i ks)) (map number (take i cs)) (All-map (IsWide w) f (take i ks) (All-take P i ks wide)) (numbers-wide (take i cs)) counts ∙ ap (λ n. (w + 8) * n) e

-- one key and one child more
pub links-more : {X : Type 0} (f : X → List ℕ) (ks : List X) (cs : List ℕ) (i : ℕ) (d : X) → i < length ks → i < length cs → woven (map f (take (i + 1) ks)) (map number (take (i + 1) cs)) ≡ woven (map f (take i ks)) (map number (take i cs)) ++ (f (get_or ks i d) ++ number (get_or cs i 0))
links-more f ks cs i d a b =
    let same : length (map f (take i ks)) ≡ length (map number (take i cs)) =
    omega (arith, length-map (take i ks) f, length-map (take i cs) number, length-take i ks, length-take i cs) in
    rw (map_more f ks i d a, map_more number cs i 0 b) (woven-more (map f (take i ks)) (map number (take i cs)) (f (get_or ks i d)) (number (get_or cs i 0)) same)

-- the key behind the last child
pub links-last : {X : Type 0} (f : X → List ℕ) (ks : List X) (cs : List ℕ) (d : X) → length ks ≡ length cs + 1 → woven (map f ks) (map number cs) ≡ woven (map f (take (length cs) ks)) (map number (take (length cs) cs)) ++ f (get_or ks (length cs) d)
links-last {X = X} f ks cs d one =
    let n = length cs in
    let lt : n < length ks = omega arith in
    let all : take n cs ≡ cs = take_all n cs (omega arith) in
    let whole : take (n + 1) ks ≡ ks = take_all (n + 1) ks (omega arith) in
    let same : length (map f (take n ks)) ≡ length (map number cs) = omega (arith, length-map (take n ks) f, length-map cs number, length-take n ks) in
    let last = woven-last (map f (take n ks)) (map number cs) (f (get_or ks n d)) same in
    sym (ap (λ (xs : List X). woven (map f xs) (map number cs)) whole) ∙ rw (map_more f ks n d lt, all) last

-- how long all keys and children are
pub length-all-links : {X : Type 0} (w : ℕ) (f : X → List ℕ) (ks : List X) (cs : List ℕ) (d : X) → All (λ x. length (f x) ≡ w) ks → length ks ≡ length cs + 1 → length (woven (map f ks) (map number cs)) ≡ (w + 8) * length cs + w
length-all-links w f ks cs d wide one =
    let n = length cs in
    let last : length (f (get_or ks n d)) ≡ w = wide n d (omega arith) in
    let before = woven (map f (take n ks)) (map number (take n cs)) in
    rw (links-last f ks cs d one) (omega (arith, length-append before (f (get_or ks n d)), length-links w f ks cs n wide (omega arith) (omega arith)))

-- keys that are numbers of 8 bytes
pub numbers-read : (head ks cs rest : List ℕ) → length head ≡ 24 → All IsU64 ks → length ks ≡ length cs + 1 → u64s_at (node number head ks cs rest) 24 16 (length ks) ≡ ks
numbers-read head ks cs rest whole ranges one =
    u64s_at-cells (node number head ks cs rest) 24 16 (length ks) ∙ rw (keys-cells 8 number head ks cs rest whole (λ k d lt. refl) one) (numbers-undone ks ranges)
