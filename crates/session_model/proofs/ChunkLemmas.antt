-- What a first write to a chunked dataset takes.
use Rattle.std.proofs.Common.{◌≡◌, ◌≢◌, append-nil, ℕ, zero, suc, ◌<◌, Bool, true, false, ◌&&◌, List, [], ◌∷◌, ◌++◌}
use Rattle.std.proofs.Common.{length, replicate, refl, sym, ◌∙◌, ap, subst, lit<, lit≤, arith}
use Rattle.std.specs.Prelude.{IsTrue, nat_le, nat_lt}
use Rattle.std.specs.List.{Contains}
use Rattle.h5_base.specs.Fields.{undefined}
use Rattle.outside.specs.Array.{Array}
use Rattle.block_space.specs.declared.plan.Take.{Take}
use Rattle.std.proofs.lemmas.Bool.{leb-true, ltb-true}
use Rattle.header_codec.specs.declared.types.Layout.{Layout}
use Rattle.object_model.specs.Boxes.{in_box, floor_to, all_le, all_lt}
use Rattle.file_model.specs.Chunks.{comes_before, chunk_at, chunk_sizes}
use Rattle.file_model.specs.Holds.{DataAt}
use Rattle.session_model.specs.Room.{raw_take, chunk_node_take, IsMissing, AreMissing, TakesChunks, TakesStorage}
use Rattle.session_model.specs.Room.{IndexGrows, FirstChunks, MoreChunks}
use Rattle.session_model.specs.Laws.{ChunksTakeNoNode, HasNodesWithRoom}
use Rattle.session_model.specs.Examples.{IsNewChunked, ChunkTakes, chunk_takes}
use Rattle.session_model.proofs.WriteLemmas.{data_is}

abbrev last : List ℕ
last = 4 ∷ 4 ∷ []

abbrev sizes : List ℕ
sizes = 2 ∷ 2 ∷ []

abbrev ones : List ℕ
ones = 1 ∷ 1 ∷ []

and_both : (a b : Bool) → (a && b) ≡ true → (a ≡ true) × (b ≡ true)
and_both true b h = (refl, h)
and_both false b h = cc

no : false ≡ true → ⊥
no h = cc

-- the box has one index
one_index : (i : List ℕ) → IsTrue (in_box last ones i) → i ≡ last
one_index [] inside = cc
one_index (a ∷ []) inside =
    let low = (and_both (all_le last (a ∷ [])) _ inside).0 in absurd (no (and_both (nat_le 4 a) false low).1)
one_index (a ∷ b ∷ []) inside =
    let both = and_both (all_le last (a ∷ b ∷ [])) (all_lt (a ∷ b ∷ []) (5 ∷ 5 ∷ [])) inside in
    let low = and_both (nat_le 4 a) (nat_le 4 b && true) both.0 in
    let high = and_both (nat_lt a 5) (nat_lt b 5 && true) both.1 in
    let four : a ≡ 4 = omega (arith, leb-true 4 a low.0, ltb-true a 5 high.0) in
    let again : b ≡ 4 =
    omega (
      arith,
      leb-true 4 b (and_both (nat_le 4 b) true low.1).0,
      ltb-true b 5 (and_both (nat_lt b 5) true high.1).0,
    ) in
    rw (four, again) refl
one_index (a ∷ b ∷ c ∷ more) inside =
    let low = (and_both (all_le last (a ∷ b ∷ c ∷ more)) _ inside).0 in
    absurd (no (and_both (nat_le 4 b) false (and_both (nat_le 4 a) (nat_le 4 b && false) low).1).1)

-- so one chunk is missing
one_missing : (d : DataAt) (offset : List ℕ) → IsMissing d sizes last ones offset → offset ≡ last
one_missing d offset m = sym m.met ∙ ap (floor_to sizes) (one_index m.index m.inside)

last_missing : (d : DataAt) → d.chunks ≡ [] → IsMissing d sizes last ones last
last_missing d none = record { index = last; inside = refl; met = refl; lacks = ap (λ cs. chunk_at cs last) none }

not_twice : IsTrue (comes_before last last) → ⊥
not_twice h = cc

offsets_are : (d : DataAt) (offsets : List (List ℕ)) → d.chunks ≡ [] → AreMissing d sizes last ones offsets
    → length offsets ≡ 1
offsets_are d [] none m = let at = (m.each last).1 (last_missing d none) in omega (arith, at.1)
offsets_are d (x ∷ []) none m = refl
offsets_are d (x ∷ y ∷ more) none m =
    let first = one_missing d x ((m.each x).0 (0, omega arith, refl)) in
    let second = one_missing d y ((m.each y).0 (1, omega arith, refl)) in
    let before : IsTrue (comes_before x y) = m.ordered 0 1 x (lit< tt) (omega arith) in
    absurd (not_twice (subst (λ (z : List ℕ). IsTrue (comes_before last z)) second
    (subst (λ (z : List ℕ). IsTrue (comes_before z y)) first before)))

one_chunk : (d : DataAt) → d.chunks ≡ [] → AreMissing d sizes last ones (last ∷ [])
one_chunk d none =
    record {
      ordered = λ i j x low high. absurd (no_pair i j low high);
      each = λ offset. (there offset, λ m. here offset (one_missing d offset m));
    }
  where
    no_pair : (i j : ℕ) → i < j → j < 1 → ⊥
    no_pair i j low high = omega (arith, low, high)

    there : (offset : List ℕ) → Contains (last ∷ []) offset → IsMissing d sizes last ones offset
    there offset (zero, low, is) = subst (λ (z : List ℕ). IsMissing d sizes last ones z) is (last_missing d none)
    there offset (suc k, low, is) = absurd (no_pair 0 (suc k) (omega arith) low)

    here : (offset : List ℕ) → offset ≡ last → Contains (last ∷ []) offset
    here offset is = (0, lit< tt, sym is)

-- ---- the list

abbrev chunks_of : (m n rank : ℕ) → List Take
chunks_of m n rank = replicate m (raw_take 16) ++ replicate n (chunk_node_take 32 rank)

made : (m n rank : ℕ) → m ≡ 1 → n ≡ 1 → rank ≡ 2 → chunks_of m n rank ≡ chunk_takes
made m n rank one node two = rw (one, node, two) refl

abbrev Takes_them : Array → DataAt → List Take → Type 0
Takes_them b d ts = TakesChunks b 32 d undefined (2 ∷ 2 ∷ 4 ∷ []) last ones ts

one_node : (b : Array) (d : DataAt) (m nodes : ℕ) → IndexGrows b 32 d undefined (2 ∷ 2 ∷ 4 ∷ []) m nodes → m ≡ 1
    → nodes ≡ 1
one_node b d m nodes (FirstChunks is begins) one = begins.one (omega (arith, one)) (omega (arith, one))
one_node b d m nodes (MoreChunks blocks h there widens) one = absurd (there refl)

takes_both : (b : Array) (d : DataAt) (ts : List Take) → IsNewChunked d → Takes_them b d ts → ts ≡ chunk_takes
takes_both b d ts fresh x =
    let two : length d.info.shape.dims ≡ 2 = ap (λ (xs : List ℕ). length xs) fresh.dims in
    let missing = subst (λ r. AreMissing d (chunk_sizes r (2 ∷ 2 ∷ 4 ∷ [])) last ones x.offsets) two x.missing in
    let one = offsets_are d x.offsets fresh.chunks missing in
    let node = one_node b d (length x.offsets) x.nodes x.grows one in
    x.are ∙ made (length x.offsets) x.nodes (length d.info.shape.dims) one node two

both_taken : (b : Array) (d : DataAt) (ts : List Take) → IsNewChunked d → ts ≡ chunk_takes → Takes_them b d ts
both_taken b d ts fresh h =
    let two : length d.info.shape.dims ≡ 2 = ap (λ (xs : List ℕ). length xs) fresh.dims in
    record {
      offsets = last ∷ [];
      missing =
          subst (λ r. AreMissing d (chunk_sizes r (2 ∷ 2 ∷ 4 ∷ [])) last ones (last ∷ [])) (sym two)
          (one_chunk d fresh.chunks);
      nodes = 1;
      grows = FirstChunks refl (record { most = lit≤ tt; one = λ some few. refl });
      are = h ∙ sym (made 1 1 (length d.info.shape.dims) refl refl two);
    }

storage : (b : Array) (d : DataAt) → IsNewChunked d → (ts : List Take)
    → (TakesStorage b 32 d d.info.layout last ones ts → ts ≡ chunk_takes)
    × (ts ≡ chunk_takes → TakesStorage b 32 d d.info.layout last ones ts)
storage b d fresh ts = subst (λ (l : Layout). (TakesStorage b 32 d l last ones ts → ts ≡ chunk_takes)
    × (ts ≡ chunk_takes → TakesStorage b 32 d l last ones ts))
    (sym fresh.layout) (takes_both b d ts fresh, both_taken b d ts fresh)

pub chunk_takes_lem : ChunkTakes
chunk_takes_lem b g d values ts fresh = (
  λ w. let e = data_is d w.0 w.1 in
      (storage b d fresh ts).0 (subst (λ (x : DataAt). TakesStorage b 32 x x.info.layout last ones ts) (sym e) w.2),
  λ h. (d, refl, (storage b d fresh ts).1 h),
)

-- ---- an index that has room

no_more : (b : Array) (k tree : ℕ) (d : DataAt) (sizes : List ℕ) (m nodes : ℕ) → tree ≢ undefined
    → IndexGrows b k d tree sizes m nodes → HasNodesWithRoom b k d tree sizes m → nodes ≡ 0
no_more b k tree d sizes m nodes there (FirstChunks is begins) roomy = absurd (there is)
no_more b k tree d sizes m nodes there (MoreChunks blocks h also widens) roomy = widens.none (roomy blocks h)

alone : (m nodes : ℕ) (x y : Take) → nodes ≡ 0 → replicate m x ++ replicate nodes y ≡ replicate m x
alone m nodes x y none = rw none (append-nil (replicate m x))

pub chunks_take_lem : ChunksTakeNoNode
chunks_take_lem b k tree d sizes start count ts x there roomy =
    x.are ∙ alone (length x.offsets) x.nodes _ _ (no_more b k tree d sizes _ x.nodes there x.grows roomy)
