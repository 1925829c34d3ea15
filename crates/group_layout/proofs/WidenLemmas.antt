-- Rows as they grow one by one, and the addresses of the nodes that are taken.
use Rattle.std.proofs.Common.{◌≡◌, ℕ, zero, suc, ◌+◌, ◌-◌, ◌*◌, ◌^◌, ◌<◌, ◌≤◌, inl, inr, List, [], ◌∷◌, ◌++◌, length}
use mir.Val.{bool_byte}
use Rattle.std.proofs.Common.{min, ltb, map, replicate, refl, subst, sym, ◌∙◌, ap, arith}
use Rattle.std.specs.List.{flat_map}
use Rattle.std.proofs.lemmas.Bool.{cases_lt, lt-ltb, le-ltb}
use Rattle.std.proofs.lemmas.List.{append_assoc, append-nil, length-append, length_push, length-map, map_push}
use Rattle.std.proofs.lemmas.List.{flat_map_more, nil_from_length}
use Rattle.group_layout.specs.Growth.{IsWider, AreWider}
use Rattle.group_room.specs.Index.{addresses}
use Rattle.group_layout.specs.Laying.{ats_of}
use Rattle.group_layout.specs.Placing.{EndsInPair}
use Rattle.group_layout.specs.declared.row.Row.{Row}

pub addresses_join : (at step n m : ℕ)
    → addresses at step (n + m) ≡ addresses at step n ++ addresses (at + step * n) step m
addresses_join at step zero m =
    let whole : 0 + m ≡ m = omega arith in
    let here : at ≡ at + step * 0 = omega arith in
    ap (addresses at step) whole ∙ ap (λ (a : ℕ). addresses a step m) here
addresses_join at step (suc n) m =
    let whole : suc n + m ≡ suc (n + m) = omega arith in
    let next : at + step + step * n ≡ at + step * suc n = omega arith in
    ap (addresses at step) whole
    ∙ ap (λ (l : List ℕ). at ∷ l) (addresses_join (at + step) step n m)
    ∙ ap (λ (a : ℕ). (at ∷ addresses (at + step) step n) ++ addresses a step m) next

-- What is taken from an address on, and the next one, where they lie below 2 ^ 64.
pub record AreTaken (at step next : ℕ) (news : List ℕ) : Type 0 where
  pub next_is : at + step * length news < 2 ^ 64 → next ≡ at + step * length news
  pub are : at + step * length news < 2 ^ 64 → news ≡ addresses at step (length news)

pub taken_none : (at step : ℕ) → AreTaken at step at []
taken_none at step = record { next_is = λ lt. omega arith; are = λ lt. refl }

pub taken_more : (at step next last : ℕ) (news new : List ℕ) → AreTaken at step next news
    → (next + step * length new < 2 ^ 64 → new ≡ addresses next step (length new))
    → (next + step * length new < 2 ^ 64 → last ≡ next + step * length new) → AreTaken at step last (news ++ new)
taken_more at step next last news new before own behind =
    let count : length (news ++ new) ≡ length news + length new = length-append news new in
    let product : step * length (news ++ new) ≡ step * length news + step * length new =
    ap (λ (n : ℕ). step * n) count ∙ omega arith in
    record {
      next_is = λ lt.
          let first : at + step * length news < 2 ^ 64 = omega (arith, product, lt) in
          let here : next ≡ at + step * length news = before.next_is first in
          let then_lt : next + step * length new < 2 ^ 64 = omega (arith, product, lt, here) in
          behind then_lt ∙ omega (arith, product, here);
      are = λ lt.
          let first : at + step * length news < 2 ^ 64 = omega (arith, product, lt) in
          let here : next ≡ at + step * length news = before.next_is first in
          let then_lt : next + step * length new < 2 ^ 64 = omega (arith, product, lt, here) in
          ap (λ (l : List ℕ). l ++ new) (before.are first)
          ∙ ap (λ (l : List ℕ). addresses at step (length news) ++ l) (own then_lt)
          ∙ ap (λ (a : ℕ). addresses at step (length news) ++ addresses a step (length new)) here
          ∙ sym (addresses_join at step (length news) (length new))
          ∙ ap (addresses at step) (sym count);
    }

-- Some rows have grown, whatever becomes of those above them.
pub record HaveGrown (room first below at step next : ℕ) (rows : List (List ℕ)) (ws : List Row) : Type 0 where
  pub wider : (rest more : List (List ℕ)) → AreWider room below rest more
      → AreWider room first (rows ++ rest) (map ats_of ws ++ more)
  pub olds : map (λ (r : Row). r.old) ws ≡ rows
  pub news : AreTaken at step next (flat_map (λ (r : Row). r.new) ws)

pub grown_none : (room below at step : ℕ) → HaveGrown room below below at step at [] []
grown_none room below at step =
    record { wider = λ rest more h. h; olds = refl; news = taken_none at step }

pub grown_more : (room first below at step next last : ℕ) (rows : List (List ℕ)) (ws : List Row) (old : List ℕ)
    (row : Row) → HaveGrown room first below at step next rows ws → IsWider room below old (ats_of row)
    → row.old ≡ old → (next + step * length row.new < 2 ^ 64 → row.new ≡ addresses next step (length row.new))
    → (next + step * length row.new < 2 ^ 64 → last ≡ next + step * length row.new)
    → HaveGrown room first (length (ats_of row)) at step last (rows ++ old ∷ []) (ws ++ row ∷ [])
grown_more room first below at step next last rows ws old row before is kept own behind =
    let news = flat_map (λ (r : Row). r.new) ws in
    record {
      wider = λ rest more h.
          let all = before.wider (old ∷ rest) (ats_of row ∷ more) (is, h) in
          let under = subst (λ (l : List (List ℕ)). AreWider room first l (map ats_of ws ++ ats_of row ∷ more))
          (sym (append_assoc rows (old ∷ []) rest)) all in
          subst (AreWider room first ((rows ++ old ∷ []) ++ rest)) (sym (append_assoc (map ats_of ws) (ats_of row ∷ []) more)
          ∙ ap (λ (l : List (List ℕ)). l ++ more) (sym (map_push ats_of ws row))) under;
      olds = map_push (λ (r : Row). r.old) ws row
          ∙ ap (λ (l : List (List ℕ)). l ++ row.old ∷ []) before.olds
          ∙ ap (λ (o : List ℕ). rows ++ o ∷ []) kept;
      news = subst (AreTaken at step last) (flat_map_more (λ (r : Row). r.new) [] ws row)
          (taken_more at step next last news row.new before.news own behind);
    }

-- What the rows are in the end.
pub record AreGrown (room first at step : ℕ) (rows : List (List ℕ)) (ws : List Row) : Type 0 where
  pub wider : AreWider room first rows (map ats_of ws)
  pub olds : map (λ (r : Row). r.old) ws ≡ rows ++ replicate (length ws - length rows) []
  pub news : at + step * length (flat_map (λ (r : Row). r.new) ws) < 2 ^ 64
      → flat_map (λ (r : Row). r.new) ws ≡ addresses at step (length (flat_map (λ (r : Row). r.new) ws))

-- so many rows more
behind_rows : (rows : List (List ℕ)) (ws : List Row) (n : ℕ) → length ws ≡ length rows + n
    → replicate (length ws - length rows) [] ≡ replicate {A = List ℕ} n []
behind_rows rows ws n count =
    let more : length ws - length rows ≡ n = omega (arith, count) in
    ap (λ (k : ℕ). replicate {A = List ℕ} k []) more

pub grown_root_fits : (room first below at step next : ℕ) (rows : List (List ℕ)) (ws : List Row) → below ≤ room
    → HaveGrown room first below at step next rows ws → AreGrown room first at step rows ws
grown_root_fits room first below at step next rows ws le all =
    let count : length ws ≡ length rows + 0 =
    omega (arith, length-map ws (λ (r : Row). r.old), ap length all.olds) in
    record {
      wider = subst (λ (l : List (List ℕ)). AreWider room first l (map ats_of ws)) (append-nil rows)
          (subst (AreWider room first (rows ++ [])) (append-nil (map ats_of ws)) (all.wider [] [] le));
      olds = all.olds ∙ sym (append-nil rows)
          ∙ ap (λ (l : List (List ℕ)). rows ++ l) (sym (behind_rows rows ws 0 count));
      news = all.news.are;
    }

grown_root_full : (room first below at step next : ℕ) (rows : List (List ℕ)) (ws : List Row) (pair : List ℕ)
    → room < below → length pair ≡ 2 → HaveGrown room first below at step next rows ws
    → (next + step * length pair < 2 ^ 64 → pair ≡ addresses next step (length pair))
    → AreGrown room first at step rows (ws ++ record { old = []; new = pair } ∷ [])
grown_root_full room first below at step next rows ws pair lt two all own =
    let row : Row = record { old = []; new = pair } in
    let news = flat_map (λ (r : Row). r.new) ws in
    let count : length (ws ++ row ∷ []) ≡ length rows + 1 =
    omega (arith, length_push ws row, length-map ws (λ (r : Row). r.old), ap length all.olds) in
    let taken = taken_more at step next (next + step * length pair) news pair all.news own (λ h. refl) in
    let whole = subst (AreTaken at step (next + step * length pair)) (flat_map_more (λ (r : Row). r.new) [] ws row) taken
    in
    record {
      wider = subst (λ (l : List (List ℕ)). AreWider room first l (map ats_of (ws ++ row ∷ []))) (append-nil rows)
          (subst (AreWider room first (rows ++ [])) (sym (map_push ats_of ws row)) (all.wider [] (pair ∷ []) (lt, two)));
      olds = map_push (λ (r : Row). r.old) ws row ∙ ap (λ (l : List (List ℕ)). l ++ [] ∷ []) all.olds
          ∙ ap (λ (l : List (List ℕ)). rows ++ l) (sym (behind_rows rows (ws ++ row ∷ []) 1 count));
      news = whole.are;
    }

-- a row with what is taken behind it: a node where there was no room
pub is_wider : (room below : ℕ) (old new : List ℕ) → length new ≤ 1 → (length new ≡ 0 → below ≤ room * length old)
    → (length new ≡ 1 → room * length old < below) → IsWider room below old (old ++ new)
is_wider room below old [] most fits full = inl (fits refl, append-nil old)
is_wider room below old (at ∷ []) most fits full = inr (full refl, at, refl)
is_wider room below old (at ∷ other ∷ new) most fits full = absurd (omega (arith, most))

-- one is taken where there was no room
pub grown_by : (room below product : ℕ) (old new : List ℕ) → product ≡ min (room * length old) (2 ^ 64 - 1)
    → below < 2 ^ 64 → length new ≡ bool_byte (ltb product below) → IsWider room below old (old ++ new)
grown_by room below product old new is small count =
    elim (cases_lt product below) [
      | inl lt ↦
          let one : length new ≡ 1 = count ∙ ap bool_byte (lt-ltb product below lt) in
          is_wider room below old new (omega (arith, one)) (λ none. absurd (omega (arith, one, none)))
          (λ h. omega (arith, lt, is, small))
      | inr le ↦
          let none : length new ≡ 0 = count ∙ ap bool_byte (le-ltb product below le) in
          is_wider room below old new (omega (arith, none)) (λ h. omega (arith, le, is)) (λ one. absurd (omega (arith, one, none)))
    ]

pub all_yielded : (rows yielded rest : List (List ℕ)) → rows ≡ yielded ++ rest → length rest ≡ 0 → yielded ≡ rows
all_yielded rows yielded rest left none =
    sym (left ∙ ap (λ (l : List (List ℕ)). yielded ++ l) (nil_from_length rest none) ∙ append-nil yielded)

pub grown_with_pair : (room first below at step next : ℕ) (rows : List (List ℕ)) (ws more : List Row) → room < below
    → HaveGrown room first below at step next rows ws → EndsInPair next step ws more
    → AreGrown room first at step rows more
grown_with_pair room first below at step next rows ws more lt all end =
    subst (AreGrown room first at step rows) (sym end.more_is)
    (grown_root_full room first below at step next rows ws end.pair lt end.two all end.are)
