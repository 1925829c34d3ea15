-- What admitted words are.
use Rattle.std.proofs.Common.{◌≡◌, ◌≢◌, ℕ, ◌<◌, ◌≤◌, Bool, true, false, ◌&&◌, ◌||◌, not, List, [], ◌∷◌, length, get_or, drop, Option, Some, None, refl, sym, ◌∙◌, ap, arith, cond}
use Rattle.std.specs.List.{list_all}
use Rattle.std.proofs.lemmas.Bool.{false≢true}
use Rattle.std.proofs.lemmas.Bool.Decides.{nat_tests}
use Rattle.std.proofs.lemmas.List.Folds.{list_all_at}
use Rattle.std.proofs.Common.{length-drop, nat_le, ◌==◌}
use Rattle.h5stack_core.specs.declared.words.WordFault.TheVariants.{Unknown, NotBuilt, Order, Name}
use Rattle.h5_base.specs.Names.{IsName}
use Rattle.h5stack_core.specs.declared.words.WordFault.{WordFault}
use Rattle.std.specs.Prelude.{Ok, Err}
use Rattle.h5stack_core.specs.declared.asked.Asked.TheVariants.{Create, Run}
use Rattle.h5stack_core.specs.Words.{asked_by, asks_run, unless_faulty, wish, is_file_byte, is_file_name, is_plain, is_later_layer, is_onion, is_run, file_of, base_fault, action_fault, after_action, after_base, first_of_two, word_fault, named, texts}
use Rattle.std.proofs.lemmas.List.{length-map}
use Rattle.std.specs.Prelude.{string_bytes, String}
use Rattle.std.specs.declared.alloc.Global.{Global}

and_split : (a b : Bool) → (a && b) ≡ true → (a ≡ true) × (b ≡ true)
and_split true b h = (refl, h)
and_split false b h = absurd (false≢true h)

or_left : (a b : Bool) → a ≡ true → (a || b) ≡ true
or_left true b h = refl
or_left false b h = absurd (false≢true h)

pub name_of_file : (text : List ℕ) → is_file_name text ≡ true → IsName text
name_of_file text h =
    let a = and_split _ _ h in
    let b = and_split _ _ a.1 in
    let d = and_split _ _ b.1 in
    record {
      some = some (length text) a.0;
      short = short (length text) b.0;
      visible = visible (get_or text 0 0) d.0;
      each = λ k default lt. or_left _ _ (each (is_file_byte (get_or text k default)) k default lt refl d.1);
    }
  where
    some : (n : ℕ) → not (n == 0) ≡ true → 0 < n
    some n h = grind (arith, nat_tests)

    short : (n : ℕ) → nat_le n 100 ≡ true → n ≤ 200
    short n h = grind (arith, nat_tests)

    visible : (b : ℕ) → not (b == 46) ≡ true → b ≢ 46
    visible b h = grind (arith, nat_tests)

    each : (v : Bool) (k default : ℕ) → k < length text → is_file_byte (get_or text k default) ≡ v → list_all is_file_byte text ≡ true → v ≡ true
    each true k default lt is all = refl
    each false k default lt is all = absurd (false≢true (sym (list_all_at is_file_byte text k default lt is) ∙ all))

-- admitted words are an action and a file
pub record Admitted (words : List (List ℕ)) : Type 0 where
  pub two : 2 ≤ length words
  pub long : 6 ≤ length (get_or words 1 [])
  pub file : drop 6 (get_or words 1 []) ≡ named words
  pub name : IsName (named words)

base_admitted : (runs : Bool) (k : ℕ) (word : List ℕ) → base_fault runs k word ≡ None → (is_plain word ≡ true) × (is_file_name (file_of word) ≡ true)
unfolding base_fault
base_admitted runs k word h = go (is_plain word) (is_file_name (file_of word)) (is_later_layer runs word) (is_onion word) h
  where
    go : (p f l o : Bool) → cond p (cond f None (Some (Name k))) (cond l (Some (NotBuilt k)) (cond o (Some (Order k)) (Some (Unknown k)))) ≡ None → (p ≡ true) × (f ≡ true)
    go true true l o h = (refl, refl)
    go true false l o h = cc
    go false f true o h = cc
    go false f false true h = cc
    go false f false false h = cc

admitted_rest : (runs : Bool) (rest : List (List ℕ)) (a : Option WordFault) → first_of_two a (after_action runs rest) ≡ None → after_action runs rest ≡ None
admitted_rest runs rest None h = h
admitted_rest runs rest (Some f) h = cc

first_none : (a b : Option WordFault) → first_of_two a b ≡ None → a ≡ None
first_none None b h = refl
first_none (Some f) b h = cc

pub admitted : (words : List (List ℕ)) → word_fault words ≡ None → Admitted words
admitted [] h = cc
admitted (action ∷ []) h = let none : after_action (is_run action) [] ≡ None = admitted_rest (is_run action) [] (action_fault action) h in cc
admitted (action ∷ base ∷ rest) h =
    let runs = is_run action in
    let none : after_action runs (base ∷ rest) ≡ None = admitted_rest runs (base ∷ rest) (action_fault action) h in
    let is = base_admitted runs 1 base (first_none (base_fault runs 1 base) (after_base runs rest) none) in
    let name = name_of_file (file_of base) is.1 in
    record {
      two = omega arith;
      long = omega (arith, name.some, length-drop 6 base);
      file = refl;
      name = name;
    }

-- the same, of the words as the code has them
pub second : (items : List (String Global)) (w : String Global) → word_fault (texts items) ≡ None → w ≡ get_or items 1 w
    → (6 ≤ length (string_bytes w)) × (drop 6 (string_bytes w) ≡ named (texts items)) × IsName (named (texts items))
second [] w h is = absurd (omega (arith, (admitted [] h).two))
second (a ∷ []) w h is = absurd (omega (arith, (admitted (string_bytes a ∷ []) h).two))
second (a ∷ b ∷ rest) w h is =
    let known = admitted (string_bytes a ∷ string_bytes b ∷ texts rest) h in
    let same : string_bytes w ≡ string_bytes b = ap string_bytes is in
    (omega (arith, known.long, ap length same), ap (λ (l : List ℕ). drop 6 l) same, known.name)

pub two_words : (items : List (String Global)) → word_fault (texts items) ≡ None → 2 ≤ length items
two_words items h = omega (arith, (admitted (texts items) h).two, length-map items string_bytes)

-- what admitted words ask for, and the fault of others
pub asked_run : (words : List (List ℕ)) (file : List ℕ) → word_fault words ≡ None → asks_run words ≡ true → file ≡ named words → asked_by words ≡ Ok (Run file)
asked_run words file none runs is = (λ k. unless_faulty (none k) (cond (runs k) (Run (named words)) (Create (named words)))) ∙ (λ k. Ok (Run (sym is k)))

pub asked_create : (words : List (List ℕ)) (file : List ℕ) → word_fault words ≡ None → asks_run words ≡ false → file ≡ named words → asked_by words ≡ Ok (Create file)
asked_create words file none runs is = (λ k. unless_faulty (none k) (cond (runs k) (Run (named words)) (Create (named words)))) ∙ (λ k. Ok (Create (sym is k)))

pub asked_fault : (words : List (List ℕ)) (fault : WordFault) → word_fault words ≡ Some fault → asked_by words ≡ Err fault
asked_fault words fault is = λ k. unless_faulty (is k) (wish words)

pub asked_none : (words : List (List ℕ)) (fault : WordFault) → word_fault words ≡ None → asked_by words ≡ Err fault → ⊥
asked_none words fault none is = let admitted : asked_by words ≡ Ok (wish words) = (λ k. unless_faulty (none k) (wish words)) in cc
