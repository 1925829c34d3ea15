-- A catalogue before and after one more block is in it.
use Rattle.std.proofs.Common.{◌≡◌, ◌↔◌, IsTrue, nat_eq, ℕ, ◌+◌, ◌<◌, inl, inr, List, [], ◌∷◌, ◌++◌, true, false, sym, ◌∙◌, ap, subst, refl, arith, length-append, if◌then◌else◌}
use Rattle.std.specs.declared.option.Option.{Option}
use Rattle.std.specs.declared.option.Option.TheVariants.{Some, None}
use Rattle.std.specs.Option.{IsSome, is_some}
use Rattle.std.specs.List.{Contains}
use Rattle.std.specs.Ordering.{nat_cmp, is_eq}
use Rattle.std.specs.Cmp.{nat_cmp_is}
use Rattle.std.specs.declared.cmp.Ordering.TheVariants.{Less, Greater}
use Rattle.std.specs.BTreeMap.{BTreeMap, get, Updates, btree_map_len}
use Rattle.std.proofs.lemmas.Bool.{cases_lt, cases_eq, eqb-true, eq-eqb}
use Rattle.std.proofs.lemmas.List.Elements.{Contains-push, Contains-push_cases, Contains-append_left}
use Rattle.outside.specs.Blocks.{Block, BeginsOne, IsApart}
use Rattle.block_space.specs.Catalogue.{Lists}
use Rattle.block_space.proofs.Apart.{all_apart_push}

some_value : (o : Option ℕ) → IsSome o → (n : ℕ) × (o ≡ Some n)
some_value None h = absurd cc
some_value (Some n) h = (n, refl)

pub other_key : (a b : ℕ) → (a ≡ b → ⊥) → is_eq (nat_cmp a b) ≡ false
other_key a b differ = elim (cases_lt a b) [
  | inl l ↦ sym (ap is_eq (nat_cmp_is a b Less l))
  | inr le ↦ let l : b < a = omega arith in sym (ap is_eq (nat_cmp_is a b Greater l))
]

no_value : (o : Option ℕ) → (IsSome o → ⊥) → is_some o ≡ false
no_value None none = refl
no_value (Some n) none = absurd (none refl)

module _ (m : BTreeMap ℕ ℕ) (met : List Block) (lists : Lists m met) where
  pub begins_one : (start : ℕ) → IsSome (get nat_cmp m start) → BeginsOne met start
  begins_one start has = let v = some_value (get nat_cmp m start) has in (record { start = start; len = v.0 }, (lists.entries start v.0).0 v.1, refl)

  pub begins_none : (start : ℕ) → is_some (get nat_cmp m start) ≡ false → BeginsOne met start → ⊥
  begins_none start none (x, h, at) =
      let found : get nat_cmp m x.start ≡ Some x.len = (lists.entries x.start x.len).1 h in
      let has : is_some (get nat_cmp m start) ≡ true = subst (λ (q : ℕ). is_some (get nat_cmp m q) ≡ true) at (ap is_some found) in
      cc

  module _ (n : BTreeMap ℕ ℕ) (start len : ℕ) (update : Updates nat_cmp m n start (Some len)) (begins : BeginsOne met start → ⊥) where
    entry_of : (s l : ℕ) → get nat_cmp n s ≡ Some l → Contains (met ++ record { start = start; len = len } ∷ []) (record { start = s; len = l })
    entry_of s l e = elim (cases_eq start s) [
      | inl is ↦
          let here : get nat_cmp n s ≡ Some len = subst (λ (q : ℕ). get nat_cmp n q ≡ Some len) is update.1 in
          let same : len ≡ l = cc in
          subst (λ (b : Block). Contains (met ++ record { start = start; len = len } ∷ []) b) (λ i. record { start = is i; len = same i }) (Contains-push met (record { start = start; len = len }))
      | inr differ ↦ Contains-append_left met (record { start = start; len = len } ∷ []) (record { start = s; len = l }) ((lists.entries s l).0 (sym (update.2 s (other_key start s differ)) ∙ e))
    ]

    value_of : (s l : ℕ) → Contains (met ++ record { start = start; len = len } ∷ []) (record { start = s; len = l }) → get nat_cmp n s ≡ Some l
    value_of s l h = elim (Contains-push_cases met (record { start = start; len = len }) (record { start = s; len = l }) h) [
      | inl old ↦ update.2 s (other_key start s (λ is. begins (record { start = s; len = l }, old, sym is))) ∙ (lists.entries s l).1 old
      | inr is ↦ subst (λ (b : Block). get nat_cmp n b.start ≡ Some b.len) is update.1
    ]

    pub lists_push : (old : Option ℕ) → old ≡ get nat_cmp m start
        → btree_map_len n ≡ btree_map_len m + (if is_some old then 0 else 1) → 0 < len → IsApart (record { start = start; len = len }) met
        → Lists n (met ++ record { start = start; len = len } ∷ [])
    lists_push old is count filled apart =
        let none : is_some old ≡ false = ap is_some is ∙ no_value (get nat_cmp m start) (λ has. begins (begins_one start has)) in
        let grown : btree_map_len n ≡ btree_map_len m + 1 = rw none at count in
        record {
          entries = λ s l. (entry_of s l, value_of s l);
          count = omega (arith, grown, lists.count, length-append met (record { start = start; len = len } ∷ []));
          filled = λ y h. elim (Contains-push_cases met (record { start = start; len = len }) y h) [
            | inl before ↦ lists.filled y before
            | inr e ↦ subst (λ (b : Block). 0 < b.len) e filled
          ];
          apart = all_apart_push met (record { start = start; len = len }) lists.apart apart;
        }

-- whether a block of this length begins at an address, by the entry that is there
pub kept_there : (m : BTreeMap ℕ ℕ) (met : List Block) → Lists m met → (start len kept : ℕ) → get nat_cmp m start ≡ Some kept
    → IsTrue (nat_eq kept len) ↔ Contains met (record { start = start; len = len })
kept_there m met lists start len kept there = (
  λ same. (lists.entries start len).0 (there ∙ ap Some (eqb-true kept len same)),
  λ has. let e = (lists.entries start len).1 has in let is : kept ≡ len = cc in eq-eqb kept len is,
)

pub none_there : (m : BTreeMap ℕ ℕ) (met : List Block) → Lists m met → (start len : ℕ) → get nat_cmp m start ≡ None
    → IsTrue false ↔ Contains met (record { start = start; len = len })
none_there m met lists start len none = (λ no. absurd cc, λ has. let is = (lists.entries start len).1 has in absurd cc)
