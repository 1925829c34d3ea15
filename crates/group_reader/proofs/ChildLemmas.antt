-- The children of a node, read one by one from left to right.
use Rattle.std.proofs.Common.{ℕ, List, [], ◌∷◌, ◌++◌, Option, refl, sym, subst, inl, inr}
use Rattle.std.proofs.lemmas.List.{append_assoc, append-nil}
use Rattle.outside.specs.Blocks.{Block, Bounds, AreTaken}
use Rattle.file_model.specs.Groups.{Found, Under}
use Rattle.h5_base.specs.declared.refusal.Refusal.{Refusal}
use Rattle.file_model.specs.RefusedGroups.{RefusedUnder, names_of, FitKeys, IsKeyRefused, AreChildrenRefused}
use Rattle.object_model.specs.Tree.{AreOrdered}
use Rattle.group_reader.specs.Reading.{AreChildren}

-- by the kind of driver information block that a stack has of its own
abbrev pub Own : Type 0
Own = Option (List ℕ)

-- Children were read, and those of ks and cs are left: what the others are makes what all are, and a refusal among the
-- others is one of all.
pub record AreFirst (s : List ℕ) (heap node : ℕ) (e : Own → Bounds) (Child : Under) (Refused : Own → RefusedUnder)
    (keys children ks cs : List ℕ) (done : List Found) (met own : List Block) : Type 0 where
  pub more : (later : List Found) (rest : List Block) → AreChildren s Child ks cs later rest
      → AreChildren s Child keys children (done ++ later) (own ++ rest)
  pub refused : (o : Own) (r : Refusal) → AreChildrenRefused (e o) s heap node Child (Refused o) ks cs done (met ++ own)
      r
      → AreChildrenRefused (e o) s heap node Child (Refused o) keys children [] met r

module _ (s : List ℕ) (heap node : ℕ) (e : Own → Bounds) (Child : Under) (Refused : Own → RefusedUnder)
    (keys children : List ℕ) where
  abbrev First : (ks cs : List ℕ) (done : List Found) (met own : List Block) → Type 0
  First = AreFirst s heap node e Child Refused keys children

  abbrev AllRefused : Own → List Block → Refusal → Type 0
  AllRefused o met r = AreChildrenRefused (e o) s heap node Child (Refused o) keys children [] met r

  pub first_none : (met : List Block) → First keys children [] met []
  first_none met = record {
    more = λ later rest h. h;
    refused = λ o r h. subst (λ (l : List Block). AreChildrenRefused (e o) s heap node Child (Refused o) keys children
        [] l r) (append-nil met) h;
  }

  pub first_all : (ks : List ℕ) (done : List Found) (met own : List Block) → First ks [] done met own
      → AreChildren s Child keys children done own
  first_all ks done met own first =
      subst (λ (x : List Found). AreChildren s Child keys children x own) (append-nil done)
      (subst (λ (x : List Block). AreChildren s Child keys children (done ++ []) x) (append-nil own)
      (first.more [] [] (refl, refl)))

  module _ (k l : ℕ) (ks : List ℕ) (c : ℕ) (cs : List ℕ) (done : List Found) (met own : List Block)
      (first : First (k ∷ l ∷ ks) (c ∷ cs) done met own) where
    pub first_child_refused : (o : Own) (r : Refusal) → Refused o (met ++ own) c r → AllRefused o met r
    first_child_refused o r h = first.refused o r (inl h)

    module _ (here : List Found) (bs : List Block) (child : Child c here bs)
        (taken : (o : Own) → AreTaken (e o) (met ++ own) bs) where
      pub first_key_refused : (o : Own) (r : Refusal) → AreOrdered (names_of here)
          → IsKeyRefused s heap node k l done here r → AllRefused o met r
      first_key_refused o r ordered h = first.refused o r (inr (here, bs, child, taken o, inl (ordered, h)))

      pub first_more : FitKeys s k l done here → First (l ∷ ks) cs (done ++ here) met (own ++ bs)
      first_more fit = record {
        more = λ later rest h.
            let all = first.more (here ++ later) (bs ++ rest)
            (fit.low, fit.high, here, later, bs, rest, fit.at_low, fit.at_high, child, fit.between, h, refl, refl)
            in
            subst (λ (x : List Found). AreChildren s Child keys children x ((own ++ bs) ++ rest))
            (sym (append_assoc done here later))
            (subst (λ (x : List Block). AreChildren s Child keys children (done ++ (here ++ later)) x)
            (sym (append_assoc own bs rest)) all);
        refused = λ o r h. first.refused o r (inr (
          here,
          bs,
          child,
          taken o,
          inr (
            fit,
            subst (λ (x : List Block). AreChildrenRefused (e o) s heap node Child (Refused o) (l ∷ ks) cs (done ++ here)
                x r) (sym (append_assoc met own bs)) h,
          ),
        ));
      }
