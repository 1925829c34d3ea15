-- Entries and links with one more and one fewer.
use Rattle.std.proofs.Common.{ℕ, zero, suc, List, [], ◌∷◌, ◌++◌, take, drop, refl, sym, ◌∙◌, ap, arith, inl, inr}
use Rattle.std.specs.List.{insert, remove, flat_map}
use Rattle.std.proofs.lemmas.List.{take-append-drop}
use Rattle.std.proofs.lemmas.List.Elements.{Contains-append_left, Contains-append_right, Contains-append_cases}
use Rattle.std.proofs.Math.Seq.{drop-cons}
use Rattle.node_codec.specs.declared.snod.SnodEntry.{SnodEntry}
use Rattle.file_model.specs.Groups.{Found, entry_offsets}
use Rattle.entry_list.specs.Laws.{LinksInsert, LinksRemove, OneMore, OneFewer, OffsetsInsert, OffsetsRemove}

-- ---- entries and their links

pub links_insert : LinksInsert
links_insert s es fs zero e f h k le = (k.0, k.1, h)
links_insert s [] fs (suc n) e f h k le = absurd (omega (arith, le))
links_insert s (e' ∷ es) [] (suc n) e f h k le = absurd h
links_insert s (e' ∷ es) (f' ∷ fs) (suc n) e f h k le =
    (h.0, h.1, links_insert s es fs n e f h.2 k (omega (arith, le)))

pub links_remove : LinksRemove
links_remove s [] fs n h lt = absurd (omega (arith, lt))
links_remove s (e ∷ es) [] n h lt = absurd h
links_remove s (e ∷ es) (f ∷ fs) zero h lt = h.2
links_remove s (e ∷ es) (f ∷ fs) (suc n) h lt = (h.0, h.1, links_remove s es fs n h.2 (omega (arith, lt)))

-- ---- one more and one fewer

pub one_more : OneMore
one_more fs n f le =
    record { before = take n fs; later = drop n fs; without = sym (take-append-drop n fs); whole = refl }

pub one_fewer : OneFewer
one_fewer fs n d lt = record {
  before = take n fs;
  later = drop (suc n) fs;
  without = refl;
  whole = sym (take-append-drop n fs) ∙ ap (λ (l : List Found). take n fs ++ l) (drop-cons fs n d lt);
}

-- ---- offsets in use

abbrev offsets : List SnodEntry → List ℕ
offsets = flat_map entry_offsets

pub offsets_insert : OffsetsInsert
offsets_insert es zero e at h = Contains-append_cases (entry_offsets e) (offsets es) at h
offsets_insert [] (suc n) e at h = Contains-append_cases (entry_offsets e) [] at h
offsets_insert (e' ∷ es) (suc n) e at h =
    elim (Contains-append_cases (entry_offsets e') (offsets (insert es n e)) at h) [
      | inl here ↦ inr (Contains-append_left (entry_offsets e') (offsets es) at here)
      | inr later ↦ elim (offsets_insert es n e at later) [
        | inl own ↦ inl own
        | inr was ↦ inr (Contains-append_right (entry_offsets e') (offsets es) at was)
      ]
    ]

pub offsets_remove : OffsetsRemove
offsets_remove [] zero at h = h
offsets_remove [] (suc n) at h = h
offsets_remove (e ∷ es) zero at h = Contains-append_right (entry_offsets e) (offsets es) at h
offsets_remove (e ∷ es) (suc n) at h =
    elim (Contains-append_cases (entry_offsets e) (offsets (remove es n)) at h) [
      | inl here ↦ Contains-append_left (entry_offsets e) (offsets es) at here
      | inr later ↦ Contains-append_right (entry_offsets e) (offsets es) at (offsets_remove es n at later)
    ]
