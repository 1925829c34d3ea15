-- One child more of a node, with the keys at both sides of it.
use Rattle.std.proofs.Common.{◌≡◌, ℕ, suc, ◌+◌, ◌-◌, ◌<◌, ◌≤◌, Bool, IsTrue, List, [], ◌∷◌, ◌++◌, length, take, drop}
use Rattle.std.proofs.Common.{get_or, Result, IfErr, IfSome, sym, ◌∙◌, ap, subst, arith}
use Rattle.std.specs.Result.{IsErrAnd}
use Rattle.std.proofs.lemmas.List.{append_assoc, append-nil, drop_all}
use Rattle.std.proofs.Math.Seq.{drop-cons}
use Rattle.std.proofs.Math.Numerals.{add-one}
use Rattle.outside.specs.Blocks.{Block}
use Rattle.outside.specs.Space.{SpaceView, bounds_of}
use Rattle.h5_base.specs.declared.refusal.Stop.{Stop}
use Rattle.h5_base.specs.Refusals.{refusal_of}
use Rattle.block_space.specs.Blocks.{Keeps, Takes, Refuses}
use Rattle.block_space.specs.declared.blocks.Blocks.{Blocks}
use Rattle.block_space.proofs.Stopped.{if_some}
use Rattle.object_model.specs.Tree.{AreOrdered}
use Rattle.file_model.specs.Groups.{Ks, Found, Under, StandsAt}
use Rattle.file_model.specs.RefusedGroups.{RefusedUnder, names_of, FitKeys, IsKeyRefused, AreChildrenRefused}
use Rattle.file_model.specs.RefusedGroups.{IsIndexRefused}
use Rattle.group_reader.specs.declared.gathered.Gathered.{Gathered}
use Rattle.group_reader.specs.declared.link.FoundLink.{FoundLink}
use Rattle.group_reader.specs.Links.{links_of, Adds}
use Rattle.group_reader.specs.Reading.{AreChildren}
use Rattle.group_reader.proofs.EntryLemmas.{adds_none, adds_on, adds_as, behind_is, middle_is}
use Rattle.group_reader.proofs.ChildLemmas.{Own, AreFirst, first_none, first_more, first_child_refused}
use Rattle.group_reader.proofs.ChildLemmas.{first_key_refused, first_all}
use Rattle.block_space.proofs.Taken.{taken}
use Rattle.group_reader.proofs.Told.{passed}

-- what is shown of slices is shown of the keys and children that they are
pub as_node : (P : List ℕ → List ℕ → Type 0) (ks cs ks' cs' : List ℕ) → ks ≡ ks' → cs ≡ cs' → P ks cs → P ks' cs'
as_node P ks cs ks' cs' e f h = subst (λ (l : List ℕ). P l cs') e (subst (λ (l : List ℕ). P ks l) f h)

-- the keys and children that are left before a child
pub record IsCut (ks cs : List ℕ) (k l : ℕ) (ks' : List ℕ) (c : ℕ) (cs' : List ℕ) : Type 0 where
  pub keys : ks ≡ k ∷ l ∷ ks'
  pub children : cs ≡ c ∷ cs'

module _ (keys children node_keys node_children : List ℕ) (keys_are : keys ≡ node_keys)
    (children_are : children ≡ node_children) (one_more : length node_keys ≡ length node_children + 1) (i : ℕ)
    (lt : i < length children) where
  one : length keys ≡ length children + 1
  one = as_node (λ ks cs. length ks ≡ length cs + 1) node_keys node_children keys children (sym keys_are)
      (sym children_are) one_more

  pub cut_at : IsCut (drop i keys) (drop i children) (get_or keys i 0) (get_or keys (i + 1) 0) (drop (suc (i + 1)) keys)
      (get_or children i 0) (drop (i + 1) children)
  cut_at = record {
    keys = drop-cons keys i 0 (omega (arith, one)) ∙ ap (λ (n : ℕ). get_or keys i 0 ∷ drop n keys) (sym (add-one i)) ∙
        ap (λ (x : List ℕ). get_or keys i 0 ∷ x) (drop-cons keys (i + 1) 0 (omega (arith, one)));
    children = drop-cons children i 0 lt ∙ ap (λ (n : ℕ). get_or children i 0 ∷ drop n children) (sym (add-one i));
  }

  pub cut_on : get_or keys (i + 1) 0 ∷ drop (suc (i + 1)) keys ≡ drop (i + 1) keys
  cut_on = sym (drop-cons keys (i + 1) 0 (omega (arith, one)))

module _ {V : Type 0} (tells : Bool) (view : V → SpaceView) (ks : Ks) (s : List ℕ) (heap level node : ℕ)
    (keys children : List ℕ) where
  abbrev Child : SpaceView → Under
  Child v = StandsAt v.array ks s level

  abbrev Stopped : SpaceView → Own → RefusedUnder
  Stopped v o = IsIndexRefused v.array (bounds_of v o) ks s heap level

  abbrev First : SpaceView → (ls cs : List ℕ) → List Found → (met own : List Block) → Type 0
  First v = AreFirst s heap node (bounds_of v) (Child v) (Stopped v) keys children

  -- the children before those of cs were read, from an old space to a new one, and their blocks were taken
  abbrev pub ReadTo : (old new : Blocks V) → (ls cs : List ℕ) → List Found → Type 0
  ReadTo old new ls cs done = (met : List Block) → Keeps view old met
      → (own : List Block) × (IsTrue tells → First (view old.space) ls cs done met own) × Keeps view new (met ++ own)

  -- a stop tells why the children are refused
  abbrev pub StopsAll : Blocks V → Stop → Type 0
  StopsAll old = Refuses view old (λ e met. AreChildrenRefused e s heap node
      (StandsAt (view old.space).array ks s level)
      (IsIndexRefused (view old.space).array e ks s heap level) keys children [] met)

  pub child_none : (old : Blocks V) (before : Gathered) → Adds before before (ReadTo old old keys children)
  child_none old before = adds_none before (λ met keeps. (
    [],
    λ told. first_none s heap node (bounds_of (view old.space)) (Child (view old.space)) (Stopped (view old.space)) keys
        children met,
    subst (λ (l : List Block). Keeps view old l) (sym (append-nil met)) keeps,
  ))

  pub child_all : (old new : Blocks V) (ls : List ℕ) (i : ℕ) (before now : Gathered) → length children ≤ i
      → Adds before now (ReadTo old new ls (drop i children))
      → Adds before now (λ fs. Takes view old new (λ bs. IsTrue tells
      → AreChildren s (Child (view old.space)) keys children fs bs))
  child_all old new ls i before now ended a = adds_as before now a (λ met keeps.
      let v = view old.space in
      let x = a.part met keeps in (
        x.0,
        λ told. first_all s heap node (bounds_of v) (Child v) (Stopped v) keys children ls a.added met x.0
            (subst (λ (cs : List ℕ). First v ls cs a.added met x.0) (drop_all i children ended) (x.1 told)),
        x.2,
      ))

  module _ (old mid : Blocks V) (ls cs : List ℕ) (k l : ℕ) (ls' : List ℕ) (c : ℕ) (cs' : List ℕ)
      (before links : Gathered) (cut : IsCut ls cs k l ls' c cs') (same : view mid.space ≡ view old.space)
      (a : Adds before links (ReadTo old mid ls cs)) where
    first_at : IsTrue tells → (met : List Block) (keeps : Keeps view old met)
        → First (view old.space) (k ∷ l ∷ ls') (c ∷ cs') a.added met (a.part met keeps).0
    first_at told met keeps = as_node (λ x y. First (view old.space) x y a.added met (a.part met keeps).0) ls cs
        (k ∷ l ∷ ls') (c ∷ cs') cut.keys cut.children ((a.part met keeps).1 told)

    pub child_stops : (stop : Stop) → IsTrue tells → Refuses view mid
        (λ e met. IsIndexRefused (view mid.space).array e ks s heap level met c) stop → StopsAll old stop
    child_stops stop told h = λ met own keeps.
        let v = view old.space in
        let x = a.part met keeps in
        let refused = subst (λ (w : SpaceView). IfSome (refusal_of stop) (Stopped w own (met ++ x.0) c)) same
        (h (met ++ x.0) own x.2) in
        if_some (refusal_of stop) (Stopped v own (met ++ x.0) c)
        (AreChildrenRefused (bounds_of v own) s heap node (Child v) (Stopped v own) keys children [] met)
        (λ r z. first_child_refused s heap node (bounds_of v) (Child v) (Stopped v) keys children k l ls' c cs' a.added
        met x.0 (first_at told met keeps) own r z) refused

    module _ (new : Blocks V) (now : Gathered) (same' : view new.space ≡ view mid.space)
        (r : Adds links now (λ fs. Takes view mid new (λ bs. IsTrue tells → Child (view mid.space) c fs bs))) where
      pub add_child : (left : List ℕ) → l ∷ ls' ≡ left → FitKeys s k l a.added r.added
          → Adds before now (ReadTo old new left cs')
      add_child left on fit = adds_on before links now a r fit.ordered (λ met keeps.
          let v = view old.space in
          let x = a.part met keeps in
          let y = r.part (met ++ x.0) x.2 in (
            x.0 ++ y.0,
            λ told.
                let child = subst (λ (w : SpaceView). Child w c r.added y.0) same (y.1 told) in
                let next = first_more s heap node (bounds_of v) (Child v) (Stopped v) keys children k l ls' c cs'
                a.added met x.0 (first_at told met keeps) r.added y.0 child
                (λ o. taken view old new (met ++ x.0) y.0 o (sym (same' ∙ same)) y.2) fit in
                subst (λ (z : List ℕ). First v z cs' (a.added ++ r.added) met (x.0 ++ y.0)) on next,
            subst (λ (z : List Block). Keeps view new z) (append_assoc met x.0 y.0) y.2,
          ))

      pub key_stops : (stop : Stop) → IsTrue tells → IfSome (refusal_of stop)
          (IsKeyRefused s heap node k l a.added r.added) → StopsAll old stop
      key_stops stop told h = λ met own keeps.
          let v = view old.space in
          let x = a.part met keeps in
          let y = r.part (met ++ x.0) x.2 in
          let child = subst (λ (w : SpaceView). Child w c r.added y.0) same (y.1 told) in
          if_some (refusal_of stop) (IsKeyRefused s heap node k l a.added r.added)
          (AreChildrenRefused (bounds_of v own) s heap node (Child v) (Stopped v own) keys children [] met)
          (λ why z. first_key_refused s heap node (bounds_of v) (Child v) (Stopped v) keys children k l ls' c cs'
          a.added met x.0 (first_at told met keeps) r.added y.0 child
          (λ o. taken view old new (met ++ x.0) y.0 o (sym (same' ∙ same)) y.2) own why r.ordered z) h

-- a stop that is handed on tells why the children of the node are refused
pub handed : {V T : Type 0} (tells : Bool) (view : V → SpaceView) (ks : Ks) (s : List ℕ) (heap level node : ℕ)
    (keys children node_keys node_children : List ℕ) → keys ≡ node_keys → children ≡ node_children
    → (old : Blocks V) (r : Result T Stop) (stop : Stop) → IsErrAnd r (λ x. x ≡ stop)
    → StopsAll tells view ks s heap level node keys children old stop
    → IfErr r (StopsAll tells view ks s heap level node node_keys node_children old)
handed tells view ks s heap level node keys children node_keys node_children e f old r stop is h =
    passed r stop (StopsAll tells view ks s heap level node node_keys node_children old) is
    (as_node (λ x y. StopsAll tells view ks s heap level node x y old stop) keys children node_keys node_children e f h)

-- the two parts of the links that were kept: those of the children before, and those of this one
pub parts_are : (begin middle : ℕ) (before links now x d h : List FoundLink) (done here : List Found)
    → begin ≡ length before → middle ≡ length links → x ≡ now → links_of links ≡ links_of before ++ done
    → links_of now ≡ links_of links ++ here
    → d ≡ take (middle - begin) (drop begin x) → h ≡ drop middle x → (links_of d ≡ done) × (links_of h ≡ here)
parts_are begin middle before links now x d h done here b m e is more d_is h_is = (
  ap (λ (l : List FoundLink). links_of l) d_is ∙ middle_is begin middle before links now x done here b m e is more,
  ap (λ (l : List FoundLink). links_of l) h_is ∙ (λ j. links_of (drop (m j) (e j))) ∙ behind_is links now here more,
)

-- what is told of two lists in order is told of those that they are
pub told_of : (P : List Found → List Found → Type 0) (x y done here : List Found) → (x ≡ done) × (y ≡ here)
    → AreOrdered (names_of done) → AreOrdered (names_of here)
    → (AreOrdered (names_of x) → AreOrdered (names_of y) → P x y) → P done here
told_of P x y done here are o p h =
    subst (λ (d : List Found). P d here) are.0 (subst (λ (d : List Found). P x d) are.1
    (h (subst (λ (d : List Found). AreOrdered (names_of d)) (sym are.0) o)
    (subst (λ (d : List Found). AreOrdered (names_of d)) (sym are.1) p)))
