-- What a path leads to in a tree that is held is held.
use Rattle.std.proofs.Common.{◌≡◌, Bool, true, false, cond, List, [], ◌∷◌, Option, Some, None, Ok, Err, refl, ap, subst}
use Rattle.object_model.specs.Tree.{Group, Leaf, Empty, Link, Name, find, same_name, walk}
use Rattle.outside.specs.Array.{Array}
use Rattle.file_model.specs.Groups.{Ks}
use Rattle.file_model.specs.Holds.{AreHeld, Full, FullLinks, IsHeld}
use Rattle.file_model.specs.Limits.{AllFit, Fits}
use Rattle.file_model.proofs.PathBlocks.{leads_on}

-- what is so of a tree of links is so of each of them
module _ (P : Full → Type 0) (Q : FullLinks → Type 0)
    (split : (n : Name) (t : Full) (rest : FullLinks) → Q (Link n t rest) → P t × Q rest) where
  pub found_so : (ls : FullLinks) (n : Name) (u : Full) → find ls n ≡ Some u → Q ls → P u
  found_so Empty n u is h = absurd cc
  found_so (Link m t rest) n u is h = go (same_name m n) refl is (found_so rest n u)
    where
      go : (b : Bool) → same_name m n ≡ b → find (Link m t rest) n ≡ Some u
          → (find rest n ≡ Some u → Q rest → P u) → P u
      go true same there later =
          let is_t : Some t ≡ Some u = rw same at there in
          let here : t ≡ u = cc in
          subst P here (split m t rest h).0
      go false other there later = later (rw other at there) (split m t rest h).1

pub walked_held : (b : Array) (ks : Ks) (p : List Name) (t u : Full) → walk t p ≡ Ok u → IsHeld b ks t → IsHeld b ks u
walked_held b ks [] t u w h = let here : t ≡ u = cc in subst (IsHeld b ks) here h
walked_held b ks (n ∷ ns) (Leaf l) u w h = absurd cc
walked_held b ks (n ∷ ns) (Group g ls) u w h =
    let (x, found, on) = leads_on g ls n ns u w in
    walked_held b ks ns x u on (found_so (IsHeld b ks) (AreHeld b ks) (λ m t rest k. k) ls n x found h.1)

pub walked_fits : (b : Array) (p : List Name) (t u : Full) → walk t p ≡ Ok u → Fits b t → Fits b u
walked_fits b [] t u w h = let here : t ≡ u = cc in subst (Fits b) here h
walked_fits b (n ∷ ns) (Leaf l) u w h = absurd cc
walked_fits b (n ∷ ns) (Group g ls) u w h =
    let (x, found, on) = leads_on g ls n ns u w in
    walked_fits b ns x u on (found_so (Fits b) (AllFit b) (λ m t rest k. k) ls n x found h.2)
