-- Names of a tree that is held ascend.
use Rattle.std.proofs.Common.{List, ◌∷◌, refl, ap, subst}
use Rattle.outside.specs.Array.{Array}
use Rattle.object_model.specs.Tree.{Group, Leaf, Empty, Link, Name, AreOrdered, IsOrdered, AreOrderedBelow}
use Rattle.file_model.specs.Groups.{Ks}
use Rattle.file_model.specs.Holds.{Full, FullLinks, IsHeld, AreHeld}
use Rattle.file_model.specs.EditLaws.{HeldOrder, FoundNames}

pub found_names : FoundNames
found_names Empty = refl
found_names (Link n t rest) = ap (λ (ns : List Name). n ∷ ns) (found_names rest)

mutual
  held_ordered : (b : Array) (ks : Ks) (t : Full) → IsHeld b ks t → IsOrdered t
  held_ordered b ks (Group g ls) h = (subst AreOrdered (found_names ls) h.0.links.ordered, below_ordered b ks ls h.1)
  held_ordered b ks (Leaf l) h = tt

  below_ordered : (b : Array) (ks : Ks) (ls : FullLinks) → AreHeld b ks ls → AreOrderedBelow ls
  below_ordered b ks Empty h = tt
  below_ordered b ks (Link n t rest) h = (held_ordered b ks t h.0, below_ordered b ks rest h.1)

pub held_order : HeldOrder
held_order = held_ordered
