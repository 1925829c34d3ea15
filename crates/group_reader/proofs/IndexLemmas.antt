-- Nodes of a B-tree by their level.
use Rattle.std.proofs.Common.{◌≡◌, ℕ, suc, Bool, IsTrue, List, [], ◌∷◌, ◌++◌, Option, IfSome, IfErr, OnOk, Result, refl}
use Rattle.std.proofs.Common.{sym, ◌∙◌, ap, subst, inl, inr}
use Rattle.std.proofs.lemmas.List.{append_assoc}
use Rattle.outside.specs.Array.{Array}
use Rattle.outside.specs.Blocks.{Block, Bounds, AreTaken}
use Rattle.outside.specs.Space.{SpaceView, bounds_of}
use Rattle.h5_base.specs.declared.kinds.BlockKind.TheVariants as kind
use Rattle.h5_base.specs.declared.refusal.Refusal.{Refusal}
use Rattle.h5_base.specs.declared.refusal.Refusal.TheVariants.{Malformed}
use Rattle.h5_base.specs.declared.refusal.Stop.{Stop}
use Rattle.h5_base.specs.declared.refusal.Stop.TheVariants.{Refused}
use Rattle.h5_base.specs.Refusals.{refusal_of}
use Rattle.node_codec.specs.declared.group_node.GroupNode.{GroupNode}
use Rattle.block_space.specs.Blocks.{Keeps, Takes, Refuses}
use Rattle.block_space.specs.declared.blocks.Blocks.{Blocks}
use Rattle.block_space.proofs.Stopped.{if_some, if_err}
use Rattle.file_model.specs.Groups.{Ks, StandsAt, node_block}
use Rattle.file_model.specs.RefusedGroups.{root_level, AreChildrenRefused, NodeBlock, NoNode, InChildren}
use Rattle.file_model.specs.RefusedGroups.{IsIndexRefused}
use Rattle.group_reader.specs.declared.gathered.Gathered.{Gathered}
use Rattle.group_reader.specs.Links.{Adds}
use Rattle.group_reader.specs.Reading.{TakesJust, AreChildren, IsNodeAt, IsHeadRefused}
use Rattle.group_reader.proofs.EntryLemmas.{adds_as}
use Rattle.block_space.proofs.Taken.{taken}
use Rattle.group_reader.proofs.Told.{tells, on_ok_then}
use Rattle.group_reader.proofs.ValueLemmas.{node_stands}

head_node : (b : Array) (e : Bounds) (ks : Ks) (s : List ℕ) (heap level : ℕ) (met : List Block) (at : ℕ) (r : Refusal)
    → IsHeadRefused b e ks met at r → IsIndexRefused b e ks s heap (suc level) met at r
head_node b e ks s heap level met at r (inl x) = NodeBlock x
head_node b e ks s heap level met at r (inr (took, none, line)) = NoNode took (λ n spelled is. none n spelled) line

pub head_index : {V : Type 0} (view : V → SpaceView) (old : Blocks V) (ks : Ks) (s : List ℕ) (heap level at : ℕ)
    (stop : Stop) → Refuses view old (λ e met. IsHeadRefused (view old.space).array e ks met at) stop
    → Refuses view old (λ e met. IsIndexRefused (view old.space).array e ks s heap (suc level) met at) stop
head_index view old ks s heap level at stop h = λ met own keeps.
    let b = (view old.space).array in
    let e = bounds_of (view old.space) own in
    if_some (refusal_of stop) (IsHeadRefused b e ks met at) (IsIndexRefused b e ks s heap (suc level) met at)
    (head_node b e ks s heap level met at) (h met own keeps)

pub level_is_root : (b : Array) (ks : Ks) (at : ℕ) (node : GroupNode) → IsNodeAt b ks at node
    → node.level ≡ root_level b ks at
level_is_root b ks at node spelled = ap (λ (n : GroupNode). n.level) spelled.value

module _ {V : Type 0} (tells_it : Bool) (view : V → SpaceView) (old mid : Blocks V) (ks : Ks) (s : List ℕ)
    (heap level at : ℕ) (node : GroupNode) (same : view mid.space ≡ view old.space)
    (took : TakesJust view old mid (node_block ks at ∷ [])) where
  -- the block of the node was taken
  node_taken : (met : List Block) (own : Option (List ℕ)) → Keeps view old met
      → AreTaken (bounds_of (view old.space) own) met (node_block ks at ∷ [])
  node_taken met own keeps = taken view old mid met (node_block ks at ∷ []) own (sym same) (took met keeps)

  abbrev AddsChildren : Blocks V → (before now : Gathered) → Type 0
  AddsChildren new before now = Adds before now (λ fs. Takes view mid new
      (λ bs. IsTrue tells_it → AreChildren s (StandsAt (view mid.space).array ks s node.level) node.keys node.children
      fs bs))

  abbrev AddsIndex : Blocks V → (before now : Gathered) → Type 0
  AddsIndex new before now = Adds before now (λ fs. Takes view old new
      (λ bs. IsTrue tells_it → StandsAt (view old.space).array ks s (suc level) at fs bs))

  pub index_found : {T E : Type 0} (new : Blocks V) (before now : Gathered) (r : Result T E)
      → (IsTrue tells_it → IsNodeAt (view old.space).array ks at node) → (IsTrue tells_it → node.level ≡ level)
      → OnOk r (AddsChildren new before now) → OnOk r (AddsIndex new before now)
  index_found new before now r spelled is h = on_ok_then r (AddsChildren new before now) (AddsIndex new before now)
      (λ a. adds_as before now a (λ met keeps.
      let b = (view old.space).array in
      let block = node_block ks at in
      let x = a.part (met ++ block ∷ []) (took met keeps) in (
        block ∷ x.0,
        λ told.
            let one = subst (λ (v : SpaceView). AreChildren s (StandsAt v.array ks s node.level) node.keys node.children
            a.added x.0) same (x.1 told) in
            let two = subst (λ (n : ℕ). AreChildren s (StandsAt b ks s n) node.keys node.children a.added x.0) (is told)
            one in
            node_stands b ks s level at node a.added x.0 (spelled told) (is told) two,
        subst (λ (l : List Block). Keeps view new l) (append_assoc met (block ∷ []) x.0) x.2,
      ))) h

  abbrev StopsChildren : Stop → Type 0
  StopsChildren = Refuses view mid (λ e met. AreChildrenRefused e s heap at
      (StandsAt (view mid.space).array ks s node.level) (IsIndexRefused (view mid.space).array e ks s heap node.level)
      node.keys node.children [] met)

  abbrev StopsIndex : Stop → Type 0
  StopsIndex = Refuses view old (λ e met. IsIndexRefused (view old.space).array e ks s heap (suc level) met at)

  pub index_refused : {T : Type 0} (r : Result T Stop) → IsNodeAt (view old.space).array ks at node → node.level ≡ level
      → IfErr r StopsChildren → IfErr r StopsIndex
  index_refused r spelled is h = if_err r StopsChildren StopsIndex
      (λ stop k met own keeps.
      let b = (view old.space).array in
      let e = bounds_of (view old.space) own in
      let m = met ++ node_block ks at ∷ [] in
      let one = subst (λ (v : SpaceView). IfSome (refusal_of stop)
      (AreChildrenRefused (bounds_of v own) s heap at (StandsAt v.array ks s node.level)
      (IsIndexRefused v.array (bounds_of v own) ks s heap node.level) node.keys node.children [] m)) same
      (k m own (took met keeps)) in
      let two = subst (λ (n : ℕ). IfSome (refusal_of stop) (AreChildrenRefused e s heap at (StandsAt b ks s n)
      (IsIndexRefused b e ks s heap n) node.keys node.children [] m)) is one in
      if_some (refusal_of stop) (AreChildrenRefused e s heap at (StandsAt b ks s level)
      (IsIndexRefused b e ks s heap level) node.keys node.children [] m)
      (IsIndexRefused b e ks s heap (suc level) met at)
      (λ why x. InChildren node (node_taken met own keeps) spelled is x) two) h

  pub other_level : (stop : Stop) → stop ≡ Refused (Malformed at kind.Tree) → IsNodeAt (view old.space).array ks at node
      → (node.level ≡ level → ⊥) → StopsIndex stop
  other_level stop line spelled other = λ met own keeps.
      tells stop (Malformed at kind.Tree) (IsIndexRefused (view old.space).array (bounds_of (view old.space) own) ks s
      heap (suc level) met at) line
      (NoNode (node_taken met own keeps) (λ n again is. other
      (ap (λ (x : GroupNode). x.level) (spelled.value ∙ sym again.value) ∙ is)) refl)
