-- Nodes that are read, or refused by themselves, whatever stands under them.
use Rattle.std.proofs.Common.{◌≡◌, ℕ, List, [], ◌∷◌, IfSome, refl, sym, ◌∙◌, ap, subst, inl, inr}
use Rattle.outside.specs.Array.{bytes_of}
use Rattle.outside.specs.Blocks.{IsBlockRefused}
use Rattle.outside.specs.Space.{SpaceView, bounds_of}
use Rattle.h5_base.specs.declared.kinds.BlockKind.TheVariants as kind
use Rattle.h5_base.specs.declared.refusal.Refusal.TheVariants.{Malformed}
use Rattle.h5_base.specs.declared.refusal.Stop.{Stop}
use Rattle.h5_base.specs.declared.refusal.Stop.TheVariants.{Refused}
use Rattle.h5_base.specs.Refusals.{refusal_of}
use Rattle.node_codec.specs.GroupNodes.{SpellsGroupNode, group_node_len}
use Rattle.node_codec.specs.declared.group_node.GroupNode.{GroupNode}
use Rattle.block_space.specs.Blocks.{Refuses}
use Rattle.block_space.specs.declared.blocks.Blocks.{Blocks}
use Rattle.block_space.proofs.Stopped.{if_some}
use Rattle.file_model.specs.Groups.{Ks, node_block}
use Rattle.group_reader.specs.Reading.{TakesJust, IsHeadRefused}
use Rattle.block_space.proofs.Taken.{taken}
use Rattle.group_reader.proofs.Told.{tells}

module _ {V : Type 0} (view : V → SpaceView) (old : Blocks V) (ks : Ks) (at len : ℕ)
    (is : len ≡ group_node_len ks.internal) where
  -- a stop tells why the node is refused
  abbrev Tells : Stop → Type 0
  Tells = Refuses view old (λ e met. IsHeadRefused (view old.space).array e ks met at)

  pub block_head : (stop : Stop) → Refuses view old (λ e met. IsBlockRefused e met (record { start = at; len = len })
      kind.Tree) stop → Tells stop
  block_head stop h = λ met own keeps.
      let e = bounds_of (view old.space) own in
      if_some (refusal_of stop) (IsBlockRefused e met (node_block ks at) kind.Tree)
      (IsHeadRefused (view old.space).array e ks met at) (λ r x. inl x)
      (subst (λ (n : ℕ). IfSome (refusal_of stop) (IsBlockRefused e met (record { start = at; len = n }) kind.Tree)) is
      (h met own keeps))

  pub no_head : (new : Blocks V) (stop : Stop) (bytes : List ℕ) → view new.space ≡ view old.space
      → TakesJust view old new (record { start = at; len = len } ∷ []) → bytes ≡ bytes_of (view old.space).array at len
      → ((n : GroupNode) → ¬ SpellsGroupNode ks.internal n bytes) → stop ≡ Refused (Malformed at kind.Tree) → Tells stop
  no_head new stop bytes same took read none line = λ met own keeps.
      let b = (view old.space).array in
      let e = bounds_of (view old.space) own in
      let took_it = taken view old new met (node_block ks at ∷ []) own (sym same)
      (subst (λ (n : ℕ). TakesJust view old new (record { start = at; len = n } ∷ [])) is took met keeps) in
      let all : bytes ≡ bytes_of b at (group_node_len ks.internal) = read ∙ ap (bytes_of b at) is in
      tells stop (Malformed at kind.Tree) (IsHeadRefused b e ks met at) line
      (inr (took_it, (λ n h. none n (subst (SpellsGroupNode ks.internal n) (sym all) h)), refl))
