-- Symbol table nodes that are read or refused.
use Rattle.std.proofs.Common.{◌≡◌, ℕ, Bool, IsTrue, List, [], ◌∷◌, Option, IfSome, IfErr, OnOk, Result, refl, sym, ◌∙◌}
use Rattle.std.proofs.Common.{ap, subst}
use Rattle.outside.specs.Array.{bytes_of}
use Rattle.outside.specs.Blocks.{Block, IsBlockRefused, AreTaken}
use Rattle.outside.specs.Space.{SpaceView, bounds_of}
use Rattle.h5_base.specs.declared.kinds.BlockKind.TheVariants as kind
use Rattle.h5_base.specs.declared.refusal.Refusal.TheVariants.{Malformed}
use Rattle.h5_base.specs.declared.refusal.Stop.{Stop}
use Rattle.h5_base.specs.declared.refusal.Stop.TheVariants.{Refused}
use Rattle.h5_base.specs.Refusals.{refusal_of}
use Rattle.node_codec.specs.Snod.{SpellsSnod, snod_len}
use Rattle.node_codec.specs.declared.snod.SnodEntry.{SnodEntry}
use Rattle.block_space.specs.Blocks.{Keeps, Takes, Refuses}
use Rattle.block_space.specs.declared.blocks.Blocks.{Blocks}
use Rattle.block_space.proofs.Stopped.{if_some, if_err}
use Rattle.file_model.specs.Groups.{Ks, AreLinks, StandsAt, leaf_block}
use Rattle.file_model.specs.RefusedGroups.{AreEntriesRefused, IsLeafRefused, LeafBlock, NoLeaf, InEntries}
use Rattle.group_reader.specs.declared.gathered.Gathered.{Gathered}
use Rattle.group_reader.specs.Links.{Adds}
use Rattle.group_reader.specs.Reading.{TakesJust}
use Rattle.group_reader.proofs.EntryLemmas.{adds_as}
use Rattle.block_space.proofs.Taken.{taken}
use Rattle.group_reader.proofs.Told.{tells, on_ok_then}
use Rattle.group_reader.proofs.ValueLemmas.{leaf_stands}

module _ {V : Type 0} (view : V → SpaceView) (old : Blocks V) (ks : Ks) (s : List ℕ) (heap at len : ℕ)
    (is : len ≡ snod_len ks.leaf) where
  -- a stop tells why the node is refused
  abbrev Tells : Stop → Type 0
  Tells = Refuses view old (λ e met. IsLeafRefused (view old.space).array e ks s heap met at)

  pub block_refused : (stop : Stop) → Refuses view old (λ e met. IsBlockRefused e met (record { start = at; len = len })
      kind.Snod) stop → Tells stop
  block_refused stop h = λ met own keeps.
      let e = bounds_of (view old.space) own in
      if_some (refusal_of stop) (IsBlockRefused e met (leaf_block ks at) kind.Snod)
      (IsLeafRefused (view old.space).array e ks s heap met at) (λ r x. LeafBlock x)
      (subst (λ (n : ℕ). IfSome (refusal_of stop) (IsBlockRefused e met (record { start = at; len = n }) kind.Snod)) is
      (h met own keeps))

  module _ (new : Blocks V) (bytes : List ℕ) (same : view new.space ≡ view old.space)
      (took : TakesJust view old new (record { start = at; len = len } ∷ [])) where
    leaf_just : TakesJust view old new (leaf_block ks at ∷ [])
    leaf_just = subst (λ (n : ℕ). TakesJust view old new (record { start = at; len = n } ∷ [])) is took

    -- the block of the node was taken
    leaf_taken : (met : List Block) (own : Option (List ℕ)) → Keeps view old met
        → AreTaken (bounds_of (view old.space) own) met (leaf_block ks at ∷ [])
    leaf_taken met own keeps = taken view old new met (leaf_block ks at ∷ []) own (sym same) (leaf_just met keeps)

    pub leaf_found : {T E : Type 0} (r : Result T E) (told : Bool) (es given : List SnodEntry) (before now : Gathered)
        → (IsTrue told → bytes ≡ bytes_of (view old.space).array at len) → SpellsSnod ks.leaf es bytes → given ≡ es
        → OnOk r (Adds before now (AreLinks s given))
        → OnOk r (Adds before now (λ fs. Takes view old new (λ bs. IsTrue told
        → StandsAt (view old.space).array ks s 0 at fs bs)))
    leaf_found r told es given before now read spelled all = on_ok_then r (Adds before now (AreLinks s given))
        (Adds before now (λ fs. Takes view old new (λ bs. IsTrue told
        → StandsAt (view old.space).array ks s 0 at fs bs)))
        (λ a. adds_as before now a (λ met keeps. (
          leaf_block ks at ∷ [],
          λ yes. leaf_stands (view old.space).array ks s at es a.added (record {
            spelled = subst (SpellsSnod ks.leaf es) (read yes ∙ ap (bytes_of (view old.space).array at) is) spelled;
            links = subst (λ (l : List SnodEntry). AreLinks s l a.added) all a.part;
            ordered = a.ordered;
          }),
          leaf_just met keeps,
        )))

    module _ (read : bytes ≡ bytes_of (view old.space).array at len) where
      -- the bytes that were read are those of the node
      read_is : bytes ≡ bytes_of (view old.space).array at (snod_len ks.leaf)
      read_is = read ∙ ap (bytes_of (view old.space).array at) is

      pub no_leaf : (stop : Stop) → ((es : List SnodEntry) → ¬ SpellsSnod ks.leaf es bytes)
          → stop ≡ Refused (Malformed at kind.Snod) → Tells stop
      no_leaf stop none line = λ met own keeps.
          tells stop (Malformed at kind.Snod) (IsLeafRefused (view old.space).array (bounds_of (view old.space) own) ks
          s heap met at) line
          (NoLeaf (leaf_taken met own keeps) (λ es h. none es (subst (SpellsSnod ks.leaf es) (sym read_is) h)) refl)

      pub leaf_refused : {T : Type 0} (r : Result T Stop) (es given : List SnodEntry) → SpellsSnod ks.leaf es bytes
          → given ≡ es → IfErr r (λ stop. IfSome (refusal_of stop) (AreEntriesRefused s heap at given)) → IfErr r Tells
      leaf_refused r es given spelled all h =
          if_err r (λ stop. IfSome (refusal_of stop) (AreEntriesRefused s heap at given)) Tells
          (λ stop x met own keeps.
          if_some (refusal_of stop) (AreEntriesRefused s heap at given)
          (IsLeafRefused (view old.space).array (bounds_of (view old.space) own) ks s heap met at)
          (λ why y. InEntries es (leaf_taken met own keeps) (subst (SpellsSnod ks.leaf es) read_is spelled)
          (subst (λ (l : List SnodEntry). AreEntriesRefused s heap at l why) all y)) x) h
