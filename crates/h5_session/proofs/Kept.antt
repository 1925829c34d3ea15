-- A session whose space and catalogue a call left as they were, but maybe for the ranges that are given.
use Rattle.std.proofs.Common.{◌≡◌, true, List, None, Option, refl, sym, ◌∙◌, ap, subst}
use Rattle.std.specs.List.{Contains}
use Rattle.outside.specs.Blocks.{Block}
use Rattle.outside.specs.Revisions.{Committed}
use Rattle.outside.specs.Space.{SpaceView}
use Rattle.block_space.specs.Blocks.{Keeps, space_of}
use Rattle.block_space.specs.Catalogue.{blocks_of}
use Rattle.block_space.specs.declared.blocks.Blocks.{Blocks}
use Rattle.end_fields.specs.Field.{field_of}
use Rattle.tree_nodes.specs.Entries.{superblock_of}
use Rattle.session_model.specs.State.{State}
use Rattle.group_lines.specs.States.{StandsFor, plain_setting}
use Rattle.h5_session.specs.Session.{IsIn, IsSound, space_in}
use Rattle.h5_session.specs.declared.session.Session.{Session}

module _ {V : Type 0} (view : V → SpaceView) (old : Session V) (blocks : Blocks V) where
  -- the session with these blocks in place of its own
  abbrev pub next : Session V
  next = record { blocks = blocks; tree = old.tree; edited = old.edited }

  module _ (same : view (space_of blocks) ≡ view (space_in old)) where
    pub same_in : (s : State) (i : IsIn view old s) → Keeps view blocks i.met → IsIn view next s
    same_in s i keeps = record {
      met = i.met;
      keeps = keeps;
      stands = subst (λ (v : SpaceView). StandsFor (plain_setting v) v s i.met) (sym same) i.stands;
      places = i.places;
      super = i.super;
      edited = i.edited;
    }

    pub same_sound : (h : IsSound view old) → Keeps view blocks h.met → IsSound view next
    same_sound h keeps = record {
      tree = h.tree;
      met = h.met;
      keeps = keeps;
      super = h.super;
      closes = λ is without. subst (λ (v : SpaceView). Contains (blocks_of v.prepared) (field_of (superblock_of old.tree).version))
          (sym same) (h.closes is (sym (ap (λ (v : SpaceView). v.committed) same) ∙ without));
    }

  module _ (readied : view (space_of blocks) ≡ record (view (space_in old)) { prepared = (view (space_of blocks)).prepared })
    where
      pub readied_in : (s : State) (i : IsIn view old s) → Keeps view blocks i.met → IsIn view next s
      readied_in s i keeps = record {
        met = i.met;
        keeps = keeps;
        stands = subst (λ (v : SpaceView). StandsFor (plain_setting v) v s i.met) (sym readied) (record {
          told = record {
            array = i.stands.told.array;
            ends = i.stands.told.ends;
            committed = i.stands.told.committed;
            history = i.stands.told.history;
          };
          held = i.stands.held;
          within = i.stands.within;
          given_up = i.stands.given_up;
          among = i.stands.among;
          counted = i.stands.counted;
        });
        places = i.places;
        super = i.super;
        edited = i.edited;
      }

      pub readied_sound : (Contains (blocks_of (view (space_in old)).prepared) (field_of (superblock_of old.tree).version)
          → (view (space_in old)).committed ≡ None
          → Contains (blocks_of (view (space_of blocks)).prepared) (field_of (superblock_of old.tree).version))
          → (h : IsSound view old) → Keeps view blocks h.met → IsSound view next
      readied_sound given h keeps = record {
        tree = h.tree;
        met = h.met;
        keeps = keeps;
        super = h.super;
        closes = λ is without.
            let none = sym (ap (λ (v : SpaceView). v.committed) readied) ∙ without in
            given (h.closes is none) none;
      }
