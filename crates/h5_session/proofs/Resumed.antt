-- A session that begins: the state that an opened tree stands for.
use Rattle.std.proofs.Common.{◌≡◌, ℕ, ◌<◌, List, [], ◌++◌, length, None, Result, Ok, Err, false, refl, sym, subst, arith}
use Rattle.std.specs.Prelude.{IfErr, IfOk, IfSome}
use Rattle.std.specs.List.{Contains}
use Rattle.h5_base.specs.Refusals.{refusal_of}
use Rattle.h5_base.specs.declared.refusal.Refusal.{Refusal}
use Rattle.h5_base.specs.declared.refusal.Stop.{Stop}
use Rattle.h5_base.specs.declared.refusal.Stop.TheVariants as stop
use Rattle.outside.specs.Array.{Array}
use Rattle.std.proofs.lemmas.List.{append-nil}
use Rattle.std.proofs.lemmas.List.Sorted.{IsPermutation-refl}
use Rattle.std.specs.List.Sorted.{IsPermutation}
use Rattle.outside.specs.Blocks.{Block, Bounds}
use Rattle.outside.specs.Space.{SpaceView, bounds_of}
use Rattle.block_space.specs.Blocks.{Keeps, space_of}
use Rattle.block_space.specs.declared.blocks.Blocks.{Blocks}
use Rattle.object_tree.specs.Opened.{IsOpened, file_blocks}
use Rattle.tree_nodes.specs.Entries.{superblock_of}
use Rattle.tree_nodes.specs.declared.tree.ObjectTree.{ObjectTree}
use Rattle.session_model.specs.Runs.{Begins, IsFresh}
use Rattle.session_model.specs.State.{State}
use Rattle.object_model.specs.Tree.{Group}
use Rattle.tree_places.specs.Kept.{HasPlaces}
use Rattle.group_lines.specs.States.{StandsFor, plain_setting}
use Rattle.h5_session.specs.Session.{IsBegun, IsIn, IsSameButEnd, space_in}
use Rattle.file_model.specs.RefusedTree.{super_block}
use Rattle.h5_session.specs.declared.session.ResumeRefused.{ResumeRefused}
use Rattle.h5_session.specs.declared.session.Session.{Session}

-- The tree of a space was opened, and the catalogue has its blocks.
pub record IsOpenedOver {V : Type 0} (view : V → SpaceView) (blocks : Blocks V) (tree : ObjectTree)
    (v : SpaceView) : Type 0 where
  pub opened : IsOpened v.array (bounds_of v None) tree
  pub keeps : Keeps view blocks (file_blocks opened)
  pub fresh : IsFresh v.committed

module _ {V : Type 0} (view : V → SpaceView) (blocks : Blocks V) (tree : ObjectTree) where
  module _ (v : SpaceView) (h : IsOpenedOver view blocks tree v) where
    state : State
    state = record {
      array = v.array;
      ends = v.ends;
      committed = v.committed;
      history = v.history;
      super = superblock_of tree;
      root = h.opened.root;
      links = h.opened.links;
      blocks = length (file_blocks h.opened);
      edited = false;
    }

    begins : Begins v None state
    unfolding state
    begins = record {
      told = record { array = refl; ends = refl; committed = refl; history = refl };
      fresh = h.fresh;
      held = h.opened.full;
      within = h.opened.within;
      blocks = refl;
      idle = refl;
    }

  -- the session that keeps the opened tree is in that state
  is_in : (session : Session V) (h : IsOpenedOver view blocks tree (view (space_of blocks))) → session.tree ≡ tree
      → session.edited ≡ false → space_in session ≡ space_of blocks → Keeps view session.blocks (file_blocks h.opened)
      → IsIn view session (state (view (space_of blocks)) h)
  unfolding state
  is_in session h same_tree idle same keeps = record {
    met = file_blocks h.opened;
    keeps = keeps;
    stands = subst (λ (v : V). StandsFor (plain_setting (view v)) (view v) (state (view (space_of blocks)) h)
        (file_blocks h.opened)) (sym same) (record {
          told = record { array = refl; ends = refl; committed = refl; history = refl };
          held = h.opened.full;
          within = h.opened.within;
          given_up = [];
          among = subst (IsPermutation (file_blocks h.opened)) (sym (append-nil (file_blocks h.opened)))
              (IsPermutation-refl (file_blocks h.opened));
          counted = refl;
        });
    places = subst (λ (t : ObjectTree). HasPlaces t (Group h.opened.root h.opened.links)) (sym same_tree)
        (record { keyed = h.opened.tree; shown = h.opened.shown; same = h.opened.same });
    super = subst (λ (t : ObjectTree). IsSameButEnd (superblock_of t) (superblock_of tree)) (sym same_tree)
        ((superblock_of tree).end_at, refl);
    edited = idle;
  }

  pub begun : (v : SpaceView) (session : Session V) → v ≡ view (space_of blocks) → IsOpenedOver view blocks tree v
      → session.tree ≡ tree → session.edited ≡ false → space_in session ≡ space_of blocks
      → ((met : List Block) → Keeps view blocks met → Keeps view session.blocks met) → IsBegun view v session
  begun v session same h same_tree idle same_space kept =
      let there = subst (IsOpenedOver view blocks tree) same h in
      record {
        state = state (view (space_of blocks)) there;
        begins = subst (λ (w : SpaceView). Begins w None (state (view (space_of blocks)) there)) (sym same)
            (begins (view (space_of blocks)) there);
        is_in = is_in session there same_tree idle same_space (kept (file_blocks there.opened) there.keeps);
      }

  -- whatever comes of the session that keeps the tree
  pub begun_ok : (r : Result (Session V) (ResumeRefused V)) (v : SpaceView) → v ≡ view (space_of blocks)
      → IsOpenedOver view blocks tree v
      → IfOk r (λ s. (s.tree ≡ tree) × (s.edited ≡ false) × (space_in s ≡ space_of blocks))
      → IfOk r (λ s. (met : List Block) → Keeps view blocks met → Keeps view s.blocks met) → IfOk r (IsBegun view v)
  begun_ok (Ok s) v same h is kept = begun v s same h is.0 is.1 is.2 kept
  begun_ok (Err x) v same h is kept = tt

-- want of memory shows no refusal
pub none_refused : {T V : Type 0} (IsRefused : Refusal → Type 0) (r : Result T (ResumeRefused V))
    → IfErr r (λ x. x.why ≡ stop.NoMemory) → IfErr r (λ x. IfSome (refusal_of x.why) IsRefused)
none_refused IsRefused (Ok s) is = tt
none_refused IsRefused (Err x) is =
    subst (λ (w : Stop). IfSome (refusal_of w) IsRefused) (sym is) tt

-- the superblock's block is one of an opened file's
pub super_there : {b : Array} {e : Bounds} {kept : ObjectTree} (o : IsOpened b e kept)
    → Contains (file_blocks o) (super_block (superblock_of kept))
super_there {kept = kept} o = (0, omega arith, refl)
