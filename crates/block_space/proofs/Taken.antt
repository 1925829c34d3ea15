-- What the catalogue keeps was taken.
use Rattle.std.proofs.Common.{◌≡◌, ℕ, ◌<◌, List, [], ◌∷◌, ◌++◌, Option, sym, subst}
use Rattle.std.specs.List.{Contains}
use Rattle.outside.specs.Blocks.{Block, AllInside, AllSome, AreTaken}
use Rattle.outside.specs.Space.{SpaceView, bounds_of}
use Rattle.block_space.specs.Blocks.{Keeps, space_of}
use Rattle.block_space.specs.declared.blocks.Blocks.{Blocks}
use Rattle.block_space.proofs.Apart.{contains_head, contains_tail}

all_some : (xs : List Block) → ((x : Block) → Contains xs x → 0 < x.len) → AllSome xs
all_some [] h = tt
all_some (x ∷ xs) h = (h x (contains_head x xs), all_some xs (λ y c. h y (contains_tail x xs y c)))

-- over a space that tells the same
pub taken_over : {V : Type 0} (view : V → SpaceView) (b : Blocks V) (v : SpaceView) (met xs : List Block)
    (own : Option (List ℕ)) → v ≡ view (space_of b) → Keeps view b (met ++ xs) → AreTaken (bounds_of v own) met xs
taken_over view b v met xs own same keeps = record {
  kept = record {
    some = all_some (met ++ xs) keeps.lists.filled;
    apart = keeps.lists.apart;
    inside = subst (λ (w : SpaceView). AllInside (bounds_of w own) (met ++ xs)) (sym same) (keeps.inside own);
  };
  few = keeps.few;
}

-- over a space that tells the same as another one with a catalogue
pub taken : {V : Type 0} (view : V → SpaceView) (old new : Blocks V) (met xs : List Block) (own : Option (List ℕ))
    → view (space_of old) ≡ view (space_of new) → Keeps view new (met ++ xs)
    → AreTaken (bounds_of (view (space_of old)) own) met xs
taken view old new met xs own same keeps = taken_over view new (view (space_of old)) met xs own same keeps
