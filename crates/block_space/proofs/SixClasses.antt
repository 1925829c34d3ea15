-- The six classes of memory, and whether a block lies inside one of their regions.
use Rattle.std.proofs.Common.{◌↔◌, ℕ, ◌<◌, List, length, Bool, true, false, refl, arith}
use Rattle.std.specs.declared.option.Option.{Option}
use Rattle.std.specs.Bool.{IsTrue, MatchBool}
use Rattle.std.specs.List.{AllWithin, HoldsAt}
use Rattle.h5_base.specs.declared.extent.MemClass.{MemClass}
use Rattle.h5_base.specs.declared.extent.MemClass.TheVariants.{Super, Tree, Raw, GlobalHeap, LocalHeap, Header}
use Rattle.outside.specs.Blocks.{IsInside}
use Rattle.outside.specs.Space.{SpaceView, LiesIn, bounds_of}
use Rattle.block_space.specs.Plans.{classes}

-- what holds at each place of the list holds of each class
pub every_class : (P : MemClass → Type 0) → AllWithin P classes 0 (length classes) → (c : MemClass) → P c
every_class P all Super = all 0 Super (omega arith) (omega arith)
every_class P all Tree = all 1 Super (omega arith) (omega arith)
every_class P all Raw = all 2 Super (omega arith) (omega arith)
every_class P all GlobalHeap = all 3 Super (omega arith) (omega arith)
every_class P all LocalHeap = all 4 Super (omega arith) (omega arith)
every_class P all Header = all 5 Super (omega arith) (omega arith)

pub inside_from_any : (v : SpaceView) (start len : ℕ) (own : Option (List ℕ)) (r : Bool)
    → MatchBool r ((k : ℕ) × (k < length classes) × HoldsAt (λ c. LiesIn v.regions v.ends c start len) classes k) (AllWithin (λ c. LiesIn v.regions v.ends c start len → ⊥) classes 0 (length classes))
    → IsTrue r ↔ IsInside (bounds_of v own) (record { start = start; len = len })
inside_from_any v start len own true h = (λ _. (_, (h.2 Super).low, (h.2 Super).high), λ _. refl)
inside_from_any v start len own false h = (λ e. absurd cc, λ inside. absurd (every_class (λ c. LiesIn v.regions v.ends c start len → ⊥) h inside.0 (record { low = inside.1; high = inside.2 })))
