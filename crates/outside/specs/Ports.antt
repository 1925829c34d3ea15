-- The moments that a clock tells: a list whose last moment repeats.
-- Cited by `Clock` and by what answers a commit.
use Rattle.std.specs.Prelude.{ℤ, pos, List, [], ◌∷◌}

-- what the next call answers
abbrev pub next_moment : List ℤ → ℤ
next_moment [] = pos 0
next_moment (moment ∷ later) = moment

-- what the calls after it answer
abbrev pub later_moments : List ℤ → List ℤ
later_moments [] = []
later_moments (moment ∷ []) = moment ∷ []
later_moments (moment ∷ next ∷ later) = next ∷ later
