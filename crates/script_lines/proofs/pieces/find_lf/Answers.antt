use Rattle.std.proofs.Common.{◌≡◌, Option, Some, None, List, ℕ, take, drop, ◌+◌, ◌++◌, ◌∷◌, sym}
use Rattle.std.specs.Prelude.{IfSome, IfNone, position, ◌==◌}
use Rattle.script_lines.specs.Lines.{HasNoLf}
use Rattle.script_lines.proofs.PieceLemmas.{first_lf, no_lf}
use Rattle.script_lines.proofs.pieces.find_lf.Goals as goal

before : (xs : List ℕ) (r : Option ℕ) → r ≡ position (λ b. b == 10) xs → IfSome r (λ at. HasNoLf (take at xs))
before xs (Some at) is = (first_lf xs at (sym is)).before
before xs None is = tt

found : (xs : List ℕ) (r : Option ℕ) → r ≡ position (λ b. b == 10) xs → IfSome r (λ at. xs ≡ take at xs ++ 10 ∷ drop (at + 1) xs)
found xs (Some at) is = (first_lf xs at (sym is)).found
found xs None is = tt

none : (xs : List ℕ) (r : Option ℕ) → r ≡ position (λ b. b == 10) xs → IfNone r (HasNoLf xs)
none xs (Some at) is = tt
none xs None is = no_lf xs (sym is)

pub returns-clause-before : goal.returns-clause-before
returns-clause-before c = before c.args.bytes.now c.position_of_lf.result c.position_of_lf.ensures

pub returns-clause-found : goal.returns-clause-found
returns-clause-found c = found c.args.bytes.now c.position_of_lf.result c.position_of_lf.ensures

pub returns-clause-none : goal.returns-clause-none
returns-clause-none c = none c.args.bytes.now c.position_of_lf.result c.position_of_lf.ensures
