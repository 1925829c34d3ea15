-- That what is printed is spelled as a line has to spell it: names, and types.
-- Cited by the laws of this crate.
use Rattle.std.specs.Prelude.{ℕ, ◌<◌, List, All}
use Rattle.dtype.specs.Types.{IsElemType}
use Rattle.dtype.specs.declared.types.ElemType.{ElemType}
use Rattle.script.specs.declared.symbols.Within.TheVariants.{Path}
use Rattle.script.specs.Names.{IsText}
use Rattle.script.specs.Print.{name_text, type_text}
use Rattle.script.specs.Types.{IsType}

-- a printed name spells the name, whatever bytes it has
abbrev pub NamesAgain : Type 0
NamesAgain = (name : List ℕ) → All (λ b. b < 256) name → IsText Path (name_text name) name

-- a printed type spells the type, where a file can hold it
abbrev pub TypesAgain : Type 0
TypesAgain = (t : ElemType) → IsElemType t → IsType (type_text t) t
