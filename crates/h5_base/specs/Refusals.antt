-- Why a file is refused, of a stop of its reading; and the line that tells it.
-- Cited by `Refusal`, by all that reads a file, and by the top call.
use Rattle.std.specs.Prelude.{ℕ, List, ◌++◌, codes, Option, Some, None}
use Rattle.std.specs.Fmt.{decimal}
use Rattle.h5_base.specs.declared.kinds.BlockKind.{BlockKind}
use Rattle.h5_base.specs.declared.kinds.BlockKind.TheVariants as kind
use Rattle.h5_base.specs.declared.kinds.What.{What}
use Rattle.h5_base.specs.declared.kinds.What.TheVariants as what
use Rattle.h5_base.specs.declared.refusal.Refusal.{Refusal}
use Rattle.h5_base.specs.declared.refusal.Refusal.TheVariants.{Exists, Absent, Malformed, Unsupported, Truncated}
use Rattle.h5_base.specs.declared.refusal.Refusal.TheVariants.{LinkedTwice, Overlap, TooDeep, TooMany}
use Rattle.h5_base.specs.declared.refusal.Stop.{Stop}
use Rattle.h5_base.specs.declared.refusal.Stop.TheVariants as stop

-- the refusal that a stop tells; a fault and want of memory are none
abbrev pub refusal_of : Stop → Option Refusal
refusal_of (stop.Refused why) = Some why
refusal_of stop.Failed = None
refusal_of stop.NoMemory = None

abbrev pub kind_word : BlockKind → List ℕ
kind_word kind.Super = codes "super"
kind_word kind.Driver = codes "driver"
kind_word kind.Header = codes "header"
kind_word kind.Message = codes "message"
kind_word kind.Tree = codes "tree"
kind_word kind.Snod = codes "snod"
kind_word kind.Heap = codes "heap"
kind_word kind.Raw = codes "raw"

abbrev pub what_word : What → List ℕ
what_word what.UserBlock = codes "user-block"
what_word what.Sizes = codes "sizes"
what_word what.Superblock = codes "superblock"
what_word what.K = codes "k"
what_word what.Driver = codes "driver"
what_word what.Root = codes "root"
what_word what.Header = codes "header"
what_word what.Heap = codes "heap"

unfoldable pub line_of : Refusal → List ℕ
line_of Exists = codes "refused: exists\n"
line_of Absent = codes "refused: absent\n"
line_of (Malformed at kind) = codes "refused: malformed " ++ decimal at ++ codes " " ++ kind_word kind ++ codes "\n"
line_of (Unsupported what) = codes "refused: unsupported " ++ what_word what ++ codes "\n"
line_of (Truncated actual stored) = codes "refused: truncated " ++ decimal actual ++ codes " " ++ decimal stored ++
    codes "\n"
line_of (LinkedTwice at) = codes "refused: linked-twice " ++ decimal at ++ codes "\n"
line_of (Overlap at) = codes "refused: overlap " ++ decimal at ++ codes "\n"
line_of TooDeep = codes "refused: too-deep\n"
line_of TooMany = codes "refused: too-many\n"
