-- Worked scripts: what each line comes to, from an empty tree on, computed.
-- Each is a clause of `laws::examples`.
use Rattle.std.specs.Prelude.{◌≡◌, ℕ, false, true, pos, List, [], ◌∷◌, ◌++◌, replicate, Some, None, Result, Ok, Err}
use Rattle.dtype.specs.declared.types.ElemType.{ElemType}
use Rattle.dtype.specs.declared.types.ElemType.TheVariants as elem
use Rattle.dtype.specs.declared.types.Value.{Value}
use Rattle.dtype.specs.declared.types.Value.TheVariants as value
use Rattle.object_model.specs.declared.command.Command.{Command}
use Rattle.object_model.specs.declared.command.Command.TheVariants as command
use Rattle.object_model.specs.declared.answer.Answer.{Answer}
use Rattle.object_model.specs.declared.answer.Answer.TheVariants as answer
use Rattle.object_model.specs.declared.answer.Code.{Code}
use Rattle.object_model.specs.declared.answer.Code.TheVariants.{Exists, NotEmpty, WrongType, Range, Absent, NotGroup}
use Rattle.object_model.specs.declared.answer.Code.TheVariants.{Shrink, Fixed}
use Rattle.object_model.specs.Step.{Stack, Reply, Gives, new_group, joined, replies}

abbrev pub plain : Stack
plain = record { read_only = false; has_revisions = false }

abbrev pub ok : Result Reply Code
ok = Ok (Gives answer.Done)

abbrev pub no : Code → Result Reply Code
no code = Err code

abbrev pub gives : Answer → Result Reply Code
gives a = Ok (Gives a)

abbrev pub g : List ℕ
g = 103 ∷ []

abbrev pub h : List ℕ
h = 104 ∷ []

abbrev pub m : List ℕ
m = 109 ∷ []

abbrev pub q : List ℕ
q = 113 ∷ []

-- i32le and u8le
abbrev pub int : ElemType
int = elem.Int 4 true false

abbrev pub byte : ElemType
byte = elem.Int 1 false false

abbrev pub number : ℕ → Value
number n = value.Num (pos n)

-- mkgroup /g, mkgroup /g, mkgroup /g/h, rm /g, rm /g/h, rm /g, ls /
abbrev pub Groups : Type 0
Groups =
    replies plain new_group
    (command.Mkgroup (g ∷ []) ∷ command.Mkgroup (g ∷ []) ∷ command.Mkgroup (g ∷ h ∷ []) ∷ command.Rm
    (g ∷ []) ∷ command.Rm (g ∷ h ∷ []) ∷ command.Rm (g ∷ []) ∷ command.Ls [] ∷ [])
    ≡ ok ∷ no Exists ∷ ok ∷ no NotEmpty ∷ ok ∷ ok ∷ gives (answer.Links []) ∷ []

-- so many times the bytes of 7
abbrev pub sevens : ℕ → List ℕ
sevens n = joined (replicate n (7 ∷ 0 ∷ 0 ∷ 0 ∷ []))

abbrev pub nine : List ℕ
nine = 9 ∷ 0 ∷ 0 ∷ 0 ∷ []

abbrev pub unlimited : ℕ
unlimited = 0xFFFF_FFFF_FFFF_FFFF

-- mkdata /m i32le 5,5 chunk 2,2 max *,* fill 7, write /m 4,4 1,1 9
abbrev pub written : List Command
written =
    command.Mkdata (m ∷ []) int (5 ∷ 5 ∷ []) (Some (2 ∷ 2 ∷ [])) (Some (unlimited ∷ unlimited ∷ [])) (Some (number 7))
    ∷ command.Write (m ∷ []) (4 ∷ 4 ∷ []) (1 ∷ 1 ∷ []) (number 9 ∷ []) ∷ []

-- behind these: read /m 0,0 5,5
abbrev pub Boxes : Type 0
Boxes =
    replies plain new_group (written ++ command.Read (m ∷ []) (0 ∷ 0 ∷ []) (5 ∷ 5 ∷ []) ∷ [])
    ≡ ok ∷ ok ∷ gives (answer.Values int (sevens 24 ++ nine)) ∷ []

-- behind these: extend /m 6,7, read /m 4,4 2,3, extend /m 5,7
abbrev pub Growth : Type 0
Growth =
    replies plain new_group
    (written ++ command.Extend (m ∷ []) (6 ∷ 7 ∷ []) ∷ command.Read (m ∷ []) (4 ∷ 4 ∷ []) (2 ∷ 3 ∷ []) ∷ command.Extend
    (m ∷ []) (5 ∷ 7 ∷ []) ∷ [])
    ≡ ok ∷ ok ∷ ok ∷ gives (answer.Values int (nine ++ sevens 5)) ∷ no Shrink ∷ []

-- mkdata /b u8le 2, write /b 0 1 256, write /b 0 2 1, write /b 1 2 1 2, write /q 0 1 1, write /b/q 0 1 1, extend /b 4
abbrev pub Refusals : Type 0
Refusals =
    replies plain new_group
    (command.Mkdata (h ∷ []) byte (2 ∷ []) None None None
    ∷ command.Write (h ∷ []) (0 ∷ []) (1 ∷ []) (number 256 ∷ [])
    ∷ command.Write (h ∷ []) (0 ∷ []) (2 ∷ []) (number 1 ∷ [])
    ∷ command.Write (h ∷ []) (1 ∷ []) (2 ∷ []) (number 1 ∷ number 2 ∷ [])
    ∷ command.Write (q ∷ []) (0 ∷ []) (1 ∷ []) (number 1 ∷ [])
    ∷ command.Write (h ∷ q ∷ []) (0 ∷ []) (1 ∷ []) (number 1 ∷ [])
    ∷ command.Extend (h ∷ []) (4 ∷ []) ∷ [])
    ≡ ok ∷ no WrongType ∷ no Range ∷ no Range ∷ no Absent ∷ no NotGroup ∷ no Fixed ∷ []
