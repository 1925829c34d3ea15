-- Worked scripts and answers, computed.
use Rattle.std.proofs.Common.{◌≡◌, [], ◌∷◌, refl, inl, arith}
use Rattle.object_model.specs.declared.command.Command.{Command}
use Rattle.script.specs.declared.lines.Key.{Key}
use Rattle.script.specs.declared.lines.Key.TheVariants as key
use Rattle.script.specs.Line.{IsLine, key_of, key_word}
use Rattle.script.specs.Script.{EmptyLines, TwoAnswers, TwoLines}

pub two_lines : TwoLines
two_lines = (
  refl,
  (
    record { short = omega arith; spelled = (refl, (47 ∷ [], refl, record { path_is = inl (refl, refl); admitted = refl })) },
    (record { short = omega arith; spelled = (refl, refl) }, tt),
  ),
)

no_word : (k : Key) → [] ≡ key_word k → ⊥
no_word key.Mkgroup e = cc
no_word key.Mkdata e = cc
no_word key.Write e = cc
no_word key.Read e = cc
no_word key.Ls e = cc
no_word key.Stat e = cc
no_word key.Extend e = cc
no_word key.Rm e = cc
no_word key.Flush e = cc
no_word key.Commit e = cc

no_empty : (c : Command) → IsLine [] c → ⊥
no_empty c h = no_word (key_of c) h.spelled.0

pub empty_lines : EmptyLines
empty_lines = (refl, refl, (no_empty, tt))

pub two_answers : TwoAnswers
two_answers = refl
