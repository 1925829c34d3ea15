use Rattle.std.proofs.Common.{ℕ, List}
use Rattle.file_model.specs.Groups.{HasText}
use Rattle.group_reader.proofs.TextLemmas.{IsLeft}
use Rattle.group_reader.proofs.text.text_before.Given as goal

abbrev pub invariant-loop-i : goal.invariant-loop-i
invariant-loop-i l = (text : List ℕ) → HasText l.segment l.at text → IsLeft text l.name l.i
