use Rattle.std.proofs.Common.{◌≡◌, sym, subst}
use Rattle.std.specs.Result.{IfOk}
use Rattle.header_codec.specs.declared.types.NewHeader.{NewHeader}
use Rattle.header_codec.specs.Written.{header_bytes}
use Rattle.header_codec.proofs.writing.write_header.Goals as goal

pub returns-in-Dataset-clause-bytes : goal.returns-in-Dataset-clause-bytes
returns-in-Dataset-clause-bytes c =
    subst (λ (h : NewHeader). IfOk c.write_dataset.result (λ b. b ≡ header_bytes h)) (sym c.in-Dataset.is) c.write_dataset.ensures.bytes
