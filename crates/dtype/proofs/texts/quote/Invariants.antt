use Rattle.std.proofs.Common.{◌≡◌, ◌∷◌, take}
use Rattle.std.specs.Prelude.{flat_map}
use Rattle.dtype.specs.Values.{symbol}
use Rattle.dtype.proofs.texts.quote.Given as goal

abbrev pub invariant-loop-byte : goal.invariant-loop-byte
invariant-loop-byte l = l.out.items ≡ 34 ∷ flat_map symbol (take l.byte-index l.text)
