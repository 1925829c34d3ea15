use Rattle.std.proofs.Common.{◌∷◌, [], ◌++◌, List, ℕ, get_or, take, sym, ap, ◌∙◌}
use Rattle.std.specs.Prelude.{flat_map}
use Rattle.std.proofs.lemmas.List.{flat_map_more, take_more}
use Rattle.dtype.specs.Values.{symbol}
use Rattle.dtype.proofs.texts.quote.Goals as goal

pub loop-byte-preserved : goal.loop-byte-preserved
loop-byte-preserved c =
    let i = c.loop-byte.byte-index in
    let byte = get_or c.args.text.now i 0 in
    c.in_ok-append_symbol.ensures
    ∙ ap (λ (l : List ℕ). l ++ symbol byte) c.loop-byte.invariant
    ∙ flat_map_more symbol (34 ∷ []) (take i c.args.text.now) byte
    ∙ ap (λ (l : List ℕ). 34 ∷ flat_map symbol l) (sym (take_more c.args.text.now i 0 c.loop-byte-test.true))
