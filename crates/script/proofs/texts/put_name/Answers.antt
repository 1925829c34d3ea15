use Rattle.script.specs.Print.{name_symbol}
use Rattle.script.proofs.PrintLemmas.{more_items}
use Rattle.script.proofs.texts.put_name.Goals as goal

pub loop-byte-preserved : goal.loop-byte-preserved
loop-byte-preserved c =
    more_items name_symbol c.args.text.now.items c.loop-byte.text.items _ c.args.name.now c.loop-byte.byte-index 0 c.loop-byte-test.true c.loop-byte.invariant c.in_ok-put_symbol.ensures
