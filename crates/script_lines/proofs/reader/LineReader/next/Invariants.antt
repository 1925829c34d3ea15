use Rattle.std.proofs.Common.{◌≡◌, ◌+◌, ◌-◌, ◌≤◌, ◌++◌, length, IsTrue, false}
use Rattle.std.specs.List.{Contains}
use Rattle.script_lines.specs.Lines.{most_taken, spent}
use Rattle.script_lines.proofs.LineLemmas.{Begun}
use Rattle.script_lines.proofs.reader.LineReader.next.Given as goal

abbrev pub invariant-loop-self : goal.invariant-loop-self
invariant-loop-self g l = record {
  begun : Begun g.I.Source.tells l.self.line l.self.held (g.I.Source.left l.source) (l.fn.self.held ++ g.I.Source.left l.fn.source);
  counted : IsTrue g.I.Source.tells → l.self.taken + length (g.I.Source.left l.source) ≡ l.fn.self.taken + length (g.I.Source.left l.fn.source);
  asking : l.self.ended ≡ false;
  spent : spent l.fn.self ≤ spent l.self;
  held : Contains l.fn.self.held 10 → l.self.held ≡ l.fn.self.held;
  asked : Contains l.fn.self.held 10 → l.source ≡ l.fn.source;
  calm : g.I.Source.faults l.source ≡ g.I.Source.faults l.fn.source;
  full : l.fn.self.taken ≡ most_taken → (l.self.taken ≡ most_taken) × (l.source ≡ l.fn.source);
}

abbrev pub decreases-loop-self : goal.decreases-loop-self
decreases-loop-self g l = most_taken - l.self.taken
