use Rattle.std.proofs.Common.{ap}
use Rattle.script_lines.specs.Lines.{Reading}
use Rattle.script_lines.proofs.PieceLemmas.{taken_front, taken_whole}
use Rattle.script_lines.proofs.reader.LineReader.take_line.Goals as goal

pub returns-in-Some-clause-ended : goal.returns-in-Some-clause-ended
returns-in-Some-clause-ended c = λ yes.
    let s = c.self.inside in
    taken_front s.piece.items c.deref.result.now s.line.items _ c.args.self.now.line c.args.self.now.held s.at s.end c.in-Some.count
    c.deref.ensures.value (ap (λ (r : Reading). r.line) c.self.view_is) (ap (λ (r : Reading). r.held) c.self.view_is)
    c.in-Some.ensures.within c.in-Some.ensures.before c.in-Some.ensures.found c.append_kept.ensures.items

pub returns-in-None-clause-open : goal.returns-in-None-clause-open
returns-in-None-clause-open c = λ no.
    let s = c.self.inside in
    taken_whole s.piece.items c.deref.result.now s.line.items _ c.args.self.now.line c.args.self.now.held s.at s.end
    c.deref.ensures.value (ap (λ (r : Reading). r.line) c.self.view_is) (ap (λ (r : Reading). r.held) c.self.view_is)
    c.in-None.ensures.none c.append_kept-in-None.ensures.items
