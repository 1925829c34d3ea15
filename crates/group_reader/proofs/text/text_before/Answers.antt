use Rattle.group_reader.proofs.TextLemmas.{inside_rest, ends_before, differs, next_left, all_same}
use Rattle.group_reader.proofs.text.text_before.Goals as goal
use Rattle.group_reader.proofs.text.text_before.Goals.{then-i-rest-via-then-i-rest}
use Rattle.group_reader.proofs.text.text_before.Goals.{then-i-rest-via-else-i-rest+then-rest-i-eq0}

pub returns-then-i-rest : goal.returns-then-i-rest
returns-then-i-rest c = λ text h.
    let left = c.loop-i.invariant text h in
    elim c.then-i-rest.branch [
      | then-i-rest-via-then-i-rest w ↦ absurd (inside_rest c.args.segment.now c.args.at text h c.args.name.now
          c.loop-i.i left c.loop-i-test.true c.requires.inside w.if-i-rest.true)
      | then-i-rest-via-else-i-rest+then-rest-i-eq0 w ↦ ends_before c.args.segment.now c.args.at text h c.args.name.now
          c.loop-i.i left c.loop-i-test.true c.requires.inside w.if-rest-i-eq0.true
    ]

pub returns-then-rest-i : goal.returns-then-rest-i
returns-then-rest-i c = λ text h.
    differs c.args.segment.now c.args.at text h c.args.name.now c.loop-i.i (c.loop-i.invariant text h)
    c.loop-i-test.true c.requires.inside c.if-rest-i-eq0.false c.if-rest-i.true

pub loop-i-preserved : goal.loop-i-preserved
loop-i-preserved c = λ text h.
    next_left c.args.segment.now c.args.at text h c.args.name.now c.loop-i.i (c.loop-i.invariant text h)
    c.loop-i-test.true c.requires.inside c.if-rest-i-eq0.false c.if-rest-i.false

pub returns : goal.returns
returns c = λ text h. all_same text c.args.name.now c.loop-i.i (c.loop-i.invariant text h) c.loop-i-test.false
