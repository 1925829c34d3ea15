use Rattle.std.proofs.Common.{IfOk, ◌≡◌, ℕ, ◌+◌, ◌*◌, ◌^◌, ◌<◌, ◌++◌, List, [], ◌∷◌, length, arith, ap, subst, sym, ◌∙◌}
use Rattle.std.proofs.lemmas.Result.{IfOk-weaker}
use Rattle.group_layout.specs.Placing.{EndsInPair}
use Rattle.std.proofs.lemmas.List.{append_assoc, length-append}
use Rattle.group_layout.specs.Laying.{ats_of}
use Rattle.group_layout.specs.declared.row.Row.{Row}
use Rattle.group_layout.proofs.WidenLemmas.{HaveGrown, AreGrown, grown_more, grown_root_fits, grown_with_pair, all_yielded}
use Rattle.group_layout.proofs.widening.widen.Goals as goal

pub loop-old-preserved : goal.loop-old-preserved
loop-old-preserved c =
    let room = c.args.room in
    let step = c.args.step in
    let row : Row = c.in_ok-row.row in
    let told = c.in_ok-row.ensures in
    let at : ℕ = c.loop-old.at in
    let next : ℕ = c.behind-at.result in
    let rows = c.loop-old.yielded ++ c.in-Some.old ∷ [] in
    let count : length (ats_of row) ≡ c.len.result + c.len-in-loop-old.result =
    omega (arith, length-append row.old row.new) in
    let behind = subst (λ (n : ℕ). at + step * n < 2 ^ 64 → next ≡ at + step * n) c.len-in-loop-old-2.ensures
    c.behind-at.ensures in
    let more = grown_more room c.args.below c.loop-old.below c.args.at step at next c.loop-old.yielded
    c.loop-old.wider.items c.in-Some.old row c.loop-old.invariant.grown told.wider told.kept told.news behind in
    let wide = subst (HaveGrown room c.args.below (length (ats_of row)) c.args.at step next rows)
    (sym c.in-Ok.ensures.items) more in
    record {
      left = c.loop-old.invariant.left
          ∙ ap (λ (l : List (List ℕ)). c.loop-old.yielded ++ l) c.in-Some.ensures.steps.0
          ∙ sym (append_assoc c.loop-old.yielded (c.in-Some.old ∷ []) _);
      grown = subst (λ (n : ℕ). HaveGrown room c.args.below n c.args.at step next rows c.push.new.self.items) count wide;
    }

fits : (c : goal.Then-below-room)
    → AreGrown c.args.room c.args.below c.args.at c.args.step c.args.rows.items c.loop-old.wider.items
fits c =
    let room = c.args.room in
    let step = c.args.step in
    let rest = c.loop-old.old-iterator.rest in
    let none : length rest.items ≡ 0 = omega (arith, rest.ok.0, c.in-None.ensures.steps.0) in
    let all = all_yielded c.args.rows.items c.loop-old.yielded rest.items c.loop-old.invariant.left none in
    let grown = subst (λ (l : List (List ℕ)).
    HaveGrown room c.args.below c.loop-old.below c.args.at step c.loop-old.at l c.loop-old.wider.items) all
    c.loop-old.invariant.grown in
    grown_root_fits room c.args.below c.loop-old.below c.args.at step c.loop-old.at c.args.rows.items
    c.loop-old.wider.items c.if-below-room.true grown

pub returns-then-below-room-clause-wider : goal.returns-then-below-room-clause-wider
returns-then-below-room-clause-wider c = (fits c).wider

pub returns-then-below-room-clause-news : goal.returns-then-below-room-clause-news
returns-then-below-room-clause-news c = (fits c).news

pub returns-then-below-room-clause-olds : goal.returns-then-below-room-clause-olds
returns-then-below-room-clause-olds c = (fits c).olds

pub returns : goal.returns
returns c =
    let room = c.args.room in
    let step = c.args.step in
    let rows = c.args.rows.items in
    let ws = c.loop-old.wider.items in
    let rest = c.loop-old.old-iterator.rest in
    let none : length rest.items ≡ 0 = omega (arith, rest.ok.0, c.in-None.ensures.steps.0) in
    let all = all_yielded rows c.loop-old.yielded rest.items c.loop-old.invariant.left none in
    let grown = subst (λ (l : List (List ℕ)). HaveGrown room c.args.below c.loop-old.below c.args.at step c.loop-old.at l ws)
    all c.loop-old.invariant.grown in
    let end : IfOk c.with_pair.result (λ w. AreGrown room c.args.below c.args.at step rows w.items) =
    IfOk-weaker c.with_pair.result (λ w. EndsInPair c.loop-old.at step ws w.items)
    (λ w. AreGrown room c.args.below c.args.at step rows w.items)
    (λ w. grown_with_pair room c.args.below c.loop-old.below c.args.at step c.loop-old.at rows ws w.items
    c.if-below-room.false grown) c.with_pair.ensures in
    record {
      wider = IfOk-weaker c.with_pair.result _ _ (λ w g. g.wider) end;
      olds = IfOk-weaker c.with_pair.result _ _ (λ w g. g.olds) end;
      news = IfOk-weaker c.with_pair.result _ _ (λ w g. g.news) end;
    }
