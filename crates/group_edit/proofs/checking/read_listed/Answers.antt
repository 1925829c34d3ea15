use Rattle.std.proofs.Common.{◌++◌}
use Rattle.std.proofs.lemmas.List.Elements.{Contains-append_left}
use Rattle.std.proofs.lemmas.List.Sorted.{Contains-permutation, IsPermutation-sym}
use Rattle.group_rows.specs.Gathering.{IsMalformed}
use Rattle.group_rows.proofs.CallLemmas.{passed}
use Rattle.group_edit.proofs.WritesWithin.{group_among}
use Rattle.group_edit.proofs.checking.read_listed.Goals as goal

pub returns-in_err-check_read-clause-whole : goal.returns-in_err-check_read-clause-whole
returns-in_err-check_read-clause-whole g c = λ told.
    let held = c.requires.held told in
    let all = held.own ++ held.others in
    let own = group_among _ c.args.group.now held.links held.own held.has c.in_ok-read.read
    (c.in_ok-read.ensures.found told held.links held.own held.has) in
    passed c.from_residual-in_err-check_read.result c.in_err-check_read.field-0.0 (λ stop. ¬ IsMalformed stop)
    c.from_residual-in_err-check_read.ensures.1
    (c.in_err-check_read.ensures.refused held.met (c.in_ok-read.ensures.kept held.met held.keeps)
    (λ x there. Contains-permutation all held.met x (IsPermutation-sym held.met all held.among)
    (Contains-append_left held.own held.others x (own x there))))
