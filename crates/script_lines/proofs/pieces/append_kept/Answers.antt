use Rattle.std.proofs.Common.{◌≡◌, ◌≤◌, ◌-◌, ◌++◌, ◌∙◌, Bool, ℕ, cond, length, min, take, arith, ap, length-take}
use Rattle.script_lines.proofs.PieceLemmas.{kept_more}
use Rattle.script_lines.proofs.pieces.append_kept.Goals as goal

pub returns-clause-items : goal.returns-clause-items
returns-clause-items c =
    let old = c.args.line.now in
    let bytes = c.args.bytes.now in
    let short : length old.items ≤ 65537 = omega (arith, old.ok.0) in
    let count : c.min-count.result ≡ min (65537 - length old.items) (length bytes) = omega (arith, old.ok.0) in
    let done = c.extend_from_slice.ensures.succeeds (omega (arith, old.ok.0, length-take c.min-count.result bytes)) in
    c.extend_from_slice.ensures.items
    ∙ ap (λ (b : Bool). cond b (old.items ++ take c.min-count.result bytes) old.items) done
    ∙ ap (λ (k : ℕ). old.items ++ take k bytes) count
    ∙ kept_more 65537 old.items bytes short
