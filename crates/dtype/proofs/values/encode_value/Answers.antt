use Rattle.std.proofs.Common.{rules, ◌≡◌, FitsSigned, to_z, of_z, Ok, Err, Result, IfOk, OnOk, subst}
use Rattle.std.specs.Int.{w128}
use Rattle.std.proofs.lemmas.Int.{to_z-of_z}
use Rattle.dtype.specs.declared.types.ElemType.TheVariants as elem
use Rattle.dtype.specs.declared.types.Value.TheVariants as value
use Rattle.dtype.specs.Values.{CanHold, encoding}
use Rattle.dtype.specs.Types.{IsElemType}
use Rattle.dtype.proofs.ValueLaws.{encoding_read}
use Rattle.dtype.proofs.values.encode_value.Goals as goal

both : {T E : Type 0} (r : Result T E) (P : Type 0) (Q R : T → Type 0) → ((x : T) → P → Q x → R x) → OnOk r P → IfOk r Q → IfOk r R
both (Ok x) P Q R f h k = f x h k
both (Err e) P Q R f h k = h

pub returns-in-Int-Num-clause-read_again : goal.returns-in-Int-Num-clause-read_again
returns-in-Int-Num-clause-read_again c =
    let a = c.in-Int-Num in
    let t = elem.Int a.size a.signed a.big in
    let i : IsElemType t = subst IsElemType a.is-0 c.requires in
    let from : c.from.result ≡ a.size = c.from.ensures in
    let fits : FitsSigned w128 a.number = search rules in
    let whole : to_z w128 (of_z w128 a.number) ≡ a.number = to_z-of_z w128 a.number fits in
    both c.encode_int.result _ _ _
    (λ b h e.
    let held : CanHold t (value.Num a.number) = rw (← from, ← whole) h in
    let is : b ≡ encoding t (value.Num a.number) = rw (← from, ← whole) e in
    rw (a.is-0, a.is-1, is) (encoding_read t (value.Num a.number) i held))
    c.encode_int.ensures.held c.encode_int.ensures.bytes

pub returns-in-Text-Text-clause-read_again : goal.returns-in-Text-Text-clause-read_again
returns-in-Text-Text-clause-read_again c =
    let a = c.in-Text-Text in
    let t = elem.Text a.size a.pad in
    let i : IsElemType t = subst IsElemType a.is-0 c.requires in
    let from : c.as_slice.result.now ≡ a.text = c.as_slice.ensures in
    both c.encode_string.result _ _ _
    (λ b h e.
    let held : CanHold t (value.Text a.text) = rw (← from) h in
    let is : b ≡ encoding t (value.Text a.text) = rw (← from) e in
    rw (a.is-0, a.is-1, is) (encoding_read t (value.Text a.text) i held))
    c.encode_string.ensures.held c.encode_string.ensures.bytes
