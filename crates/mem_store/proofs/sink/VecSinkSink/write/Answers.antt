use Rattle.std.proofs.Common.{◌≡◌, ◌≤◌, ◌<◌, ◌⊎◌, ◌↔◌, ℕ, Bool, true, false, IsTrue, length, sym, ap, subst, ◌∙◌, arith, rules, inl, inr, Ok, Err}
use Rattle.std.specs.Prelude.{nat_le}
use Rattle.std.proofs.lemmas.Bool.{false≢true, cases_lt}
use Rattle.std.proofs.lemmas.Bool.Decides.{nat_tests}
use Rattle.outside.specs.declared.Failed.{Failed}
use Rattle.mem_store.specs.declared.numbered.Calls.{Calls}
use Rattle.mem_store.specs.Ports.{Filled, Numbered, IsNext, IsAtEnd, Counts}
use Rattle.mem_store.proofs.sink.VecSinkSink.write.Goals as goal

within : (room len : ℕ) → nat_le room len ≡ true → room ≤ len
within room len e = grind (arith, nat_tests)

at_end : (room len : ℕ) → room ≤ len → nat_le room len ≡ true
at_end room len le = grind (arith, nat_tests)

-- the test of the room in plain numbers
told : (b : Bool) (P : Type 0) (room size len : ℕ) → size ≡ len → (IsTrue b ↔ (P ⊎ IsTrue (nat_le room size))) → IsTrue b ↔ (P ⊎ (room ≤ len))
told b P room size len same h = (
  λ t. elim (h.0 t) [ inl p ↦ inl p | inr e ↦ inr (omega (arith, within room size e, same)) ],
  λ x. h.1 (elim x [ inl p ↦ inl p | inr le ↦ inr (at_end room size (omega (arith, le, same))) ]),
)

room_left : (b : Bool) (P : Type 0) (room len : ℕ) → (IsTrue b ↔ (P ⊎ (room ≤ len))) → b ≡ false → len < room
room_left b P room len h f = elim (cases_lt len room) [ inl lt ↦ lt | inr le ↦ absurd (false≢true (sym f ∙ h.1 (inr le))) ]

abbrev calls_of : Calls → Numbered
calls_of s = record { made = s.made; fails = s.fails.items; faults = s.faults }

pub returns-clause-some : goal.returns-clause-some
returns-clause-some c = λ some.
    let size : c.len.result ≡ length c.self.inside.bytes.items = omega (arith, c.len.ensures, c.self.inside.bytes.ok.0) in
    let left = room_left c.strikes.result _ _ _ (told c.strikes.result _ c.self.inside.room _ (length c.self.inside.bytes.items) size c.strikes.ensures.cause) c.if-strikes.false in
    omega (arith, c.min-n.ensures, c.len-2.ensures, left, some)

pub returns-clause-took : goal.returns-clause-took
returns-clause-took c =
    let room = ap (λ (f : Filled). f.room) c.self.view_is in
    let written = ap (λ (f : Filled). length f.written) c.self.view_is in
    omega (arith, c.min-n.ensures, c.len-2.ensures, room, written)

pub returns-clause-exact : goal.returns-clause-exact
returns-clause-exact c =
    let size : c.len.result ≡ length c.self.inside.bytes.items = omega (arith, c.len.ensures, c.self.inside.bytes.ok.0) in
    let cause = told c.strikes.result _ c.self.inside.room _ (length c.self.inside.bytes.items) size c.strikes.ensures.cause in
    subst (λ (f : Filled). Counts {T = ℕ} {E = Failed} (IsNext f.calls ⊎ IsAtEnd f) f.calls (calls_of c.strikes.new.self) (Ok c.min-n.result)) c.self.view_is (record {
      cause = (λ e. search rules, λ x. absurd (false≢true (sym c.if-strikes.false ∙ cause.1 x)));
      made = c.strikes.ensures.made;
      fails = ap (λ v. v.items) c.strikes.ensures.fails;
      ok = rw c.if-strikes.false at c.strikes.ensures.faults;
      err = tt;
    })

pub returns-then-strikes-clause-exact : goal.returns-then-strikes-clause-exact
returns-then-strikes-clause-exact c =
    let size : c.len.result ≡ length c.self.inside.bytes.items = omega (arith, c.len.ensures, c.self.inside.bytes.ok.0) in
    let cause = told c.strikes.result _ c.self.inside.room _ (length c.self.inside.bytes.items) size c.strikes.ensures.cause in
    subst (λ (f : Filled). Counts {T = ℕ} {E = Failed} (IsNext f.calls ⊎ IsAtEnd f) f.calls (calls_of c.strikes.new.self) (Err (record {}))) c.self.view_is (record {
      cause = (λ e. cause.0 c.if-strikes.true, λ x. search rules);
      made = c.strikes.ensures.made;
      fails = ap (λ v. v.items) c.strikes.ensures.fails;
      ok = tt;
      err = rw c.if-strikes.true at c.strikes.ensures.faults;
    })
