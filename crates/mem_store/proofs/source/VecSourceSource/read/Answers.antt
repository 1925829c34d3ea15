use Rattle.std.proofs.Common.{◌≡◌, ◌-◌, ℕ, List, length, take, drop, min, sym, ap, ◌∙◌, arith, rules, inl}
use Rattle.std.proofs.lemmas.Bool.{false≢true}
use Rattle.std.proofs.lemmas.List.{drop-drop, drop_all, length-drop, take_min}
use Rattle.mem_store.specs.Ports.{Feed, Numbered}
use Rattle.mem_store.proofs.source.VecSourceSource.read.Goals as goal

-- what is left, and how much of it was copied
left_is : (f : Feed) (b : List ℕ) (at : ℕ) (calls : Numbered) → record { left = drop at b; calls = calls } ≡ f → f.left ≡ drop at b
left_is f b at calls is = ap (λ (x : Feed). x.left) (sym is)

copied : (n m at : ℕ) (bytes b : List ℕ) → bytes ≡ b → n ≡ min m (length bytes - at) → n ≡ min m (length b - at)
copied n m at bytes b same is = is ∙ ap (λ (x : List ℕ). min m (length x - at)) same

pub returns-clause-given : goal.returns-clause-given
returns-clause-given c =
    let left = left_is c.args.self.now c.self.inside.bytes c.self.inside.at _ c.self.view_is in
    let n = copied _ _ _ _ _ c.as_slice.ensures c.copy_from-n.ensures.count in
    let b : List ℕ = drop c.self.inside.at c.self.inside.bytes in
    let some : min (length c.args.out.now) (length b) ≡ c.copy_from-n.result = omega (arith, n, length-drop c.self.inside.at c.self.inside.bytes) in
    c.copy_from-n.ensures.bytes
    ∙ ap (λ (b : List ℕ). take (length c.args.out.now) (drop c.self.inside.at b)) c.as_slice.ensures
    ∙ sym (take_min (length c.args.out.now) b)
    ∙ (λ j. take (some j) (sym left j))

pub returns-clause-taken : goal.returns-clause-taken
returns-clause-taken c =
    let left = left_is c.args.self.now c.self.inside.bytes c.self.inside.at _ c.self.view_is in
    sym (drop-drop c.copy_from-n.result c.self.inside.at c.self.inside.bytes) ∙ ap (drop c.copy_from-n.result) (sym left)

pub returns-clause-end : goal.returns-clause-end
returns-clause-end c = λ none some.
    let left = left_is c.args.self.now c.self.inside.bytes c.self.inside.at _ c.self.view_is in
    let n = copied _ _ _ _ _ c.as_slice.ensures c.copy_from-n.ensures.count in
    left ∙ drop_all c.self.inside.at c.self.inside.bytes (omega (arith, n, none, some))

pub returns-clause-had : goal.returns-clause-had
returns-clause-had c =
    let left = left_is c.args.self.now c.self.inside.bytes c.self.inside.at _ c.self.view_is in
    let n = copied _ _ _ _ _ c.as_slice.ensures c.copy_from-n.ensures.count in
    rw left (omega (arith, n, length-drop c.self.inside.at c.self.inside.bytes))

pub returns-clause-exact : goal.returns-clause-exact
returns-clause-exact c =
    let calls = ap (λ (f : Feed). f.calls) (sym c.self.view_is) in
    rw calls (record {
      cause = (λ e. search rules, λ next. absurd (false≢true (sym c.if-strikes.false ∙ c.strikes.ensures.cause.1 (inl next))));
      made = c.strikes.ensures.made;
      fails = ap (λ v. v.items) c.strikes.ensures.fails;
      ok = rw c.if-strikes.false at c.strikes.ensures.faults;
      err = tt;
    })
