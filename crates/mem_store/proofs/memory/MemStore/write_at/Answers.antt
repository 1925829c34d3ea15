use Rattle.std.proofs.Common.{◌≡◌, ◌+◌, ◌-◌, max, ℕ, length, refl, sym, ◌∙◌, ap}
use Rattle.std.proofs.lemmas.Bool.{false≢true}
use Rattle.std.specs.List.{sum_by}
use Rattle.mem_store.specs.Held.{Held, with_fault, content}
use Rattle.mem_store.specs.Memory.{held}
use Rattle.mem_store.proofs.MemoryLemmas.{has_content}
use Rattle.mem_store.proofs.HeldLemmas.{total-after_write, at_most, written_to, answers_err, answers_ok}
use Rattle.mem_store.proofs.memory.MemStore.write_at.Goals as goal

pub returns-then-fails_with : goal.returns-then-fails_with
returns-then-fails_with c =
    let size : c.max-len.result ≡ max (length (content c.args.i (held c.args.self.now))) (c.args.at + length c.args.piece.now) =
    c.max-len.ensures ∙ ap (λ (n : ℕ). max n (c.args.at + length c.args.piece.now)) c.len_at.ensures.len in
    let whole = ap (λ (n : ℕ). sum_by length (held c.args.self.now).contents - length (content c.args.i (held c.args.self.now)) + n + ((held c.args.self.now).written + length c.args.piece.now)) size
    ∙ total-after_write c.args.i c.args.at c.args.piece.now (held c.args.self.now) (has_content c.args.self.now c.args.i c.requires.within) in
    answers_err _ _ _ _ _
    (at_most _ _ _ _ whole (c.fails_with.ensures.told.0 c.if-fails_with.true))
    (c.fault.ensures ∙ ap (λ (h : Held). with_fault c.args.i h) c.fails_with.ensures.counted)

pub returns : goal.returns
returns c =
    let size : c.max-len.result ≡ max (length (content c.args.i (held c.args.self.now))) (c.args.at + length c.args.piece.now) =
    c.max-len.ensures ∙ ap (λ (n : ℕ). max n (c.args.at + length c.args.piece.now)) c.len_at.ensures.len in
    let whole = ap (λ (n : ℕ). sum_by length (held c.args.self.now).contents - length (content c.args.i (held c.args.self.now)) + n + ((held c.args.self.now).written + length c.args.piece.now)) size
    ∙ total-after_write c.args.i c.args.at c.args.piece.now (held c.args.self.now) (has_content c.args.self.now c.args.i c.requires.within) in
    answers_ok _ _ _ _ _
    (λ fails. false≢true (sym c.if-fails_with.false ∙ c.fails_with.ensures.told.1 (at_most _ _ _ _ (sym whole) fails)))
    (written_to c.args.i c.args.at c.args.piece.now (held c.args.self.now) (held c.fails_with.new.self) _ c.fails_with.ensures.counted
    refl c.write.ensures.contents c.write.ensures.tallies refl refl refl refl)
