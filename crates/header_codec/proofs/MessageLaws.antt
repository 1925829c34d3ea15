-- A message that is laid behind others, and messages that stand where they were laid.
use Rattle.std.proofs.Common.{◌≡◌, ℕ, ◌+◌, ◌-◌, ◌*◌, ◌^◌, ◌<◌, ◌≤◌, List, [], ◌∷◌, ◌++◌, length, take, get_or, refl, sym, ap, subst, ◌∙◌, arith, append_assoc, append-nil, length-append}
use Rattle.std.specs.Prelude.{replicate}
use Rattle.std.specs.Int.{w16, to_le_bytes}
use Rattle.std.proofs.lemmas.List.{take-replicate, length-replicate, get_or-append-add}
use Rattle.std.proofs.Math.Seq.{take-append_seam}
use Rattle.std.proofs.lemmas.Nat.{from_le_bytes-to_le_bytes_2, from_le_bytes-to_le_bytes_4}
use Rattle.h5_base.specs.Fields.{bytes_at, u16_at, u32_at}
use Rattle.h5_base.proofs.FieldLemmas.{bytes_at-past, u16_at-past}
use Rattle.header_codec.specs.Written.{NewMessage, part, filled, padding, message_bytes, messages_bytes, prefix_bytes, StandToEnd, Tell, SpellsHeader, IsFit}
use Rattle.header_codec.specs.Headers.{SpellsMessage}
use Rattle.header_codec.specs.declared.types.NewHeader.{NewHeader}

pub length-filled : (body : List ℕ) → length (filled body) ≡ length body + padding (length body)
length-filled body = length-append body (replicate (padding (length body)) 0) ∙ ap (λ n. length body + n) (length-replicate (padding (length body)) 0)

-- the first eight bytes of a message with these data
abbrev head_bytes : ℕ → ℕ → List ℕ
head_bytes type len = to_le_bytes w16 type ++ to_le_bytes w16 len ++ replicate 4 0

-- head, data and zeros make the message
pub message_laid : (old head body first second third : List ℕ) (type : ℕ) → head ≡ head_bytes type (length body + padding (length body)) → first ≡ old ++ head → second ≡ first ++ body → third ≡ second ++ take (padding (length body)) (replicate 8 0) → third ≡ old ++ message_bytes (part type body)
message_laid old head body first second third type h a b d =
    let n = padding (length body) in
    let le : n ≤ 8 = omega arith in
    let e : head ≡ head_bytes type (length (filled body)) = h ∙ ap (head_bytes type) (sym (length-filled body)) in
    let z : take {A = ℕ} n (replicate 8 0) ≡ replicate n 0 = take-replicate n 8 0 le in
    rw (d, b, a, z, e)
    (append_assoc (old ++ head_bytes type (length (filled body))) body (replicate n 0)
    ∙ append_assoc old (head_bytes type (length (filled body))) (filled body))

pub part_fits : (type : ℕ) (body : List ℕ) → type < 2 ^ 16 → length body ≤ 65528 → IsFit (part type body)
part_fits type body k le =
    let e : length (filled body) ≡ length body + padding (length body) = length-filled body in
    record { kind = k; size = omega arith; multiple = omega arith }

abbrev pub AreFit : List NewMessage → Type 0
AreFit [] = Unit {0}
AreFit (p ∷ ps) = IsFit p × AreFit ps

message_there : (pre rest : List ℕ) (p : NewMessage) → IsFit p → SpellsMessage (record { kind = p.kind; flags = 0; at = length pre + 8; len = length p.body }) (pre ++ (message_bytes p ++ rest)) (length pre)
unfolding u16_at
message_there pre rest p f =
    let k : p.kind < 2 ^ 16 = f.kind in
    let s : length p.body < 2 ^ 16 = f.size in
    let there : length pre ≡ length pre + 0 = omega arith in
    let size : u16_at (pre ++ (message_bytes p ++ rest)) (length pre + 2) ≡ length p.body = u16_at-past pre (message_bytes p ++ rest) 2 ∙ from_le_bytes-to_le_bytes_2 (length p.body) s in
    let type : u16_at (pre ++ (message_bytes p ++ rest)) (length pre) ≡ p.kind =
    ap (u16_at (pre ++ (message_bytes p ++ rest))) there ∙ u16_at-past pre (message_bytes p ++ rest) 0 ∙ from_le_bytes-to_le_bytes_2 p.kind k in
    let flags : get_or (pre ++ (message_bytes p ++ rest)) (length pre + 4) 0 ≡ 0 = get_or-append-add pre (message_bytes p ++ rest) 4 0 in
    let whole : length (pre ++ (message_bytes p ++ rest)) ≡ length pre + (8 + (length p.body + length rest)) = omega (arith, length-append pre (message_bytes p ++ rest), length-append p.body rest) in
    record {
      message = record { head = omega arith; multiple = rw size f.multiple; whole = rw size (omega arith) };
      value = sym (rw (size, type, flags) refl);
    }

body_there : (pre rest : List ℕ) (p : NewMessage) → bytes_at (pre ++ (message_bytes p ++ rest)) (length pre + 8) (length p.body) ≡ p.body
body_there pre rest p = bytes_at-past pre (message_bytes p ++ rest) 8 (length p.body) ∙ take-append_seam p.body rest

-- messages stand where they were laid
pub stand : (pre : List ℕ) (ps : List NewMessage) → AreFit ps → StandToEnd (pre ++ messages_bytes ps) (length pre) ps
stand pre [] f = rw append-nil refl
stand pre (p ∷ ps) f =
    let rest : List ℕ = messages_bytes ps in
    let at : length (pre ++ message_bytes p) ≡ length pre + 8 + length p.body = omega (arith, length-append pre (message_bytes p)) in
    let next : StandToEnd ((pre ++ message_bytes p) ++ rest) (length (pre ++ message_bytes p)) ps = stand (pre ++ message_bytes p) ps f.1 in (
      message_there pre rest p f.0,
      body_there pre rest p,
      subst (λ (n : ℕ). StandToEnd (pre ++ (message_bytes p ++ rest)) n ps) at (rw (append_assoc pre (message_bytes p) rest) at next),
    )

-- a header whose messages tell the value spells it
pub header_spelled : (h : NewHeader) (ps : List NewMessage) → AreFit ps → length ps < 2 ^ 16 → length (messages_bytes ps) < 2 ^ 32 → Tell h ps → SpellsHeader h ps (prefix_bytes (length ps) (length (messages_bytes ps)) ++ messages_bytes ps)
unfolding u16_at u32_at
header_spelled h ps f few short told =
    let n : ℕ = length (messages_bytes ps) in
    let size : length (prefix_bytes (length ps) n ++ messages_bytes ps) - 16 ≡ n = omega arith in
    record {
      prefix = record {
        prefix = record { whole = omega arith; version = refl };
        value = rw size (sym (rw (from_le_bytes-to_le_bytes_2 (length ps) few, from_le_bytes-to_le_bytes_4 n short) refl));
      };
      messages = stand (prefix_bytes (length ps) n) ps f;
      told = told;
    }

-- messages that fit are short
pub messages_short : (ps : List NewMessage) → AreFit ps → length (messages_bytes ps) ≤ 65544 * length ps
messages_short [] f = omega arith
messages_short (p ∷ ps) f =
    let size : length p.body < 2 ^ 16 = f.0.size in
    let ih : length (messages_bytes ps) ≤ 65544 * length ps = messages_short ps f.1 in
    omega (arith, length-append (message_bytes p) (messages_bytes ps))

-- four messages, each laid behind the ones before
pub four_laid : (a b c d : NewMessage) (none one two three four : List ℕ) → none ≡ [] → one ≡ none ++ message_bytes a → two ≡ one ++ message_bytes b → three ≡ two ++ message_bytes c → four ≡ three ++ message_bytes d → four ≡ messages_bytes (a ∷ b ∷ c ∷ d ∷ [])
four_laid a b c d none one two three four e0 e1 e2 e3 e4 =
    e4 ∙ ap (λ x. x ++ message_bytes d) (e3 ∙ ap (λ x. x ++ message_bytes c) (e2 ∙ ap (λ x. x ++ message_bytes b) (e1 ∙ ap (λ x. x ++ message_bytes a) e0)))
    ∙ regroup (message_bytes a) (message_bytes b) (message_bytes c) (message_bytes d)
  where
    regroup : (a b c d : List ℕ) → ((([] ++ a) ++ b) ++ c) ++ d ≡ a ++ (b ++ (c ++ (d ++ [])))
    regroup a b c d = simp (append_assoc, append-nil)
