use Rattle.std.proofs.Common.{◌≡◌, List, ℕ, take, Result, Ok, Err, inl, inr, refl, ap, ◌∙◌, subst}
use Rattle.dtype.specs.declared.types.PartStop.{PartStop}
use Rattle.dtype.specs.declared.types.PartStop.TheVariants as stop
use Rattle.header_codec.specs.Layouts.{IsContiguous, IsChunked, IsChunk, sizes_of, u32s_at}
use Rattle.header_codec.proofs.layout_codec.read_layout.Goals as goal

ok_or_err : {T E : Type 0} (x : T) (y : E) → Ok x ≡ Err y → ⊥
ok_or_err x y e = cc

memory_or_other : {T : Type 0} (r : Result T PartStop) → r ≡ Err stop.NoMemory → r ≡ Err stop.Other → ⊥
memory_or_other r memory other = cc

abbrev Chunk : List ℕ → Type 0
Chunk sizes = IsChunk sizes

pub returns-then-is_contiguous-clause-other : goal.returns-then-is_contiguous-clause-other
returns-then-is_contiguous-clause-other c =
    let is : IsContiguous c.args.bytes.now = c.if-is_contiguous.ensures.0 refl in (λ e l s. ok_or_err _ _ e, λ h. absurd (h _ (inl (is, refl))))

pub returns-in-Ok-clause-other : goal.returns-in-Ok-clause-other
returns-in-Ok-clause-other c =
    let b = c.args.bytes.now in
    let e : take c.from-count.result c.read_sizes-room.result ≡ sizes_of b = c.read_sizes-room.ensures ∙ ap (λ n. u32s_at b 11 n) c.from-count.ensures in
    let is : IsChunked b = record {
      head = c.if-not-has_chunk_head.ensures.0 refl;
      chunk = subst Chunk e (c.if-not-is_chunk.ensures.0 refl);
    } in
    (λ e l s. ok_or_err _ _ e, λ h. absurd (h _ (inr (is, refl))))

pub returns-in-Err-clause-other : goal.returns-in-Err-clause-other
returns-in-Err-clause-other c =
    let b = c.args.bytes.now in
    let e : take c.from-count.result c.read_sizes-room.result ≡ sizes_of b = c.read_sizes-room.ensures ∙ ap (λ n. u32s_at b 11 n) c.from-count.ensures in
    let is : IsChunked b = record {
      head = c.if-not-has_chunk_head.ensures.0 refl;
      chunk = subst Chunk e (c.if-not-is_chunk.ensures.0 refl);
    } in
    (λ e l s. memory_or_other _ refl e, λ h. absurd (h _ (inr (is, refl))))
