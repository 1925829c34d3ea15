use Rattle.std.proofs.Common.{◌≡◌, ◌++◌, List, ℕ, ◌∙◌, sym, ap, subst}
use Rattle.std.specs.Result.{OnOk}
use Rattle.header_codec.specs.declared.types.Layout.{Layout}
use Rattle.header_codec.specs.declared.types.Layout.TheVariants.{Chunked}
use Rattle.header_codec.specs.Layouts.{SpellsLayout}
use Rattle.header_codec.specs.Written.{part, message_bytes, filled, layout_bytes}
use Rattle.header_codec.proofs.writing.append_layout.Goals as goal

abbrev Told : Layout → Type 0
Told l = SpellsLayout l (filled (layout_bytes l))

abbrev appended : List ℕ → Layout → List ℕ
appended old l = old ++ message_bytes (part 8 (layout_bytes l))

pub returns-in-Contiguous-clause-told : goal.returns-in-Contiguous-clause-told
returns-in-Contiguous-clause-told c = subst (λ l. OnOk c.append_contiguous.result (Told l)) (sym c.in-Contiguous.is) c.append_contiguous.ensures.told

pub returns-in-Chunked-clause-appended : goal.returns-in-Chunked-clause-appended
returns-in-Chunked-clause-appended c =
    let e : Chunked c.in-Chunked.tree_at c.as_slice.result.now ≡ c.args.layout.now = ap (λ s. Chunked c.in-Chunked.tree_at s) c.as_slice.ensures ∙ sym c.in-Chunked.is in
    subst (λ l. OnOk c.append_chunked.result (c.append_chunked.new.out.items ≡ appended c.args.out.now.items l)) e c.append_chunked.ensures.appended

pub returns-in-Chunked-clause-told : goal.returns-in-Chunked-clause-told
returns-in-Chunked-clause-told c =
    let e : Chunked c.in-Chunked.tree_at c.as_slice.result.now ≡ c.args.layout.now = ap (λ s. Chunked c.in-Chunked.tree_at s) c.as_slice.ensures ∙ sym c.in-Chunked.is in
    subst (λ l. OnOk c.append_chunked.result (Told l)) e c.append_chunked.ensures.told
