use Rattle.std.proofs.Common.{ℕ, List, sym, subst, subst₂}
use Rattle.node_codec.specs.declared.snod.SnodEntry.{SnodEntry}
use Rattle.file_model.specs.Groups.{AreLinks, HasText}
use Rattle.entry_list.specs.Places.{IsNamedAt}
use Rattle.group_edit.proofs.removing.draft_rest.Goals as goal

pub returns-in-Ok-clause-draft : goal.returns-in-Ok-clause-draft
returns-in-Ok-clause-draft c =
    let segment = c.args.read.heap.segment.items in
    let entries = c.args.read.entries.items in
    let place = c.place_of-place.result in
    let name = c.args.name.now in
    let rest = c.in-Ok.ensures.draft in
    let named = subst₂ (λ (s : List ℕ) (es : List SnodEntry). IsNamedAt s es place name) c.deref-3.ensures.value
    c.deref-4.ensures.value (c.is_named.ensures.named.0 c.if-not-is_named.false) in
    record {
      place = place;
      within = named.within;
      is_place = λ fs links ordered. c.place_of-place.ensures.place fs
          (subst₂ (λ (s : List ℕ) (es : List SnodEntry). AreLinks s es fs) (sym c.deref.ensures.value)
          (sym c.deref-2.ensures.value) links) ordered;
      rest = rest;
      named = subst (λ (e : SnodEntry). HasText segment e.name_at name) (sym rest.gone_is) (named.text rest.gone);
    }
