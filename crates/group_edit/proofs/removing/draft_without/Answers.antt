use Rattle.std.proofs.Common.{◌≡◌, ℕ, ◌+◌, max, List, [], length, Some, unwrap_or, sym, ◌∙◌, ap, subst}
use Rattle.std.specs.List.{flat_map}
use Rattle.node_codec.specs.declared.snod.SnodEntry.{SnodEntry}
use Rattle.file_model.specs.Groups.{HasText, entry_offsets}
use Rattle.group_heap.specs.Greatest.{IsGreatest}
use Rattle.group_edit.proofs.removing.draft_without.Goals as goal

pub returns-clause-draft : goal.returns-clause-draft
returns-clause-draft c =
    let segment = c.args.read.heap.segment.items in
    let texts = c.greatest-last.result in
    let base = c.base_of-base.result in
    let last : c.max.result ≡ max (unwrap_or texts base) base =
    c.max.ensures ∙ ap (λ (n : ℕ). max n base) c.unwrap_or-2.ensures in
    record {
      gone = c.remove-gone.result;
      gone_is = search;
      entries = search;
      texts = texts;
      texts_are = subst (λ (es : List SnodEntry). IsGreatest (flat_map entry_offsets es) texts) c.deref.ensures.value
          c.greatest-last.ensures;
      base_zero = subst (λ (s : List ℕ). HasText s 0 [] → base ≡ 0) c.deref-2.ensures.value
          c.base_of-base.ensures.zero;
      base_other = subst (λ (at : ℕ). ¬ HasText segment 0 [] → (text : List ℕ) → HasText segment at text
          → base ≡ at + length text) c.unwrap_or.ensures
          (subst (λ (s : List ℕ). ¬ HasText s 0 [] → (text : List ℕ) → HasText s c.unwrap_or.result text
          → base ≡ c.unwrap_or.result + length text) c.deref-2.ensures.value c.base_of-base.ensures.other);
      used = c.used_len-used.result;
      is_used = record {
        none = λ e. cc;
        some = λ at text e h. c.used_len-used.ensures.some at text (ap Some last ∙ e)
            (subst (λ (s : List ℕ). HasText s at text) (sym c.deref-3.ensures.value) h);
      };
      whole = c.used_len-used.ensures.whole;
      low = c.used_len-used.ensures.low;
      freed = c.in_ok-heap.ensures.frees;
      index = c.in_ok-index.ensures;
    }
