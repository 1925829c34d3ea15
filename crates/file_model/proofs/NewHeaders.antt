-- A header that was written is the header of the object that it was written for.
use Rattle.std.proofs.Common.{◌≡◌, ℕ, ◌+◌, ◌-◌, ◌%◌, ◌<◌, ◌≤◌, List, [], ◌∷◌, ◌++◌, length, refl, sym, ap, subst, ◌∙◌, inl, inr, arith, length-append, append-nil}
use Rattle.std.specs.Prelude.{slice_index, Some}
use Rattle.std.specs.List.{flat_map}
use Rattle.std.proofs.lemmas.List.{get_or-append-add, get_or_append_left}
use Rattle.std.proofs.lemmas.List.FromFn.{length-map-range_with_len}
use Rattle.outside.specs.Array.{Array, bytes_of}
use Rattle.outside.specs.Blocks.{Block}
use Rattle.h5_base.specs.Fields.{bytes_at, u16_at}
use Rattle.h5_base.proofs.FieldLemmas.{bytes_at-past, u16_at-past, u16_at-front, u32_at-front}
use Rattle.dtype.specs.Products.{FitsFile}
use Rattle.dtype.specs.Types.{size_of}
use Rattle.dtype.specs.declared.types.ElemType.{ElemType}
use Rattle.dtype.specs.declared.types.Shape.{Shape}
use Rattle.header_codec.specs.Fills.{IsOfSize}
use Rattle.header_codec.specs.Headers.{SpellsPrefix, SpellsMessage}
use Rattle.header_codec.specs.Layouts.{IsOfShape}
use Rattle.header_codec.specs.Written.{SpellsHeader, Tell, NewMessage}
use Rattle.header_codec.specs.Written as written
use Rattle.header_codec.specs.declared.types.Fill.{Fill}
use Rattle.header_codec.specs.declared.types.Layout.{Layout}
use Rattle.header_codec.specs.declared.types.NewHeader.{NewHeader}
use Rattle.header_codec.specs.declared.types.NewHeader.TheVariants as new
use Rattle.header_codec.specs.declared.types.Prefix.{Prefix}
use Rattle.file_model.specs.Headers.{Met, Stand, IsWhole, AreWhole, Part, continued}
use Rattle.file_model.specs.Objects.{IsGroupHeader, IsDataHeader, first_of}
use Rattle.file_model.specs.EditLaws.{mets_from, new_prefix, new_parts, new_info, IsNewHeader, NewGroup, NewData, NewGroupHeld, NewDataHeld}
use Rattle.file_model.proofs.MetLaws.{met_none, met_more, counted_of}
use Rattle.file_model.proofs.PartBytes.{split_bytes}

-- ---- messages that stand behind a prefix

message_behind : (pre rest : List ℕ) (i : ℕ) (p : NewMessage) → SpellsMessage (record { kind = p.kind; flags = 0; at = length pre + i + 8; len = length p.body }) (pre ++ rest) (length pre + i)
    → SpellsMessage (record { kind = p.kind; flags = 0; at = i + 8; len = length p.body }) rest i
message_behind pre rest i p h =
    let two : length pre + i + 2 ≡ length pre + (i + 2) = omega arith in
    let four : length pre + i + 4 ≡ length pre + (i + 4) = omega arith in
    let kind : u16_at (pre ++ rest) (length pre + i) ≡ u16_at rest i = u16_at-past pre rest i in
    let size : u16_at (pre ++ rest) (length pre + i + 2) ≡ u16_at rest (i + 2) = ap (u16_at (pre ++ rest)) two ∙ u16_at-past pre rest (i + 2) in
    let flags : slice_index (pre ++ rest) (length pre + i + 4) ≡ slice_index rest (i + 4) = ap (slice_index (pre ++ rest)) four ∙ get_or-append-add pre rest (i + 4) 0 in
    let long = length-append pre rest in
    let is_kind = ap (λ m. m.kind) h.value ∙ kind in
    let is_flags = ap (λ m. m.flags) h.value ∙ flags in
    let is_len = ap (λ m. m.len) h.value ∙ size in
    let head = h.message.head in
    let whole = h.message.whole in
    record {
      message = record { head = omega arith; multiple = subst (λ n. n % 8 ≡ 0) size h.message.multiple; whole = omega arith };
      value = λ j. record { kind = is_kind j; flags = is_flags j; at = i + 8; len = is_len j };
    }

stand_behind : (start : ℕ) (pre rest : List ℕ) (i : ℕ) (ps : List NewMessage)
    → written.StandToEnd (pre ++ rest) (length pre + i) ps → Stand start rest i (mets_from (start + i) ps)
stand_behind start pre rest i [] h = tt
stand_behind start pre rest i (p ∷ ps) h =
    let n = length p.body in
    let at : length pre + i + 8 ≡ length pre + (i + 8) = omega arith in
    let next : length pre + i + 8 + n ≡ length pre + (i + 8 + n) = omega arith in
    let behind : start + (i + 8 + n) ≡ start + i + 8 + n = omega arith in (
      message_behind pre rest i p h.0,
      refl,
      sym (sym (ap (λ (k : ℕ). bytes_at (pre ++ rest) k n) at ∙ bytes_at-past pre rest (i + 8) n) ∙ h.1),
      subst (λ (k : ℕ). Stand start rest (i + 8 + n) (mets_from k ps)) behind
          (stand_behind start pre rest (i + 8 + n) ps
          (subst (λ (k : ℕ). written.StandToEnd (pre ++ rest) k ps) next h.2)),
    )

length_mets : (at : ℕ) (ps : List NewMessage) → length (mets_from at ps) ≡ length ps
length_mets at [] = refl
length_mets at (p ∷ ps) = let rest = length_mets (at + 8 + length p.body) ps in omega arith

prefix_front : (pre rest : List ℕ) (p : Prefix) → length pre ≡ 16 → SpellsPrefix p (pre ++ rest) → SpellsPrefix p pre
prefix_front pre rest p long h =
    let messages = ap (λ (q : Prefix). q.messages) h.value ∙ u16_at-front pre rest 2 (omega arith) in
    let links = ap (λ (q : Prefix). q.links) h.value ∙ u32_at-front pre rest 4 (omega arith) in
    let size = ap (λ (q : Prefix). q.size) h.value ∙ u32_at-front pre rest 8 (omega arith) in
    record {
      prefix = record { whole = omega arith; version = sym (get_or_append_left pre rest 0 0 (omega arith)) ∙ h.prefix.version };
      value = λ j. record { messages = messages j; links = links j; size = size j };
    }

-- a message as it was written at an address
abbrev met_at : ℕ → NewMessage → Met
met_at at p = record { kind = p.kind; flags = 0; at = at + 8; body = p.body }

-- ---- a header of such messages

-- at least one message, each with its numbers, and no continuation
record ArePlain (ms : List Met) : Type 0 where
  some : 0 < length ms
  whole : AreWhole ms
  none : flat_map continued ms ≡ []

new_header : (b : Array) (at n : ℕ) (h : NewHeader) (ps : List NewMessage) → SpellsHeader h ps (bytes_of b at n)
    → ArePlain (mets_from (at + 16) ps) → IsNewHeader b at n ps
new_header b at n h ps spelled plain =
    let pre = bytes_of b at 16 in
    let rest = bytes_of b (at + 16) (n - 16) in
    let long = length-map-range_with_len b at n in
    let whole = spelled.prefix.prefix.whole in
    let room : 16 ≤ n = omega arith in
    let split : bytes_of b at n ≡ pre ++ rest = split_bytes b at n 16 room in
    let prefix : SpellsPrefix (new_prefix n ps) (pre ++ rest) =
    subst (λ (x : List ℕ). SpellsPrefix (new_prefix n ps) x) split
    (subst (λ (k : ℕ). SpellsPrefix (new_prefix k ps) (bytes_of b at n)) long spelled.prefix) in
    let stand : written.StandToEnd (pre ++ rest) 16 ps =
    subst (λ (x : List ℕ). written.StandToEnd x 16 ps) split spelled.messages in
    let pre_long : length pre ≡ 16 = length-map-range_with_len b at 16 in
    let from : 16 ≡ length pre + 0 = omega arith in
    let here : at + 16 + 0 ≡ at + 16 = omega arith in
    let ms = mets_from (at + 16) ps in
    let part : Part = record { block = record { start = at + 16; len = n - 16 }; messages = ms } in
    let stand' : Stand (at + 16) rest 0 ms =
    subst (λ (k : ℕ). Stand (at + 16) rest 0 (mets_from k ps)) here
    (stand_behind (at + 16) pre rest 0 ps (subst (λ (k : ℕ). written.StandToEnd (pre ++ rest) k ps) from stand)) in
    let all : 16 + (n - 16) ≡ n = omega arith in
    record {
      header = record {
        spelled = prefix_front pre rest (new_prefix n ps) pre_long prefix;
        unread = flat_map continued ms;
        met = met_more b part.block [] part [] (met_none b part.block) (record { stand = stand'; whole = plain.whole });
        counted = counted_of b (length ps) (part ∷ []) plain.some
            (ap length (append-nil ms) ∙ length_mets (at + 16) ps);
      };
      messages = append-nil ms;
      blocks = (λ j. record { start = at; len = all j } ∷ flat_map continued (append-nil ms j))
          ∙ ap (λ (bs : List Block). record { start = at; len = n } ∷ bs) plain.none;
    }

-- a kind that is neither a symbol table nor a continuation
plain_kind : (m : Met) (n : ℕ) → m.kind ≡ n → n < 0x10 → IsWhole m
plain_kind m n is lt (inl k) = absurd (omega arith)
plain_kind m n is lt (inr k) = absurd (omega arith)

-- ---- a group

table_told : (at tree heap : ℕ) (ps : List NewMessage) → Tell (new.Group tree heap) ps
    → ArePlain (mets_from at ps) × IsGroupHeader (mets_from at ps) tree heap
table_told at tree heap [] h = absurd h
table_told at tree heap (t ∷ []) h = (
  record { some = omega arith; whole = (λ k. h.1.whole, tt); none = rw h.0 refl },
  record { table = met_at at t; first = rw h.0 refl; tree_at = h.1.tree_at; heap_at = h.1.heap_at },
)
table_told at tree heap (t ∷ u ∷ ps) h = absurd h

pub new_group : NewGroup
new_group b at n tree heap ps h =
    let told = table_told (at + 16) tree heap ps h.told in
    (new_header b at n (new.Group tree heap) ps h told.0, told.1)

-- ---- a dataset

-- messages of four kinds, each at some address
abbrev four : (i j k l : ℕ) → (s e f y : NewMessage) → List Met
four i j k l s e f y = met_at i s ∷ met_at j e ∷ met_at k f ∷ met_at l y ∷ []

four_plain : (i j k l : ℕ) (s e f y : NewMessage) → s.kind ≡ 1 → e.kind ≡ 3 → f.kind ≡ 5 → y.kind ≡ 8
    → ArePlain (four i j k l s e f y)
four_plain i j k l s e f y a b c d = record {
  some = omega arith;
  whole = (
    plain_kind (met_at i s) 1 a (omega arith),
    (
      plain_kind (met_at j e) 3 b (omega arith),
      (plain_kind (met_at k f) 5 c (omega arith), (plain_kind (met_at l y) 8 d (omega arith), tt)),
    ),
  );
  none = rw (a, b, c, d) refl;
}

four_told : (i j k l : ℕ) (space : Shape) (elem : ElemType) (fill : Fill) (layout : Layout) (s e f y : NewMessage)
    → Tell (new.Dataset space elem fill layout) (s ∷ e ∷ f ∷ y ∷ []) → FitsFile space.dims (size_of elem)
    → IsOfShape (length space.dims) (size_of elem) layout → IsOfSize (size_of elem) fill
    → IsDataHeader (four i j k l s e f y) (new_info space elem fill layout)
four_told i j k l space elem fill layout s e f y (a, shape, b, type, c, value, d, stored) fits shaped sized =
    let ms = four i j k l s e f y in
    let fill_first : first_of 5 ms ≡ Some (met_at k f) = rw (a, b, c) refl in
    record {
      no_table = rw (a, b, c, d) refl;
      no_files = rw (a, b, c, d) refl;
      space = (met_at i s, record { first = rw a refl; here = refl }, shape);
      type = (met_at j e, record { first = rw (a, b) refl; here = refl }, type);
      layout = (met_at l y, record { first = rw (a, b, c, d) refl; here = refl }, stored);
      fill = rw fill_first (refl, (fill, value, sized, refl));
      fits = fits;
      stored = shaped;
      filtered = sym (rw (a, b, c, d) refl);
    }

data_told : (at : ℕ) (space : Shape) (elem : ElemType) (fill : Fill) (layout : Layout) (ps : List NewMessage)
    → Tell (new.Dataset space elem fill layout) ps → FitsFile space.dims (size_of elem)
    → IsOfShape (length space.dims) (size_of elem) layout → IsOfSize (size_of elem) fill
    → ArePlain (mets_from at ps) × IsDataHeader (mets_from at ps) (new_info space elem fill layout)
data_told at space elem fill layout [] h fits shaped sized = absurd h
data_told at space elem fill layout (s ∷ []) h fits shaped sized = absurd h
data_told at space elem fill layout (s ∷ e ∷ []) h fits shaped sized = absurd h
data_told at space elem fill layout (s ∷ e ∷ f ∷ []) h fits shaped sized = absurd h
data_told at space elem fill layout (s ∷ e ∷ f ∷ l ∷ p ∷ ps) h fits shaped sized = absurd h
data_told at space elem fill layout (s ∷ e ∷ f ∷ l ∷ []) h fits shaped sized =
    let second = at + 8 + length s.body in
    let third = second + 8 + length e.body in
    let fourth = third + 8 + length f.body in (
      four_plain at second third fourth s e f l h.0 h.2 h.4 h.6,
      four_told at second third fourth space elem fill layout s e f l h fits shaped sized,
    )

pub new_data : NewData
new_data b at n space elem fill layout ps h fits shaped sized =
    let told = data_told (at + 16) space elem fill layout ps h.told fits shaped sized in
    (new_header b at n (new.Dataset space elem fill layout) ps h told.0, told.1)

-- ---- held

pub new_group_held : NewGroupHeld
new_group_held b ks at n tree heap ps fs index h links =
    let new = new_group b at n tree heap ps h in
    record {
      prefix = new_prefix n ps;
      parts = new_parts at n ps;
      header = new.0.header;
      table = subst (λ (ms : List Met). IsGroupHeader ms tree heap) (sym new.0.messages) new.1;
      index = index;
      links = links;
      blocks = ap (λ (bs : List Block). bs ++ index) (sym new.0.blocks);
    }

pub new_data_held : NewDataHeld
new_data_held b ks at n i fill ps cs storage h is fits shaped sized stored =
    let new = new_data b at n i.shape i.elem fill i.layout ps h fits shaped sized in
    record {
      prefix = new_prefix n ps;
      parts = new_parts at n ps;
      header = new.0.header;
      told = subst (λ (ms : List Met). IsDataHeader ms i) (sym new.0.messages) (subst (IsDataHeader (mets_from (at + 16) ps)) (sym is) new.1);
      storage = storage;
      stored = stored;
      elements = refl;
      blocks = ap (λ (bs : List Block). bs ++ storage) (sym new.0.blocks);
    }
