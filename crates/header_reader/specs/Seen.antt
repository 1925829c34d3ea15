-- How what is kept is seen: each first message with the type of its place.
-- Cited by the model of `Messages`, and by what keeps or reads one message.
use Rattle.std.specs.Prelude.{ℕ, Option, Some, None}
use Rattle.file_model.specs.Headers.{Met}
use Rattle.header_reader.specs.Firsts.{Firsts}
use Rattle.header_reader.specs.declared.kept.Kept.{Kept}
use Rattle.header_reader.specs.declared.messages.Messages.TheInside.{Inside}

-- the message of this type that is kept
abbrev pub met_of : ℕ → Option Kept → Option Met
met_of kind None = None
met_of kind (Some k) = Some (record { kind = kind; flags = k.flags; at = k.at; body = k.body })

abbrev pub firsts_of : Inside → Firsts
firsts_of a = record {
  space = met_of 0x1 a.space;
  elem = met_of 0x3 a.elem;
  fill = met_of 0x5 a.fill;
  layout = met_of 0x8 a.layout;
  table = met_of 0x11 a.table;
  old_fill = a.old_fill;
  files = a.files;
  filters = a.filters;
}

-- the first of what was met before and this one
abbrev pub or_first : Option Met → Met → Option Met
or_first None m = Some m
or_first (Some f) m = Some f
