use Rattle.std.proofs.Common.{◌≡◌, true, refl}
use Rattle.std.specs.declared.option.Option.TheVariants.{None}
use Rattle.super_codec.specs.Super.{is_signed, unsupported_of}
use Rattle.super_codec.proofs.Judged.{judged, spelled_fits}
use Rattle.super_codec.proofs.reading.read_super.Goals as goal

pub read_fields-requires : goal.read_fields-requires
read_fields-requires c =
    let signed : is_signed c.args.bytes.now ≡ true = cc in
    let none : unsupported_of c.args.bytes.now ≡ None = cc in
    judged _ signed none (c.if-has_rest.ensures.0 refl)

pub returns-in-None-clause-fits : goal.returns-in-None-clause-fits
returns-in-None-clause-fits c = spelled_fits _ _ c.read_fields.ensures.spelled
