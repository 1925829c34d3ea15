-- The first bytes say which version a header has, and whether it has a prefix.
use Rattle.std.proofs.Common.{◌≡◌, ◌∷◌, [], sym, subst}
use Rattle.block_space.specs.Blocks.{space_of}
use Rattle.block_space.proofs.Stopped.{if_some}
use Rattle.outside.proofs.Causes.{one_later}
use Rattle.header_reader.proofs.Stops.{handed}
use Rattle.header_reader.proofs.Answered.{AreFirst, first_seen, later_read, later_found, later_refused, prefix_read, prefix_refused, refused_back, first_on, found_same, refused_same, none_later, none_spelled}
use Rattle.header_reader.proofs.reading.read_header.Goals as goal

pub returns-then-is_later-clause-found : goal.returns-then-is_later-clause-found
returns-then-is_later-clause-found g c =
    λ told met keeps. let v = g.V.Space.view c.args.blocks.now.space in
    let first = first_seen v.array c.args.at c.first_len.result c.in_ok-first.first.items c.as_slice.result.now c.as_slice.ensures.value (c.in_ok-first.ensures.bytes told) c.first_len.ensures.whole c.first_len.ensures.most c.first_len.ensures.four c.first_len.ensures.fits in
    let is = later_read v.array c.args.at c.first_len.result c.as_slice.result.now first (c.is_later.ensures.0 c.if-is_later.true) in
    (record { start = c.args.at; len = 4 } ∷ [], later_found v c.args.at is, c.in_ok-adopt.ensures.found met (c.read_bytes.ensures.kept met keeps))

pub returns-in_err-adopt-clause-refused : goal.returns-in_err-adopt-clause-refused
returns-in_err-adopt-clause-refused g c =
    λ told. let v = g.V.Space.view c.args.blocks.now.space in
    let w = g.V.Space.view c.read_bytes.new.self.space in
    let same : v ≡ w = g.met.V.Space.alike _ _ c.read_bytes.ensures.alike in
    let first = first_seen v.array c.args.at c.first_len.result c.in_ok-first.first.items c.as_slice.result.now c.as_slice.ensures.value (c.in_ok-first.ensures.bytes told) c.first_len.ensures.whole c.first_len.ensures.most c.first_len.ensures.four c.first_len.ensures.fits in
    let is = later_read v.array c.args.at c.first_len.result c.as_slice.result.now first (c.is_later.ensures.0 c.if-is_later.true) in
    handed c.from_residual-in_err-adopt.result c.in_err-adopt.field-0.0 _ c.from_residual-in_err-adopt.ensures.1
    (λ met own keeps. if_some _ _ _ (λ r refused. later_refused v w own met c.args.at r same is refused) (c.in_err-adopt.ensures.refused met own (c.read_bytes.ensures.kept met keeps)))

pub returns-in-Some-clause-found : goal.returns-in-Some-clause-found
returns-in-Some-clause-found g c =
    λ told. let v = g.V.Space.view c.args.blocks.now.space in
    let w = g.V.Space.view c.read_bytes.new.self.space in
    let same : v ≡ w = g.met.V.Space.alike _ _ c.read_bytes.ensures.alike in
    let first = first_seen v.array c.args.at c.first_len.result c.in_ok-first.first.items c.as_slice-2.result.now c.as_slice-2.ensures.value (c.in_ok-first.ensures.bytes told) c.first_len.ensures.whole c.first_len.ensures.most c.first_len.ensures.four c.first_len.ensures.fits in
    let prefix = prefix_read w.array c.args.at c.first_len.result c.as_slice-2.result.now c.in-Some.prefix (first_on v w c.args.at c.first_len.result c.as_slice-2.result.now same first) c.in-Some.ensures.found in
    found_same g.V.Space.view c.args.blocks.now c.read_bytes.new.self c.read_known.new.blocks c.args.at c.read_known.result same c.read_bytes.ensures.kept (c.read_known.ensures.found told prefix)

pub returns-in-Some-clause-refused : goal.returns-in-Some-clause-refused
returns-in-Some-clause-refused g c =
    λ told. let v = g.V.Space.view c.args.blocks.now.space in
    let w = g.V.Space.view c.read_bytes.new.self.space in
    let same : v ≡ w = g.met.V.Space.alike _ _ c.read_bytes.ensures.alike in
    let first = first_seen v.array c.args.at c.first_len.result c.in_ok-first.first.items c.as_slice-2.result.now c.as_slice-2.ensures.value (c.in_ok-first.ensures.bytes told) c.first_len.ensures.whole c.first_len.ensures.most c.first_len.ensures.four c.first_len.ensures.fits in
    let prefix = prefix_read w.array c.args.at c.first_len.result c.as_slice-2.result.now c.in-Some.prefix (first_on v w c.args.at c.first_len.result c.as_slice-2.result.now same first) c.in-Some.ensures.found in
    refused_same g.V.Space.view c.args.blocks.now c.read_bytes.new.self c.args.at c.read_known.result same c.read_bytes.ensures.kept (c.read_known.ensures.refused told prefix)

pub returns-clause-refused : goal.returns-clause-refused
returns-clause-refused g c =
    λ told met own keeps. let v = g.V.Space.view c.args.blocks.now.space in
    let w = g.V.Space.view c.read_bytes.new.self.space in
    let same : v ≡ w = g.met.V.Space.alike _ _ c.read_bytes.ensures.alike in
    let keeps' = c.read_bytes.ensures.kept met keeps in
    let first : AreFirst v.array c.args.at c.first_len.result c.in_ok-first.first.items =
    record { bytes = c.in_ok-first.ensures.bytes told; whole = c.first_len.ensures.whole; most = c.first_len.ensures.most; four = c.first_len.ensures.four; fits = c.first_len.ensures.fits } in
    let first' = first_on v w c.args.at c.first_len.result c.in_ok-first.first.items same first in
    if_some _ _ _
    (λ r why. refused_back v w own met c.args.at r same
    (prefix_refused w own met c.args.at c.first_len.result c.in_ok-first.first.items r (g.met.V.Space.sound _ (g.met.V.Space.alike_stands _ _ c.read_bytes.ensures.alike c.requires.stands)).regions (keeps'.inside own) first'
    (none_later c.in_ok-first.first.items c.as_slice.result.now c.is_later.result c.as_slice.ensures.value c.if-is_later.false c.is_later.ensures.1)
    (none_spelled c.in_ok-first.first.items c.as_slice-2.result.now c.as_slice-2.ensures.value c.in-None.ensures.only) why))
    (c.no_prefix.ensures.refused met own keeps')

pub read_known-requires-clause-listed : goal.read_known-requires-clause-listed
read_known-requires-clause-listed g c = (c.requires.listed.0, c.read_bytes.ensures.kept c.requires.listed.0 c.requires.listed.1)

pub read_known-requires-clause-stands : goal.read_known-requires-clause-stands
read_known-requires-clause-stands g c = g.met.V.Space.alike_stands _ _ c.read_bytes.ensures.alike c.requires.stands

pub adopt-requires-clause-stands : goal.adopt-requires-clause-stands
adopt-requires-clause-stands g c = g.met.V.Space.alike_stands _ _ c.read_bytes.ensures.alike c.requires.stands

pub no_prefix-requires : goal.no_prefix-requires
no_prefix-requires g c = record { stands = g.met.V.Space.alike_stands _ _ c.read_bytes.ensures.alike c.requires.stands }

pub returns-in-Some-clause-failed : goal.returns-in-Some-clause-failed
returns-in-Some-clause-failed g c =
    λ failed. one_later _ _ _ (g.met.V.Space.goes_counts _ _ (g.met.V.Space.goes_alike _ _ c.read_bytes.ensures.alike)) (c.read_known.ensures.failed failed)

pub returns-then-is_later-clause-alike : goal.returns-then-is_later-clause-alike
returns-then-is_later-clause-alike g c = subst (λ s. g.V.Kept.Alike (space_of c.args.blocks.now) s) (sym c.adopt.ensures.space) c.read_bytes.ensures.alike

pub returns-then-is_later-clause-listed : goal.returns-then-is_later-clause-listed
returns-then-is_later-clause-listed g c = (_, c.in_ok-adopt.ensures.found _ (c.read_bytes.ensures.kept c.requires.listed.0 c.requires.listed.1))

pub returns-in_err-adopt-clause-alike : goal.returns-in_err-adopt-clause-alike
returns-in_err-adopt-clause-alike g c = subst (λ s. g.V.Kept.Alike (space_of c.args.blocks.now) s) (sym c.adopt.ensures.space) c.read_bytes.ensures.alike

pub returns-in-Some-clause-alike : goal.returns-in-Some-clause-alike
returns-in-Some-clause-alike g c = g.V.Kept.transitive _ _ _ c.read_bytes.ensures.alike c.read_known.ensures.alike

pub returns-clause-alike : goal.returns-clause-alike
returns-clause-alike g c = subst (λ s. g.V.Kept.Alike (space_of c.args.blocks.now) s) (sym c.no_prefix.ensures.space) c.read_bytes.ensures.alike
