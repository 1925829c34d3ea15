-- Each stop of the header's own block or of its messages refuses the header.
use Rattle.std.proofs.Common.{◌≡◌, ◌++◌, ap, sym, subst, arith}
use Rattle.std.proofs.lemmas.Result.{IfOk-weaker}
use Rattle.block_space.specs.Blocks.{space_of}
use Rattle.block_space.proofs.Stopped.{if_err, if_some, on_ok}
use Rattle.file_model.specs.Headers.{header_blocks}
use Rattle.header_reader.proofs.Stops.{handed}
use Rattle.header_reader.proofs.Answered.{large_first, header_block, in_messages, known_found, memory_only}
use Rattle.header_reader.proofs.reading.read_known.Goals as goal

pub returns-then-len-gt-MOST_BYTES-clause-refused : goal.returns-then-len-gt-MOST_BYTES-clause-refused
returns-then-len-gt-MOST_BYTES-clause-refused g c =
    λ told prefix met own keeps. rw c.unsupported.ensures (large_first (g.V.Space.view c.args.blocks.now.space) own met c.args.at c.args.prefix prefix (omega (arith, c.from-len.ensures, c.if-len-gt-MOST_BYTES.true)))

pub returns-in_err-adopt-clause-refused : goal.returns-in_err-adopt-clause-refused
returns-in_err-adopt-clause-refused g c = λ told prefix.
    handed c.from_residual.result c.in_err-adopt.field-0.0 _ c.from_residual.ensures.1
    (λ met own keeps. if_some _ _ _
    (λ r h. header_block (g.V.Space.view c.args.blocks.now.space) own met c.args.at c.args.prefix r prefix (omega (arith, c.from-len.ensures, c.if-len-gt-MOST_BYTES.false)) h)
    (rw c.from-len.ensures at (c.in_err-adopt.ensures.refused met own keeps)))

pub returns-in_err-messages-clause-refused : goal.returns-in_err-messages-clause-refused
returns-in_err-messages-clause-refused g c = λ told prefix.
    let same : g.V.Space.view c.args.blocks.now.space ≡ g.V.Space.view c.adopt.new.self.space = ap g.V.Space.view (sym c.adopt.ensures.space) in
    handed c.from_residual-in_err-messages.result c.in_err-messages.field-0.0 _ c.from_residual-in_err-messages.ensures.1
    (λ met own keeps. if_some _ _ _
    (λ r h. in_messages (g.V.Space.view c.args.blocks.now.space) (g.V.Space.view c.adopt.new.self.space) own met c.args.at c.args.prefix r same prefix
    (omega (arith, c.from-len.ensures, c.if-len-gt-MOST_BYTES.false)) h)
    (c.in_err-messages.ensures.refused told met own (rw c.from-len.ensures at (c.in_ok-adopt.ensures.found met keeps))))

pub gather-requires-clause-stands : goal.gather-requires-clause-stands
gather-requires-clause-stands g c = subst g.V.Space.Stands (sym c.adopt.ensures.space) c.requires.stands

pub returns-clause-found : goal.returns-clause-found
returns-clause-found g c = λ told prefix.
    let same : g.V.Space.view c.args.blocks.now.space ≡ g.V.Space.view c.adopt.new.self.space = ap g.V.Space.view (sym c.adopt.ensures.space) in
    let f = c.in_ok-messages.ensures.found in
    IfOk-weaker c.known.result _ _
    (λ x made. known_found g.V.Space.view c.args.blocks.now c.adopt.new.self c.gather.new.blocks c.args.at c.args.prefix _ x f.0 same prefix (f.1 told)
    (λ met keeps. f.2 met (rw c.from-len.ensures at (c.in_ok-adopt.ensures.found met keeps))) made)
    c.known.ensures.made

pub returns-clause-refused : goal.returns-clause-refused
returns-clause-refused g c = λ told prefix. if_err c.known.result _ _ (λ stop is met own keeps. memory_only stop _ is) c.known.ensures.memory

pub returns-clause-listed : goal.returns-clause-listed
returns-clause-listed g c =
    let f = c.in_ok-messages.ensures.found in
    let met = c.requires.listed.0 in
    on_ok c.known.result _
    (met ++ header_blocks c.args.at c.args.prefix f.0, f.2 met (rw c.from-len.ensures at (c.in_ok-adopt.ensures.found met c.requires.listed.1)))

pub returns-clause-alike : goal.returns-clause-alike
returns-clause-alike g c = subst (λ s. g.V.Kept.Alike s (space_of c.gather.new.blocks)) c.adopt.ensures.space c.gather.ensures.alike

pub returns-in_err-messages-clause-alike : goal.returns-in_err-messages-clause-alike
returns-in_err-messages-clause-alike g c = subst (λ s. g.V.Kept.Alike s (space_of c.gather.new.blocks)) c.adopt.ensures.space c.gather.ensures.alike
