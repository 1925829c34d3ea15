use Rattle.std.proofs.Common.{◌≡◌, ◌+◌, ◌-◌, refl, arith, slice_range}
use Rattle.file_model.specs.Headers.{Met}
use Rattle.header_reader.specs.declared.walk.Walk.{Walk}
use Rattle.block_space.proofs.Stopped.{if_some}
use Rattle.header_reader.proofs.Stops.{handed}
use Rattle.header_reader.proofs.Following.{message_met, message_end, step_refused, meets_one}
use Rattle.header_reader.proofs.walk.Walk.meet_at.Goals as goal

pub returns-in_err-follow-clause-refused : goal.returns-in_err-follow-clause-refused
returns-in_err-follow-clause-refused g c =
    let message = c.in-Some.message in
    let at = c.args.start + message.at in
    let body = slice_range c.args.bytes.now message.at (message.at + message.len) in
    let m : Met = record { kind = message.kind; flags = message.flags; at = at; body = body } in
    let here =
    message_met c.args.start c.args.bytes.now c.args.place message at body c.in-Some.ensures.found refl refl
    c.in-Some.ensures.whole in
    handed c.from_residual.result c.in_err-follow.field-0.0 _ c.from_residual.ensures.1
    (λ met own keeps. if_some _ _ _ (λ r h. step_refused _ met c.args.self.now.total c.args.start c.args.bytes.now c.args.place m r here h) (c.in_err-follow.ensures.refused met own keeps))

pub returns-clause-found : goal.returns-clause-found
returns-clause-found g c =
    let message = c.in-Some.message in
    let at = c.args.start + message.at in
    let body = slice_range c.args.bytes.now message.at (message.at + message.len) in
    let m : Met = record { kind = message.kind; flags = message.flags; at = at; body = body } in
    let here =
    message_met c.args.start c.args.bytes.now c.args.place message at body c.in-Some.ensures.found refl refl
    c.in-Some.ensures.whole in
    let ok = c.in_ok-follow.ensures in
    let one : c.follow.new.self.wanted - 1 + 1 ≡ c.args.self.now.wanted = omega (arith, c.follow.ensures.wanted, c.requires.wanted) in
    let new : Walk = record { messages = c.meet.new.self; waiting = c.follow.new.self.waiting; wanted = c.follow.new.self.wanted - 1; total = c.follow.new.self.total } in (
      m,
      here,
      message_end c.args.start c.args.bytes.now c.args.place message m c.in-Some.ensures.found here,
      meets_one c.args.self.now c.follow.new.self new m c.follow.ensures.messages c.in_ok-meet.ensures.ok ok.waiting one ok.total ok.short,
      ok.kept,
    )
