use Rattle.h5_session.proofs.session.Session.mkgroup.Goals as goal

pub make_group-requires-clause-held : goal.make_group-requires-clause-held
make_group-requires-clause-held g c = λ told.
    let (s, i) = c.requires.held told in
    (s, i, c.in-Ok.ensures.can s i)

pub returns-in-Ok-clause-steps : goal.returns-in-Ok-clause-steps
returns-in-Ok-clause-steps g c = λ told s secs i. c.make_group.ensures.steps told s secs i (c.in-Ok.ensures.can s i)

pub returns-in-Err-clause-steps : goal.returns-in-Err-clause-steps
returns-in-Err-clause-steps g c = λ told s secs i. record {
  answered = (s, c.in-Err.ensures.refused s i secs, i);
  stays = tt;
  well = tt;
  cut_off = tt;
}
