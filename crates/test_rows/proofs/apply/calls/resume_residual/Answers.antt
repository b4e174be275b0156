use Rattle.test_rows.proofs.apply.calls.resume_residual.Goals as goal

pub again-requires-clause-locals : goal.again-requires-clause-locals
again-requires-clause-locals g c = c.requires.ready.live

pub again-requires-clause-named : goal.again-requires-clause-named
again-requires-clause-named g c = c.requires.ready.named

pub returns : goal.returns
returns g c = record { named = c.again.ensures.named; live = c.again.ensures.applies.live; live_locals = c.again.ensures.applies.locals }
