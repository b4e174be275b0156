use Rattle.test_rows.proofs.apply.calls.first.Goals as goal

pub apply-requires-clause-locals : goal.apply-requires-clause-locals
apply-requires-clause-locals g c = c.requires.ready.live

pub apply-requires-clause-named : goal.apply-requires-clause-named
apply-requires-clause-named g c = c.requires.ready.named

pub returns : goal.returns
returns g c = record { named = c.apply.ensures.named; live = c.apply.ensures.applies.live; live_locals = c.apply.ensures.applies.locals }
