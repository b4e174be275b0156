use Rattle.icn_streams.proofs.SettledRows.{first_stops, second_settles}
use Rattle.icn_streams.proofs.settling.settle.Goals as goal

pub returns-in_err-settle_one-clause-settles : goal.returns-in_err-settle_one-clause-settles
returns-in_err-settle_one-clause-settles g c = λ files left counts.
    first_stops files left counts _ _ _ c.in_err-settle_one.field-0.0 c.from_residual.result c.from_residual.ensures.1 c.in_err-settle_one.ensures.settles

pub returns-clause-settles : goal.returns-clause-settles
returns-clause-settles g c = λ files left counts.
    second_settles files left counts _ _ _ _ c.settle_one-2.result c.in_ok-settle_one.ensures.settles c.settle_one-2.ensures.settles
