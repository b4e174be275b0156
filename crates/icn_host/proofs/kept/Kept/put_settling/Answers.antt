use Rattle.icn_host.proofs.SinkSteps.{on_err_always}
use Rattle.icn_host.proofs.KeptSteps.{part_pending}
use Rattle.icn_host.proofs.kept.Kept.put_settling.Goals as goal

pub returns-in_err-flush-clause-err : goal.returns-in_err-flush-clause-err
returns-in_err-flush-clause-err g c = on_err_always c.from_residual-in_err-flush.result (part_pending c.in_ok-put.ensures.ok c.flush.ensures.same)
