use Rattle.icn_host.proofs.SinkSteps.{on_err_always}
use Rattle.icn_host.proofs.FileSteps.{err_filled, keeps_part, keeps_same}
use Rattle.icn_host.proofs.whole.write_in_place.Goals as goal

pub returns-in_err-file-clause-err : goal.returns-in_err-file-clause-err
returns-in_err-file-clause-err g c = on_err_always c.from_residual.result (keeps_part (keeps_same c.in_err-file.ensures.err))

pub returns-clause-err : goal.returns-clause-err
returns-clause-err g c = err_filled _ _ _ c.write_bytes.result c.in_ok-file.ensures.ok c.in_ok-file.ensures.opened c.write_bytes.ensures.err
