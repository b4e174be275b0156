use Rattle.icn_host.proofs.SinkSteps.{on_err_always}
use Rattle.icn_host.proofs.FileSteps.{keeps_from, keeps_part, keeps_same}
use Rattle.icn_host.proofs.whole.write_file.Goals as goal

pub returns-in_err-look-clause-err : goal.returns-in_err-look-clause-err
returns-in_err-look-clause-err g c = on_err_always c.from_residual.result (keeps_part (keeps_same c.look.ensures))

pub returns-in_err-written-in-Nothing-clause-err : goal.returns-in_err-written-in-Nothing-clause-err
returns-in_err-written-in-Nothing-clause-err g c =
    on_err_always c.from_residual-in_err-written-in-Nothing.result (keeps_part (keeps_from c.look.ensures c.in_err-written-in-Nothing.ensures))

pub returns-in_err-written-in-Plain-clause-err : goal.returns-in_err-written-in-Plain-clause-err
returns-in_err-written-in-Plain-clause-err g c =
    on_err_always c.from_residual-in_err-written-in-Plain.result (keeps_part (keeps_from c.look.ensures c.in_err-written-in-Plain.ensures))
