use Rattle.icn_run_answer.proofs.CountsRise.{none_falls}
use Rattle.icn_run_answer.proofs.count_laws.counts_stay.Goals as goal

pub returns : goal.returns
returns c = none_falls
