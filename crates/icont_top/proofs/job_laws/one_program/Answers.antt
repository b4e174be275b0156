use Rattle.icont_units.proofs.Verdicts.{one_program}
use Rattle.icont_top.proofs.job_laws.one_program.Goals as goal

pub returns : goal.returns
returns c = one_program
