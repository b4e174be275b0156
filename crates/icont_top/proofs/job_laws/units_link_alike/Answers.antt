use Rattle.icont_top.proofs.UnitsAgain.{come_again, gather_again, program_alike, same_linked}
use Rattle.icont_top.proofs.WrittenUnits.{stand_again}
use Rattle.icont_top.proofs.job_laws.units_link_alike.Goals as goal

pub returns-clause-written : goal.returns-clause-written
returns-clause-written c = stand_again c.one_spelling.ensures.spelled

pub returns-clause-come : goal.returns-clause-come
returns-clause-come c = come_again

pub returns-clause-gather : goal.returns-clause-gather
returns-clause-gather c = gather_again

pub returns-clause-linked : goal.returns-clause-linked
returns-clause-linked c = same_linked

pub returns-clause-program : goal.returns-clause-program
returns-clause-program c = program_alike
