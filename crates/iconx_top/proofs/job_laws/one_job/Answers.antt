use Rattle.iconx_top.proofs.OneJob.{one_job, no_fault_asked}
use Rattle.iconx_top.proofs.SomeJob.{a_job}
use Rattle.iconx_top.proofs.job_laws.one_job.Goals as goal

pub returns-clause-one : goal.returns-clause-one
returns-clause-one c = one_job c.one_fault.ensures.one_fault c.one_fault.ensures.no_fault

pub returns-clause-faultless : goal.returns-clause-faultless
returns-clause-faultless c = no_fault_asked

pub returns-clause-some : goal.returns-clause-some
returns-clause-some c = a_job c.one_spelling.ensures.kept c.one_fault.ensures.judged c.runs_end.ensures.verified
