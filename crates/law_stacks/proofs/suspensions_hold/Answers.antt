use Rattle.law_stacks.proofs.StackLaws.{suspends, resumes, unmarks}
use Rattle.law_stacks.proofs.suspensions_hold.Goals as goal

pub returns : goal.returns
returns c = record { suspends = suspends; resumes = resumes; unmarks = unmarks }
