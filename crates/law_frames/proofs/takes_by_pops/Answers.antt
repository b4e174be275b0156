use Rattle.law_frames.proofs.CallsRead.{taken_pop}
use Rattle.law_frames.proofs.takes_by_pops.Goals as goal

pub returns : goal.returns
returns c = taken_pop
