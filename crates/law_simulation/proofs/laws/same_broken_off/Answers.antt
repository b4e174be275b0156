use Rattle.law_simulation.proofs.FirstLawForFiles.{same_broken}
use Rattle.law_simulation.proofs.laws.same_broken_off.Goals as goal

pub returns : goal.returns
returns c = same_broken
