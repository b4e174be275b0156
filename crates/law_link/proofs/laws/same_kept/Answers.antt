use Rattle.law_link.proofs.KeptFiles.{files_keep}
use Rattle.law_link.proofs.laws.same_kept.Goals as goal

pub returns : goal.returns
returns c files tables linked = files_keep files tables linked
