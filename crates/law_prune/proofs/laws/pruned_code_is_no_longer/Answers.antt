use Rattle.law_prune.proofs.PrunedImages.{no_longer}
use Rattle.law_prune.proofs.laws.pruned_code_is_no_longer.Goals as goal

pub returns : goal.returns
returns c tables keep h k = no_longer tables keep h k (c.pruned_code_fits.ensures tables keep h k)
