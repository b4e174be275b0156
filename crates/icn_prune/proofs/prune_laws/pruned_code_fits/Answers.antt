use Rattle.icn_prune.proofs.PrunedRules.{pruned_keeps_rules}
use Rattle.icn_prune.proofs.prune_laws.pruned_code_fits.Goals as goal

pub returns : goal.returns
returns c tables keep h k = pruned_keeps_rules tables keep h k
