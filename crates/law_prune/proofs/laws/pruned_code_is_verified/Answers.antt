use Rattle.law_prune.proofs.PrunedVerified.{pruned_verified}
use Rattle.law_prune.proofs.laws.pruned_code_is_verified.Goals as goal

pub returns : goal.returns
returns c tables keep k sound = pruned_verified tables keep sound
