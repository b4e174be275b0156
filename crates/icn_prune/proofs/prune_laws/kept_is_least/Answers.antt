use Rattle.std.proofs.Common.{◌<◌, length}
use Rattle.std.specs.List.{All}
use Rattle.icn_prune.proofs.KeptOfCode.{code_may_be}
use Rattle.icn_prune.proofs.LeastSets.{all_at, least_set}
use Rattle.icn_prune.proofs.prune_laws.kept_is_least.Goals as goal

pub returns-clause-least : goal.returns-clause-least
returns-clause-least c mentioned own o w =
    least_set mentioned own o (λ number numbers g. all_at (λ ns. All (λ n. n < length mentioned) ns) mentioned number numbers w g)

pub returns-clause-of_code : goal.returns-clause-of_code
returns-clause-of_code c tables named all h n = code_may_be tables named all h n
