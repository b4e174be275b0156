-- A program has at most one observation.
use Rattle.std.proofs.Common.{◌≡◌}
use Rattle.icn_defs.specs.Running.{Launch}
use Rattle.icn_defs.proofs.OneObservation.{Lasts, observed_once}
use Rattle.icn_meaning.specs.Program.{Program}
use Rattle.icn_meaning.specs.Contexts.{eval, succeed, fail, hop, over, lost}
use Rattle.icn_meaning.specs.Meaning.{step, start, Observation, observation, Means}

kept : (program : Program) → Lasts (step program) observation
kept program (over ending st) seen e = e
kept program (eval t s k r st) seen e = absurd (cc e)
kept program (succeed x k r st) seen e = absurd (cc e)
kept program (fail r st) seen e = absurd (cc e)
kept program (hop c st) seen e = absurd (cc e)
kept program lost seen e = e

pub means_once : (program : Program) (launch : Launch) (a b : Observation) → Means program launch a → Means program launch b → a ≡ b
means_once program launch a b x y = observed_once (step program) observation (kept program) (start program launch) a b x y
