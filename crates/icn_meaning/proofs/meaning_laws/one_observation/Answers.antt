use Rattle.icn_meaning.proofs.OneObservation.{means_once}
use Rattle.icn_meaning.proofs.meaning_laws.one_observation.Goals as goal

pub returns : goal.returns
returns c = means_once
