use Rattle.icn_structs.proofs.KeptValues.{value_of-stored, value_of-without}
use Rattle.icn_structs.proofs.structure_laws.values_stay.Goals as goal

pub returns-clause-stored : goal.returns-clause-stored
returns-clause-stored g c pairs key other value = value_of-stored g.K.PartialEq.eq g.met.K.Eq.laws key other pairs value

pub returns-clause-removed : goal.returns-clause-removed
returns-clause-removed g c pairs key other differ = value_of-without g.K.PartialEq.eq g.met.K.Eq.laws key other pairs differ
