use Rattle.icn_link.proofs.KeptUnits.{unit_joinable}
use Rattle.icn_link.proofs.joining_laws.units_are_joinable.Goals as goal

pub returns : goal.returns
returns c unit kept = unit_joinable unit kept
