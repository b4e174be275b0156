use Rattle.icn_ucode.proofs.SpelledUnits.{unit_again, unit_kept, unit_once, unit_spelled}
use Rattle.icn_ucode.proofs.unit_laws.one_spelling.Goals as goal

pub returns-clause-rules : goal.returns-clause-rules
returns-clause-rules c = unit_kept

pub returns-clause-spelled : goal.returns-clause-spelled
returns-clause-spelled c = unit_spelled

pub returns-clause-read_back : goal.returns-clause-read_back
returns-clause-read_back c = unit_again

pub returns-clause-once : goal.returns-clause-once
returns-clause-once c = unit_once
