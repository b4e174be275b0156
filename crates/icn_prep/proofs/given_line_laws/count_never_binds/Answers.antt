use Rattle.icn_prep.proofs.CountDown.{never_binds}
use Rattle.icn_prep.proofs.given_line_laws.count_never_binds.Goals as goal

pub returns : goal.returns
returns c = never_binds
