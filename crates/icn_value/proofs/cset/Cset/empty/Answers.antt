use Rattle.icn_value.proofs.Bits.{no_members}
use Rattle.icn_value.proofs.cset.Cset.empty.Goals as goal

pub returns : goal.returns
returns c = no_members
