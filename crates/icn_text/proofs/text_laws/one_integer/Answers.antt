use Rattle.icn_text.proofs.DecidedIntegers.{one_integer}
use Rattle.icn_text.proofs.text_laws.one_integer.Goals as goal

pub returns : goal.returns
returns c = one_integer
