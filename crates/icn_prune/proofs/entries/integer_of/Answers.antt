use Rattle.icn_prune.proofs.KeptEntries.{no_integer}
use Rattle.icn_prune.proofs.entries.integer_of.Goals as goal

pub returns-in_default : goal.returns-in_default
returns-in_default c = no_integer c.args.instr c.in_default.not-Int
