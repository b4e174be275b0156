use Rattle.icn_prune.proofs.KeptEntries.{no_global}
use Rattle.icn_prune.proofs.entries.global_of.Goals as goal

pub returns-in_default : goal.returns-in_default
returns-in_default c = no_global c.args.instr c.in_default.not-Global
