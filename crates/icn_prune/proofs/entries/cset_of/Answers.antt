use Rattle.icn_prune.proofs.KeptEntries.{no_cset}
use Rattle.icn_prune.proofs.entries.cset_of.Goals as goal

pub returns-in_default : goal.returns-in_default
returns-in_default c = no_cset c.args.instr c.in_default.not-Cset
