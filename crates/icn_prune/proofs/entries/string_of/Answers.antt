use Rattle.icn_prune.proofs.KeptEntries.{no_string}
use Rattle.icn_prune.proofs.entries.string_of.Goals as goal

pub returns-in_default : goal.returns-in_default
returns-in_default c = no_string c.args.instr c.in_default.not-Str
