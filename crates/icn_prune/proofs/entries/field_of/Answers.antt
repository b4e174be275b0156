use Rattle.icn_prune.proofs.KeptEntries.{no_field}
use Rattle.icn_prune.proofs.entries.field_of.Goals as goal

pub returns-in_default : goal.returns-in_default
returns-in_default c = no_field c.args.instr c.in_default.not-Field
