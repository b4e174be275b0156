use Rattle.std.proofs.Common.{sym, subst}
use Rattle.icn_convert.specs.ProgramNames.{AreRecordsNamed}
use Rattle.icn_running.proofs.shown.push_text.Goals as goal

pub image-requires-clause-records : goal.image-requires-clause-records
image-requires-clause-records c = subst (AreRecordsNamed _) (sym c.hold.ensures.unchanged) (c.in_ok-other.ensures _)
