use Rattle.icn_verify.proofs.EntryTests.{entered_by}
use Rattle.icn_verify.proofs.arena.enter_level.Goals as goal

pub returns-clause-entered : goal.returns-clause-entered
returns-clause-entered c = entered_by c.args.entries.now.keys c.args.entry _ c.in_ok-index.ensures.keys
