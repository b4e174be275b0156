use Rattle.icn_frames.proofs.FrameBelow.{level_begins, level_enters, leave_enters}
use Rattle.icn_frames.proofs.level_laws.levels_count_calls.Goals as goal

pub returns-clause-begins : goal.returns-clause-begins
returns-clause-begins c = level_begins

pub returns-clause-enters : goal.returns-clause-enters
returns-clause-enters c = level_enters

pub returns-clause-leaves : goal.returns-clause-leaves
returns-clause-leaves c = leave_enters
