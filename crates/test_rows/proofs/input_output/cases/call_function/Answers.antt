use Rattle.std.proofs.Common.{refl}
use Rattle.icn_vars.specs.Worlds.{reach_of}
use Rattle.test_rows.proofs.input_output.cases.call_function.Goals as goal

pub returns-in-Exit : goal.returns-in-Exit
returns-in-Exit c = c.exit.ensures.live (reach_of c.args.w.now c.args.l.now.vals.items) refl

pub returns-in-Read : goal.returns-in-Read
returns-in-Read c = c.read.ensures.row.live

pub returns-in-Reads : goal.returns-in-Reads
returns-in-Reads c = c.reads.ensures.row.live

pub returns-in-Stop : goal.returns-in-Stop
returns-in-Stop c = c.stop.ensures.row.live

pub returns-in-Write : goal.returns-in-Write
returns-in-Write c = c.write.ensures.row.live

pub returns-in-Writes : goal.returns-in-Writes
returns-in-Writes c = c.writes.ensures.row.live
