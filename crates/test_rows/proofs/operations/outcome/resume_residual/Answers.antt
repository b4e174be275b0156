use Rattle.icn_vars.specs.Worlds.{reach_of}
use Rattle.test_rows.proofs.operations.outcome.resume_residual.Goals as goal

pub lines-requires-clause-live : goal.lines-requires-clause-live
lines-requires-clause-live c = let rest = rw c.in-FileLines.is at c.requires.rest in rest.live

pub returns-in-FileLines-clause-live : goal.returns-in-FileLines-clause-live
returns-in-FileLines-clause-live c = c.lines.ensures.row.live

pub returns-in-FileLines-clause-locals : goal.returns-in-FileLines-clause-locals
returns-in-FileLines-clause-locals c = c.lines.ensures.row.locals

pub returns-in-Counting-clause-live : goal.returns-in-Counting-clause-live
returns-in-Counting-clause-live c = c.counting_again.ensures.live (reach_of c.args.w.now c.args.l.now.vals.items)
