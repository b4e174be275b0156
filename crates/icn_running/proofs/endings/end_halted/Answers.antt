-- A run that ended itself puts no report.
use Rattle.std.proofs.Common.{◌≡◌, []}
use Rattle.icn_defs.specs.declared.ending.Ending.TheVariants.{Exit}
use Rattle.icn_heap.specs.Heaps.{heap_of}
use Rattle.icn_running.proofs.EndedRuns.{ended_so, none_put, settled_whole}
use Rattle.icn_running.proofs.endings.end_halted.Goals as goal

pub returns-in-Ends-clause-answers : goal.returns-in-Ends-clause-answers
returns-in-Ends-clause-answers g c =
    rw c.in-Ends.is
    (ended_so (Exit c.in-Ends.status) (heap_of c.args.heap.now) [] c.end_files.result (g.F.Files.state c.args.files.now)
    (g.F.Files.state c.end_files.new.files) (g.E.Sink.state c.args.err.now) (g.E.Sink.state c.args.err.now) (none_put (g.E.Sink.state c.args.err.now))
    c.end_files.ensures.ok c.end_files.ensures.err)

pub returns-in-Ends-clause-settled : goal.returns-in-Ends-clause-settled
returns-in-Ends-clause-settled g c = λ none. settled_whole (g.E.Sink.pending c.args.err.now ≡ 0) c.end_files.result none

pub returns-in-Error-clause-answers : goal.returns-in-Error-clause-answers
returns-in-Error-clause-answers g c = rw c.in-Error.is c.put_error.ensures.answers
